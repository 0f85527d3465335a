use Rattle.std.proofs.Common.{refl, arith}
use Rattle.fr_core.specs.Shapes.{parts_of}
use Rattle.fr_core.specs.declared.core_form.Core.{out-Core}
use Rattle.fr_core.proofs.Folds.{part_nests_less}
use Rattle.fr_core.proofs.PartLists.{within_parts}
use Rattle.fr_meaning.specs.Dependence.{own_variable, variables, own_source, sources_of}
use Rattle.fr_meaning.proofs.Named.{variables-opens, sources-opens}
use Rattle.fr_kernel.specs.Slots.{all_below}
use Rattle.fr_kernel.proofs.Gathering.{all_below-append, named_first, named_next, named_last}
use Rattle.fr_kernel.proofs.naming.+names_into.Goals as goal

pub loop-part-init : goal.loop-part-init
loop-part-init t c =
    let e = c.args.e.now in
    record {
      variables = rw c.in_ok-own_name_into.ensures.variables (named_first variables (all_below c.args.first) refl (all_below-append c.args.first) e (own_variable (out-Core e)) c.args.outer.now.items (variables-opens e));
      sources = rw c.in_ok-own_name_into.ensures.sources (named_first sources_of (λ ns. ns) refl (λ ms ns. refl) e (own_source (out-Core e)) c.args.sources.now.items (sources-opens e));
    }

pub names_into-requires : goal.names_into-requires
names_into-requires t c = (omega (arith, part_nests_less c.args.e.now _ _ c.in-Some.ensures.value), tt)

pub loop-part-smaller : goal.loop-part-smaller
loop-part-smaller t c = omega (arith, within_parts (parts_of c.args.e.now) c.loop-part.number c.in-Some.part.now c.in-Some.ensures.value)

pub loop-part-preserved : goal.loop-part-preserved
loop-part-preserved t c =
    let es = parts_of c.args.e.now in
    record {
      variables = rw c.in_ok-names_into.ensures.variables (named_next variables (all_below c.args.first) refl (all_below-append c.args.first) es c.loop-part.number c.in-Some.part.now c.loop-part.outer.items _ c.in-Some.ensures.value c.loop-part.invariant.variables);
      sources = rw c.in_ok-names_into.ensures.sources (named_next sources_of (λ ns. ns) refl (λ ms ns. refl) es c.loop-part.number c.in-Some.part.now c.loop-part.sources.items _ c.in-Some.ensures.value c.loop-part.invariant.sources);
    }

pub returns : goal.returns
returns t c =
    let es = parts_of c.args.e.now in
    record {
      variables = named_last variables (all_below c.args.first) refl (all_below-append c.args.first) es c.loop-part.number c.loop-part.outer.items _ c.in_default.ensures.value c.loop-part.invariant.variables;
      sources = named_last sources_of (λ ns. ns) refl (λ ms ns. refl) es c.loop-part.number c.loop-part.sources.items _ c.in_default.ensures.value c.loop-part.invariant.sources;
    }
