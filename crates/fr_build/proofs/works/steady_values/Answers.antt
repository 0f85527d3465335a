use Rattle.std.proofs.Common.{◌≡◌, ◌++◌, true, List, [], ◌∷◌, take, sym, ap, subst, ◌∙◌}
use Rattle.std.proofs.lemmas.List.{take_more}
use Rattle.fr_value.specs.declared.now.Held.{Held}
use Rattle.fr_value.specs.declared.value.Value.{Value}
use Rattle.fr_meaning.specs.Words.{Seen, plain}
use Rattle.fr_graph.specs.Walk.{all_steady, steady_values}
use Rattle.fr_nodes.specs.Kinds.{parts_of}
use Rattle.fr_build.proofs.Varying.{steady_then, values_then, varies_at}
use Rattle.fr_build.proofs.works.steady_values.Goals as goal

pub returns-in-Signal : goal.returns-in-Signal
returns-in-Signal c = varies_at c.args.parts.now c.loop-part.part-index c.part-item.result c.in-Signal.field-0 c.loop-part-test.true (sym c.part-item.is ∙ c.in-Signal.is)

pub loop-part-preserved : goal.loop-part-preserved
loop-part-preserved c =
    let before = take c.loop-part.part-index c.args.parts.now in
    let more = take_more c.args.parts.now c.loop-part.part-index c.part-item.result c.loop-part-test.true
    ∙ ap (λ (h : Held). before ++ h ∷ []) (sym c.part-item.is ∙ c.in-Steady.is) in
    record {
      steady = subst (λ (hs : List Held). all_steady (parts_of hs) ≡ true) (sym more) (steady_then before c.in-Steady.value c.loop-part.invariant.steady);
      values = c.in_ok-push-in-Steady.ensures.ok
          ∙ (ap (λ (vs : List Seen). vs ++ plain c.in_ok-share-in-Steady.field-0 ∷ []) c.loop-part.invariant.values
          ∙ (ap (λ (v : Value). steady_values (parts_of before) ++ plain v ∷ []) c.in_ok-share-in-Steady.ensures
          ∙ (sym (values_then before c.in-Steady.value)
          ∙ ap (λ (hs : List Held). steady_values (parts_of hs)) (sym more))));
    }
