use Rattle.std.proofs.Common.{◌∷◌, length}
use Rattle.fr_value.specs.Data.{datum_of, data_of}
use Rattle.fr_reader.specs.declared.reader.OneStop.TheVariants as OneStop
use Rattle.fr_value.specs.Grammar.{begins}
use Rattle.fr_reader.proofs.Steps.{by_ok, starts, heads, shows, hides, shows_atom, hides_atom, nothing, too_big, stuck, quote_too_big, next_item, retype}
use Rattle.fr_value.proofs.Meet.{ends_zero}
use Rattle.std.proofs.Common.{arith, ap, sym, subst, ◌∙◌}
use Rattle.fr_reader.proofs.front.+datum.Goals as goal

pub datum-returns-in_default-clause-none : goal.datum-returns-in_default-clause-none
datum-returns-in_default-clause-none t c = λ e d rest h. nothing c.args.levels c.args.bytes.now d rest c.in_default.ensures.cases h

pub datum-returns-then-levels-eq0-clause-none : goal.datum-returns-then-levels-eq0-clause-none
datum-returns-then-levels-eq0-clause-none t c = λ e. ends_zero c.args.levels c.args.bytes.now c.if-levels-eq0.true

pub datum-returns-then-b-eq40-clause-found : goal.datum-returns-then-b-eq40-clause-found
datum-returns-then-b-eq40-clause-found t c = by_ok c.list.result (λ x h. shows c.args.levels c.args.bytes.now (40 ∷ c.in-Some.tail.now) (datum_of x.0) x.1.now c.if-levels-eq0.false (starts c.args.bytes.now c.in-Some.tail.now c.in-Some.b.now 40 c.in-Some.ensures.cases.0 c.if-b-eq40.true) h) c.list.ensures.found

pub datum-returns-then-b-eq40-clause-none : goal.datum-returns-then-b-eq40-clause-none
datum-returns-then-b-eq40-clause-none t c = λ e d rest h. c.list.ensures.none e d rest (hides c.args.levels c.args.bytes.now (40 ∷ c.in-Some.tail.now) d rest c.if-levels-eq0.false (starts c.args.bytes.now c.in-Some.tail.now c.in-Some.b.now 40 c.in-Some.ensures.cases.0 c.if-b-eq40.true) h)

pub datum-returns-then-b-eq91-clause-found : goal.datum-returns-then-b-eq91-clause-found
datum-returns-then-b-eq91-clause-found t c = by_ok c.list-then-b-eq91.result (λ x h. shows c.args.levels c.args.bytes.now (91 ∷ c.in-Some.tail.now) (datum_of x.0) x.1.now c.if-levels-eq0.false (starts c.args.bytes.now c.in-Some.tail.now c.in-Some.b.now 91 c.in-Some.ensures.cases.0 c.if-b-eq91.true) h) c.list-then-b-eq91.ensures.found

pub datum-returns-then-b-eq91-clause-none : goal.datum-returns-then-b-eq91-clause-none
datum-returns-then-b-eq91-clause-none t c = λ e d rest h. c.list-then-b-eq91.ensures.none e d rest (hides c.args.levels c.args.bytes.now (91 ∷ c.in-Some.tail.now) d rest c.if-levels-eq0.false (starts c.args.bytes.now c.in-Some.tail.now c.in-Some.b.now 91 c.in-Some.ensures.cases.0 c.if-b-eq91.true) h)

pub datum-returns-then-b-eq39-clause-found : goal.datum-returns-then-b-eq39-clause-found
datum-returns-then-b-eq39-clause-found t c = by_ok c.quoted.result (λ x h. shows c.args.levels c.args.bytes.now (39 ∷ c.in-Some.tail.now) (datum_of x.0) x.1.now c.if-levels-eq0.false (starts c.args.bytes.now c.in-Some.tail.now c.in-Some.b.now 39 c.in-Some.ensures.cases.0 c.if-b-eq39.true) h) c.quoted.ensures.found

pub datum-returns-then-b-eq39-clause-none : goal.datum-returns-then-b-eq39-clause-none
datum-returns-then-b-eq39-clause-none t c = λ e d rest h. c.quoted.ensures.none e d rest (hides c.args.levels c.args.bytes.now (39 ∷ c.in-Some.tail.now) d rest c.if-levels-eq0.false (starts c.args.bytes.now c.in-Some.tail.now c.in-Some.b.now 39 c.in-Some.ensures.cases.0 c.if-b-eq39.true) h)

pub datum-returns-then-b-eq34-clause-found : goal.datum-returns-then-b-eq34-clause-found
datum-returns-then-b-eq34-clause-found t c = by_ok c.string.result (λ x h. shows c.args.levels c.args.bytes.now (34 ∷ c.in-Some.tail.now) (datum_of x.0) x.1.now c.if-levels-eq0.false (starts c.args.bytes.now c.in-Some.tail.now c.in-Some.b.now 34 c.in-Some.ensures.cases.0 c.if-b-eq34.true) h) c.string.ensures.found

pub datum-returns-then-b-eq34-clause-none : goal.datum-returns-then-b-eq34-clause-none
datum-returns-then-b-eq34-clause-none t c = λ e d rest h. c.string.ensures.none e d rest (hides c.args.levels c.args.bytes.now (34 ∷ c.in-Some.tail.now) d rest c.if-levels-eq0.false (starts c.args.bytes.now c.in-Some.tail.now c.in-Some.b.now 34 c.in-Some.ensures.cases.0 c.if-b-eq34.true) h)

pub datum-returns-else-b-eq34-clause-found : goal.datum-returns-else-b-eq34-clause-found
datum-returns-else-b-eq34-clause-found t c = by_ok c.leaf.result (λ x h. shows_atom c.args.levels c.args.bytes.now c.in-Some.b.now c.in-Some.tail.now (datum_of x.0) x.1.now c.if-levels-eq0.false c.in-Some.ensures.cases.0 c.if-b-eq40.false c.if-b-eq91.false c.if-b-eq39.false c.if-b-eq34.false h) c.leaf.ensures.found

pub datum-returns-else-b-eq34-clause-none : goal.datum-returns-else-b-eq34-clause-none
datum-returns-else-b-eq34-clause-none t c = λ e d rest h. c.leaf.ensures.none e d (hides_atom c.args.levels c.args.bytes.now c.in-Some.b.now c.in-Some.tail.now d rest c.if-levels-eq0.false c.in-Some.ensures.cases.0 c.if-b-eq40.false c.if-b-eq91.false c.if-b-eq39.false c.if-b-eq34.false h).0

pub list-returns-in-Err-clause-none : goal.list-returns-in-Err-clause-none
list-returns-in-Err-clause-none t c = λ e. too_big c.args.levels c.args.close c.args.bytes.now (data_of c.loop-b.items.items) c.loop-b.rest.now c.in-Some.tail.now c.loop-b.invariant.found (starts c.loop-b.rest.now c.in-Some.tail.now c.in-Some.b.now c.args.close c.in-Some.ensures.cases.0 c.if-b-close.true) c.requires (c.listed.ensures.none (retype c.in-Err.e OneStop.Refused c.listed.result c.in-Err.is e))

pub list-returns-in-Err-datum-clause-none : goal.list-returns-in-Err-datum-clause-none
list-returns-in-Err-datum-clause-none t c = λ e. stuck c.args.levels c.args.close c.args.bytes.now (data_of c.loop-b.items.items) c.loop-b.rest.now c.loop-b.invariant.found (c.datum.ensures.none (retype c.in-Err-datum.e OneStop.Refused c.datum.result c.in-Err-datum.is e)) (λ s h. c.if-b-close.false (heads c.in-Some.b.now c.args.close c.in-Some.tail.now s (sym c.in-Some.ensures.cases.0 ∙ h))) c.requires

pub list-loop-b-preserved : goal.list-loop-b-preserved
list-loop-b-preserved t c = record { found = next_item c.args.levels c.args.bytes.now c.loop-b.items.items c.push.new.items.items c.loop-b.rest.now c.in-Ok-datum.found.0 c.in-Ok-datum.found.1.now c.past_gap-rest-in-Some.result.now c.loop-b.invariant.found c.in-Ok-datum.ensures.found c.in_ok-push.ensures c.past_gap-rest-in-Some.ensures.value; less = omega (arith, c.past_gap-rest-in-Some.ensures.less, c.in-Ok-datum.ensures.less, c.loop-b.invariant.less) }

pub list-returns-clause-none : goal.list-returns-clause-none
list-returns-clause-none t c = λ e. stuck c.args.levels c.args.close c.args.bytes.now (data_of c.loop-b.items.items) c.loop-b.rest.now c.loop-b.invariant.found (λ d rest h. nothing c.args.levels c.loop-b.rest.now d rest c.in_default.ensures.cases h) (λ s h. omega (arith, c.in_default.ensures.cases, ap length h)) c.requires

pub quoted-returns-in-Err-clause-none : goal.quoted-returns-in-Err-clause-none
quoted-returns-in-Err-clause-none t c = λ e. quote_too_big c.args.levels c.args.bytes.now (datum_of c.in_ok-item.item) c.in_ok-item.rest.now (subst (λ x. begins c.args.levels x (datum_of c.in_ok-item.item) c.in_ok-item.rest.now) c.past_gap.ensures.value c.in_ok-item.ensures.found) (c.with_quote.ensures.none (retype c.in-Err.e OneStop.Refused c.with_quote.result c.in-Err.is e))
