use Rattle.std.proofs.Common.{◌∙◌, ℕ, ◌<◌, inr, arith, sym, subst}
use Rattle.fr_store.specs.Nodes.{signal_at}
use Rattle.fr_store.proofs.Wirings.{wires_more, wires_wide}
use Rattle.fr_store.proofs.Dependents.{no_signal}
use Rattle.fr_store.proofs.wiring.link.Goals as goal

pub link_one-requires-clause-list : goal.link_one-requires-clause-list
link_one-requires-clause-list c = λ l e.
    subst (λ (n : ℕ). l < n) (sym c.loop-place.invariant.lists) (c.requires.lists l c.loop-place.place (sym c.signal-id.ensures ∙ e))

pub link_one-requires-clause-idle : goal.link_one-requires-clause-idle
link_one-requires-clause-idle c = λ l. c.loop-place.invariant.wired.others l _ (inr (omega arith)) ∙ c.requires.idle l c.loop-place.place (omega arith)

pub loop-place-preserved : goal.loop-place-preserved
loop-place-preserved c = record {
  lists = c.link_one.ensures.lists ∙ c.loop-place.invariant.lists;
  items = c.link_one.ensures.items ∙ c.loop-place.invariant.items;
  wired = wires_more c.args.links.now.lists c.loop-place.links.lists c.link_one.new.links.lists c.args.first c.loop-place.place (signal_at c.args.inputs.now) _ c.loop-place.invariant.wired c.link_one.ensures.wired (sym c.signal-id.ensures);
}

pub returns-clause-wired : goal.returns-clause-wired
returns-clause-wired c =
    wires_wide c.args.links.now.lists c.loop-place.links.lists c.args.first c.loop-place.place c.args.room (signal_at c.args.inputs.now)
    (let e = c.len-place-end.ensures in let le = c.requires.room in let at = c.loop-place.auto.place-end in omega arith)
    c.loop-place.invariant.wired c.requires.idle
    (λ place le. no_signal c.args.inputs.now place (let e = c.len-place-end.ensures in let after = c.loop-place-test.false in omega arith))
