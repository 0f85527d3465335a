use Rattle.std.proofs.Common.{◌+◌, ◌++◌, List, drop, ap, ◌∙◌}
use denote.Ref.{Bor}
use Rattle.fr_core.specs.Sites.{parts}
use Rattle.fr_core.specs.declared.lowered.Low.{Low}
use Rattle.fr_ready.specs.Seen.{lows_seen}
use Rattle.fr_ready.proofs.Gathering.{waits_next, waits_last}
use Rattle.fr_ready.proofs.choices.wait_for_parts.Goals as goal

pub loop-part-preserved : goal.loop-part-preserved
loop-part-preserved c =
    ap (λ (ws : List (Bor Low)). lows_seen ws ++ drop (c.loop-part.number + 1) (parts c.args.e.now)) c.in_ok-push.ensures.items
    ∙ waits_next c.loop-part.waiting.items c.in-Some.part (parts c.args.e.now) (lows_seen c.args.waiting.now.items ++ parts c.args.e.now) c.loop-part.number c.in-Some.ensures.value c.loop-part.invariant

pub returns : goal.returns
returns c = waits_last c.loop-part.waiting.items (parts c.args.e.now) (lows_seen c.args.waiting.now.items ++ parts c.args.e.now) c.loop-part.number c.in_default.ensures.value c.loop-part.invariant
