use Rattle.std.proofs.Common.{ℕ, ◌+◌, ◌<◌, ◌≤◌, ◌^◌, max, length, true, slice_set, arith, subst, sym, length-set, ◌∙◌}
use Rattle.fr_eras.proofs.Lasting.{grown_eras, set_keeps}
use Rattle.fr_eras.proofs.eras.Eras.begin.Goals as goal

pub invariant_of-self-in_err-add_flags : goal.invariant_of-self-in_err-add_flags
invariant_of-self-in_err-add_flags c =
    let small : c.args.owner.0 < 2 ^ 24 = c.requires.small in
    grown_eras c.self.inside.links.lists c.reserve.new.self.lists c.self.inside.begun.items c.add_flags.new.flags.items c.self.inside.work.room (c.args.owner.0 + 1)
    (c.list_of_era.result + 1) c.in_ok-reserve.ensures.lists (omega (arith, c.list_of_era.ensures)) (omega arith) c.add_flags.ensures.few
    (λ era is. c.add_flags.ensures.same era ∙ is) c.self.invariant

pub invariant_of-self-2 : goal.invariant_of-self-2
invariant_of-self-2 c =
    let small : c.args.owner.0 < 2 ^ 24 = c.requires.small in
    let enough : c.args.owner.0 + 1 + 1 ≤ length c.add_flags.new.flags.items = c.in_ok-add_flags.ensures.enough in
    grown_eras c.self.inside.links.lists c.reserve.new.self.lists c.self.inside.begun.items (slice_set c.add_flags.new.flags.items (c.args.owner.0 + 1) true)
    c.self.inside.work.room (c.args.owner.0 + 1) (c.list_of_era.result + 1) c.in_ok-reserve.ensures.lists (omega (arith, c.list_of_era.ensures)) (omega arith)
    (subst (λ (n : ℕ). n ≤ max (length c.self.inside.begun.items) (c.args.owner.0 + 1 + 1)) (sym (length-set c.add_flags.new.flags.items (c.args.owner.0 + 1) true)) c.add_flags.ensures.few)
    (set_keeps c.self.inside.begun.items c.add_flags.new.flags.items (c.args.owner.0 + 1) (omega arith) c.add_flags.ensures.same) c.self.invariant
