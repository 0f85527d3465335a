use Rattle.std.proofs.Common.{ℕ, [], ◌≡◌, subst}
use Rattle.fr_links.specs.Lists.{list_at}
use Rattle.fr_eras.specs.Kept.{Moving}
use Rattle.fr_eras.proofs.Moves.{era_came, era_ends, era_lives}
use Rattle.fr_eras.proofs.ending.end_era.Goals as goal

pub returns-clause-ends : goal.returns-clause-ends
returns-clause-ends c =
    era_ends c.args.links.now.lists c.move_members.new.links.lists c.args.begun.now.items c.clear_flag.new.flags.items c.args.era
    (subst (λ (n : ℕ). Moving c.args.links.now.lists c.move_members.new.links.lists n) c.list_of_era.ensures c.move_members.ensures.moves)
    (subst (λ (n : ℕ). list_at c.move_members.new.links.lists n ≡ []) c.list_of_era.ensures c.move_members.ensures.empty)
    c.clear_flag.ensures.here c.clear_flag.ensures.others

pub returns-clause-lives : goal.returns-clause-lives
returns-clause-lives c =
    era_lives c.args.links.now.lists c.move_members.new.links.lists c.args.begun.now.items c.clear_flag.new.flags.items c.args.era
    (subst (λ (n : ℕ). Moving c.args.links.now.lists c.move_members.new.links.lists n) c.list_of_era.ensures c.move_members.ensures.moves)
    (subst (λ (n : ℕ). list_at c.move_members.new.links.lists n ≡ []) c.list_of_era.ensures c.move_members.ensures.empty)
    c.clear_flag.ensures.here c.clear_flag.ensures.others c.requires.lives c.requires.not_program c.clear_flag.ensures.len

pub returns-clause-came : goal.returns-clause-came
returns-clause-came c =
    era_came c.args.links.now.lists c.move_members.new.links.lists c.args.begun.now.items c.clear_flag.new.flags.items c.args.era
    (subst (λ (n : ℕ). Moving c.args.links.now.lists c.move_members.new.links.lists n) c.list_of_era.ensures c.move_members.ensures.moves)
    (subst (λ (n : ℕ). list_at c.move_members.new.links.lists n ≡ []) c.list_of_era.ensures c.move_members.ensures.empty)
    c.clear_flag.ensures.here c.clear_flag.ensures.others
