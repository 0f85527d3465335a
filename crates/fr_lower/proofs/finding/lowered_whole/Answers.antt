use Rattle.std.proofs.Common.{◌∙◌}
use Rattle.fr_lower.specs.Making.{given, WasMade, WasWhole}
use Rattle.fr_lower.proofs.Added.{if_ok}
use Rattle.fr_lower.proofs.Joining.{can_close}
use Rattle.fr_lower.proofs.Steps.{made_whole, made_found}
use Rattle.fr_lower.proofs.finding.lowered_whole.Goals as goal

pub close-requires : goal.close-requires
close-requires c =
    let found = rw c.in-None.is at c.in_ok-low.ensures in
    can_close c.args.program.now (given c.args.classes) c.find.new.made.table.functions c.args.e.now c.requires.classes (found.grows.functions ∙ c.requires.table) (found.later c.find.new.made.table.kernels (λ id k h. h)).0

pub returns-in-Some : goal.returns-in-Some
returns-in-Some c = made_found c.args.program.now (given c.args.classes) c.args.variables c.args.made.now c.find.new.made c.args.e.now c.in-Some.low (rw c.in-Some.is at c.in_ok-low.ensures)

pub returns-in-None : goal.returns-in-None
returns-in-None c =
    if_ok (λ l. WasWhole c.args.variables c.find.new.made c.close.new.made c.args.e.now l) (λ l. WasMade c.args.program.now (given c.args.classes) c.args.variables c.args.made.now c.close.new.made c.args.e.now l) c.close.result
    (λ l w. made_whole c.args.program.now (given c.args.classes) c.args.variables c.args.made.now c.find.new.made c.close.new.made c.args.e.now l (rw c.in-None.is at c.in_ok-low.ensures) w) c.close.ensures
