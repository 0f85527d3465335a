use Rattle.std.proofs.Common.{◌≡◌, true, rules}
use Rattle.fr_kernel.specs.Erasure.{is_compound}
use Rattle.fr_lower.proofs.Shapes.{whole_lit, whole_var, whole_source, whole_collapse}
use Rattle.fr_lower.proofs.closing.close.Goals as goal

pub returns-in_ok-share-in-Lit : goal.returns-in_ok-share-in-Lit
returns-in_ok-share-in-Lit c = whole_lit c.args.variables c.args.made.now c.args.e.now c.in_ok-share-in-Lit.field-0 (rw c.in_ok-share-in-Lit.ensures c.in-Lit.is)

pub returns-in-Var : goal.returns-in-Var
returns-in-Var c = whole_var c.args.variables c.args.made.now c.args.e.now c.in-Var.variable c.in-Var.is

pub returns-in-Source : goal.returns-in-Source
returns-in-Source c = whole_source c.args.variables c.args.made.now c.args.e.now c.in-Source.source c.in-Source.is

pub returns-in_ok-kernel-in_default : goal.returns-in_ok-kernel-in_default
returns-in_ok-kernel-in_default c =
    let compound : is_compound c.args.e.now ≡ true = search rules in
    whole_collapse c.args.variables c.args.made.now c.add_kernel.new.made c.args.e.now c.in_ok-kernel-in_default.kernel c.in_ok-kernel-in_default.slots compound c.in_ok-kernel-in_default.ensures.grows c.in_ok-kernel-in_default.ensures.kernel
