use Rattle.std.proofs.Common.{sym, ap, subst}
use Rattle.fr_kernel.specs.Kernels.{Kernels, kernel_for}
use Rattle.fr_kernel.specs.Purity.{IsPureOver}
use Rattle.fr_kernel.specs.declared.table.Kern.{Kern}
use Rattle.fr_kernel.proofs.Tables.{made, seen, one_more, appended}
use Rattle.fr_kernel.proofs.table.KernTable.add.Goals as goal

pub invariant_of-self-2 : goal.invariant_of-self-2
invariant_of-self-2 c =
    let fs = c.self.inside.functions in
    let e = c.args.expr.now in
    let k : Kern = record { code = c.in_ok-code.code; names = c.in_ok-names.names } in
    let pure = subst (λ gs. IsPureOver gs e) (sym (ap (λ (t : Kernels). t.functions) c.self.view_is)) c.requires.pure in
    rw c.in_ok-push.ensures.ok (one_more fs c.self.inside.kernels k c.self.invariant (made fs c.args.first c.args.params e k c.in_ok-names.ensures c.in_ok-code.ensures pure))

pub returns-clause-appended : goal.returns-clause-appended
returns-clause-appended c =
    let fs = c.self.inside.functions in
    let e = c.args.expr.now in
    let k : Kern = record { code = c.in_ok-code.code; names = c.in_ok-names.names } in
    appended fs c.self.inside.kernels c.push.new.self k (kernel_for c.args.first c.args.params e) c.args.self.now c.self.view_is c.in_ok-push.ensures.ok (seen fs c.args.first c.args.params e k c.in_ok-names.ensures c.in_ok-code.ensures)
