use Rattle.std.proofs.Common.{◌≡◌, ◌<◌, ◌^◌, None, true, refl, sym, arith}
use Rattle.fr_store.specs.Nodes.{is_watch}
use Rattle.fr_eras.proofs.Results.{in_no_list, in_the_grave, result_is, upper_small}
use Rattle.fr_eras.proofs.raise.result_of.Goals as goal

pub returns-in_err-list-clause-none : goal.returns-in_err-list-clause-none
returns-in_err-list-clause-none c = λ e other r. in_no_list c.args.links.now.lists c.args.store.now c.args.node.0 None refl c.in_err-list.ensures.only other r

pub returns-then-list-eq-GRAVE-clause-none : goal.returns-then-list-eq-GRAVE-clause-none
returns-then-list-eq-GRAVE-clause-none c = λ e other r. in_the_grave c.args.links.now.lists c.args.store.now c.args.node.0 c.in_ok-list.list c.if-list-eq-GRAVE.true c.in_ok-list.ensures.only other r

pub overflow_cast-result : goal.overflow_cast-result
overflow_cast-result c =
    let small : c.in_ok-next.next < 2 ^ 32 =
    upper_small c.args.links.now.lists c.args.store.now c.args.node.0 c.in_ok-list.list c.in_ok-next.next (sym c.in_ok-list.ensures.value) c.in_ok-next.ensures c.requires.apart in
    omega arith

pub returns-clause-is : goal.returns-clause-is
returns-clause-is c =
    let on : is_watch c.node.result.now.kind ≡ true = cc in
    result_is c.args.links.now.lists c.args.store.now c.args.node.0 c.in_ok-list.list c.in_ok-next.next (sym c.in_ok-list.ensures.value) c.in_ok-next.ensures
    c.node.result.now c.node.ensures on c.if-list-eq-GRAVE.false
