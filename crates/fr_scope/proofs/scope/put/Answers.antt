use Rattle.std.proofs.Common.{rules}
use Rattle.std.proofs.lemmas.Map.Text.{hash_map_updates_text}
use Rattle.fr_scope.proofs.scope.put.Goals as goal

pub returns-in-Some-get_mut : goal.returns-in-Some-get_mut
returns-in-Some-get_mut c = λ q.
    let map = c.get_mut.follows.lender c.in-Some.variable in
    let updates = (c.get_mut.follows.holds c.in-Some.variable).3 (search rules) in
    rw c.in-Some.is (hash_map_updates_text c.args.name.now c.args.innermost.now map _ updates q)

pub returns-in-None : goal.returns-in-None
returns-in-None c = λ q. rw c.in-None.is (hash_map_updates_text c.args.name.now c.args.innermost.now c.remove-left.new.self _ c.remove-left.ensures.updates q)
