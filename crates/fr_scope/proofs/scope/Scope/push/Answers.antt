use Rattle.std.proofs.Common.{◌<◌, sym, ◌∙◌, ap, ◌≡◌, string_bytes, length}
use Rattle.std.proofs.lemmas.Map.Text.{hash_map_updates_text}
use Rattle.fr_scope.specs.Hiding.{binders, variable_in}
use Rattle.fr_scope.proofs.Hiding.{one_more}
use Rattle.fr_scope.specs.Meanings.{most_numbered}
use Rattle.fr_scope.proofs.scope.Scope.push.Goals as goal

pub invariant_of-self-2 : goal.invariant_of-self-2
invariant_of-self-2 c =
    let vs = c.self.inside.variables.items in
    let key : string_bytes c.in_ok-key.key ≡ c.args.name.now = c.in_ok-key.ensures.ok ∙ c.as_str.ensures in
    let name : c.in_ok-name.name ≡ c.args.name.now = c.in_ok-name.ensures in
    let room : length (binders vs) < most_numbered = rw c.self.view_is c.requires in
    let number : c.len.result ≡ length (binders vs) = c.len.ensures ∙ ap length (sym c.self.view_is) in
    let hidden : c.in_ok-hidden.hidden ≡ variable_in (binders vs) c.in_ok-name.name =
    c.in_ok-hidden.ensures.old ∙ c.self.invariant.found (string_bytes c.in_ok-key.key) ∙ ap (variable_in (binders vs)) (key ∙ sym name) in
    rw (c.push_reserved.ensures.items, c.in_ok-reserve.ensures.items)
    (one_more vs _ _ _ c.self.invariant room hidden (λ q.
    rw (name, ← key, ← number) (hash_map_updates_text (string_bytes c.in_ok-key.key) c.self.inside.innermost c.insert.new.self _ c.in_ok-hidden.ensures.updates q)))
