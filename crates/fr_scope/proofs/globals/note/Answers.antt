use Rattle.std.proofs.Common.{◌≡◌, ap, sym, ◌∙◌, List, ℕ, false, string_bytes}
use Rattle.std.specs.Str.{bytes_eq}
use Rattle.std.specs.Option.{is_some}
use Rattle.std.specs.HashMap.{get_by_text}
use Rattle.std.proofs.lemmas.Map.Text.{hash_map_updates_text}
use Rattle.std.proofs.lemmas.Slice.Eq.{bytes_eq-Decides}
use Rattle.fr_scope.proofs.Steps.{noted}
use Rattle.fr_scope.proofs.globals.note.Goals as goal

pub returns-in_ok-insert : goal.returns-in_ok-insert
returns-in_ok-insert c = λ q.
    let old = c.args.meanings.now in
    let key : string_bytes c.in_ok-key.key ≡ c.args.name.now = c.in_ok-key.ensures.ok in
    let absent : is_some (get_by_text old c.args.name.now) ≡ false = cc (c.contains_key.ensures, c.if-not-contains_key.true) in
    noted (bytes_eq c.args.name.now q) (get_by_text old q) _ _
    (λ h. ap (λ (n : List ℕ). is_some (get_by_text old n)) (sym ((bytes_eq-Decides c.args.name.now q).0 h)) ∙ absent)
    (rw (← key) (hash_map_updates_text (string_bytes c.in_ok-key.key) old c.insert.new.self _ c.in_ok-insert.ensures.updates q))
