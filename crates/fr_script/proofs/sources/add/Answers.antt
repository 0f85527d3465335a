use Rattle.indexmap.specs.IndexMap.{get_by_text}
use Rattle.std.specs.String.{string_bytes}
use Rattle.std.proofs.Common.{Some}
use Rattle.std.proofs.lemmas.Map.Text.{hash_map_updates_text}
use Rattle.fr_script.proofs.Added.{added, absent}
use Rattle.fr_script.proofs.sources.add.Goals as goal

pub returns-in_ok-insert : goal.returns-in_ok-insert
returns-in_ok-insert c = λ q.
    added c.args.name.now (string_bytes c.in_ok-from_str.field-0) q c.args.source (get_by_text c.args.names.now) (get_by_text c.insert.new.self q)
    (hash_map_updates_text (string_bytes c.in_ok-from_str.field-0) c.args.names.now c.insert.new.self (Some c.args.source) c.in_ok-insert.ensures.updates q)
    c.in_ok-from_str.ensures.ok (absent (get_by_text c.args.names.now c.args.name.now) c.contains_key.result c.contains_key.ensures c.if-not-contains_key.true)
