use Rattle.std.proofs.lemmas.Str.{is_utf8-from_IsUtf8}
use Rattle.fr_value.proofs.string_text.Text.len.Goals as goal

pub returns-clause-utf8 : goal.returns-clause-utf8
returns-clause-utf8 c = rw (c.as_str.ensures.value, c.self.view_is) at (is_utf8-from_IsUtf8 _ c.as_str.utf8)
