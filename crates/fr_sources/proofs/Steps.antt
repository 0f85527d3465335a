-- What one writing after another keeps.
use Rattle.std.proofs.Common.{◌≡◌, ◌<◌, [], ◌∷◌, ◌++◌, length, false, refl, ◌∙◌}
use Rattle.fr_value.specs.declared.ids.SrcId.{SrcId}
use Rattle.fr_value.specs.declared.value.Value.{Value}
use Rattle.fr_sources.specs.declared.sources.Sources.{Sources}
use Rattle.fr_sources.specs.Writes.{with_at, written, event_at}
use Rattle.fr_sources.specs.Instants.{Keeps}
use Rattle.fr_sources.proofs.Listed.{have_push, have_with, listed_push, listed_input, touched_push}
use Rattle.fr_sources.proofs.Wrote.{long_with}

pub keeps_itself : (s : Sources) → Keeps s s
keeps_itself s = record { occurring = λ h. h; listed = λ h. h; touched = λ first h. h; long = refl; occurring_within = λ h. h; touched_within = λ h. h }

pub keeps_both : (a b c : Sources) → Keeps a b → Keeps b c → Keeps a c
keeps_both a b c h k = record {
  occurring = λ l. k.occurring (h.occurring l);
  listed = λ l. k.listed (h.listed l);
  touched = λ first l. k.touched first (h.touched first l);
  long = k.long ∙ h.long;
  occurring_within = λ l. k.occurring_within (h.occurring_within l);
  touched_within = λ l. k.touched_within (h.touched_within l);
}

pub keeps_event : (old new : Sources) (s : SrcId) (v : Value) → s.0 < length old.values.items → new.values.items ≡ with_at (written v) s.0 old.values.items
    → new.touched.items ≡ old.touched.items ++ s ∷ [] → new.occurring.items ≡ old.occurring.items ++ s ∷ [] → Keeps old new
keeps_event old new s v here values touched occurring = record {
  occurring = λ l. rw (values, occurring) (listed_push (written v) s old.occurring.items old.values.items l);
  listed = λ l. rw (values, touched) (listed_push (written v) s old.touched.items old.values.items l);
  touched = λ first l. rw (values, touched) (touched_push (written v) s old.touched.items first old.values.items l);
  long = rw values (long_with (written v) old.values.items s.0);
  occurring_within = λ l. rw (values, occurring) (have_push (written v) s old.occurring.items old.values.items here l);
  touched_within = λ l. rw (values, touched) (have_push (written v) s old.touched.items old.values.items here l);
}

pub keeps_input : (old new : Sources) (s : SrcId) (v : Value) → s.0 < length old.values.items → new.values.items ≡ with_at (written v) s.0 old.values.items
    → new.touched.items ≡ old.touched.items ++ s ∷ [] → new.occurring.items ≡ old.occurring.items → event_at old.values.items s.0 ≡ false → Keeps old new
keeps_input old new s v here values touched occurring plain = record {
  occurring = λ l. rw (values, occurring) (listed_input v s.0 old.occurring.items old.values.items plain l);
  listed = λ l. rw (values, touched) (listed_push (written v) s old.touched.items old.values.items l);
  touched = λ first l. rw (values, touched) (touched_push (written v) s old.touched.items first old.values.items l);
  long = rw values (long_with (written v) old.values.items s.0);
  occurring_within = λ l. rw (values, occurring) (have_with (written v) s.0 old.occurring.items old.values.items l);
  touched_within = λ l. rw (values, touched) (have_push (written v) s old.touched.items old.values.items here l);
}
