-- Courses, text by text.
use Rattle.std.proofs.Common.{◌≡◌, ◌∙◌, ℕ, ◌+◌, List, [], ◌∷◌, ◌++◌, length, take, ap, sym, refl, subst, arith, append_assoc, rules, None, Some, length-append}
use Rattle.std.proofs.Math.Seq.{take-append-add}
use Rattle.std.specs.declared.option.Option.{Option}
use Rattle.std.specs.Io.KnownBytes.{Appends}
use Rattle.std.proofs.lemmas.List.{append-nil}
use Rattle.fr_io.specs.Files.{AppendsSome}
use Rattle.fr_io.proofs.Appending.{appends_more}
use Rattle.fr_show.specs.declared.stop.Stop.{Stop}
use Rattle.fr_show.specs.Course.{Course, all_bytes, after}
use Rattle.fr_show.specs.Ends.{EndsThere, AppendsWhole, Extent, own_end, whole_texts, first_text, first_bytes, WritesTo}
use Rattle.fr_show.proofs.Writing.{some_behind}

pub bytes_append : (a b : List (List ℕ)) → all_bytes (a ++ b) ≡ all_bytes a ++ all_bytes b
bytes_append [] b = refl
bytes_append (t ∷ a) b = ap (λ (z : List ℕ). t ++ z) (bytes_append a b) ∙ sym (append_assoc t (all_bytes a) (all_bytes b))

pub texts_after : (done : List (List ℕ)) (c : Course) → (after done c).texts ≡ done ++ c.texts
texts_after [] c = refl
texts_after (t ∷ done) c = ap (λ (z : List (List ℕ)). t ∷ z) (texts_after done c)

pub stop_after : (done : List (List ℕ)) (c : Course) → (after done c).stop ≡ c.stop
stop_after [] c = refl
stop_after (t ∷ done) c = stop_after done c

pub after_after : (d e : List (List ℕ)) (c : Course) → after (d ++ e) c ≡ after d (after e c)
after_after [] e c = refl
after_after (t ∷ d) e c = let h = after_after d e c in ap (λ (z : Course). let r : Course = record { texts = t ∷ z.texts; stop = z.stop } in r) h

pub appends_nothing : (x : Option (List ℕ)) → Appends x x []
appends_nothing None = tt
appends_nothing (Some x) = search rules

-- what a stop says of a course, it says of the course behind what was written before
pub ends_after : (stop : Option Stop) (done : List (List ℕ)) (c : Course) (x y z : Option (List ℕ)) → Appends x y (all_bytes done)
    → EndsThere stop c y z → EndsThere stop (after done c) x z
ends_after stop done c x y z h (e, k) = (
  stop_after done c ∙ e,
  subst (λ (w : List ℕ). Appends x z w) (sym (ap all_bytes (texts_after done c) ∙ bytes_append done c.texts)) (appends_more x y z _ _ h k),
)

-- the same of texts that were written whole
pub whole_behind : (done texts : List (List ℕ)) (x y z : Option (List ℕ)) → Appends x y (all_bytes done) → AppendsWhole y z texts → AppendsWhole x z (done ++ texts)
whole_behind done texts x y z h (k, le, w) = (
  length done + k,
  omega (arith, length-append done texts),
  subst (λ (w : List ℕ). Appends x z w) (sym (ap all_bytes (take-append-add done texts k) ∙ bytes_append done (take k texts))) (appends_more x y z _ _ h w),
)

pub whole_after : (done : List (List ℕ)) (c : Course) (x y z : Option (List ℕ)) → Appends x y (all_bytes done)
    → AppendsWhole y z c.texts → AppendsWhole x z (after done c).texts
whole_after done c x y z h w = subst (λ (ts : List (List ℕ)). AppendsWhole x z ts) (sym (texts_after done c)) (whole_behind done c.texts x y z h w)

pub some_after : (done : List (List ℕ)) (c : Course) (x y z : Option (List ℕ)) → Appends x y (all_bytes done)
    → AppendsSome y z (all_bytes c.texts) → AppendsSome x z (all_bytes (after done c).texts)
some_after done c x y z h w =
    subst (λ (l : List ℕ). AppendsSome x z l) (sym (ap all_bytes (texts_after done c) ∙ bytes_append done c.texts)) (some_behind x y z (all_bytes done) (all_bytes c.texts) h w)

-- what a stop says behind these texts, but where it tells of the first text
pub writes_after : (e : Extent) (stop : Stop) (done : List (List ℕ)) (c : Course) (x y z : Option (List ℕ)) → Appends x y (all_bytes done) → (e ≡ first_text → ⊥)
    → WritesTo e stop c y z → WritesTo e stop (after done c) x z
writes_after own_end stop done c x y z h other s = ends_after (Some stop) done c x y z h s
writes_after whole_texts stop done c x y z h other s = whole_after done c x y z h s
writes_after first_text stop done c x y z h other s = absurd (other refl)
writes_after first_bytes stop done c x y z h other s = some_after done c x y z h s

-- nothing was written
pub nothing_whole : (texts : List (List ℕ)) (x : Option (List ℕ)) → AppendsWhole x x texts
nothing_whole texts x = (0, omega arith, appends_nothing x)

one_text : (text : List ℕ) → all_bytes (text ∷ []) ≡ text
one_text text = append-nil text

pub appends_one : (x y : Option (List ℕ)) (text : List ℕ) → Appends x y text → Appends x y (all_bytes (text ∷ []))
appends_one x y text h = subst (λ (l : List ℕ). Appends x y l) (sym (one_text text)) h
