-- Among the shows that may have changed are all that are printed.
use Rattle.std.proofs.Common.{◌≡◌, ◌≢◌, ◌∙◌, ℕ, ◌<◌, if◌then◌else◌, List, [], ◌∷◌, length, map, Option, Some, None, Ok, Err, refl, sym, ap, subst, arith, inl, inr}
use Rattle.std.specs.List.{slice_get, Contains, range_with_len}
use Rattle.std.proofs.lemmas.Option.{slice_get_within, get_or_from_slice_get, slice_get-get_or}
use Rattle.std.proofs.lemmas.Slice.Eq.{bytes_eq-Decides}
use Rattle.fr_value.specs.declared.value.Value.{Value}
use Rattle.fr_value.specs.declared.now.Now.{Now}
use Rattle.fr_value.specs.declared.now.Now.TheVariants.{Plain, Occ}
use Rattle.fr_core.specs.declared.program.Program.{Program}
use Rattle.fr_meaning.specs.Words.{Seen}
use Rattle.fr_meaning.specs.Texts.{Shown, line, value_text, unless_last, shown_text, next_shown, next_each}
use Rattle.fr_meaning.specs.Afresh.{State, Instant}
use Rattle.fr_show.specs.Shows.{RiseFrom, kept, plain_text, show_at, value_at, text_at, AreAllPrinted}
use Rattle.fr_show.proofs.Numbers.{all_numbers_rise, is_number}
use Rattle.fr_show.proofs.Keeping.{next_at}
use Rattle.fr_run.specs.Standing.{Standing, IsAsBefore, NamesChanges}
use Rattle.fr_run.specs.Written.{HaveTextsOf, Wrote}

-- the last text isn't printed again
again : (o : Option (List ℕ)) (text l : List ℕ) → o ≡ Some text → unless_last o text l ≡ []
again o text l is =
    ap (λ (x : Option (List ℕ)). unless_last x text l) is
    ∙ ap (λ b. let r : List ℕ = if b then [] else l in r) ((bytes_eq-Decides text text).1 refl)

same_text : (time : ℕ) (s : Shown) (v : Now) → kept s (plain_text v) ≡ s → ((w : Value) → v ≢ Occ (Some w)) → shown_text time s (Ok v) ≡ []
same_text time s (Plain w) had quiet =
    again s.last (value_text w) (line time s.name (value_text w)) (sym (ap (λ (x : Shown). x.last) had))
same_text time s (Occ None) had quiet = refl
same_text time s (Occ (Some w)) had quiet = absurd (quiet w refl)

-- nothing is printed of a show that is as it was before
unnamed : (time n : ℕ) (shows : List Shown) (before now : List Now) (v : Now) → next_each shows (map (λ v. Ok v) before) ≡ shows → IsAsBefore before now n
    → n < length shows → slice_get now n ≡ Some v → text_at time shows now n ≡ []
unnamed time n shows before now v keeps same less is =
    let was : slice_get before n ≡ Some v = sym same.same ∙ is in
    let within : n < length before = slice_get_within before n v was in
    let value : value_at before n ≡ v = get_or_from_slice_get before n v (Occ None) was in
    let present : value_at now n ≡ v = get_or_from_slice_get now n v (Occ None) is in
    let had : kept (show_at shows n) (plain_text v) ≡ show_at shows n =
    ap (λ (w : Now). kept (show_at shows n) (plain_text w)) (sym value) ∙ sym (next_at shows before n within less) ∙ ap (λ (ss : List Shown). show_at ss n) keeps in
    ap (λ (w : Now). shown_text time (show_at shows n) (Ok w)) present ∙ same_text time (show_at shows n) v had (λ w e. same.quiet w (is ∙ ap Some e))

pub all_printed : (time : ℕ) (shows : List Shown) (before : List Now) (e : Standing) → length e.shown ≡ length shows → next_each shows (map (λ v. Ok v) before) ≡ shows
    → NamesChanges before e.shown e.changed → AreAllPrinted time shows e.shown e.changed
all_printed time shows before e long keeps names = record {
  rising = subst (λ (n : ℕ). RiseFrom 0 n e.changed) long names.rising;
  others = λ n less.
      let within : n < length e.shown = omega arith in
      elim (names.others n within) [
        | inl named ↦ inl named
        | inr same ↦ inr (unnamed time n shows before e.shown (value_at e.shown n) keeps same less (slice_get-get_or e.shown n (Occ None) within))
      ];
}

-- before instant 0 no text is kept
pub none_kept : (shows : List Shown) → next_each shows [] ≡ shows
none_kept [] = refl
none_kept (s ∷ ss) = refl

kept_again : (s : Shown) (v : Seen) → next_shown (next_shown s v) v ≡ next_shown s v
kept_again s (Ok (Plain w)) = refl
kept_again s (Ok (Occ o)) = refl
kept_again s (Err b) = refl

each_again : (ss : List Shown) (vs : List Seen) → next_each (next_each ss vs) vs ≡ next_each ss vs
each_again [] vs = refl
each_again (s ∷ ss) [] = refl
each_again (s ∷ ss) (v ∷ vs) =
    ap (λ (t : Shown). t ∷ next_each (next_each ss vs) vs) (kept_again s v) ∙ ap (λ (ts : List Shown). next_shown s v ∷ ts) (each_again ss vs)

-- the shows have the texts of an instant that was written
pub have_texts : (stands_for : State → Type 0) (e : Standing) (p : Program) (n : Instant) (time : ℕ) (shows later : List Shown) (x y : Option (List ℕ))
    → Wrote stands_for e p n time shows later x y → HaveTextsOf later e
have_texts stands_for e p n time shows later x y w =
    let vs = n.evaluated.shown in
    ap (λ (us : List Seen). next_each later us) w.behind.shown
    ∙ ap (λ (ss : List Shown). next_each ss vs) w.shows_are ∙ each_again shows vs ∙ sym w.shows_are

-- all numbers name whatever changed
pub all_named : (before now : List Now) (count : ℕ) (numbers : List ℕ) → count ≡ length now → numbers ≡ range_with_len 0 count → NamesChanges before now numbers
all_named before now count numbers many all = record {
  rising = subst (λ (ns : List ℕ). RiseFrom 0 (length now) ns) (sym (all ∙ ap (λ (n : ℕ). range_with_len 0 n) many)) (all_numbers_rise (length now));
  others = λ n less. inl (subst (λ (ns : List ℕ). Contains ns n) (sym (all ∙ ap (λ (k : ℕ). range_with_len 0 k) many)) (is_number (length now) n less));
}
