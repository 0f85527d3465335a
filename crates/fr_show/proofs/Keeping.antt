-- Keeping texts by the numbers of their shows is keeping them of all.
use Rattle.std.proofs.Common.{◌≡◌, ◌∙◌, ◌⊎◌, ℕ, zero, suc, ◌+◌, ◌<◌, Bool, true, false, if◌then◌else◌, List, [], ◌∷◌, length, get_or, set, map, Option, Some, None, Ok, refl, sym, ap, subst, arith, inl, inr, length-append}
use Rattle.std.specs.List.{Contains}
use Rattle.std.specs.Str.{bytes_eq}
use Rattle.std.proofs.lemmas.List.{length-set, get_or-set_same, get_or-set_other, same_lists, get_or_default}
use Rattle.std.proofs.lemmas.Bool.{cases_eq}
use Rattle.std.proofs.lemmas.Slice.Eq.{bytes_eq-Decides}
use Rattle.fr_value.specs.declared.now.Now.{Now}
use Rattle.fr_value.specs.declared.now.Now.TheVariants.{Plain, Occ}
use Rattle.fr_meaning.specs.Texts.{Shown, value_text, line, unless_last, shown_text, next_shown, next_each}
use Rattle.fr_show.specs.Shows.{RiseFrom, AreAllPrinted, text_at, kept, kept_at, plain_text, value_at}
use Rattle.fr_show.proofs.Numbers.{contains_cases}

abbrev no_show : Shown
no_show = record { name = []; last = None }

length_kept : (ss : List Shown) (ns : List ℕ) (ts : List (Option (List ℕ))) → length (kept_at ss ns ts) ≡ length ss
length_kept ss [] ts = refl
length_kept ss (n ∷ ns) [] = refl
length_kept ss (n ∷ ns) (t ∷ ts) = length_kept _ ns ts ∙ length-set ss n _

-- the shows below where the numbers begin stay
kept_below : (ss : List Shown) (ns : List ℕ) (ts : List (Option (List ℕ))) (low count k : ℕ) → RiseFrom low count ns → k < low
    → get_or (kept_at ss ns ts) k no_show ≡ get_or ss k no_show
kept_below ss [] ts low count k h less = refl
kept_below ss (n ∷ ns) [] low count k h less = refl
kept_below ss (n ∷ ns) (t ∷ ts) low count k h less =
    kept_below _ ns ts (n + 1) count k h.2 (omega (arith, h.0))
    ∙ get_or-set_other ss n k _ no_show (λ (e : k ≡ n). let bad : ⊥ = omega (arith, h.0) in bad)

-- a show whose number is there has its text, and any other has it already
kept_named : (ss : List Shown) (vs : List Now) (ns : List ℕ) (low k : ℕ) → RiseFrom low (length ss) ns
    → Contains ns k ⊎ (kept (get_or ss k no_show) (plain_text (value_at vs k)) ≡ get_or ss k no_show)
    → get_or (kept_at ss ns (map (λ n. plain_text (value_at vs n)) ns)) k no_show ≡ kept (get_or ss k no_show) (plain_text (value_at vs k))
kept_named ss vs [] low k h (inl (i, less, is)) = absurd (omega arith)
kept_named ss vs [] low k h (inr same) = sym same
kept_named ss vs (n ∷ ns) low k h there =
    let s = get_or ss n no_show in
    let t = plain_text (value_at vs n) in
    let written = set ss n (kept s t) in
    let size : length written ≡ length ss = length-set ss n (kept s t) in
    let tail : RiseFrom (n + 1) (length written) ns = subst (λ (m : ℕ). RiseFrom (n + 1) m ns) (sym size) h.2 in
    elim (cases_eq n k) [
      | inl same ↦
          kept_below written ns (map (λ m. plain_text (value_at vs m)) ns) (n + 1) (length written) k tail (omega arith)
          ∙ ap (λ (m : ℕ). get_or written m no_show) (sym same)
          ∙ get_or-set_same ss n (kept s t) no_show h.1
          ∙ ap (λ (m : ℕ). kept (get_or ss m no_show) (plain_text (value_at vs m))) same
      | inr other ↦
          let stays : get_or written k no_show ≡ get_or ss k no_show = get_or-set_other ss n k (kept s t) no_show (λ (e : k ≡ n). other (sym e)) in
          let more = still n k ns ss vs other there in
          kept_named written vs ns (n + 1) k tail
          (subst (λ (o : Shown). Contains ns k ⊎ (kept o (plain_text (value_at vs k)) ≡ o)) (sym stays) more)
          ∙ ap (λ (o : Shown). kept o (plain_text (value_at vs k))) stays
    ]
  where
    still : (n k : ℕ) (ns : List ℕ) (ss : List Shown) (vs : List Now) → (n ≡ k → ⊥)
        → Contains (n ∷ ns) k ⊎ (kept (get_or ss k no_show) (plain_text (value_at vs k)) ≡ get_or ss k no_show)
        → Contains ns k ⊎ (kept (get_or ss k no_show) (plain_text (value_at vs k)) ≡ get_or ss k no_show)
    still n k ns ss vs other (inr same) = inr same
    still n k ns ss vs other (inl c) = elim (contains_cases n k ns c) [
      | inl e ↦ absurd (other e)
      | inr d ↦ inl d
    ]

-- a line is never empty
line_is_there : (time : ℕ) (name text : List ℕ) → line time name text ≡ [] → ⊥
line_is_there time name text h = omega (arith, ap length h, length-append {A = ℕ})

by_test : (b : Bool) (old text l : List ℕ) → (b ≡ true → old ≡ text) → (l ≡ [] → ⊥) → (let r : List ℕ = if b then [] else l in r) ≡ [] → Some text ≡ Some old
by_test true old text l same there h = ap Some (sym (same refl))
by_test false old text l same there h = absurd (there h)

last_is : (o : Option (List ℕ)) (text l : List ℕ) → (l ≡ [] → ⊥) → unless_last o text l ≡ [] → Some text ≡ o
last_is None text l there h = absurd (there h)
last_is (Some old) text l there h = by_test (bytes_eq old text) old text l (λ e. (bytes_eq-Decides old text).0 e) there h

-- where nothing is printed of a value, its text is kept already
pub kept_already : (time : ℕ) (s : Shown) (v : Now) → shown_text time s (Ok v) ≡ [] → kept s (plain_text v) ≡ s
kept_already time s (Plain v) h =
    let e = last_is s.last (value_text v) (line time s.name (value_text v)) (line_is_there time s.name (value_text v)) h in
    ap (λ (o : Option (List ℕ)). let r : Shown = record { name = s.name; last = o } in r) e
kept_already time s (Occ o) h = refl

-- what values that don't err leave
next_is : (s : Shown) (v : Now) → kept s (plain_text v) ≡ next_shown s (Ok v)
next_is s (Plain v) = refl
next_is s (Occ o) = refl

length_next : (ss : List Shown) (vs : List Now) → length (next_each ss (map (λ v. Ok v) vs)) ≡ length ss
length_next [] vs = refl
length_next (s ∷ ss) [] = refl
length_next (s ∷ ss) (v ∷ vs) = ap (λ (n : ℕ). suc n) (length_next ss vs)

pub next_at : (ss : List Shown) (vs : List Now) (k : ℕ) → k < length vs → k < length ss
    → get_or (next_each ss (map (λ v. Ok v) vs)) k no_show ≡ kept (get_or ss k no_show) (plain_text (value_at vs k))
next_at [] vs k few less = absurd (omega arith)
next_at (s ∷ ss) [] k few less = absurd (omega arith)
next_at (s ∷ ss) (v ∷ vs) zero few less = sym (next_is s v)
next_at (s ∷ ss) (v ∷ vs) (suc k) few less = next_at ss vs k (omega arith) (omega arith)

already : (time k : ℕ) (ss : List Shown) (vs : List Now) (ns : List ℕ) → Contains ns k ⊎ (text_at time ss vs k ≡ [])
    → Contains ns k ⊎ (kept (get_or ss k no_show) (plain_text (value_at vs k)) ≡ get_or ss k no_show)
already time k ss vs ns (inl c) = inl c
already time k ss vs ns (inr e) = inr (kept_already time (get_or ss k no_show) (value_at vs k) e)

pub kept_is : (time : ℕ) (shows : List Shown) (values : List Now) (numbers : List ℕ) → length values ≡ length shows → AreAllPrinted time shows values numbers
    → kept_at shows numbers (map (λ n. plain_text (value_at values n)) numbers) ≡ next_each shows (map (λ v. Ok v) values)
kept_is time shows values numbers e h =
    let texts = map (λ n. plain_text (value_at values n)) numbers in
    let long : length (kept_at shows numbers texts) ≡ length shows = length_kept shows numbers texts in
    same_lists _ _ (long ∙ sym (length_next shows values))
    (λ k d less.
    let within : k < length shows = omega arith in
    get_or_default _ k d no_show less
    ∙ kept_named shows values numbers 0 k h.rising (already time k shows values numbers (h.others k within))
    ∙ sym (next_at shows values k (omega arith) within)
    ∙ get_or_default _ k no_show d (let l : k < length (next_each shows (map (λ v. Ok v) values)) = omega (arith, length_next shows values) in l))
