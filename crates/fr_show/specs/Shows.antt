-- What is printed of values that don't err, and what the shows keep of them.
use Rattle.std.specs.Prelude.{◌≡◌, ◌⊎◌, ℕ, ◌+◌, ◌<◌, ◌≤◌, List, [], ◌∷◌, length, slice_get, slice_index_or, slice_set, Contains, Option, Some, None, Ok, refl}
use Rattle.std.specs.Option.{option_and_then}
use Rattle.std.specs.Coded.{Coded, code_by, coded×, coded_ℕ, coded_list, coded_option}
use Rattle.fr_value.specs.declared.now.Now.{Now}
use Rattle.fr_value.specs.declared.now.Now.TheVariants.{Plain, Occ}
use Rattle.fr_meaning.specs.Texts.{Shown, value_text, shown_text}

-- how two shows are told apart
abbrev pub shown_code : Coded Shown
shown_code = code_by (List ℕ × Option (List ℕ)) (coded× (coded_list coded_ℕ) (coded_option (coded_list coded_ℕ))) (λ s. (s.name, s.last)) (λ p. record { name = p.0; last = p.1 }) (λ _. refl)

-- the text of a plain value, which is kept; nothing is kept of an event
abbrev pub plain_text : Now → Option (List ℕ)
plain_text (Plain v) = Some (value_text v)
plain_text (Occ o) = None

-- the show afterwards, where this text is kept, or none
abbrev pub kept : Shown → Option (List ℕ) → Shown
kept s None = s
kept s (Some text) = record { name = s.name; last = Some text }

-- numbers in rising order, the first of them at least one number and the last below another
abbrev pub RiseFrom : ℕ → ℕ → List ℕ → Type 0
RiseFrom low count [] = Unit {0}
RiseFrom low count (n ∷ ns) = (low ≤ n) × (n < count) × RiseFrom (n + 1) count ns

-- the show with this number, and its value; past the end one of which nothing is printed
abbrev pub show_at : List Shown → ℕ → Shown
show_at shows n = slice_index_or shows n (record { name = []; last = None })

abbrev pub value_at : List Now → ℕ → Now
value_at values n = slice_index_or values n (Occ None)

-- what is printed of the show with this number, where the shows have these values
abbrev pub text_at : ℕ → List Shown → List Now → ℕ → List ℕ
text_at time shows values n = shown_text time (show_at shows n) (Ok (value_at values n))

-- these are numbers of shows, each once and in rising order, and nothing is printed of any other show
pub record AreAllPrinted (time : ℕ) (shows : List Shown) (values : List Now) (numbers : List ℕ) : Type 0 where
  pub rising : RiseFrom 0 (length shows) numbers
  pub others : (n : ℕ) → n < length shows → Contains numbers n ⊎ (text_at time shows values n ≡ [])

-- all shows afterwards, where these texts are kept of the shows with these numbers
abbrev pub kept_at : List Shown → List ℕ → List (Option (List ℕ)) → List Shown
kept_at shows [] texts = shows
kept_at shows (n ∷ ns) [] = shows
kept_at shows (n ∷ ns) (text ∷ texts) = kept_at (slice_set shows n (kept (show_at shows n) text)) ns texts

-- the last plain text of the show at an index, if there is that show and it had one
abbrev pub last_at : List Shown → ℕ → Option (List ℕ)
last_at ss k = option_and_then (λ s. s.last) (slice_get ss k)
