-- Which data values are.
use Rattle.std.specs.Prelude.{ℕ, ℤ, pos, negsuc, ◌^◌, ◌≡◌, Bool, true, ◌&&◌, nat_lt, List, [], ◌∷◌, map}
use Rattle.std.specs.Str.{is_utf8}
use Rattle.std.proofs.Common.{sym, ◌∙◌, ap}
use Rattle.fr_value.specs.declared.value.Datum.{Datum, fold-Datum, fold-roll-Datum}
use Rattle.fr_value.specs.declared.value.Datum.TheOpen.{Datum-F}
use Rattle.fr_value.specs.declared.value.Datum.TheVariants as datum
use Rattle.fr_value.specs.declared.value.Datum.TheVariants.{rolls-Int, rolls-Bool, rolls-Sym, rolls-Str, rolls-Seq}
use Rattle.fr_value.specs.Bytes.{is_name, is_short}
use Rattle.fr_value.specs.Limits.{integer_bound}

-- a number lies in the signed 64-bit range
abbrev pub fits : ℤ → Bool
fits (pos n) = nat_lt n integer_bound
fits (negsuc n) = nat_lt n integer_bound

-- all of these are true
abbrev pub all_true : List Bool → Bool
all_true [] = true
all_true (b ∷ bs) = b && all_true bs

-- whether a datum is valid, from whether its items are
abbrev valid_step : Datum-F Bool → Bool
valid_step (Datum-F.Int n) = fits n
valid_step (Datum-F.Bool b) = true
valid_step (Datum-F.Sym s) = is_name s && is_short s
valid_step (Datum-F.Str s) = is_utf8 s && is_short s
valid_step (Datum-F.Seq bs) = all_true bs

-- integers lie in the signed 64-bit range, symbols are those of the grammar, strings are UTF-8, and both are short, on every level of its lists
unfoldable pub is_valid : Datum → Bool
is_valid = fold-Datum Bool valid_step

-- all data are valid
abbrev pub are_valid : List Datum → Bool
are_valid ds = all_true (map is_valid ds)

pub valid-Int : (n : ℤ) → is_valid (datum.Int n) ≡ fits n
unfolding is_valid
valid-Int n = ap (fold-Datum Bool valid_step) (sym (rolls-Int n)) ∙ fold-roll-Datum Bool valid_step (Datum-F.Int n)

pub valid-Bool : (b : Bool) → is_valid (datum.Bool b) ≡ true
unfolding is_valid
valid-Bool b = ap (fold-Datum Bool valid_step) (sym (rolls-Bool b)) ∙ fold-roll-Datum Bool valid_step (Datum-F.Bool b)

pub valid-Sym : (s : List ℕ) → is_valid (datum.Sym s) ≡ (is_name s && is_short s)
unfolding is_valid
valid-Sym s = ap (fold-Datum Bool valid_step) (sym (rolls-Sym s)) ∙ fold-roll-Datum Bool valid_step (Datum-F.Sym s)

pub valid-Str : (s : List ℕ) → is_valid (datum.Str s) ≡ (is_utf8 s && is_short s)
unfolding is_valid
valid-Str s = ap (fold-Datum Bool valid_step) (sym (rolls-Str s)) ∙ fold-roll-Datum Bool valid_step (Datum-F.Str s)

pub valid-Seq : (ds : List Datum) → is_valid (datum.Seq ds) ≡ are_valid ds
unfolding is_valid
valid-Seq ds = ap (fold-Datum Bool valid_step) (sym (rolls-Seq ds)) ∙ fold-roll-Datum Bool valid_step (Datum-F.Seq ds)
