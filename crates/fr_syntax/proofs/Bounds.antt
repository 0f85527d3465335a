-- Bounds on what may be there, and the sizes of data.
use Rattle.std.specs.Prelude.{ℕ, ◌≡◌, ◌+◌, ◌≤◌, Option, Some, None}
use Rattle.std.proofs.Common.{sym, ◌∙◌, ap, arith}
use Rattle.std.specs.Option.{option_map, option_and_then}
use Rattle.fr_value.specs.Data.{datum_of, datum_size, value_size, value_of, value_at, size-of}
use Rattle.fr_value.specs.declared.value.Datum.{Datum, out-Datum, roll-Datum, roll-out-Datum}
use Rattle.fr_value.specs.declared.value.Datum.TheOpen.{Datum-F}
use Rattle.fr_value.specs.declared.value.Datum.TheVariants.{rolls-Int, rolls-Bool, rolls-Sym, rolls-Str, rolls-Seq}
use Rattle.fr_value.specs.declared.value.Value.{Value}
use Rattle.fr_value.specs.declared.value.Value.TheVariants as value

-- where there is one, it is at most that large
abbrev pub AtMost : {A : Type 0} → (A → ℕ) → ℕ → Option A → Type 0
AtMost size n None = Unit {0}
AtMost size n (Some a) = size a ≤ n

pub then_small : {A B : Type 0} (f : A → Option B) (o : Option A) (before : A → ℕ) (after : B → ℕ) (n m : ℕ)
    → AtMost before n o → ((a : A) → before a ≤ n → AtMost after m (f a)) → AtMost after m (option_and_then f o)
then_small f None before after n m h g = tt
then_small f (Some a) before after n m h g = g a h

pub map_small : {A B : Type 0} (f : A → B) (o : Option A) (before : A → ℕ) (after : B → ℕ) (n m : ℕ)
    → AtMost before n o → ((a : A) → before a ≤ n → after (f a) ≤ m) → AtMost after m (option_map f o)
map_small f None before after n m h g = tt
map_small f (Some a) before after n m h g = g a h

pub wider : {A : Type 0} (o : Option A) (size : A → ℕ) (n m : ℕ) → AtMost size n o → n ≤ m → AtMost size m o
wider None size n m h k = tt
wider (Some a) size n m h k = omega (arith, h, k)

pub one_wider : {A : Type 0} (o : Option A) (size : A → ℕ) (n m : ℕ) → AtMost size n o → 1 + n ≤ m → AtMost (λ a. 1 + size a) m o
one_wider None size n m h k = tt
one_wider (Some a) size n m h k = omega (arith, h, k)

pub free : {A : Type 0} (o : Option A) → AtMost (λ a. 0) 0 o
free None = tt
free (Some a) = omega arith

back_at : (l : Datum-F Datum) → datum_of (value_at l) ≡ roll-Datum l
back_at (Datum-F.Int n) = sym (rolls-Int n)
back_at (Datum-F.Bool b) = sym (rolls-Bool b)
back_at (Datum-F.Sym s) = sym (rolls-Sym s)
back_at (Datum-F.Str s) = sym (rolls-Str s)
back_at (Datum-F.Seq ds) = sym (rolls-Seq ds)

-- a datum is as large as the value that it is
pub same_size : (d : Datum) → value_size (value_of d) ≡ datum_size d
same_size d = sym (size-of (value_of d)) ∙ ap datum_size (back_at (out-Datum d) ∙ roll-out-Datum d)

value_positive : (v : Value) → 1 ≤ value_size v
value_positive (value.Int n) = omega arith
value_positive (value.Bool b) = omega arith
value_positive (value.Sym s) = omega arith
value_positive (value.Str s) = omega arith
value_positive (value.List ds) = omega arith

pub positive : (d : Datum) → 1 ≤ datum_size d
positive d = omega (arith, value_positive (value_of d), same_size d)
