-- Values as plain data, and their size and depth.
use Rattle.std.specs.Prelude.{ℕ, ◌+◌, ◌≤◌, ◌≡◌, Bool, true, ◌&&◌, nat_le, List, [], ◌∷◌, ◌++◌, map, length, drop, max, Option, Some, None}
use Rattle.fr_value.specs.declared.value.Datum.{Datum, fold-Datum, fold-roll-Datum, out-Datum, out-roll-Datum, roll-out-Datum}
use Rattle.fr_value.specs.declared.value.Datum.TheFolds.{map-Datum}
use Rattle.fr_value.specs.declared.value.Datum.TheOpen.{Datum-F}
use Rattle.fr_value.specs.declared.value.Datum.TheVariants as datum
use Rattle.fr_value.specs.declared.value.Datum.TheVariants.{rolls-Int, rolls-Bool, rolls-Sym, rolls-Str, rolls-Seq}
use Rattle.std.proofs.Common.{sym, ◌∙◌, ap, subst, arith}
use Rattle.fr_value.specs.Limits.{most_size, most_depth}
use Rattle.fr_value.specs.Valid.{are_valid}
use Rattle.fr_value.specs.declared.value.Value.{Value}
use Rattle.fr_value.specs.declared.value.Value.TheVariants as value
use Rattle.fr_value.specs.declared.list.Block.{Block}
use Rattle.fr_value.specs.declared.list.More.{More}
use Rattle.fr_value.specs.declared.list.More.TheVariants as more
use Rattle.fr_value.specs.declared.tree.Kids.{Kids}
use Rattle.fr_value.specs.declared.tree.Kids.TheVariants as kids

-- the datum that a value is
abbrev pub datum_of : Value → Datum
datum_of (value.Int n) = datum.Int n
datum_of (value.Bool b) = datum.Bool b
datum_of (value.Sym s) = datum.Sym s
datum_of (value.Str s) = datum.Str s
datum_of (value.List ds) = datum.Seq ds

-- the data that values are
abbrev pub data_of : List Value → List Datum
data_of vs = map datum_of vs

-- the data of two trees
abbrev pub kids_data : Kids → List Datum
kids_data kids.Zero = []
kids_data (kids.Two a b) = (a.value.0 ∷ a.value.1) ++ (b.value.0 ∷ b.value.1)

-- the data of a tree
abbrev pub tree_data : Datum × List Datum → List Datum
tree_data t = t.0 ∷ t.1

-- the data of a tree and a list behind it
abbrev pub more_data : More → List Datum
more_data more.Zero = []
more_data (more.Row t ds) = (t.value.0 ∷ t.value.1) ++ ds

-- the data of a list
abbrev pub list_data : Option Block → List Datum
list_data None = []
list_data (Some b) = data_of b.front.items ++ more_data b.more

-- the number of items that a list keeps
abbrev pub list_len : Option Block → ℕ
list_len None = 0
list_len (Some b) = b.len

-- the size that a list keeps
abbrev pub list_size : Option Block → ℕ
list_size None = 1
list_size (Some b) = b.size

-- the depth that a list keeps
abbrev pub list_depth : Option Block → ℕ
list_depth None = 1
list_depth (Some b) = b.depth

-- the sum of numbers
abbrev pub total : List ℕ → ℕ
total [] = 0
total (n ∷ ns) = n + total ns

-- the greatest of numbers, or 0 where there is none
abbrev pub greatest : List ℕ → ℕ
greatest [] = 0
greatest (n ∷ ns) = max n (greatest ns)

-- a datum's size from the sizes of its items
abbrev size_step : Datum-F ℕ → ℕ
size_step (Datum-F.Int n) = 1
size_step (Datum-F.Bool b) = 1
size_step (Datum-F.Sym s) = 1 + length s
size_step (Datum-F.Str s) = 1 + length s
size_step (Datum-F.Seq ns) = 1 + total ns

-- 1 for an integer or a truth value, 1 and the number of bytes for a symbol or a string, 1 and the items' sizes for a list
unfoldable pub datum_size : Datum → ℕ
datum_size = fold-Datum ℕ size_step

-- the size of a list of these data
abbrev pub data_size : List Datum → ℕ
data_size ds = 1 + total (map datum_size ds)

-- a datum's depth from the depths of its items
abbrev depth_step : Datum-F ℕ → ℕ
depth_step (Datum-F.Int n) = 0
depth_step (Datum-F.Bool b) = 0
depth_step (Datum-F.Sym s) = 0
depth_step (Datum-F.Str s) = 0
depth_step (Datum-F.Seq ns) = 1 + greatest ns

-- 1 and the greatest depth of an item for a list, and 0 for anything else
unfoldable pub datum_depth : Datum → ℕ
datum_depth = fold-Datum ℕ depth_step

-- the depth of a list of these data
abbrev pub data_depth : List Datum → ℕ
data_depth ds = 1 + greatest (map datum_depth ds)

-- the kept numbers are those of the list, and within the limits, and the list's items are valid
pub record IsMeasured (len size depth : ℕ) (ds : List Datum) : Type 0 where
  pub len_is : len ≡ length ds
  pub size_is : size ≡ data_size ds
  pub depth_is : depth ≡ data_depth ds
  pub small : data_size ds ≤ most_size
  pub shallow : data_depth ds ≤ most_depth
  pub valid : are_valid ds ≡ true

-- a list's kept numbers are those of its data
abbrev pub IsKept : Option Block → Type 0
IsKept b = IsMeasured (list_len b) (list_size b) (list_depth b) (list_data b)

step_positive : (f : Datum-F ℕ) → 1 ≤ size_step f
step_positive (Datum-F.Int n) = omega arith
step_positive (Datum-F.Bool b) = omega arith
step_positive (Datum-F.Sym s) = omega arith
step_positive (Datum-F.Str s) = omega arith
step_positive (Datum-F.Seq ns) = omega arith

-- no datum is of size 0
pub datum_positive : (d : Datum) → 1 ≤ datum_size d
unfolding datum_size
datum_positive d = subst (λ e. 1 ≤ fold-Datum ℕ size_step e) (roll-out-Datum d) (subst (λ n. 1 ≤ n) (sym (fold-roll-Datum ℕ size_step (out-Datum d))) (step_positive (map-Datum Datum ℕ (fold-Datum ℕ size_step) (out-Datum d))))

-- there are no more items than their sizes together
pub length_small : (ds : List Datum) → length ds + 1 ≤ data_size ds
length_small [] = omega arith
length_small (d ∷ ds) = omega (arith, datum_positive d, length_small ds)

pub total-append : (xs ys : List Datum) → total (map datum_size (xs ++ ys)) ≡ total (map datum_size xs) + total (map datum_size ys)
total-append [] ys = omega arith
total-append (x ∷ xs) ys = omega (arith, total-append xs ys)

pub seq_size : (ds : List Datum) → datum_size (datum.Seq ds) ≡ data_size ds
unfolding datum_size
seq_size ds = ap (fold-Datum ℕ size_step) (sym (rolls-Seq ds)) ∙ fold-roll-Datum ℕ size_step (Datum-F.Seq ds)

pub seq_depth : (ds : List Datum) → datum_depth (datum.Seq ds) ≡ data_depth ds
unfolding datum_depth
seq_depth ds = ap (fold-Datum ℕ depth_step) (sym (rolls-Seq ds)) ∙ fold-roll-Datum ℕ depth_step (Datum-F.Seq ds)

-- a value from one layer of a datum
abbrev pub value_at : Datum-F Datum → Value
value_at (Datum-F.Int n) = value.Int n
value_at (Datum-F.Bool b) = value.Bool b
value_at (Datum-F.Sym s) = value.Sym s
value_at (Datum-F.Str s) = value.Str s
value_at (Datum-F.Seq ds) = value.List ds

-- the value that is this datum
abbrev pub value_of : Datum → Value
value_of d = value_at (out-Datum d)

pub value_of-datum_of : (v : Value) → value_of (datum_of v) ≡ v
value_of-datum_of (value.Int n) = ap value_at (ap out-Datum (sym (rolls-Int n)) ∙ out-roll-Datum (Datum-F.Int n))
value_of-datum_of (value.Bool b) = ap value_at (ap out-Datum (sym (rolls-Bool b)) ∙ out-roll-Datum (Datum-F.Bool b))
value_of-datum_of (value.Sym s) = ap value_at (ap out-Datum (sym (rolls-Sym s)) ∙ out-roll-Datum (Datum-F.Sym s))
value_of-datum_of (value.Str s) = ap value_at (ap out-Datum (sym (rolls-Str s)) ∙ out-roll-Datum (Datum-F.Str s))
value_of-datum_of (value.List ds) = ap value_at (ap out-Datum (sym (rolls-Seq ds)) ∙ out-roll-Datum (Datum-F.Seq ds))

pub datum_one : (v w : Value) → datum_of v ≡ datum_of w → v ≡ w
datum_one v w e = sym (value_of-datum_of v) ∙ ap value_of e ∙ value_of-datum_of w

-- the size of a value
abbrev pub value_size : Value → ℕ
value_size (value.Int n) = 1
value_size (value.Bool b) = 1
value_size (value.Sym s) = 1 + length s
value_size (value.Str s) = 1 + length s
value_size (value.List ds) = data_size ds

-- the depth of a value
abbrev pub value_depth : Value → ℕ
value_depth (value.Int n) = 0
value_depth (value.Bool b) = 0
value_depth (value.Sym s) = 0
value_depth (value.Str s) = 0
value_depth (value.List ds) = data_depth ds

pub size-of : (v : Value) → datum_size (datum_of v) ≡ value_size v
unfolding datum_size
size-of (value.Int n) = ap datum_size (sym (rolls-Int n)) ∙ fold-roll-Datum ℕ size_step (Datum-F.Int n)
size-of (value.Bool b) = ap datum_size (sym (rolls-Bool b)) ∙ fold-roll-Datum ℕ size_step (Datum-F.Bool b)
size-of (value.Sym s) = ap datum_size (sym (rolls-Sym s)) ∙ fold-roll-Datum ℕ size_step (Datum-F.Sym s)
size-of (value.Str s) = ap datum_size (sym (rolls-Str s)) ∙ fold-roll-Datum ℕ size_step (Datum-F.Str s)
size-of (value.List ds) = seq_size ds

pub depth-of : (v : Value) → datum_depth (datum_of v) ≡ value_depth v
unfolding datum_depth
depth-of (value.Int n) = ap datum_depth (sym (rolls-Int n)) ∙ fold-roll-Datum ℕ depth_step (Datum-F.Int n)
depth-of (value.Bool b) = ap datum_depth (sym (rolls-Bool b)) ∙ fold-roll-Datum ℕ depth_step (Datum-F.Bool b)
depth-of (value.Sym s) = ap datum_depth (sym (rolls-Sym s)) ∙ fold-roll-Datum ℕ depth_step (Datum-F.Sym s)
depth-of (value.Str s) = ap datum_depth (sym (rolls-Str s)) ∙ fold-roll-Datum ℕ depth_step (Datum-F.Str s)
depth-of (value.List ds) = seq_depth ds

-- a list of these data is within the limits on size and depth
abbrev pub AreFew : List Datum → Type 0
AreFew ds = (data_size ds ≤ most_size) × (data_depth ds ≤ most_depth)

-- the same as a test
abbrev pub few : List Datum → Bool
few ds = nat_le (data_size ds) most_size && nat_le (data_depth ds) most_depth

-- the data behind the first, if there is one
abbrev pub behind : List Datum → Option (List Datum)
behind [] = None
behind (d ∷ ds) = Some ds

-- a value stands at an index, and these values right behind it
abbrev pub IsRun : List Datum → ℕ → Value → List Value → Type 0
IsRun ds at v vs = drop at ds ≡ datum_of v ∷ (data_of vs ++ drop (at + 1 + length vs) ds)
