-- Calls apart from the rest: whether an expression is closed or pure over a set is whether it is over any, and calls members alone.
use Rattle.std.proofs.Common.{ℕ, ◌≡◌, ◌==◌, Bool, true, ◌&&◌, List, [], ◌∷◌, map, refl, arith}
use Rattle.std.specs.List.{concat, list_all}
use Rattle.std.proofs.lemmas.Bool.{or_right}
use Rattle.std.proofs.lemmas.Bool.Decides.{nat_tests}
use Rattle.std.proofs.lemmas.List.Folds.{list_all-append}
use Rattle.fr_core.specs.Classes.{FunctionSet, closed_itself, names_only, pure_itself, body_passes, calls_of}
use Rattle.fr_core.specs.Shapes.{parts_of, all_true}
use Rattle.fr_core.specs.declared.core_form.Core.{Core, out-Core}
use Rattle.fr_core.specs.declared.core_form.Core.TheOpen.{Core-F}
use Rattle.fr_core.specs.declared.program.Program.{Program}
use Rattle.fr_core.proofs.Folds.{Each, by_parts, names-opens}
use Rattle.fr_purity.specs.Calls.{calls_itself, calls}
use Rattle.fr_purity.specs.Removal.{has}
use Rattle.fr_purity.proofs.Parts.{calls-opens, pure_in, fit_in, pure-opens, fit-opens}

-- every function
abbrev pub any : FunctionSet
any f = true

abbrev Splits : FunctionSet → (Core → Bool) → (Core → Bool) → Core → Type 0
Splits s f g e = f e ≡ g e && list_all s (calls e)

each_splits : (s : FunctionSet) (f g : Core → Bool) (es : List Core) → Each (Splits s f g) es → all_true (map f es) ≡ all_true (map g es) && list_all s (concat (map calls es))
each_splits s f g [] h = refl
each_splits s f g (e ∷ es) h = grind (arith, h.0, each_splits s f g es h.1, list_all-append {X = ℕ})

-- a test splits where it does for each expression itself
splits : (s : FunctionSet) (f g : Core → Bool) (own some : Core-F Core → Bool)
    → ((e : Core) → f e ≡ own (out-Core e) && all_true (map f (parts_of e))) → ((e : Core) → g e ≡ some (out-Core e) && all_true (map g (parts_of e)))
    → ((l : Core-F Core) → own l ≡ some l && list_all s (calls_itself l)) → (e : Core) → Splits s f g e
splits s f g own some f_is g_is own_is = by_parts (Splits s f g) (λ e h. grind (arith, f_is e, g_is e, own_is (out-Core e), calls-opens e, each_splits s f g (parts_of e) h, list_all-append {X = ℕ}))

own_names_split : (s : FunctionSet) (l : Core-F Core) → closed_itself s l ≡ closed_itself any l && list_all s (calls_itself l)
own_names_split s (Core-F.Apply f es) = grind arith
own_names_split s _ = refl

pub names_split : (s : FunctionSet) (e : Core) → names_only s e ≡ names_only any e && list_all s (calls e)
names_split s = splits s (names_only s) (names_only any) (closed_itself s) (closed_itself any) (names-opens s) (names-opens any) (own_names_split s)

own_pure_split : (p : Program) (s : FunctionSet) (l : Core-F Core) → pure_itself (calls_of p s) l ≡ pure_itself (calls_of p any) l && list_all s (calls_itself l)
own_pure_split p s (Core-F.Apply f es) = grind arith
own_pure_split p s (Core-F.Operator o es) = grind arith
own_pure_split p s _ = refl

pub pure_split : (p : Program) (s : FunctionSet) (e : Core) → pure_in (calls_of p s) e ≡ pure_in (calls_of p any) e && list_all s (calls e)
pure_split p s = splits s (pure_in (calls_of p s)) (pure_in (calls_of p any)) (pure_itself (calls_of p s)) (pure_itself (calls_of p any)) (pure-opens (calls_of p s)) (pure-opens (calls_of p any)) (own_pure_split p s)

-- a function that is called is a member where all are
pub member : (s : FunctionSet) (xs : List ℕ) (n : ℕ) → list_all s xs ≡ true → has xs n ≡ true → s n ≡ true
member s [] n h k = absurd cc
member s (x ∷ xs) n h k = grind (arith, nat_tests, h, k, member s xs n)

-- all are members where each function that is called is one
pub all_members : (s : FunctionSet) (xs : List ℕ) → ((n : ℕ) → has xs n ≡ true → s n ≡ true) → list_all s xs ≡ true
all_members s [] h = refl
all_members s (x ∷ xs) h = grind (arith, nat_tests, h x, all_members s xs (λ n k. h n (or_right (x == n) (has xs n) k)))

-- what is closed over a set is closed over another one in which each function that it calls is a member
pub names_over : (s t : FunctionSet) (e : Core) → names_only s e ≡ true → ((n : ℕ) → has (calls e) n ≡ true → t n ≡ true) → names_only t e ≡ true
names_over s t e h k = grind (arith, h, names_split s e, names_split t e, all_members t (calls e) k)

pub names_members : (s : FunctionSet) (e : Core) (n : ℕ) → names_only s e ≡ true → has (calls e) n ≡ true → s n ≡ true
names_members s e n h k = grind (arith, h, k, names_split s e, member s (calls e) n)

-- what is pure over a set is pure over another one in which each function that it calls is a member
pub pure_over : (p : Program) (s t : FunctionSet) (e : Core) → pure_in (calls_of p s) e ≡ true → ((n : ℕ) → has (calls e) n ≡ true → t n ≡ true) → pure_in (calls_of p t) e ≡ true
pure_over p s t e h k = grind (arith, h, pure_split p s e, pure_split p t e, all_members t (calls e) k)

pub pure_members : (p : Program) (s : FunctionSet) (e : Core) (n : ℕ) → pure_in (calls_of p s) e ≡ true → has (calls e) n ≡ true → s n ≡ true
pure_members p s e n h k = grind (arith, h, k, pure_split p s e, member s (calls e) n)

abbrev Grows : (Core → Bool) → (Core → Bool) → Core → Type 0
Grows f g e = f e ≡ true → g e ≡ true

each_grows : (f g : Core → Bool) (es : List Core) → Each (Grows f g) es → all_true (map f es) ≡ true → all_true (map g es) ≡ true
each_grows f g [] h k = refl
each_grows f g (e ∷ es) h k = grind (arith, h.0, k, each_grows f g es h.1)

own_fit_grows : (c d : ℕ → ℕ → Bool) → ((e : Core) → pure_in c e ≡ true → pure_in d e ≡ true) → (l : Core-F Core) → body_passes (pure_in c) l ≡ true → body_passes (pure_in d) l ≡ true
own_fit_grows c d h (Core-F.Handler o es b) k = h b k
own_fit_grows c d h (Core-F.Loop o es b) k = h b k
own_fit_grows c d h _ k = refl

-- where more is pure, more is fit
pub fit_grows : (c d : ℕ → ℕ → Bool) → ((e : Core) → pure_in c e ≡ true → pure_in d e ≡ true) → (e : Core) → fit_in c e ≡ true → fit_in d e ≡ true
fit_grows c d h = by_parts (Grows (fit_in c) (fit_in d)) (λ e each k. grind (arith, k, fit-opens c e, fit-opens d e, own_fit_grows c d h (out-Core e), each_grows (fit_in c) (fit_in d) (parts_of e) each))
