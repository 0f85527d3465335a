-- What a kernel reads from its place is there.
use Rattle.std.proofs.Common.{◌≡◌, ◌+◌, ◌<◌, ◌≤◌, ◌==◌, nat_lt, if◌then◌else◌, ℕ, Bool, true, false, List, [], ◌∷◌, ◌++◌, map, refl, sym, subst, ◌∙◌, arith}
use Rattle.std.proofs.lemmas.Bool.{and_parts}
use Rattle.std.proofs.lemmas.Bool.Decides.{nat_tests}
use Rattle.fr_core.specs.Shapes.{inner, parts_in}
use Rattle.fr_core.specs.WellFormed.{names_something, all_at, is_scoped}
use Rattle.fr_core.specs.declared.core_form.Core.{Core, out-Core}
use Rattle.fr_core.specs.declared.core_form.Core.TheOpen.{Core-F}
use Rattle.fr_core.proofs.Folds.{scoped-opens, Each, by_parts}
use Rattle.fr_meaning.specs.Dependence.{joined, own_source, sources_of, variables}
use Rattle.fr_meaning.proofs.Named.{sources-opens}
use Rattle.fr_kernel.specs.Numbers.{Every}
use Rattle.fr_kernel.specs.Slots.{with_number, in_order, if_below, all_below, slot_of_variable, slot_of_source, slots_of, outer_of, read_by}
use Rattle.fr_ready.specs.Ready.{AreSlotsIn}

every_append : (P : ℕ → Type 0) (ms ns : List ℕ) → Every P ms → Every P ns → Every P (ms ++ ns)
every_append P [] ns h k = k
every_append P (m ∷ ms) ns h k = (h.0, every_append P ms ns h.1 k)

every_with : (P : ℕ → Type 0) (n : ℕ) (ms : List ℕ) → P n → Every P ms → Every P (with_number n ms)
every_with P n [] h k = (h, tt)
every_with P n (m ∷ ms) h k = by (every_with P n ms h k.1) (nat_lt n m) (n == m)
  where
    by : Every P (with_number n ms) → (less same : Bool) → Every P (if less then n ∷ m ∷ ms else if same then m ∷ ms else m ∷ with_number n ms)
    by rest true same = (h, k)
    by rest false true = k
    by rest false false = (k.0, rest)

every_in_order : (P : ℕ → Type 0) (ns : List ℕ) → Every P ns → Every P (in_order ns)
every_in_order P [] h = tt
every_in_order P (n ∷ ns) h = every_with P n (in_order ns) h.0 (every_in_order P ns h.1)

all_below_bound : (bound : ℕ) (ns : List ℕ) → Every (λ x. x < bound) (all_below bound ns)
all_below_bound bound [] = tt
all_below_bound bound (n ∷ ns) = every_append (λ x. x < bound) (if_below bound n) (all_below bound ns) (by (nat_lt n bound) refl) (all_below_bound bound ns)
  where
    by : (t : Bool) → nat_lt n bound ≡ t → Every (λ x. x < bound) (if t then n ∷ [] else [])
    by true e = let less : n < bound = grind (arith, nat_tests) in (less, tt)
    by false e = tt

-- the sources that a scoped expression names are up to the last

own_sources : (functions last n : ℕ) (f : Core-F Core) → names_something functions last f n ≡ true → Every (λ s. s ≤ last) (own_source f)
own_sources functions last n (Core-F.Source s) h = let up : s.0 ≤ last = grind (arith, nat_tests) in (up, tt)
own_sources functions last n (Core-F.Lit v) h = tt
own_sources functions last n (Core-F.Var x) h = tt
own_sources functions last n (Core-F.Let es b) h = tt
own_sources functions last n (Core-F.If a b c) h = tt
own_sources functions last n (Core-F.Apply f es) h = tt
own_sources functions last n (Core-F.Operator o es) h = tt
own_sources functions last n (Core-F.Handler g es b) h = tt
own_sources functions last n (Core-F.Loop l es b) h = tt
own_sources functions last n (Core-F.Feedback a b) h = tt

abbrev Reads : ℕ → ℕ → Core → Type 0
Reads functions last e = (n : ℕ) → is_scoped functions last e n ≡ true → Every (λ s. s ≤ last) (sources_of e)

parts_read : (functions last n : ℕ) (xs : List (ℕ × Core)) → Each (Reads functions last) (map (λ (x : ℕ × Core). x.1) xs) → all_at n (map (λ x. (x.0, is_scoped functions last x.1)) xs) ≡ true
    → Every (λ s. s ≤ last) (joined (map sources_of (map (λ (x : ℕ × Core). x.1) xs)))
parts_read functions last n [] each h = tt
parts_read functions last n (x ∷ xs) each h =
    let both = and_parts (is_scoped functions last x.1 (n + x.0)) (all_at n (map (λ x. (x.0, is_scoped functions last x.1)) xs)) h in
    every_append (λ s. s ≤ last) (sources_of x.1) (joined (map sources_of (map (λ (x : ℕ × Core). x.1) xs))) (each.0 (n + x.0) both.0) (parts_read functions last n xs each.1 both.1)

pub sources_within : (functions last : ℕ) (e : Core) (n : ℕ) → is_scoped functions last e n ≡ true → Every (λ s. s ≤ last) (sources_of e)
sources_within functions last = by_parts (Reads functions last) (λ e each n h.
    let both = and_parts (names_something functions last (out-Core e) n) (all_at n (map (λ x. (x.0, is_scoped functions last x.1)) (inner (out-Core e)))) (sym (scoped-opens functions last e n) ∙ h) in
    subst (Every (λ s. s ≤ last)) (sym (sources-opens e))
    (every_append (λ s. s ≤ last) (own_source (out-Core e)) (joined (map sources_of (parts_in (out-Core e)))) (own_sources functions last n (out-Core e) both.0) (parts_read functions last n (inner (out-Core e)) each both.1)))

-- slots

variables_in : (n many : ℕ) (xs : List ℕ) (rest : List ℕ) → Every (λ x. x < n) xs → AreSlotsIn n many (map slot_of_source rest) → AreSlotsIn n many (map slot_of_variable xs ++ map slot_of_source rest)
variables_in n many [] rest h k = k
variables_in n many (x ∷ xs) rest h k = (h.0, variables_in n many xs rest h.1 k)

sources_in : (n last : ℕ) (ss : List ℕ) → Every (λ s. s ≤ last) ss → AreSlotsIn n (last + 1) (map slot_of_source ss)
sources_in n last [] h = tt
sources_in n last (s ∷ ss) h = let first = h.0 in let less : s < last + 1 = omega (arith, first) in (less, sources_in n last ss h.1)

-- the slots of an expression at a place with so many variables are in scope there
pub slots_in : (functions last n : ℕ) (e : Core) (m : ℕ) → is_scoped functions last e m ≡ true → AreSlotsIn n (last + 1) (slots_of n e)
slots_in functions last n e m h =
    variables_in n (last + 1) (outer_of n e) (read_by e) (every_in_order (λ x. x < n) (all_below n (variables e)) (all_below_bound n (variables e)))
    (sources_in n last (read_by e) (every_in_order (λ s. s ≤ last) (sources_of e) (sources_within functions last e m h)))
