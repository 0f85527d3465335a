-- Writings one after the other, source by source.
use Rattle.std.proofs.Common.{◌≡◌, ◌≢◌, ℕ, zero, suc, ◌+◌, ◌≤◌, List, [], ◌∷◌, None, map, refl, sym, ap, ◌∙◌, arith}
use Rattle.std.proofs.lemmas.Bool.{eq-eqb, ne_eqb}
use Rattle.fr_value.specs.declared.ids.SrcId.{SrcId}
use Rattle.fr_value.specs.declared.value.Value.{Value}
use Rattle.fr_value.specs.declared.now.Now.{Now}
use Rattle.fr_value.specs.declared.now.Now.TheVariants.{Plain}
use Rattle.fr_core.specs.Sets.{value_in, AllBehind, AreRising}
use Rattle.fr_core.specs.WellFormed.{AllAbove, Rises}
use Rattle.fr_core.specs.declared.inputs.Entry.{Entry}
use Rattle.fr_core.specs.declared.program.Input.{Input}
use Rattle.fr_meaning.specs.Afresh.{input_value}
use Rattle.fr_sources.specs.Writes.{with_at, written, all_written, firsts_put}
use Rattle.fr_sources.specs.Each.{each_at, by_entries, firsts, by_firsts}

-- two ways to change that agree from number k on
each_same : (g h : ℕ → Now → Now) (xs : List Now) (k : ℕ) → ((n : ℕ) (x : Now) → k ≤ n → g n x ≡ h n x) → each_at g xs k ≡ each_at h xs k
each_same g h [] k same = refl
each_same g h (x ∷ xs) k same = rw (same k x (omega arith), each_same g h xs (k + 1) (λ n y l. same n y (omega (arith, l)))) refl

-- one value changed, and then each, is the same as each changed the other way
each_with : (g h : ℕ → Now → Now) (f : Now → Now) (n : ℕ) → ((x : Now) → g n (f x) ≡ h n x) → ((k : ℕ) (x : Now) → k ≢ n → g k x ≡ h k x)
    → (xs : List Now) (k m : ℕ) → k + m ≡ n → each_at g (with_at f m xs) k ≡ each_at h xs k
each_with g h f n here other [] k m e = refl
each_with g h f n here other (x ∷ xs) k zero e =
    let at : k ≡ n = omega (arith, e) in
    let head : g k (f x) ≡ h k x = rw at (here x) in
    rw (head, each_same g h xs (k + 1) (λ j y l. other j y (λ q. omega (arith, at, l, q)))) refl
each_with g h f n here other (x ∷ xs) k (suc m) e =
    rw (other k x (λ q. omega (arith, e, q)), each_with g h f n here other xs (k + 1) m (omega (arith, e))) refl

each_nothing : (xs : List Now) (k : ℕ) → xs ≡ each_at (λ n x. x) xs k
each_nothing [] k = refl
each_nothing (x ∷ xs) k = ap (λ ys. x ∷ ys) (each_nothing xs (k + 1))

not_in : (source : SrcId) (es : List Entry) → AllBehind source es → value_in source es ≡ None
not_in source [] h = refl
not_in source (e ∷ es) h = rw (ne_eqb e.source.0 source.0 (λ q. omega (arith, h.0, q))) (not_in source es h.1)

-- each source has what is set for it
pub written_each : (es : List Entry) (xs : List Now) → AreRising es → all_written es xs ≡ each_at (by_entries es) xs 0
written_each [] xs h = each_nothing xs 0
written_each (e ∷ es) xs h =
    written_each es (with_at (written e.value) e.source.0 xs) h.1 ∙ each_with (by_entries es) (by_entries (e ∷ es)) (written e.value) e.source.0
    (λ x. rw (not_in e.source es h.0, eq-eqb e.source.0 e.source.0 refl) refl)
    (λ k x other. rw (ne_eqb e.source.0 k (λ q. other (sym q))) refl) xs 0 e.source.0 (omega arith)

no_input : (n : ℕ) (is : List Input) (vs : List Value) → AllAbove n (map (λ i. i.source.0) is) → input_value is vs n ≡ None
no_input n [] vs h = refl
no_input n (i ∷ is) [] h = refl
no_input n (i ∷ is) (v ∷ vs) h = rw (ne_eqb i.source.0 n (λ e. omega (arith, h.0, e))) (no_input n is vs h.1)

-- each input has its first value
pub firsts_each : (is : List Input) (xs : List Now) → Rises (map (λ i. i.source.0) is) → firsts_put is xs ≡ each_at (by_firsts is) xs 0
firsts_each [] xs h = each_nothing xs 0
firsts_each (i ∷ is) xs h =
    firsts_each is (with_at (λ _. Plain i.first) i.source.0 xs) h.1 ∙ each_with (by_firsts is) (by_firsts (i ∷ is)) (λ _. Plain i.first) i.source.0
    (λ x. rw (no_input i.source.0 is (firsts is) h.0, eq-eqb i.source.0 i.source.0 refl) refl)
    (λ k x other. rw (ne_eqb i.source.0 k (λ q. other (sym q))) refl) xs 0 i.source.0 (omega arith)
