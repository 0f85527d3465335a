-- What is found by halving among entries whose sources rise.
use Rattle.std.proofs.Common.{◌≡◌, ◌≢◌, ◌≤◌, ◌<◌, ℕ, zero, suc, leb, true, false, List, [], ◌∷◌, length, get_or, Some, None, Ok, Err, inl, inr, refl, sym, arith}
use Rattle.std.specs.List.Sorted.{IsNonDecreasingBy, IsPartitionPoint, IsBinarySearchResult}
use Rattle.std.specs.Ordering.{nat_cmp, ordering_index}
use Rattle.std.proofs.lemmas.Cmp.{ranked}
use Rattle.std.proofs.lemmas.Bool.{cases_lt}
use Rattle.std.proofs.lemmas.Bool.Decides.{nat_tests}
use Rattle.fr_value.specs.declared.ids.SrcId.{SrcId}
use Rattle.fr_core.specs.declared.inputs.Entry.{Entry}
use Rattle.fr_core.specs.Sets.{AllBehind, AreRising, value_in, place_in}

-- each entry's source comes behind
behind_at : (source : SrcId) (es : List Entry) → AllBehind source es → (j : ℕ) (d : Entry) → j < length es → source.0 < (get_or es j d).source.0
behind_at source [] h j d k = omega (arith, k)
behind_at source (e ∷ es) h zero d k = h.0
behind_at source (e ∷ es) h (suc j) d k = behind_at source es h.1 j d (omega (arith, k))

pub sources_rise : (es : List Entry) → AreRising es → IsNonDecreasingBy (λ e. e.source.0) es
sources_rise [] h i j d l k = omega (arith, k)
sources_rise (e ∷ es) h zero zero d l k = omega arith
sources_rise (e ∷ es) h zero (suc j) d l k = omega (arith, behind_at e.source es h.0 j d (omega (arith, k)))
sources_rise (e ∷ es) h (suc i) zero d l k = omega (arith, l)
sources_rise (e ∷ es) h (suc i) (suc j) d l k = sources_rise es h.1 i j d (omega (arith, l)) (omega (arith, k))

-- where the sources that come no later end is the place of a new one
pub parted_place : (source : SrcId) (es : List Entry) (i : ℕ) → i ≤ length es → IsPartitionPoint (λ e. leb e.source.0 source.0 ≡ true) (λ e. leb e.source.0 source.0 ≡ false) es i → i ≡ place_in source es
parted_place source [] i h k = omega (arith, h)
parted_place source (e ∷ es) zero h k = let later = k.1 0 e (omega arith) (omega arith) in grind (arith, nat_tests, later)
parted_place source (e ∷ es) (suc i) h k =
    let sooner = k.0 0 e (omega arith) (omega arith) in
    let more = parted_place source es i (omega (arith, h)) (λ j d l m. k.0 (suc j) d (omega (arith, l)) (omega (arith, m)), λ j d l m. k.1 (suc j) d (omega (arith, l)) (omega (arith, m))) in
    grind (arith, nat_tests, sooner, more)

-- a source that no entry has isn't in the list
absent : (source : SrcId) (es : List Entry) → ((j : ℕ) (d : Entry) → j < length es → (get_or es j d).source.0 ≢ source.0) → value_in source es ≡ None
absent source [] h = refl
absent source (e ∷ es) h = grind (arith, nat_tests, h 0 e (omega arith), absent source es (λ j d k. h (suc j) d (omega (arith, k))))

-- the entry at an index has the value, where the sources rise
present : (source : SrcId) (es : List Entry) → AreRising es → (i : ℕ) (d : Entry) → i < length es → (get_or es i d).source.0 ≡ source.0 → value_in source es ≡ Some (get_or es i d).value
present source [] h i d k s = absurd (omega (arith, k))
present source (e ∷ es) h zero d k s = grind (arith, nat_tests, s)
present source (e ∷ es) h (suc i) d k s =
    let behind = behind_at e.source es h.0 i d (omega (arith, k)) in
    let more = present source es h.1 i d (omega (arith, k)) s in
    grind (arith, nat_tests, behind, s, more)

-- the comparisons with a source rise, as a binary search asks
comparisons_rise : (source : SrcId) (es : List Entry) → AreRising es → IsNonDecreasingBy (λ e. ordering_index (nat_cmp e.source.0 source.0)) es
comparisons_rise source es h i j d l k = let rises = sources_rise es h i j d l k in grind (arith, nat_tests, rises)

pub searched_there : (source : SrcId) (es : List Entry) → AreRising es → (i : ℕ) (d : Entry) → i < length es → IsBinarySearchResult (λ e. nat_cmp e.source.0 source.0) es (Ok i) → Some (get_or es i d).value ≡ value_in source es
searched_there source es h i d k s = sym (present source es h i d k (ranked _ source.0 _ (sym (s d))))

pub searched_nowhere : (source : SrcId) (es : List Entry) → AreRising es → (i : ℕ) → IsBinarySearchResult (λ e. nat_cmp e.source.0 source.0) es (Err i) → None ≡ value_in source es
searched_nowhere source es h i s = sym (absent source es (λ j d k same. apart j d k same))
  where
    apart : (j : ℕ) (d : Entry) → j < length es → (get_or es j d).source.0 ≢ source.0
    apart j d k same = elim (cases_lt j i) [
      | inl before ↦ omega (arith, ranked _ source.0 _ (sym ((s (comparisons_rise source es h)).0 j d (omega arith) before)), same)
      | inr behind ↦ omega (arith, ranked _ source.0 _ (sym ((s (comparisons_rise source es h)).1 j d behind k)), same)
    ]
