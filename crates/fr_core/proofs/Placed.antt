-- An entry that is put in its place.
use Rattle.std.proofs.Common.{◌≡◌, ◌≢◌, ◌+◌, ◌≤◌, ◌<◌, ◌==◌, ℕ, nat_lt, true, false, if◌then◌else◌, List, [], ◌∷◌, length, Option, Some, None, refl, sym, ap, arith, add-one}
use Rattle.std.specs.List.{insert}
use Rattle.std.proofs.lemmas.Bool.{ltb-true, ltb-false, eq-eqb}
use Rattle.std.proofs.lemmas.Option.{none-some}
use Rattle.fr_value.specs.declared.ids.SrcId.{SrcId}
use Rattle.fr_value.specs.declared.value.Value.{Value}
use Rattle.fr_core.specs.declared.inputs.Entry.{Entry}
use Rattle.fr_core.specs.Sets.{AllBehind, AreRising, value_in, place_in, placed}

-- the place is one of the list, or its end
pub place_within : (source : SrcId) (es : List Entry) → place_in source es ≤ length es
place_within source [] = omega arith
place_within source (e ∷ es) = elim (nat_lt source.0 e.source.0) as (λ t. (if t then 0 else place_in source es + 1) ≤ length (e ∷ es)) [ true ↦ omega arith | false ↦ omega (arith, place_within source es) ]

-- to put an entry in its place is to insert it there
pub placed_inserts : (new : Entry) (es : List Entry) → insert es (place_in new.source es) new ≡ placed new es
placed_inserts new [] = refl
placed_inserts new (e ∷ es) = elim (nat_lt new.source.0 e.source.0) as (λ t. insert (e ∷ es) (if t then 0 else place_in new.source es + 1) new ≡ (if t then new ∷ e ∷ es else e ∷ placed new es)) [
  | true ↦ refl
  | false ↦ rw add-one (ap (λ xs. e ∷ xs) (placed_inserts new es))
]

behind_more : (a b : SrcId) (es : List Entry) → a.0 < b.0 → AllBehind b es → AllBehind a es
behind_more a b [] h k = tt
behind_more a b (e ∷ es) h k = (omega (arith, h, k.0), behind_more a b es h k.1)

behind_placed : (a : SrcId) (new : Entry) (es : List Entry) → a.0 < new.source.0 → AllBehind a es → AllBehind a (placed new es)
behind_placed a new [] h k = (h, tt)
behind_placed a new (e ∷ es) h k = elim (nat_lt new.source.0 e.source.0) as (λ t. AllBehind a (if t then new ∷ e ∷ es else e ∷ placed new es)) [
  | true ↦ (h, k)
  | false ↦ (k.0, behind_placed a new es h k.1)
]

-- a source that isn't in a list is none of its entries'
differs : (source : SrcId) (e : Entry) (es : List Entry) → value_in source (e ∷ es) ≡ None → e.source.0 ≢ source.0
differs source e es h = λ same. let a : Path (Option Value) (Some e.value) None = rw (eq-eqb _ _ same) at h in cc

elsewhere : (source : SrcId) (e : Entry) (es : List Entry) → value_in source (e ∷ es) ≡ None → value_in source es ≡ None
elsewhere source e es h = elim (e.source.0 == source.0) as (λ t. (if t then Some e.value else value_in source es) ≡ None → value_in source es ≡ None) [ true ↦ λ h. absurd (none-some _ (sym h)) | false ↦ λ h. h ] h

-- an entry of a new source leaves the sources rising
pub placed_rises : (new : Entry) (es : List Entry) → value_in new.source es ≡ None → AreRising es → AreRising (placed new es)
placed_rises new [] h k = (tt, tt)
placed_rises new (e ∷ es) h k = elim (nat_lt new.source.0 e.source.0) as (λ t. nat_lt new.source.0 e.source.0 ≡ t → AreRising (if t then new ∷ e ∷ es else e ∷ placed new es)) [
  | true ↦ λ is. let less = ltb-true _ _ is in ((less, behind_more new.source e.source es less k.0), k)
  | false ↦ λ is. (behind_placed e.source new es (omega (arith, ltb-false _ _ is, differs new.source e es h)) k.0, placed_rises new es (elsewhere new.source e es h) k.1)
] refl

-- the same, where the place was found in the list as it was read
pub placed_at : (held read seen : List Entry) (at : ℕ) (new : Entry) → read ≡ held → held ≡ seen → at ≡ place_in new.source read → insert held at new ≡ placed new seen
placed_at held read seen at new r s h = rw (h, r, s) (placed_inserts new seen)
