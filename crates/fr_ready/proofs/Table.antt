-- The table of what was found.
use Rattle.std.proofs.Common.{◌≡◌, ◌≢◌, ◌<◌, ℕ, zero, suc, List, [], ◌∷◌, ◌++◌, length, slice_set, Option, Some, None, Result, Ok, Err, OnOk, refl, sym, ap, subst, ◌∙◌, arith}
use Rattle.fr_value.specs.declared.ids.SiteId.{SiteId}
use Rattle.fr_core.specs.Sites.{site_at}
use Rattle.fr_core.specs.declared.lowered.Low.{Low, out-Low}
use Rattle.fr_core.specs.declared.lowered.Low.TheOpen.{Low-F}
use Rattle.fr_core.specs.declared.lowered.Low.TheVariants as low
use Rattle.fr_core.specs.declared.lowered.Low.TheVariants.{outs-If}
use Rattle.fr_nodes.specs.Kinds.{Choices}
use Rattle.fr_ready.specs.declared.choices.Branches.{Branches}
use Rattle.fr_ready.specs.Seen.{branches_seen, entries_seen}
use Rattle.fr_ready.specs.Switches.{Found, found_at, IsFoundAt, WasNoted}

pub none_more : (es : List (Option Branches)) (n : ℕ) → found_at (entries_seen (es ++ None ∷ [])) n ≡ found_at (entries_seen es) n
none_more [] zero = refl
none_more [] (suc n) = refl
none_more (e ∷ es) zero = refl
none_more (e ∷ es) (suc n) = none_more es n

pub put_here : (es : List (Option Branches)) (i : ℕ) (b : Branches) → i < length es → found_at (entries_seen (slice_set es i (Some b))) i ≡ Some (branches_seen b)
put_here [] i b h = absurd (omega (arith, h))
put_here (e ∷ es) zero b h = refl
put_here (e ∷ es) (suc i) b h = put_here es i b (omega (arith, h))

pub put_elsewhere : (es : List (Option Branches)) (i : ℕ) (b : Branches) (n : ℕ) → n ≢ i → found_at (entries_seen (slice_set es i (Some b))) n ≡ found_at (entries_seen es) n
put_elsewhere [] i b n h = refl
put_elsewhere (e ∷ es) zero b zero h = absurd (h refl)
put_elsewhere (e ∷ es) zero b (suc n) h = refl
put_elsewhere (e ∷ es) (suc i) b zero h = refl
put_elsewhere (e ∷ es) (suc i) b (suc n) h = put_elsewhere es i b n (λ k. h (omega (arith, k)))

-- a switch whose choices were put was noted
pub noted : {T E : Type 0} (r : Result T E) (old new : Found) (e : Low) (site : SiteId) (test a b first second : Low) → e ≡ low.If site test a b → first ≡ a → second ≡ b → OnOk r (found_at new site.0 ≡ Some (record { yes = first; no = second }))
    → OnOk r ((n : ℕ) → n ≢ site.0 → found_at new n ≡ found_at old n) → OnOk r (WasNoted old new e)
noted (Err x) old new e site test a b first second is y n h g = tt
noted (Ok x) old new e site test a b first second is y n h g =
    let shape : out-Low e ≡ Low-F.If site test a b = ap out-Low is ∙ outs-If site test a b in
    let given : Choices = record { yes = first; no = second } in
    let own : Choices = record { yes = a; no = b } in
    let same : given ≡ own = λ i. record { yes = y i; no = n i } in
    let both : Some given ≡ Some own = ap (λ (c : Choices). Some c) same in
    record {
      here = subst (IsFoundAt new) (sym shape) (h ∙ both);
      elsewhere = λ k apart. g k (apart site (ap site_at shape));
    }
