-- The search for a site, part by part.
use Rattle.std.proofs.Common.{◌≡◌, ◌≢◌, ◌+◌, ◌<◌, ◌≤◌, ℕ, zero, suc, List, [], ◌∷◌, ◌++◌, ◌⊎◌, inl, inr, length, map, get_or, slice_get, Option, Some, None, refl, ap, ◌∙◌, arith}
use Rattle.std.proofs.lemmas.Bool.{cases_lt}
use Rattle.std.proofs.lemmas.Option.{slice_get_within, slice_get_read, slice_get-map}
use Rattle.std.proofs.lemmas.List.{length-map}
use Rattle.std.specs.Option.{option_map}
use Rattle.fr_value.proofs.Meet.{same_some}
use Rattle.fr_value.specs.declared.ids.SiteId.{SiteId}
use Rattle.fr_core.specs.declared.lowered.Low.{Low}
use Rattle.fr_core.specs.Sites.{parts, site_of, below, among, Carries, Finds}

-- what is found in one of these
pub found_item : (site : SiteId) (es : List Low) (i : ℕ) (x e : Low) → Some x ≡ slice_get es i → Finds site (x ∷ []) (Some e) → Finds site es (Some e)
found_item site es i x e h k = record { number = i; path = k.path; stands = rw (← h) (alone k.number k.stands); carries = k.carries }
  where
    alone : (n : ℕ) → among (x ∷ []) n k.path ≡ Some e → below x k.path ≡ Some e
    alone zero s = s
    alone (suc n) s = absurd cc

-- what is found in the parts of an expression
pub found_below : (site : SiteId) (x e : Low) → Finds site (parts x) (Some e) → Finds site (x ∷ []) (Some e)
found_below site x e h = record { number = 0; path = h.number ∷ h.path; stands = h.stands; carries = h.carries }

-- nothing is found in those before this number
pub record NoneBefore (site : SiteId) (es : List Low) (n : ℕ) : Type 0 where
  pub none : (k : ℕ) (x : Low) → k < n → slice_get es k ≡ Some x → Finds site (x ∷ []) None

pub none_at_all : (site : SiteId) (es : List Low) (n : ℕ) → length es ≤ n → NoneBefore site es n → Finds site es None
none_at_all site es n l before = λ e c. at c.number c.path e c.carries (slice_get es c.number) refl c.stands
  where
    at : (i : ℕ) (p : List ℕ) (e : Low) → site_of e ≡ Some site → (r : Option Low) → slice_get es i ≡ r → among es i p ≡ Some e → ⊥
    at i p e s None h k = let none : among es i p ≡ None = rw h in cc
    at i p e s (Some x) h k = before.none i x (omega (arith, slice_get_within es i x h)) h e (record { number = 0; path = p; stands = rw h at k; carries = s })

-- the same in the expressions of a list's items

pub none_next : {X : Type 0} (site : SiteId) (f : X → Low) (xs : List X) (i : ℕ) (x : X) → i < length xs → x ≡ get_or xs i x → NoneBefore site (map f xs) i → Finds site (f x ∷ []) None
    → NoneBefore site (map f xs) (i + 1)
none_next site f xs i x l h before now = record {
  none = λ k y m s. elim (cases_lt k i) [
    | inl sooner ↦ before.none k y sooner s
    | inr last ↦
        let same : k ≡ i = omega arith in
        let here : slice_get (map f xs) i ≡ Some (f x) = slice_get-map f xs i ∙ ap (option_map f) (slice_get_read xs (length xs) i x refl l h) in
        let one : y ≡ f x = cc in
        rw one now
  ];
}

pub none_of_all : {X : Type 0} (site : SiteId) (f : X → Low) (xs : List X) (i : ℕ) → length xs ≤ i → NoneBefore site (map f xs) i → Finds site (map f xs) None
none_of_all site f xs i h = none_at_all site (map f xs) i (omega (arith, h, length-map xs f))

-- nothing is found in an expression that doesn't carry the site, nor any of its parts
pub none_below : (site : SiteId) (x : Low) → site_of x ≢ Some site → Finds site (parts x) None → Finds site (x ∷ []) None
none_below site x other h = λ e c. at c.number c.path e c.carries c.stands
  where
    at : (i : ℕ) (p : List ℕ) (e : Low) → site_of e ≡ Some site → among (x ∷ []) i p ≡ Some e → ⊥
    at zero [] e s k = other (ap site_of (same_some x e k) ∙ s)
    at zero (j ∷ p) e s k = h e (record { number = j; path = p; stands = k; carries = s })
    at (suc i) p e s k = cc

-- what carries a site among the others carries it among all
carries_right : (site : SiteId) (es fs : List Low) (e : Low) → Carries site fs e → Carries site (es ++ fs) e
carries_right site [] fs e h = h
carries_right site (x ∷ es) fs e h =
    let r = carries_right site es fs e h in record { number = suc r.number; path = r.path; stands = r.stands; carries = r.carries }

-- what stands among all stands among the first or among the others
split : (es fs : List Low) (i : ℕ) (p : List ℕ) (e : Low) → among (es ++ fs) i p ≡ Some e → (among es i p ≡ Some e) ⊎ ((k : ℕ) × (among fs k p ≡ Some e))
split [] fs i p e h = inr (i, h)
split (x ∷ es) fs zero p e h = inl h
split (x ∷ es) fs (suc i) p e h = split es fs i p e h

-- what is found in the others, where nothing is found in the first
pub found_right : (site : SiteId) (es fs : List Low) (r : Option Low) → Finds site es None → Finds site fs r → Finds site (es ++ fs) r
found_right site es fs (Some e) h k = carries_right site es fs e k
found_right site es fs None h k = λ e c. elim (split es fs c.number c.path e c.stands) [
  | inl a ↦ h e (record { number = c.number; path = c.path; stands = a; carries = c.carries })
  | inr b ↦ k e (record { number = b.0; path = c.path; stands = b.1; carries = c.carries })
]
