-- Names among others.
use Rattle.std.specs.Prelude.{ℕ, ◌≡◌, false, List, [], ◌∷◌, ◌++◌, map}
use Rattle.std.proofs.Common.{refl, ◌∙◌}
use Rattle.std.specs.Borrow.{Bor}
use Rattle.std.specs.List.{list_any}
use Rattle.std.specs.Str.{bytes_eq}
use Rattle.std.proofs.lemmas.Cmp.{nat_list_eq_equiv}
use Rattle.std.proofs.lemmas.List.{map-append}
use Rattle.indexmap.specs.IndexSet.{insert_key}
use Rattle.fr_expand.specs.Faults.{is_among}

-- a key of a set is a name among those of the set
pub any_among : (k : Bor (List ℕ)) (ks : List (Bor (List ℕ))) → list_any (λ n. bytes_eq k.now n.now) ks ≡ is_among k.now (map (λ n. n.now) ks)
any_among k [] = refl
any_among k (n ∷ ns) = rw (nat_list_eq_equiv.symm k.now n.now, any_among k ns) refl

-- the keys of a set with one more name, which wasn't among them
pub one_more : (ks new : List (Bor (List ℕ))) (k : Bor (List ℕ)) (old : List (List ℕ)) (name : List ℕ) → k.now ≡ name → map (λ n. n.now) ks ≡ old → is_among name old ≡ false
    → new ≡ insert_key (λ x y. bytes_eq x.now y.now) ks k → map (λ n. n.now) new ≡ old ++ name ∷ []
one_more ks new k old name e m fresh h =
    let absent : list_any (λ n. bytes_eq k.now n.now) ks ≡ false = any_among k ks ∙ rw (e, m) fresh in
    let longer : new ≡ ks ++ k ∷ [] = h ∙ rw absent refl in
    rw (longer, map-append (λ (n : Bor (List ℕ)). n.now) ks (k ∷ []), m, e) refl
