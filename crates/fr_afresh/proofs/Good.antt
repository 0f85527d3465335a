-- Values of which none is Bad.
use Rattle.std.proofs.Common.{◌≡◌, List, [], ◌∷◌, Option, Some, None, Ok, Err, refl, map, ap}
use Rattle.std.specs.Option.{option_map}
use Rattle.fr_value.specs.declared.now.Now.{Now}
use Rattle.fr_meaning.specs.Words.{Seen}
use Rattle.fr_meaning.proofs.Good.{AreGood}
use Rattle.fr_afresh.specs.Bodies.{all_good}

map_none : (v : Now) (o : Option (List Now)) → option_map (λ vs. v ∷ vs) o ≡ None → o ≡ None
map_none v None h = refl
map_none v (Some vs) h = cc

pub some_good : (xs : List Seen) → AreGood xs → all_good xs ≡ None → ⊥
some_good [] good h = cc
some_good (Ok v ∷ xs) good h = some_good xs good.1 (map_none v (all_good xs) h)
some_good (Err b ∷ xs) good h = good.0

pub all_good_map : (xs : List Seen) (ns : List Now) → all_good xs ≡ Some ns → map (λ v. Ok v) ns ≡ xs
all_good_map [] [] h = refl
all_good_map [] (n ∷ ns) h = cc
all_good_map (Err b ∷ xs) ns h = cc
all_good_map (Ok v ∷ xs) ns h = go (all_good xs) (all_good_map xs) refl h
  where
    go : (o : Option (List Now)) → ((vs : List Now) → o ≡ Some vs → map (λ v. Ok v) vs ≡ xs) → all_good xs ≡ o → option_map (λ vs. v ∷ vs) o ≡ Some ns → map (λ v. Ok v) ns ≡ Ok v ∷ xs
    go None rest e g = cc
    go (Some vs) rest e g =
        let same : v ∷ vs ≡ ns = cc in
        rw (← same) (ap (λ (ys : List Seen). Ok v ∷ ys) (rest vs refl))
