-- Two lists whose items belong together in their order, each over a range of numbers that begins where the one before ends.
use Rattle.std.specs.Prelude.{ℕ, ◌≤◌, List, [], ◌∷◌}

-- the items at each place are related over a range, and the ranges follow one another from the first number to the last
abbrev pub Chained : {X Y : Type 0} → (ℕ → ℕ → X → Y → Type 0) → ℕ → ℕ → List X → List Y → Type 0
Chained R from to [] [] = from ≤ to
Chained R from to [] (y ∷ ys) = ⊥
Chained R from to (x ∷ xs) [] = ⊥
Chained R from to (x ∷ xs) (y ∷ ys) = (mid : ℕ) × (R from mid x y × Chained R mid to xs ys)
