-- Counts of faults: they never fall, and stay at the greatest value of a u64 once they are there.
use Rattle.std.specs.Prelude.{◌≡◌, ◌≤◌, ◌+◌, ◌-◌, ◌^◌, ◌⊎◌, min, ℕ, List, [], ◌∷◌, Result, MatchResult}

-- one more, or the greatest value of a u64
abbrev pub one_more : ℕ → ℕ
one_more count = min (count + 1) (2 ^ 64 - 1)

-- the count is greater than before, or stands at its greatest value
abbrev pub Rose : ℕ → ℕ → Type 0
Rose before now = one_more before ≤ now

-- the call answered this error
abbrev pub FailsAs : {T E : Type 0} → Result T E → E → Type 0
FailsAs r e = MatchResult r (λ _. ⊥) (λ x. x ≡ e)

-- what a count does in a call: it rises where there was a fault, and else stays as it was
pub record Counts (fault : Type 0) (before now : ℕ) : Type 0 where
  pub falls_not : before ≤ now
  pub rises : fault → Rose before now
  pub stays : (fault → ⊥) → now ≡ before

-- no count of any name falls
abbrev pub NoneFalls : (List ℕ → ℕ) → (List ℕ → ℕ) → Type 0
NoneFalls before now = (name : List ℕ) → before name ≤ now name

-- no count of any name moves
abbrev pub NoneMoves : (List ℕ → ℕ) → (List ℕ → ℕ) → Type 0
NoneMoves before now = (name : List ℕ) → now name ≡ before name

-- the count of one of these names rose
abbrev pub AnyRose : List (List ℕ) → (List ℕ → ℕ) → (List ℕ → ℕ) → Type 0
AnyRose [] before now = ⊥
AnyRose (f ∷ fs) before now = Rose (before f) (now f) ⊎ AnyRose fs before now
