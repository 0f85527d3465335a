-- The raising of heights along edges, from a lower end to an upper one.
use Rattle.std.specs.Prelude.{◌≡◌, ◌≢◌, ℕ, zero, suc, ◌+◌, ◌-◌, ◌<◌, ◌≤◌, List, [], ◌∷◌, ◌++◌, length, cond, ◌⊎◌, true}
use Rattle.fr_links.specs.Lists.{has_item}

-- Which number stands above which.
abbrev pub Edges : Type 1
Edges = ℕ → ℕ → Type 0

-- The sum of a function below a bound.
abbrev pub sum_to : ℕ → (ℕ → ℕ) → ℕ
sum_to zero f = 0
sum_to (suc n) f = sum_to n f + f n

-- How far the heights of the numbers below a bound can still rise, where the greatest is this.
abbrev pub rise_left : ℕ → ℕ → (ℕ → ℕ) → ℕ
rise_left numbers greatest height = sum_to numbers (λ i. greatest - height i)

-- Heights can be raised from a number: ranks rise along each edge, and each edge but those from that number is levelled.
pub record CanRaise (edge : Edges) (rank old : ℕ → ℕ) (numbers many top id : ℕ) : Type 0 where
  pub number : (a b : ℕ) → edge a b → b < numbers
  pub rises : (a b : ℕ) → edge a b → rank a < rank b
  pub few : (a : ℕ) → rank a ≤ many
  pub top_is : (a : ℕ) → old a ≤ top
  pub levelled : (a b : ℕ) → edge a b → a ≢ id → old a < old b

-- Each edge is levelled but those from what is on the list, and those from x to what is left.
pub record Raising (edge : Edges) (rank old new : ℕ → ℕ) (top id : ℕ) (work : List ℕ) (x : ℕ) (left : ℕ → Type 0) : Type 0 where
  pub levelled : (a b : ℕ) → edge a b → (new a < new b) ⊎ ((has_item work a ≡ true) ⊎ ((a ≡ x) × left b))
  pub no_lower : (a : ℕ) → old a ≤ new a
  pub bounded : (a : ℕ) → new a ≤ top + rank a
  -- what is low stays, if each edge from id that is not levelled leads higher than h
  pub low : (h : ℕ) → ((b : ℕ) → edge id b → old b ≤ old id → h < old b)
      → ((a : ℕ) → old a ≤ h → new a ≡ old a) × ((a : ℕ) → (has_item work a ≡ true) ⊎ (a ≡ x) → (a ≡ id) ⊎ (h < old a))
  pub id_stays : new id ≡ old id
  pub after : (a : ℕ) → (has_item work a ≡ true) ⊎ (a ≡ x) → (a ≡ id) ⊎ (rank id < rank a)

-- Every edge is levelled, no height has fallen or risen far, and what stands low stays where it is.
pub record AreRaised (edge : Edges) (old new : ℕ → ℕ) (greatest id : ℕ) : Type 0 where
  pub levelled : (a b : ℕ) → edge a b → new a < new b
  pub no_lower : (a : ℕ) → old a ≤ new a
  pub bounded : (a : ℕ) → new a ≤ greatest
  pub low : (h : ℕ) → ((b : ℕ) → edge id b → old b ≤ old id → h < old b) → (a : ℕ) → old a ≤ h → new a ≡ old a

-- The list with this number at the end, where it isn't in it yet.
abbrev pub noted : List ℕ → ℕ → List ℕ
noted work y = cond (has_item work y) work (work ++ y ∷ [])

-- A number was lifted above x and put on the list, or stood above it already.
pub record Lifts (old new : ℕ → ℕ) (x y : ℕ) (before after : List ℕ) : Type 0 where
  pub others : (a : ℕ) → a ≢ y → new a ≡ old a
  pub how : ((old x < old y) × (new y ≡ old y) × (after ≡ before)) ⊎ ((old y ≤ old x) × (new y ≡ old x + 1) × (after ≡ noted before y))

-- From these heights, list and rest to those a raising goes on, with no more to do.
pub record Steps (edge : Edges) (numbers : ℕ) (x : ℕ) (h0 : ℕ → ℕ) (w0 : List ℕ) (left0 : ℕ → Type 0) (h1 : ℕ → ℕ) (w1 : List ℕ) (left1 : ℕ → Type 0) : Type 0 where
  pub goes_on : (rank old : ℕ → ℕ) (many top id : ℕ) → CanRaise edge rank old numbers many top id → Raising edge rank old h0 top id w0 x left0
      → Raising edge rank old h1 top id w1 x left1
  pub less : (rank old : ℕ → ℕ) (many top id : ℕ) → CanRaise edge rank old numbers many top id → Raising edge rank old h0 top id w0 x left0
      → rise_left numbers (top + many) h1 + length w1 ≤ rise_left numbers (top + many) h0 + length w0
