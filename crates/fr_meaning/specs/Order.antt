-- The order in which visits end, and what holds of all that an evaluation visits.
use Rattle.std.specs.Prelude.{ℕ, ◌≡◌, ◌<◌, ◌⊎◌, List, [], ◌∷◌, ◌++◌, map, None}
use Rattle.std.specs.List.{AllByRecursion, flat_map}
use Rattle.fr_core.specs.declared.core_form.Core.{out-Core}
use Rattle.fr_meaning.specs.Evaluation.{World}
use Rattle.fr_meaning.specs.Visits.{Binding, Visit, paths, places, answer, inside, visits, form_of, cell_of, reading, own_error, uses}

-- one place ends before another: a part before what it is a part of, and of two parts of one expression, with all that is inside them, the one of the smaller number
abbrev pub EndsBefore : List ℕ → List ℕ → Type 0
EndsBefore [] q = ⊥
EndsBefore (i ∷ p) [] = Unit {0}
EndsBefore (i ∷ p) (j ∷ q) = (i < j) ⊎ ((i ≡ j) × EndsBefore p q)

-- each visit ends before all behind it
abbrev pub AreRising : List Visit → Type 0
AreRising [] = Unit {0}
AreRising (v ∷ vs) = AllByRecursion (λ u. EndsBefore v.path u.path) vs × AreRising vs

-- the second place is the first, or is inside it
abbrev pub IsWithin : List ℕ → List ℕ → Type 0
IsWithin p q = (inside : List ℕ) × (q ≡ p ++ inside)

-- all that is at and inside a visit stands together in a list, as the visit's own visits, and nothing else in the list does
pub record StandsWhole (w : World) (vs : List Visit) (v : Visit) : Type 0 where
  pub before : List Visit
  pub behind : List Visit
  pub together : vs ≡ before ++ (visits w v ++ behind)
  pub none_before : AllByRecursion (λ u. IsWithin v.path u.path → ⊥) before
  pub none_behind : AllByRecursion (λ u. IsWithin v.path u.path → ⊥) behind

-- two visits of one expression, on one level and with the same functions, have the same to go by: what the expression itself reads, its form's cell, and the answers of all that is inside
pub record GoBySame (w : World) (v : Visit) (w' : World) (u : Visit) : Type 0 where
  pub functions : w.functions ≡ w'.functions
  pub level : v.level ≡ u.level
  pub expr : v.expr ≡ u.expr
  pub read : reading w v.scope (out-Core v.expr) ≡ reading w' u.scope (out-Core u.expr)
  pub cell : cell_of (form_of (out-Core v.expr)) v.kept ≡ cell_of (form_of (out-Core u.expr)) u.kept
  pub answers : map (answer w) (inside w v) ≡ map (answer w') (inside w' u)

-- none of these visits has an error of its own
abbrev pub ErrsNowhere : World → List Visit → Type 0
ErrsNowhere w vs = AllByRecursion (λ v. own_error w v ≡ None) vs

-- a place is one of these
abbrev pub IsOneOf : List (List ℕ) → List ℕ → Type 0
IsOneOf [] p = ⊥
IsOneOf (q ∷ qs) p = (q ≡ p) ⊎ IsOneOf qs p

-- a place ends before another and before all that is inside that
abbrev pub IsReady : List ℕ → List ℕ → Type 0
IsReady at p = (inside : List ℕ) → EndsBefore p (at ++ inside)

-- what a visit has from outside: the places that it waits for, and those that give the variables in its scope
abbrev pub outer_places : Visit → List (List ℕ)
outer_places v = v.waits ++ places v.scope

-- each of these places ends before a visit and all that is inside it
abbrev pub AreReady : Visit → List (List ℕ) → Type 0
AreReady v ps = AllByRecursion (IsReady v.path) ps

-- a visit uses what ends before it: another of these visits, or one of these places outside
abbrev pub UsesEarlier : World → List Visit → List (List ℕ) → Visit → Type 0
UsesEarlier w vs outer v = AllByRecursion (λ p. EndsBefore p v.path × (IsOneOf (paths vs) p ⊎ IsOneOf outer p)) (uses w v)

-- two scopes have the same places, and the same value at each place of which this holds
abbrev pub AgreeWhere : (List ℕ → Type 0) → List Binding → List Binding → Type 0
AgreeWhere U [] [] = Unit {0}
AgreeWhere U (b ∷ scope) (o ∷ other) = (b.place ≡ o.place) × (U b.place → b.value ≡ o.value) × AgreeWhere U scope other
AgreeWhere U scope other = ⊥

-- two scopes have the same places, and the same value at each place that one of these visits uses
abbrev pub AgreeWhereUsed : World → List Visit → List Binding → List Binding → Type 0
AgreeWhereUsed w vs scope other = AgreeWhere (IsOneOf (flat_map (uses w) vs)) scope other
