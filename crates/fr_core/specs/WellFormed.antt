-- Which programs are well formed.
use Rattle.std.specs.Prelude.{ℕ, ◌+◌, ◌^◌, ◌<◌, ◌≤◌, ◌≡◌, ◌↔◌, ◌&&◌, nat_lt, nat_le, Bool, true, List, [], ◌∷◌, ◌++◌, map, length, max}
use Rattle.std.specs.List.{Contains}
use Rattle.fr_value.specs.Data.{total, greatest}
use Rattle.fr_core.specs.declared.core_form.Core.{Core, fold-Core}
use Rattle.fr_core.specs.declared.core_form.Core.TheOpen.{Core-F}
use Rattle.fr_core.specs.Shapes.{inner, parts_in, entries, has_its_parts, all_true}
use Rattle.fr_core.specs.declared.program.Item.{Item}
use Rattle.fr_core.specs.declared.program.Item.TheVariants as item
use Rattle.fr_core.specs.declared.program.Program.{Program}

-- the nesting of an expression from those of its parts
abbrev pub nesting_step : Core-F ℕ → ℕ
nesting_step f = 1 + greatest (parts_in f)

-- 1 for a leaf, and one more than the deepest part for a compound, bodies included
unfoldable pub nesting : Core → ℕ
nesting = fold-Core ℕ nesting_step

-- the number of expressions in one from those of its parts
abbrev pub count_step : Core-F ℕ → ℕ
count_step f = 1 + total (parts_in f)

-- the number of expressions: the expression itself and those in its parts
unfoldable pub count : Core → ℕ
count = fold-Core ℕ count_step

-- the length of the longest list from those of the parts
abbrev pub longest_step : Core-F ℕ → ℕ
longest_step f = max (entries f) (greatest (parts_in f))

-- the number of entries of the longest list in an expression
unfoldable pub longest : Core → ℕ
longest = fold-Core ℕ longest_step

-- the greatest number of bindings around a place from those of the parts
abbrev pub widest_step : Core-F ℕ → ℕ
widest_step f = greatest (map (λ x. x.0 + x.1) (inner f))

-- the greatest number of variables that the expression itself binds around one place in it
unfoldable pub widest : Core → ℕ
widest = fold-Core ℕ widest_step

-- all parts pass where so many variables are in scope around them, and those that are bound for each
abbrev pub all_at : ℕ → List (ℕ × (ℕ → Bool)) → Bool
all_at n [] = true
all_at n (x ∷ xs) = x.1 (n + x.0) && all_at n xs

-- whether the number that an expression itself has names something in scope
abbrev pub names_something : {X : Type 0} → ℕ → ℕ → Core-F X → ℕ → Bool
names_something functions sources (Core-F.Var x) n = nat_lt x.0 n
names_something functions sources (Core-F.Source x) n = nat_le x.0 sources
names_something functions sources (Core-F.Apply f es) n = nat_lt f.0 functions
names_something functions sources f n = true

-- whether each number names something in scope, from such tests of the parts
abbrev pub scope_step : ℕ → ℕ → Core-F (ℕ → Bool) → ℕ → Bool
scope_step functions sources f n = names_something functions sources f n && all_at n (inner f)

-- whether each number names something in scope: a function, where there are so many, a source up to the last one, and a variable, where so many are in scope at the expression
unfoldable pub is_scoped : ℕ → ℕ → Core → ℕ → Bool
is_scoped functions sources = fold-Core (ℕ → Bool) (scope_step functions sources)

-- whether each form has its number of parts, from such tests of the parts
abbrev pub formed_step : Core-F Bool → Bool
formed_step f = has_its_parts f && all_true (parts_in f)

-- whether each form in an expression has its number of parts
unfoldable pub is_formed : Core → Bool
is_formed = fold-Core Bool formed_step

-- an expression that is no part of another, and the number of variables in scope there
pub record Root : Type 0 where
  pub variables : ℕ
  pub expr : Core

-- the expressions of items, where each value binds a variable for the items behind it
abbrev pub item_roots : ℕ → List Item → List Root
item_roots n [] = []
item_roots n (item.Define e ∷ is) = record { variables = n; expr = e } ∷ item_roots (n + 1) is
item_roots n (item.Show name e ∷ is) = record { variables = n; expr = e } ∷ item_roots n is

-- the bodies of the functions and then the expressions of the items
abbrev pub roots : Program → List Root
roots p = map (λ f. record { variables = f.params; expr = f.body }) p.functions ++ item_roots 0 p.body

-- all expressions have numbers that name something in scope
abbrev pub are_scoped : ℕ → ℕ → List Root → Bool
are_scoped functions sources [] = true
are_scoped functions sources (r ∷ rs) = is_scoped functions sources r.expr r.variables && are_scoped functions sources rs

-- the sources of inputs, and those of events
abbrev pub input_sources : Program → List ℕ
input_sources p = map (λ i. i.source.0) p.inputs

abbrev pub event_sources : Program → List ℕ
event_sources p = map (λ e. e.source.0) p.events

-- the number of sources beside `now`, which is the number of the last one
abbrev pub last_source : Program → ℕ
last_source p = length p.inputs + length p.events

-- all numbers are above this one
abbrev pub AllAbove : ℕ → List ℕ → Type 0
AllAbove n [] = Unit {0}
AllAbove n (m ∷ ms) = (n < m) × AllAbove n ms

-- each number is below those behind it
abbrev pub Rises : List ℕ → Type 0
Rises [] = Unit {0}
Rises (n ∷ ns) = AllAbove n ns × Rises ns

-- no name stands twice
abbrev pub AreDistinct : List (List ℕ) → Type 0
AreDistinct [] = Unit {0}
AreDistinct (n ∷ ns) = (Contains ns n → ⊥) × AreDistinct ns

-- what each list has fewer entries than
abbrev pub most_entries : ℕ
most_entries = 4294967295

-- the deepest nesting of an expression in a program
abbrev pub deepest_nesting : ℕ
deepest_nesting = 500

-- what there are fewer variables in scope than, at every place
abbrev pub most_variables : ℕ
most_variables = 4294967296

-- what there are fewer expressions than in a program
abbrev pub most_expressions : ℕ
most_expressions = 2 ^ 40

-- the sources of inputs and events are together the numbers from 1 on, each once, and rise in each of the two lists
pub record AreNumbered (p : Program) : Type 0 where
  pub inputs_rise : Rises (input_sources p)
  pub events_rise : Rises (event_sources p)
  pub apart : (n : ℕ) → Contains (input_sources p) n → Contains (event_sources p) n → ⊥
  pub without_gap : (n : ℕ) → Contains (input_sources p ++ event_sources p) n ↔ ((1 ≤ n) × (n ≤ last_source p))

-- each list has fewer entries than the most
pub record AreShort (p : Program) : Type 0 where
  pub inputs : length p.inputs < most_entries
  pub events : length p.events < most_entries
  pub functions : length p.functions < most_entries
  pub body : length p.body < most_entries
  pub parts : greatest (map (λ r. longest r.expr) (roots p)) < most_entries

-- all expressions' forms have their numbers of parts
abbrev pub are_formed : List Root → Bool
are_formed [] = true
are_formed (r ∷ rs) = is_formed r.expr && are_formed rs

-- a program that may be run; its literals and its inputs' first values are data, since every value is
pub record IsWellFormed (p : Program) : Type 0 where
  pub formed : are_formed (roots p) ≡ true
  pub scoped : are_scoped (length p.functions) (last_source p) (roots p) ≡ true
  pub numbered : AreNumbered p
  pub named : AreDistinct (map (λ i. i.name) p.inputs ++ map (λ e. e.name) p.events)
  pub shallow : greatest (map (λ r. nesting r.expr) (roots p)) ≤ deepest_nesting
  pub short : AreShort p
  pub narrow : greatest (map (λ r. r.variables + widest r.expr) (roots p)) < most_variables
  pub small : total (map (λ r. count r.expr) (roots p)) < most_expressions
