-- The global names that forms give.
use Rattle.std.specs.Prelude.{ℕ, List, ◌∷◌, Option, Some, None}
use Rattle.std.specs.Option.{option_map, option_and_then}
use Rattle.fr_value.specs.Data.{value_of}
use Rattle.fr_value.specs.declared.value.Value.{Value}
use Rattle.fr_value.specs.declared.value.Value.TheVariants as value
use Rattle.fr_syntax.specs.declared.keyword.Keyword.{Keyword}
use Rattle.fr_syntax.specs.declared.keyword.Keyword.TheVariants as keyword
use Rattle.fr_syntax.specs.declared.outlines.Sort.{Sort}
use Rattle.fr_syntax.specs.declared.outlines.Sort.TheVariants as sort
use Rattle.fr_syntax.specs.declared.outlines.Outline.{Outline}
use Rattle.fr_syntax.specs.Keywords.{keyword_named}

-- a global name and what it is
abbrev pub Global : Type 0
Global = List ℕ × Sort

-- the symbol that a value is, if it is one
abbrev pub symbol_of : Value → Option (List ℕ)
symbol_of (value.Sym s) = Some s
symbol_of v = None

-- the keyword that a value is, if it is one
abbrev pub keyword_of : Value → Option Keyword
keyword_of v = option_and_then keyword_named (symbol_of v)

-- the symbol that a list begins with
abbrev pub head_symbol : Value → Option (List ℕ)
head_symbol (value.List (d ∷ ds)) = symbol_of (value_of d)
head_symbol v = None

-- the name that a form with this keyword and this second item gives
abbrev pub given : Option Keyword → Value → Option Global
given (Some keyword.DefineInput) v = option_map (λ s. (s, sort.Input)) (symbol_of v)
given (Some keyword.DefineEvent) v = option_map (λ s. (s, sort.Event)) (symbol_of v)
given (Some keyword.Define) v = option_map (λ s. (s, sort.Function)) (head_symbol v)
given k v = None

-- the global name that a form gives by its first two items, well formed or not
abbrev pub outline_of : Value → Option Global
outline_of (value.List (head ∷ second ∷ ds)) = given (keyword_of (value_of head)) (value_of second)
outline_of v = None

-- what the code's outline tells
abbrev pub told : Outline → Global
told o = (o.name.now, o.sort)
