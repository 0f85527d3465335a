-- What names mean.
use Rattle.std.specs.Prelude.{ℕ, ◌+◌, Bool, false, if◌then◌else◌, List, [], ◌∷◌, ◌++◌, Option, Some, None, codes}
use Rattle.std.specs.Option.{option_map, option_or, option_to_list}
use Rattle.std.specs.Str.{bytes_eq}
use Rattle.fr_value.specs.Data.{value_of}
use Rattle.fr_value.specs.declared.value.Datum.{Datum}
use Rattle.fr_prims.specs.Names.{prim_named}
use Rattle.fr_syntax.specs.declared.outlines.Sort.{Sort}
use Rattle.fr_syntax.specs.declared.outlines.Sort.TheVariants as sort
use Rattle.fr_syntax.specs.Outlines.{Global, outline_of}
use Rattle.fr_scope.specs.declared.meaning.Meaning.{Meaning}
use Rattle.fr_scope.specs.declared.meaning.Meaning.TheVariants as meaning

-- the most variables in scope; there are fewer sources and fewer functions than this
abbrev pub most_numbered : ℕ
most_numbered = 4294967295

-- what binds a variable: a name, or none where the variable has no name
abbrev pub Binder : Type 0
Binder = Option (List ℕ)

-- whether it binds this name
abbrev pub binds : List ℕ → Binder → Bool
binds name None = false
binds name (Some n) = bytes_eq n name

-- the number of the innermost variable of a name, where the first of these variables has number n
abbrev pub innermost : List ℕ → ℕ → List Binder → Option ℕ
innermost name n [] = None
innermost name n (b ∷ bs) = option_or (innermost name (n + 1) bs) (if binds name b then Some n else None)

-- the global names that forms give, in order
abbrev pub globals_in : List Datum → List Global
globals_in [] = []
globals_in (d ∷ ds) = option_to_list (outline_of (value_of d)) ++ globals_in ds

-- what a global name of this sort is, where so many sources and so many functions stand before it
abbrev pub given_as : Sort → ℕ → ℕ → Meaning
given_as sort.Function sources functions = meaning.Function (record { 0 = functions })
given_as s sources functions = meaning.Source (record { 0 = sources })

-- the number of sources, of functions behind one of this sort
abbrev pub sources_behind : Sort → ℕ → ℕ
sources_behind sort.Function n = n
sources_behind s n = n + 1

abbrev pub functions_behind : Sort → ℕ → ℕ
functions_behind sort.Function n = n + 1
functions_behind s n = n

-- what the first form that gives a name makes of it, where so many sources and so many functions stand before
abbrev pub global : List ℕ → ℕ → ℕ → List Global → Option Meaning
global name sources functions [] = None
global name sources functions (g ∷ gs) =
    if bytes_eq g.0 name then Some (given_as g.1 sources functions) else global name (sources_behind g.1 sources) (functions_behind g.1 functions) gs

-- `now` or a primitive
abbrev pub built_in : List ℕ → Option Meaning
built_in name = if bytes_eq name (codes "now") then Some (meaning.Source (record { 0 = 0 })) else option_map meaning.Primitive (prim_named name)

-- what a name means: the innermost variable of that name, else what the first form that gives it makes of it, else `now`, else the primitive. Source 0 is `now`
unfoldable pub meaning_of : List Global → List Binder → List ℕ → Option Meaning
meaning_of globals scope name = option_or (option_map (λ n. meaning.Variable (record { 0 = n })) (innermost name 0 scope))
    (option_or (global name 1 0 globals) (built_in name))
