-- Primitives applied to what arguments have at an instant.
use Rattle.std.specs.Prelude.{List, [], ◌∷◌, Option, Some, None, Ok, Err}
use Rattle.std.specs.Option.{option_map, option_and_then}
use Rattle.fr_value.specs.declared.now.Now.TheVariants.{Plain}
use Rattle.fr_value.specs.declared.now.Bad.{Bad}
use Rattle.fr_value.specs.declared.now.Bad.TheVariants.{WrongType}
use Rattle.fr_value.specs.declared.value.Value.{Value}
use Rattle.fr_value.specs.declared.primitive.Primitive.{Primitive}
use Rattle.fr_prims.specs.Integers.{Answer}
use Rattle.fr_prims.specs.Table.{prim_on}
use Rattle.fr_meaning.specs.Words.{Seen}

-- the first Bad among arguments
abbrev pub first_bad : List Seen → Option Bad
first_bad [] = None
first_bad (Err b ∷ xs) = Some b
first_bad (Ok n ∷ xs) = first_bad xs

abbrev pub plain_of : Seen → Option Value
plain_of (Ok (Plain v)) = Some v
plain_of x = None

-- the arguments as values, where all are plain
abbrev pub plain_values : List Seen → Option (List Value)
plain_values [] = Some []
plain_values (x ∷ xs) = option_and_then (λ v. option_map (λ vs. v ∷ vs) (plain_values xs)) (plain_of x)

abbrev pub answer_seen : Answer → Seen
answer_seen (Ok v) = Ok (Plain v)
answer_seen (Err b) = Err b

abbrev pub on_values : Primitive → Option (List Value) → Seen
on_values p None = Err WrongType
on_values p (Some vs) = answer_seen (prim_on p vs)

abbrev pub unless_bad : Option Bad → Seen → Seen
unless_bad (Some b) x = Err b
unless_bad None x = x

-- what a primitive gives: Bad where an argument is, else WrongType where one is an event, else what the table says
unfoldable pub applied : Primitive → List Seen → Seen
applied p xs = unless_bad (first_bad xs) (on_values p (plain_values xs))
