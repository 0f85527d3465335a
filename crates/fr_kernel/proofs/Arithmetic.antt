-- What the primitives that are made in place give over two integers.
use Rattle.std.proofs.Common.{◌≡◌, ℤ, pos, negsuc, ◌+ℤ◌, ◌-ℤ◌, ◌*ℤ◌, Bool, true, false, ◌&&◌, if◌then◌else◌, [], ◌∷◌, ◌^◌, refl, ap, ◌∙◌, Some, None, Ok, Err}
use Rattle.std.proofs.Math.IntN.{one, +ℤ_idl, *ℤ-one, *ℤ_comm}
use Rattle.std.proofs.lemmas.Bool.{lt-ltb}
use Rattle.std.specs.Int.RustNames.{int_lt, int_le}
use Rattle.std.specs.Ordering.{int_eq}
use mir.Syntax.{w64}
use mir.Val.{SFits}
use Rattle.fr_value.specs.Valid.{fits}
use Rattle.fr_value.specs.declared.now.Bad.TheVariants.{Range}
use Rattle.fr_value.specs.declared.value.Value.TheVariants as value
use Rattle.fr_value.specs.declared.primitive.Primitive.TheVariants as prim
use Rattle.fr_prims.specs.Integers.{Answer, fitting, given, running}
use Rattle.fr_meaning.specs.Words.{plain}
use Rattle.fr_meaning.specs.Primitives.{applied, answer_seen}
use Rattle.fr_kernel.proofs.Operands.{applied_ints}

-- a number of 64 bits lies in the range
in_64 : (x : ℤ) → SFits w64 x → fits x ≡ true
in_64 (pos n) h = lt-ltb n (2 ^ 63) h.sfits
in_64 (negsuc n) h = lt-ltb n (2 ^ 63) h.sfits

last_step : (n : ℤ) (b : Bool) → (let r : Answer = if b then Ok (value.Int n) else Err Range in r ≡ given (if b then Some n else None))
last_step n true = refl
last_step n false = refl

-- an operation from a start that changes nothing
both_steps : (op : ℤ → ℤ → ℤ) (start x y : ℤ) → op start x ≡ x → SFits w64 x → running op start (value.Int x ∷ value.Int y ∷ []) ≡ given (fitting (op x y))
both_steps op start x y e h = rw (e, in_64 x h) (last_step (op x y) (fits (op x y)))

pub summed : (x y : ℤ) → SFits w64 x → applied prim.Add (plain (value.Int x) ∷ plain (value.Int y) ∷ []) ≡ answer_seen (given (fitting (x +ℤ y)))
summed x y h = applied_ints prim.Add x y ∙ ap answer_seen (both_steps ◌+ℤ◌ (pos 0) x y (+ℤ_idl x) h)

pub multiplied : (x y : ℤ) → SFits w64 x → applied prim.Mul (plain (value.Int x) ∷ plain (value.Int y) ∷ []) ≡ answer_seen (given (fitting (x *ℤ y)))
unfolding one
multiplied x y h = applied_ints prim.Mul x y ∙ ap answer_seen (both_steps ◌*ℤ◌ (pos 1) x y (*ℤ_comm (pos 1) x ∙ *ℤ-one x) h)

pub reduced : (x y : ℤ) → applied prim.Sub (plain (value.Int x) ∷ plain (value.Int y) ∷ []) ≡ answer_seen (given (fitting (x -ℤ y)))
reduced x y = applied_ints prim.Sub x y ∙ ap answer_seen (last_step (x -ℤ y) (fits (x -ℤ y)))

and_true : (b : Bool) → (b && true) ≡ b
and_true true = refl
and_true false = refl

stood : (b : Bool) → plain (value.Bool (b && true)) ≡ plain (value.Bool b)
stood b = ap (λ t. plain (value.Bool t)) (and_true b)

pub is_less : (x y : ℤ) → applied prim.Less (plain (value.Int x) ∷ plain (value.Int y) ∷ []) ≡ plain (value.Bool (int_lt x y))
is_less x y = applied_ints prim.Less x y ∙ stood (int_lt x y)

pub is_greater : (x y : ℤ) → applied prim.Greater (plain (value.Int x) ∷ plain (value.Int y) ∷ []) ≡ plain (value.Bool (int_lt y x))
is_greater x y = applied_ints prim.Greater x y ∙ stood (int_lt y x)

pub is_at_most : (x y : ℤ) → applied prim.AtMost (plain (value.Int x) ∷ plain (value.Int y) ∷ []) ≡ plain (value.Bool (int_le x y))
is_at_most x y = applied_ints prim.AtMost x y ∙ stood (int_le x y)

pub is_at_least : (x y : ℤ) → applied prim.AtLeast (plain (value.Int x) ∷ plain (value.Int y) ∷ []) ≡ plain (value.Bool (int_le y x))
is_at_least x y = applied_ints prim.AtLeast x y ∙ stood (int_le y x)

pub is_equal : (x y : ℤ) → applied prim.Equal (plain (value.Int x) ∷ plain (value.Int y) ∷ []) ≡ plain (value.Bool (int_eq x y))
is_equal x y = applied_ints prim.Equal x y ∙ stood (int_eq x y)
