-- The primitives on integers.
use Rattle.std.specs.Prelude.{zero, ℤ, pos, negsuc, ◌+ℤ◌, ◌-ℤ◌, neg_ℤ, Bool, true, false, not, ◌&&◌, if◌then◌else◌, List, [], ◌∷◌, Option, Some, None, Result, Ok, Err}
use Rattle.std.specs.Int.RustNames.{int_rem}
use Rattle.fr_value.specs.Valid.{fits}
use Rattle.fr_value.specs.declared.value.Value.{Value}
use Rattle.fr_value.specs.declared.value.Value.TheVariants as value
use Rattle.fr_value.specs.declared.now.Bad.{Bad}
use Rattle.fr_value.specs.declared.now.Bad.TheVariants.{WrongType, Range, Zero, Arity}

-- what a primitive gives: a value, or why there is none
abbrev pub Answer : Type 0
Answer = Result Value Bad

-- a truth value as an answer
abbrev pub truth : Bool → Answer
truth b = Ok (value.Bool b)

-- what is given for one argument
abbrev pub one : (Value → Answer) → List Value → Answer
one f (v ∷ []) = f v
one f vs = Err Arity

-- what is given for two arguments
abbrev pub two : (Value → Value → Answer) → List Value → Answer
two f (v ∷ w ∷ []) = f v w
two f vs = Err Arity

-- what is given for an integer
abbrev pub on_integer : (ℤ → Answer) → Value → Answer
on_integer f (value.Int n) = f n
on_integer f v = Err WrongType

-- what is given for two integers
abbrev pub on_integers : (ℤ → ℤ → Answer) → Value → Value → Answer
on_integers f v w = on_integer (λ a. on_integer (f a) w) v

-- a value is an integer
abbrev pub is_integer : Value → Bool
is_integer (value.Int n) = true
is_integer v = false

-- the integer that a value is; 0 for anything else, which is refused before
abbrev pub number : Value → ℤ
number (value.Int n) = n
number v = pos 0

-- all values pass a test
abbrev pub all_pass : (Value → Bool) → List Value → Bool
all_pass test [] = true
all_pass test (v ∷ vs) = test v && all_pass test vs

-- what is given where all arguments pass a test on their type
abbrev pub typed : (Value → Bool) → List Value → Answer → Answer
typed test vs answer = if all_pass test vs then answer else Err WrongType

-- a number, where it lies in the range
abbrev pub fitting : ℤ → Option ℤ
fitting n = if fits n then Some n else None

-- a number as an answer, if there is one
abbrev pub given : Option ℤ → Answer
given None = Err Range
given (Some n) = Ok (value.Int n)

-- a number as an answer, where it lies in the range
abbrev pub in_range : ℤ → Answer
in_range n = given (fitting n)

-- an operation from the left, where each partial result lies in the range
abbrev pub running : (ℤ → ℤ → ℤ) → ℤ → List Value → Answer
running op so_far [] = Ok (value.Int so_far)
running op so_far (v ∷ vs) = if fits (op so_far (number v)) then running op (op so_far (number v)) vs else Err Range

-- an operation from the left on integers
abbrev pub folded : (ℤ → ℤ → ℤ) → ℤ → List Value → Answer
folded op start vs = typed is_integer vs (running op start vs)

-- the negation of one integer, and else the differences from the left
abbrev pub subtracted : List Value → Answer
subtracted [] = Err Arity
subtracted (v ∷ []) = on_integer (λ n. in_range (neg_ℤ n)) v
subtracted (v ∷ vs) = typed is_integer (v ∷ vs) (running ◌-ℤ◌ (number v) vs)

-- a number is 0
abbrev pub is_zero : ℤ → Bool
is_zero (pos zero) = true
is_zero n = false

-- a number is below 0
abbrev pub is_negative : ℤ → Bool
is_negative (pos n) = false
is_negative (negsuc n) = true

-- a number is above 0
abbrev pub is_positive : ℤ → Bool
is_positive n = not (is_zero n) && not (is_negative n)

-- a number is a multiple of 2
abbrev pub is_even : ℤ → Bool
is_even n = is_zero (int_rem n (pos 2))

-- one of two facts holds, and the other doesn't
abbrev pub differ : Bool → Bool → Bool
differ true b = not b
differ false b = b

-- the remainder of a truncated division that has the divisor's sign
abbrev pub int_mod : ℤ → ℤ → ℤ
int_mod a b = let r = int_rem a b in if not (is_zero r) && differ (is_negative r) (is_negative b) then r +ℤ b else r

-- a division, where the divisor isn't 0
abbrev pub divided : (ℤ → ℤ → ℤ) → ℤ → ℤ → Answer
divided f a b = if is_zero b then Err Zero else in_range (f a b)

-- what is given for one integer or more, from the first and the others
abbrev pub from_first : (ℤ → List Value → Answer) → List Value → Answer
from_first f [] = Err Arity
from_first f (v ∷ vs) = typed is_integer (v ∷ vs) (f (number v) vs)

-- the integer among these that stands before the others
abbrev pub chosen : (ℤ → ℤ → Bool) → ℤ → List Value → ℤ
chosen before best [] = best
chosen before best (v ∷ vs) = chosen before (if before (number v) best then number v else best) vs

-- each integer stands so to the next
abbrev pub neighbours : (ℤ → ℤ → Bool) → ℤ → List Value → Bool
neighbours stands last [] = true
neighbours stands last (v ∷ vs) = stands last (number v) && neighbours stands (number v) vs

-- the first of these integers by an order
abbrev pub extreme : (ℤ → ℤ → Bool) → List Value → Answer
extreme before vs = from_first (λ n ws. Ok (value.Int (chosen before n ws))) vs

-- whether each neighbouring pair of integers stands so
abbrev pub compared : (ℤ → ℤ → Bool) → List Value → Answer
compared stands vs = from_first (λ n ws. truth (neighbours stands n ws)) vs

-- a test of one integer
abbrev pub tested : (ℤ → Bool) → List Value → Answer
tested test vs = one (on_integer (λ n. truth (test n))) vs
