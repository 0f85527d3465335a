-- One more form, and one more global name.
use Rattle.std.proofs.Common.{ℕ, Bool, true, false, Option, ◌≡◌, ◌<◌, ◌+◌, ◌++◌, List, [], ◌∷◌, Some, None, if◌then◌else◌, drop, drop-cons, get_or, length, add-one, append_assoc, ap, sym, ◌∙◌, refl}
use Rattle.std.specs.Option.{option_or, option_to_list, is_some}
use Rattle.fr_scope.specs.declared.meaning.Meaning.{Meaning}
use Rattle.fr_value.specs.Data.{data_of, value_of-datum_of}
use Rattle.fr_value.specs.declared.value.Value.{Value}
use Rattle.fr_syntax.specs.Outlines.{Global, outline_of}
use Rattle.fr_scope.specs.Meanings.{globals_in}

pub behind_form : (vs : List Value) (v : Value) (i : ℕ) → i < length vs → v ≡ get_or vs i v
    → globals_in (data_of (drop i vs)) ≡ option_to_list (outline_of v) ++ globals_in (data_of (drop (i + 1) vs))
behind_form vs v i h e = rw (drop-cons vs i v h, add-one, ← e, value_of-datum_of) refl

-- the global names so far, behind a form that gives one, that gives none
pub one_given : (made all : List Global) (vs : List Value) (v : Value) (i : ℕ) (g : Global) → i < length vs → v ≡ get_or vs i v → outline_of v ≡ Some g
    → made ++ globals_in (data_of (drop i vs)) ≡ all → (made ++ g ∷ []) ++ globals_in (data_of (drop (i + 1) vs)) ≡ all
one_given made all vs v i g h e is so_far =
    let step = rw is at (behind_form vs v i h e) in
    rw append_assoc (ap (λ (gs : List Global). made ++ gs) (sym step) ∙ so_far)

pub none_given : (made all : List Global) (vs : List Value) (v : Value) (i : ℕ) → i < length vs → v ≡ get_or vs i v → outline_of v ≡ None
    → made ++ globals_in (data_of (drop i vs)) ≡ all → made ++ globals_in (data_of (drop (i + 1) vs)) ≡ all
none_given made all vs v i h e is so_far =
    let step = rw is at (behind_form vs v i h e) in
    ap (λ (gs : List Global). made ++ gs) (sym step) ∙ so_far

or_none : {X : Type 0} (o : Option X) → o ≡ option_or o None
or_none None = refl
or_none (Some x) = refl

-- what is found with one more meaning, where test says whether this name is the new one
pub noted : (test : Bool) (before after : Option Meaning) (m : Meaning) → (test ≡ true → is_some before ≡ false) → after ≡ (if test then Some m else before)
    → after ≡ option_or before (if test then Some m else None)
noted true None after m absent e = e
noted true (Some x) after m absent e = let h = absent refl in cc
noted false before after m absent e = e ∙ or_none before
