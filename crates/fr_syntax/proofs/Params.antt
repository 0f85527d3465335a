-- The parameters of handlers.
use Rattle.std.specs.Prelude.{ℕ, ◌≡◌, List, [], ◌∷◌, Option, Some, None}
use Rattle.std.proofs.Common.{refl, ap}
use Rattle.std.specs.Option.{option_map, option_and_then}
use Rattle.fr_value.specs.Data.{datum_of, value_of-datum_of}
use Rattle.fr_value.proofs.Meet.{same_some}
use Rattle.fr_value.specs.declared.value.Datum.{Datum}
use Rattle.fr_value.specs.declared.value.Value.{Value}
use Rattle.fr_syntax.specs.declared.expr.Expr.{Expr}
use Rattle.fr_syntax.specs.Outlines.{symbol_of}
use Rattle.fr_syntax.specs.Shapes.{two_in, symbols, two_params}

two_items : (ds : List Datum) (a b : Datum) → Some (a, b) ≡ two_in ds → ds ≡ a ∷ b ∷ []
two_items [] a b h = cc
two_items (d ∷ []) a b h = cc
two_items (d ∷ e ∷ []) a b h =
    let same = same_some (a, b) (d, e) h in
    let first : a ≡ d = ap (λ x. x.0) same in
    let second : b ≡ e = ap (λ x. x.1) same in
    rw (first, second) refl
two_items (d ∷ e ∷ f ∷ ds) a b h = cc

pub two_symbols : (ds : List Datum) (a b : Value) (s t : List ℕ) → Some (datum_of a, datum_of b) ≡ two_in ds → Some s ≡ symbol_of a → Some t ≡ symbol_of b
    → symbols ds ≡ Some (s ∷ t ∷ [])
two_symbols ds a b s t h k l = rw (two_items ds (datum_of a) (datum_of b) h, value_of-datum_of a, ← k, value_of-datum_of b, ← l) refl

pub no_second : (ds : List Datum) (a b : Value) (s : List ℕ) → Some (datum_of a, datum_of b) ≡ two_in ds → Some s ≡ symbol_of a → None ≡ symbol_of b
    → symbols ds ≡ None
no_second ds a b s h k l = rw (two_items ds (datum_of a) (datum_of b) h, value_of-datum_of a, ← k, value_of-datum_of b, ← l) refl

pub named_two : (s t : List ℕ) (b : Option Expr) → option_map (λ e. (s, t, e)) b ≡ option_and_then two_params (option_map (λ e. (s ∷ t ∷ [], e)) b)
named_two s t None = refl
named_two s t (Some e) = refl
