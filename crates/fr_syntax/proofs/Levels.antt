-- One level of an expression opens.
use Rattle.std.specs.Prelude.{ℕ, suc, zero, ◌≡◌, ◌≢◌, ◌-◌, None}
use Rattle.std.proofs.Common.{refl, ap, arith, sub-one}
use Rattle.fr_value.specs.Data.{datum_of, value_of-datum_of}
use Rattle.fr_value.specs.declared.value.Datum.{Datum}
use Rattle.fr_value.specs.declared.value.Value.{Value}
use Rattle.fr_syntax.specs.Shapes.{expr_at, expr_to}

pub no_levels : (n : ℕ) (d : Datum) → n ≡ 0 → expr_to n d ≡ None
unfolding expr_to
no_levels zero d e = refl
no_levels (suc n) d e = absurd (omega (arith, e))

pub level : (n : ℕ) (v : Value) → n ≢ 0 → expr_to n (datum_of v) ≡ expr_at (expr_to (n - 1)) v
unfolding expr_to
level zero v some = absurd (some refl)
level (suc n) v some = rw (sub-one (suc n)) (ap (expr_at (expr_to n)) (value_of-datum_of v))
