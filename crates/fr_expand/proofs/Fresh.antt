-- The names of forms that aren't refused.
use Rattle.std.specs.Prelude.{◌≡◌, ◌||◌, Bool, true, false, List, Option, Some, None}
use Rattle.std.proofs.Common.{refl, ap}
use Rattle.std.specs.Option.{option_or}
use Rattle.fr_syntax.specs.Outlines.{Global}
use Rattle.fr_syntax.specs.declared.form.Form.{Form}
use Rattle.fr_syntax.specs.declared.form.Form.TheVariants as form
use Rattle.fr_expand.specs.declared.faults.Faults.{Faults}
use Rattle.fr_expand.specs.declared.refusal.Kind.{Kind}
use Rattle.fr_expand.specs.Faults.{clean}
use Rattle.fr_expand.specs.Passes.{Earlier, form_faults, form_kind, fault_kind}
use Rattle.fr_expand.specs.Shaped.{is_taken}

pub or_false : (a b : Bool) → (a || b) ≡ false → (a ≡ false) × (b ≡ false)
or_false true b h = cc
or_false false b h = (refl, h)

pub none_or : (a b : Option Kind) → option_or a b ≡ None → (a ≡ None) × (b ≡ None)
none_or None b h = (refl, h)
none_or (Some k) b h = cc

no_fault_at : (n u t : Bool) → fault_kind (record { name = n; unbound = u; twice = t }) ≡ None → (n ≡ false) × (u ≡ false) × (t ≡ false)
no_fault_at false false false h = (refl, refl, refl)
no_fault_at true u t h = cc
no_fault_at false true t h = cc
no_fault_at false false true h = cc

-- faults without a kind are none
pub no_fault : (f : Faults) → fault_kind f ≡ None → f ≡ clean
no_fault f h = let each = no_fault_at f.name f.unbound f.twice h in λ i. record { name = each.0 i; unbound = each.1 i; twice = each.2 i }

pub fresh_twice : (globals : List Global) (e : Earlier) (f : Form) → (form_faults globals e f).twice ≡ false → is_taken e f ≡ false
fresh_twice globals e (form.Input name v) h = h
fresh_twice globals e (form.Event name) h = h
fresh_twice globals e (form.Function name params body) h = (or_false _ _ h).0
fresh_twice globals e (form.Define name x) h = (or_false _ _ h).0
fresh_twice globals e (form.Show name x) h = (or_false _ _ h).0

-- the name of a form that isn't refused is a new one
pub fresh : (globals : List Global) (e : Earlier) (f : Form) → form_kind globals e f ≡ None → is_taken e f ≡ false
fresh globals e f h = fresh_twice globals e f (ap (λ x. x.twice) (no_fault (form_faults globals e f) (none_or _ _ h).0))
