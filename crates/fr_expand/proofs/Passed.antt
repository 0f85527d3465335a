-- Forms that the first pass doesn't refuse.
use Rattle.std.specs.Prelude.{ℕ, ◌≡◌, ◌+◌, ◌≤◌, nat_lt, Bool, true, false, if◌then◌else◌, List, [], ◌∷◌, map, Option, Some, None}
use Rattle.std.proofs.Common.{refl}
use Rattle.std.proofs.lemmas.Bool.{ltb-false}
use Rattle.fr_value.specs.declared.value.Datum.{Datum}
use Rattle.fr_syntax.specs.Outlines.{Global}
use Rattle.fr_syntax.specs.Shapes.{form_of}
use Rattle.fr_syntax.specs.declared.expr.Expr.{Expr, out-Expr}
use Rattle.fr_syntax.specs.declared.form.Form.{Form}
use Rattle.fr_expand.specs.declared.refusal.Kind.{Kind}
use Rattle.fr_expand.specs.declared.refusal.Kind.TheVariants as kind
use Rattle.fr_expand.specs.declared.refusal.Refusal.{Refusal}
use Rattle.fr_expand.specs.Faults.{clean}
use Rattle.fr_expand.specs.Items.{form_core}
use Rattle.fr_expand.specs.Passes.{Earlier, behind, form_faults, form_kind, nests, refused_or, refusal_from}
use Rattle.fr_expand.specs.Shaped.{and_behind, shaped}
use Rattle.fr_expand.specs.Shapes.{shape_of}
use Rattle.fr_expand.proofs.Fresh.{none_or, no_fault}
use Rattle.fr_expand.proofs.OfParts.{OfParts, IsPaired}
use Rattle.fr_expand.proofs.Parsed.{Of, OfForm, form_holds}

-- a form has no faults and doesn't nest too deep
pub record Passed (g : List Global) (e : Earlier) (f : Form) : Type 0 where
  pub faultless : form_faults g e f ≡ clean
  pub shallow : nests (form_core g e.values f) ≤ 500

-- so it is with each of these forms
abbrev pub AllPassed : List Global → Earlier → List Form → Type 0
AllPassed g e [] = Unit {0}
AllPassed g e (f ∷ fs) = Passed g e f × AllPassed g (behind e f) fs

not_deep : (n : ℕ) (b : Bool) → nat_lt 500 n ≡ b → (if b then Some kind.Nesting else None) ≡ None → n ≤ 500
not_deep n true e h = cc
not_deep n false e h = ltb-false 500 n e

passed : (g : List Global) (e : Earlier) (f : Form) → form_kind g e f ≡ None → Passed g e f
passed g e f h =
    let both = none_or _ _ h in
    record { faultless = no_fault (form_faults g e f) both.0; shallow = not_deep (nests (form_core g e.values f)) (nat_lt 500 (nests (form_core g e.values f))) refl both.1 }

not_refused : (n : ℕ) (k : Option Kind) (r : Option Refusal) → None ≡ refused_or n k r → (k ≡ None) × (None ≡ r)
not_refused n None r h = (refl, h)
not_refused n (Some k) r h = cc

-- where none is refused, each passes
pub all_passed : (g : List Global) (n : ℕ) (e : Earlier) (fs : List Form) → None ≡ refusal_from g n e (map Some fs) → AllPassed g e fs
all_passed g n e [] h = tt
all_passed g n e (f ∷ fs) h =
    let both = not_refused n (form_kind g e f) (refusal_from g (n + 1) (behind e f) (map Some fs)) h in
    (passed g e f both.0, all_passed g (n + 1) (behind e f) fs both.1)

-- it holds of the expression of each form
abbrev pub OfForms : (Expr → Type 0) → List Form → Type 0
OfForms P [] = Unit {0}
OfForms P (f ∷ fs) = OfForm P f × OfForms P fs

behind_holds : (P : Expr → Type 0) (x : Option Form) (fs : List Form) → Of (OfForm P) x → OfForms P fs → OfForms P (and_behind x fs)
behind_holds P None fs h k = tt
behind_holds P (Some f) fs h k = (h, k)

-- what holds for each form of expression holds of the expressions of all forms that have a shape
pub forms_hold : (P : Expr → Type 0) → ((e : Expr) → IsPaired (out-Expr e) → OfParts P (shape_of e) → P e) → (ds : List Datum) → OfForms P (shaped ds)
forms_hold P closed [] = tt
forms_hold P closed (d ∷ ds) = behind_holds P (form_of d) (shaped ds) (form_holds P closed d) (forms_hold P closed ds)
