-- The values of a program as variables in scope.
use Rattle.std.specs.Prelude.{ℕ, ◌≡◌, List, [], ◌∷◌, ◌++◌, None, Some, Result, Ok, Err, OnOk}
use Rattle.std.proofs.Common.{refl, sym, ◌∙◌, ap}
use Rattle.std.proofs.lemmas.List.{map-append}
use Rattle.fr_scope.specs.Meanings.{Binder}
use Rattle.fr_syntax.specs.declared.expr.Expr.{Expr}
use Rattle.fr_syntax.specs.declared.form.Form.{Form}
use Rattle.fr_syntax.specs.declared.form.Form.TheVariants as form
use Rattle.fr_expand.specs.declared.earlier.EarlierNames.{EarlierNames}
use Rattle.fr_expand.specs.Faults.{named}
use Rattle.fr_expand.specs.Passes.{behind}
use Rattle.fr_expand.specs.Shaped.{earlier_of, names_in, AreNamed}

-- what follows from a fact of an answer
pub ok_follows : {T E A B : Type 0} (r : Result T E) → (A → B) → OnOk r A → OnOk r B
ok_follows (Ok v) f h = f h
ok_follows (Err e) f h = h

-- one more named variable
pub names_more : (bs : List Binder) (name : List ℕ) → names_in (bs ++ Some name ∷ []) ≡ names_in bs ++ name ∷ []
names_more [] name = refl
names_more (None ∷ bs) name = names_more bs name
names_more (Some n ∷ bs) name = ap (λ ns. n ∷ ns) (names_more bs name)

pub named_more : (bs : List Binder) (name : List ℕ) → AreNamed bs → AreNamed (bs ++ Some name ∷ [])
named_more bs name h = ap (λ s. s ++ Some name ∷ []) h ∙ sym (ap named (names_more bs name) ∙ map-append Some (names_in bs) (name ∷ []))

-- one more value is among the names
pub value_added : (e : EarlierNames) (defined : List (List ℕ)) (values : List Binder) (f : Form) (name : List ℕ) (x : Expr) → f ≡ form.Define name x → defined ≡ e.defined ++ name ∷ []
    → values ≡ e.values ++ Some name ∷ [] → earlier_of (record { defined = defined; values = values; shown = e.shown }) ≡ behind (earlier_of e) f
value_added e defined values f name x is d v = rw (is, d, v, names_more e.values name) refl
