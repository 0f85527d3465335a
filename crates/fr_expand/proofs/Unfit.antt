-- The first form that isn't fit, as forms are gone through.
use Rattle.std.specs.Prelude.{ℕ, zero, suc, ◌≡◌, ◌+◌, ◌<◌, ◌↔◌, Bool, true, false, IsTrue, List, [], ◌∷◌, length, slice_get, Option, Some, None}
use Rattle.std.proofs.Common.{refl, sym, ◌∙◌, ap, arith, drop, get_or, below_more, subst, true≢false, add-one}
use Rattle.std.proofs.lemmas.List.{drop_more, drop_all}
use Rattle.fr_core.specs.declared.core_form.Core.{Core}
use Rattle.fr_core.specs.declared.program.Function.{Function}
use Rattle.fr_core.specs.declared.program.Item.{Item}
use Rattle.fr_core.specs.declared.program.Program.{Program}
use Rattle.fr_syntax.specs.declared.form.Form.{Form}
use Rattle.fr_syntax.specs.Outlines.{Global}
use Rattle.fr_expand.specs.Cores.{AreGiven}
use Rattle.fr_expand.specs.Expansion.{IsFitForm, IsFirstUnfit, cores_from, program_in}
use Rattle.fr_expand.specs.Items.{form_core, values_behind}

head_of : {A : Type 0} (x : A) (xs : List A) (all : List A) (i : ℕ) → x ∷ xs ≡ drop i all → (slice_get all i ≡ Some x) × (xs ≡ drop (i + 1) all)
head_of x xs [] i h = let none : x ∷ xs ≡ [] = h ∙ drop_all i [] (omega arith) in cc
head_of x xs (y ∷ ys) zero h = let same : x ∷ xs ≡ y ∷ ys = h in (let e : x ≡ y = cc in ap Some (sym e), cc)
head_of x xs (y ∷ ys) (suc i) h = let later = head_of x xs ys i h in (later.0, later.1 ∙ ap (λ n. drop n ys) (add-one i) ∙ ap (λ n. drop n (y ∷ ys)) (sym (add-one (suc i))))

-- the next form isn't fit, and those before it are
first_unfit : (p : Program) (cores : List (Option Core)) (at : ℕ) (c : Option Core) (b : Bool) → slice_get cores at ≡ Some c → IsTrue b ↔ IsFitForm p c → b ≡ false
    → ((i : ℕ) (x : Option Core) → i < at → slice_get cores i ≡ Some x → IsFitForm p x) → IsFirstUnfit p cores (at + 1)
first_unfit p cores at None b s fits unfit before = absurd (true≢false (sym (fits.1 tt) ∙ unfit))
first_unfit p cores at (Some e) b s fits unfit before = record { place = at; number = refl; core = e; stands = s; unfit = λ k. true≢false (sym (fits.1 k) ∙ unfit); before = before }

-- a form more is fit
fit_next : (p : Program) (cores : List (Option Core)) (at : ℕ) (c : Option Core) (b : Bool) → slice_get cores at ≡ Some c → IsTrue b ↔ IsFitForm p c → b ≡ true
    → ((i : ℕ) (x : Option Core) → i < at → slice_get cores i ≡ Some x → IsFitForm p x) → (i : ℕ) (x : Option Core) → i < at + 1 → slice_get cores i ≡ Some x → IsFitForm p x
fit_next p cores at c b s fits fit before i x h k =
    below_more (λ j. (y : Option Core) → slice_get cores j ≡ Some y → IsFitForm p y) at (λ j l y m. before j y l m)
    (λ y m. subst (IsFitForm p) (same_some c y (sym s ∙ m)) (fits.0 fit)) i h x k
  where
    same_some : (u v : Option Core) → Some u ≡ Some v → u ≡ v
    same_some u v e = cc

pub length-cores_from : (globals : List Global) (values : List (List ℕ)) (forms : List Form) → length (cores_from globals values forms) ≡ length forms
length-cores_from globals values [] = refl
length-cores_from globals values (f ∷ forms) = ap suc (length-cores_from globals (values_behind values f) forms)

-- so many forms are gone through, and are fit; the others give these functions and items
pub record Gone (globals : List Global) (p : Program) (forms : List Form) (at : ℕ) (fs : List Function) (is : List Item) : Type 0 where
  pub values : List (List ℕ)
  pub given : AreGiven globals values (drop at forms) fs is
  pub cores : cores_from globals values (drop at forms) ≡ drop at (cores_from globals [] forms)
  pub before : (i : ℕ) (c : Option Core) → i < at → slice_get (cores_from globals [] forms) i ≡ Some c → IsFitForm p c

pub none_gone : (globals : List Global) (p : Program) (forms : List Form) → p ≡ program_in globals forms → Gone globals p forms 0 p.functions p.body
none_gone globals p forms e = record {
  values = [];
  given = record { functions = ap (λ x. x.functions) e; items = ap (λ x. x.body) e };
  cores = refl;
  before = λ i c h k. absurd (omega (arith, h));
}

-- what is found of a form: its core expression, and what the forms behind it give
abbrev pub Finds : Form → Option Core → List Function → List Item → List Function → List Item → Type 0
Finds f c fs is fs' is' = (globals : List Global) (values : List (List ℕ)) (forms : List Form) → AreGiven globals values (f ∷ forms) fs is
    → (c ≡ form_core globals values f) × AreGiven globals (values_behind values f) forms fs' is'

module _ (globals : List Global) (p : Program) (forms : List Form) (at : ℕ) (f : Form) (c : Option Core) (fs fs' : List Function) (is is' : List Item)
    (h : at < length forms) (same : f ≡ get_or forms at f) (finds : Finds f c fs is fs' is') (gone : Gone globals p forms at fs is) where
  abbrev cores : List (Option Core)
  cores = cores_from globals [] forms

  split : drop at forms ≡ f ∷ drop (at + 1) forms
  split = drop_more forms at f h ∙ ap (λ x. x ∷ drop (at + 1) forms) (sym same)

  found : (c ≡ form_core globals gone.values f) × AreGiven globals (values_behind gone.values f) (drop (at + 1) forms) fs' is'
  found = finds globals gone.values (drop (at + 1) forms) (subst (λ l. AreGiven globals gone.values l fs is) split gone.given)

  placed : (slice_get cores at ≡ Some c) × (cores_from globals (values_behind gone.values f) (drop (at + 1) forms) ≡ drop (at + 1) cores)
  placed = let next = head_of _ _ cores at (ap (cores_from globals gone.values) (sym split) ∙ gone.cores) in (next.0 ∙ ap Some (sym found.0), next.1)

  -- the next form isn't fit
  pub is_first : (b : Bool) → IsTrue b ↔ IsFitForm p c → b ≡ false → IsFirstUnfit p cores (at + 1)
  is_first b fits unfit = first_unfit p cores at c b placed.0 fits unfit gone.before

  -- the next form is fit
  pub one_gone : (b : Bool) → IsTrue b ↔ IsFitForm p c → b ≡ true → Gone globals p forms (at + 1) fs' is'
  one_gone b fits fit = record { values = values_behind gone.values f; given = found.1; cores = placed.1; before = fit_next p cores at c b placed.0 fits fit gone.before }
