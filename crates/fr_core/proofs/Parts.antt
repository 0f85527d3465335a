-- The parts of an expression, one equation a shape.
use Rattle.std.proofs.Common.{◌≡◌, ◌==◌, ◌⊎◌, inl, inr, ℕ, Bool, List, [], ◌∷◌, ◌++◌, map, length, refl, ap, ◌∙◌}
use Rattle.std.proofs.lemmas.List.{length-map}
use Rattle.fr_value.specs.declared.ids.FunId.{FunId}
use Rattle.fr_core.specs.declared.core_form.Handler.{Handler}
use Rattle.fr_core.specs.declared.core_form.Loop.{Loop}
use Rattle.fr_core.specs.declared.core_form.Operator.{Operator}
use Rattle.fr_core.specs.declared.core_form.Core.{Core, map-Core}
use Rattle.fr_core.specs.declared.core_form.Core.TheVariants as core
use Rattle.fr_core.specs.declared.core_form.Core.TheVariants.{outs-Let, outs-Apply, outs-Operator, outs-Handler, outs-Loop}
use Rattle.fr_core.specs.declared.core_form.Core.TheOpen.{Core-F}
use Rattle.fr_core.specs.Shapes.{outer, inner, parts_in, parts_of, entries, operator_takes, handler_parts, has_its_parts}
use Rattle.fr_core.specs.WellFormed.{names_something}
use Rattle.fr_core.specs.Classes.{FunctionSet, closed_itself, pure_itself, body_passes}
use Rattle.fr_core.proofs.PartLists.{parts-outer, parts-body}

-- lists of parts

outer-map : {X Y : Type 0} (f : X → Y) (xs : List X) → outer (map f xs) ≡ map (λ x. (x.0, f x.1)) (outer xs)
outer-map f [] = refl
outer-map f (x ∷ xs) = ap (λ l. (0, f x) ∷ l) (outer-map f xs)

body-map : {X Y : Type 0} (f : X → Y) (xs : List X) (n : ℕ) (b : X) → outer (map f xs) ++ (n, f b) ∷ [] ≡ map (λ x. (x.0, f x.1)) (outer xs ++ (n, b) ∷ [])
body-map f [] n b = refl
body-map f (x ∷ xs) n b = ap (λ l. (0, f x) ∷ l) (body-map f xs n b)

pub map-map : {X Y Z : Type 0} (g : Y → Z) (f : X → Y) (xs : List X) → map g (map f xs) ≡ map (λ x. g (f x)) xs
map-map g f [] = refl
map-map g f (x ∷ xs) = ap (λ l. g (f x) ∷ l) (map-map g f xs)

second-map : {X Y : Type 0} (f : X → Y) (xs : List (ℕ × X)) → map (λ (y : ℕ × Y). y.1) (map (λ x. (x.0, f x.1)) xs) ≡ map f (map (λ x. x.1) xs)
second-map f [] = refl
second-map f (x ∷ xs) = ap (λ l. f x.1 ∷ l) (second-map f xs)

-- the parts of an expression that is one of several shapes

-- it has a list of parts alone
abbrev pub HasList : Core → List Core → Type 0
HasList e es = ((f : FunId) × (e ≡ core.Apply f es)) ⊎ ((o : Operator) × (e ≡ core.Operator o es))

pub list_parts : (e : Core) (es : List Core) → HasList e es → parts_of e ≡ es
list_parts e es (inl h) = ap parts_of h.1 ∙ (ap parts_in (outs-Apply h.0 es) ∙ parts-outer es)
list_parts e es (inr h) = ap parts_of h.1 ∙ (ap parts_in (outs-Operator h.0 es) ∙ parts-outer es)

-- it has a body behind a list of parts
abbrev pub HasBody : Core → List Core → Core → Type 0
HasBody e es b = (e ≡ core.Let es b) ⊎ (((h : Handler) × (e ≡ core.Handler h es b)) ⊎ ((l : Loop) × (e ≡ core.Loop l es b)))

pub body_parts : (e : Core) (es : List Core) (b : Core) → HasBody e es b → parts_of e ≡ es ++ b ∷ []
body_parts e es b (inl h) = ap parts_of h ∙ (ap parts_in (outs-Let es b) ∙ parts-body es _ b)
body_parts e es b (inr (inl h)) = ap parts_of h.1 ∙ (ap parts_in (outs-Handler h.0 es b) ∙ parts-body es _ b)
body_parts e es b (inr (inr h)) = ap parts_of h.1 ∙ (ap parts_in (outs-Loop h.0 es b) ∙ parts-body es _ b)

-- the parts of an expression over others

pub inner-map : {X Y : Type 0} (f : X → Y) (l : Core-F X) → inner (map-Core X Y f l) ≡ map (λ x. (x.0, f x.1)) (inner l)
inner-map f (Core-F.Lit v) = refl
inner-map f (Core-F.Var x) = refl
inner-map f (Core-F.Source x) = refl
inner-map f (Core-F.Let es b) = ap (λ n. outer (map f es) ++ (n, f b) ∷ []) (length-map es f) ∙ body-map f es (length es) b
inner-map f (Core-F.If a b c) = refl
inner-map f (Core-F.Apply g es) = outer-map f es
inner-map f (Core-F.Operator o es) = outer-map f es
inner-map f (Core-F.Handler h es b) = body-map f es _ b
inner-map f (Core-F.Loop l es b) = body-map f es _ b
inner-map f (Core-F.Feedback a b) = refl

pub parts_in-map : {X Y : Type 0} (f : X → Y) (l : Core-F X) → parts_in (map-Core X Y f l) ≡ map f (parts_in l)
parts_in-map {Y} f l = ap (map (λ (y : ℕ × Y). y.1)) (inner-map f l) ∙ second-map f (inner l)

pub entries-map : {X Y : Type 0} (f : X → Y) (l : Core-F X) → entries (map-Core X Y f l) ≡ entries l
entries-map f (Core-F.Let es b) = length-map es f
entries-map f (Core-F.Apply g es) = length-map es f
entries-map f (Core-F.Operator o es) = length-map es f
entries-map f (Core-F.Handler h es b) = length-map es f
entries-map f (Core-F.Loop l es b) = length-map es f
entries-map f _ = refl

pub has_its_parts-map : {X Y : Type 0} (f : X → Y) (l : Core-F X) → has_its_parts (map-Core X Y f l) ≡ has_its_parts l
has_its_parts-map f (Core-F.Operator o es) = ap (operator_takes o) (length-map es f)
has_its_parts-map f (Core-F.Handler h es b) = ap (λ n. n == handler_parts h) (length-map es f)
has_its_parts-map f (Core-F.Loop l es b) = ap (λ n. n == 2) (length-map es f)
has_its_parts-map f _ = refl

pub names_something-map : {X Y : Type 0} (functions sources n : ℕ) (f : X → Y) (l : Core-F X) → names_something functions sources (map-Core X Y f l) n ≡ names_something functions sources l n
names_something-map functions sources n f (Core-F.Var x) = refl
names_something-map functions sources n f _ = refl

pub closed_itself-map : {X Y : Type 0} (s : FunctionSet) (f : X → Y) (l : Core-F X) → closed_itself s (map-Core X Y f l) ≡ closed_itself s l
closed_itself-map s f (Core-F.Source x) = refl
closed_itself-map s f _ = refl

pub pure_itself-map : {X Y : Type 0} (calls : ℕ → ℕ → Bool) (f : X → Y) (l : Core-F X) → pure_itself calls (map-Core X Y f l) ≡ pure_itself calls l
pure_itself-map calls f (Core-F.Apply g es) = ap (calls g.0) (length-map es f)
pure_itself-map calls f _ = refl

pub body_passes-map : {X Y : Type 0} (test : Y → Bool) (f : X → Y) (l : Core-F X) → body_passes test (map-Core X Y f l) ≡ body_passes (λ x. test (f x)) l
body_passes-map test f (Core-F.Lit v) = refl
body_passes-map test f _ = refl
