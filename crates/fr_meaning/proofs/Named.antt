-- The variables and the sources that an expression names, and what holds of each of its parts.
use Rattle.std.proofs.Common.{◌≡◌, ℕ, List, [], ◌∷◌, ◌++◌, map, refl, ◌∙◌, subst}
use Rattle.fr_core.specs.Shapes.{outer, parts_in}
use Rattle.fr_core.specs.declared.core_form.Core.{Core, out-Core, fold_out-Core, map-Core}
use Rattle.fr_core.specs.declared.core_form.Core.TheOpen.{Core-F}
use Rattle.fr_core.proofs.Parts.{parts_in-map}
use Rattle.fr_core.proofs.PartLists.{parts-outer}
use Rattle.fr_core.proofs.Folds.{Each}
use Rattle.fr_meaning.specs.Dependence.{joined, own_variable, variables_step, variables, own_source, sources_step, sources_of, AgreeAt}

own_variable-map : {X Y : Type 0} (f : X → Y) (l : Core-F X) → own_variable (map-Core X Y f l) ≡ own_variable l
own_variable-map f (Core-F.Var x) = refl
own_variable-map f _ = refl

own_source-map : {X Y : Type 0} (f : X → Y) (l : Core-F X) → own_source (map-Core X Y f l) ≡ own_source l
own_source-map f (Core-F.Source s) = refl
own_source-map f _ = refl

pub variables-opens : (e : Core) → variables e ≡ own_variable (out-Core e) ++ joined (map variables (parts_in (out-Core e)))
unfolding variables
variables-opens e = fold_out-Core (List ℕ) variables_step e ∙ rw (own_variable-map variables (out-Core e), parts_in-map variables (out-Core e)) refl

pub sources-opens : (e : Core) → sources_of e ≡ own_source (out-Core e) ++ joined (map sources_of (parts_in (out-Core e)))
unfolding sources_of
sources-opens e = fold_out-Core (List ℕ) sources_step e ∙ rw (own_source-map sources_of (out-Core e), parts_in-map sources_of (out-Core e)) refl

-- lists that agree at what all parts name agree at what each of them names

pub both_agree : {X : Type 0} (ms ns : List ℕ) (xs others : List X) → AgreeAt (ms ++ ns) xs others → AgreeAt ms xs others × AgreeAt ns xs others
both_agree [] ns xs others h = (tt, h)
both_agree (m ∷ ms) ns xs others h = let t = both_agree ms ns xs others h.1 in ((h.0, t.0), t.1)

pub each_agree : {X : Type 0} (named : Core → List ℕ) (xs others : List X) (es : List Core) → AgreeAt (joined (map named es)) xs others → Each (λ e. AgreeAt (named e) xs others) es
each_agree named xs others [] h = tt
each_agree named xs others (e ∷ es) h = let t = both_agree (named e) (joined (map named es)) xs others h in (t.0, each_agree named xs others es t.1)

pub always_agree : {X : Type 0} (ns : List ℕ) (xs : List X) → AgreeAt ns xs xs
always_agree [] xs = tt
always_agree (n ∷ ns) xs = (refl, always_agree ns xs)

-- the parts are a list, or a list with a body behind it

pub each_outer : (P : Core → Type 0) (es : List Core) → Each P (map (λ (x : ℕ × Core). x.1) (outer es)) → Each P es
each_outer P es h = subst (Each P) (parts-outer es) h

pub each_body : (P : Core → Type 0) (es : List Core) (n : ℕ) (b : Core) → Each P (map (λ (x : ℕ × Core). x.1) (outer es ++ (n, b) ∷ [])) → Each P es × P b
each_body P [] n b h = (tt, h.0)
each_body P (e ∷ es) n b h = let t = each_body P es n b h.1 in ((h.0, t.0), t.1)
