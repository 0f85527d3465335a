-- What is built of lowered parts, shape by shape.
use Rattle.std.proofs.Common.{◌≡◌, ◌+◌, ◌&&◌, ℕ, Bool, true, false, List, [], ◌∷◌, ◌++◌, length, Option, None, refl, sym, ap, subst, ◌∙◌, arith}
use Rattle.std.proofs.lemmas.List.{length-append}
use Rattle.fr_value.specs.declared.ids.FunId.{FunId}
use Rattle.fr_value.specs.declared.ids.KernId.{KernId}
use Rattle.fr_value.specs.declared.ids.SiteId.{SiteId}
use Rattle.fr_value.specs.declared.ids.SrcId.{SrcId}
use Rattle.fr_value.specs.declared.ids.VarId.{VarId}
use Rattle.fr_value.specs.declared.value.Value.{Value}
use Rattle.fr_core.specs.declared.core_form.Handler.{Handler}
use Rattle.fr_core.specs.declared.core_form.Loop.{Loop}
use Rattle.fr_core.specs.declared.core_form.Operator.{Operator}
use Rattle.fr_core.specs.declared.core_form.Core.{Core, out-Core}
use Rattle.fr_core.specs.declared.core_form.Core.TheOpen.{Core-F}
use Rattle.fr_core.specs.declared.core_form.Core.TheVariants as core
use Rattle.fr_core.specs.declared.lowered.Low.{Low, out-Low}
use Rattle.fr_core.specs.declared.lowered.Low.TheOpen.{Low-F}
use Rattle.fr_core.specs.declared.lowered.Low.TheVariants as low
use Rattle.fr_core.specs.declared.lowered.Slot.{Slot}
use Rattle.fr_core.specs.declared.program.Program.{Program}
use Rattle.fr_core.specs.Shapes.{outer, handler_binds, loop_binds}
use Rattle.fr_core.specs.Sites.{parts_at, site_at}
use Rattle.fr_purity.specs.declared.classification.Classes.{Classes}
use Rattle.fr_kernel.specs.Kernels.{Kernel, kernel_for}
use Rattle.fr_kernel.specs.Erasure.{erase, expr_in, kernel_expr, inner_low, named_in, Fits, FitsIfNamed, is_collapsed_in, is_compound, is_compound_in}
use Rattle.fr_lower.specs.declared.making.Made.{Made}
use Rattle.fr_lower.specs.Making.{joins, collapses, outside, outside_in, Extends, Grows, HasSites, IsPlaced, IsMade, AreMade, IsKernelOf, IsWhole, WasWhole, WasBuilt}
use Rattle.fr_lower.proofs.Places.{AllEverywhere, everywhere}
use Rattle.fr_lower.proofs.Ranges.{Ranged, sites_below, sites_own}
use Rattle.fr_lower.proofs.Rows.{outer_made, let_made, made_to}
use Rattle.fr_lower.proofs.Steps.{grows_refl}
use Rattle.fr_lower.proofs.Erasing.{erased_lit, erased_var, erased_source, erased_let, erased_if, erased_apply, erased_operator, erased_handler, erased_loop, erased_feedback, erased_collapse}

-- leaves, and what is computed as a whole

whole_leaf : (ks : List Kernel) (n : ℕ) (e : Core) (l : Low) (f : Low-F Low) → out-Low l ≡ f → erase ks l ≡ e → is_collapsed_in f ≡ is_compound e → FitsIfNamed ks n (named_in f) → inner_low f ≡ [] → parts_at f ≡ [] → site_at f ≡ None → IsWhole ks n e l
whole_leaf ks n e l f is erased collapsed fits alone without_parts without_site = record {
  erased = erased;
  fits = subst (λ g. FitsIfNamed ks n (named_in g)) (sym is) fits;
  collapsed = ap is_collapsed_in is ∙ collapsed;
  alone = ap inner_low is ∙ alone;
  without_parts = ap parts_at is ∙ without_parts;
  without_site = ap site_at is ∙ without_site;
}

pub whole_lit : (n : ℕ) (m : Made) (e : Core) (v : Value) → e ≡ core.Lit v → WasWhole n m m e (low.Lit v)
whole_lit n m e v is = record {
  grows = grows_refl m;
  later = λ ks ext. whole_leaf ks n e (low.Lit v) (Low-F.Lit v) (low.outs-Lit v) (erased_lit ks v ∙ sym is) (sym (ap is_compound is ∙ ap is_compound_in (core.outs-Lit v))) tt refl refl refl;
}

pub whole_var : (n : ℕ) (m : Made) (e : Core) (x : VarId) → e ≡ core.Var x → WasWhole n m m e (low.Var x)
whole_var n m e x is = record {
  grows = grows_refl m;
  later = λ ks ext. whole_leaf ks n e (low.Var x) (Low-F.Var x) (low.outs-Var x) (erased_var ks x ∙ sym is) (sym (ap is_compound is ∙ ap is_compound_in (core.outs-Var x))) tt refl refl refl;
}

pub whole_source : (n : ℕ) (m : Made) (e : Core) (x : SrcId) → e ≡ core.Source x → WasWhole n m m e (low.Source x)
whole_source n m e x is = record {
  grows = grows_refl m;
  later = λ ks ext. whole_leaf ks n e (low.Source x) (Low-F.Source x) (low.outs-Source x) (erased_source ks x ∙ sym is) (sym (ap is_compound is ∙ ap is_compound_in (core.outs-Source x))) tt refl refl refl;
}

pub kernel_of_is : (ks : List Kernel) (first params : ℕ) (e : Core) (id : ℕ) (slots : List Slot) → IsKernelOf ks first params e id slots → kernel_expr ks id ≡ e
kernel_of_is ks first params e id slots h = ap expr_in h.stands

kernel_fits : (ks : List Kernel) (first params : ℕ) (e : Core) (id : ℕ) (slots : List Slot) → IsKernelOf ks first params e id slots → Fits ks first (record { id = id; binds = params; slots = slots })
kernel_fits ks first params e id slots h = record { kernel = kernel_for first params e; stands = h.stands; first = refl; params = refl; slots = sym h.reads }

pub whole_collapse : (n : ℕ) (old new : Made) (e : Core) (id : KernId) (slots : List Slot) → is_compound e ≡ true → Grows old new → ((ks : List Kernel) → Extends new.table.kernels ks → IsKernelOf ks n 0 e id.0 slots)
    → WasWhole n old new e (low.Collapse id slots)
whole_collapse n old new e id slots compound grows kernel = record {
  grows = grows;
  later = λ ks ext.
      let k = kernel ks ext in
      whole_leaf ks n e (low.Collapse id slots) (Low-F.Collapse id slots) (low.outs-Collapse id slots) (erased_collapse ks id slots ∙ kernel_of_is ks n 0 e id.0 slots k) (sym compound) (kernel_fits ks n 0 e id.0 slots k) refl refl refl;
}

-- what isn't computed as a whole

and_false : (t : Bool) → t && false ≡ false
and_false true = refl
and_false false = refl

made_sited : (p : Program) (o : Option Classes) (ks : List Kernel) (n from to : ℕ) (e : Core) (l : Low) (f : Low-F Low) → out-Low l ≡ f → joins p o e ≡ false → is_collapsed_in f ≡ false → erase ks l ≡ e → FitsIfNamed ks n (named_in f)
    → AllEverywhere (IsPlaced p o ks) n (inner_low f) → HasSites from to l → IsMade p o ks n from to e l
made_sited p o ks n from to e l f is apart apart_itself erased fits inside sites =
    let told : collapses p o (erase ks l) ≡ false = ap (collapses p o) erased ∙ (ap (λ t. is_compound e && t) apart ∙ and_false (is_compound e)) in
    record {
      erased = erased;
      placed = everywhere (IsPlaced p o ks) n l (inner_low f) (ap inner_low is) (record { collapsed = ap is_collapsed_in is ∙ (apart_itself ∙ sym told); fits = subst (λ g. FitsIfNamed ks n (named_in g)) (sym is) fits }) inside;
      sites = sites;
    }

made_plain : (p : Program) (o : Option Classes) (ks : List Kernel) (n from to : ℕ) (e : Core) (l : Low) (f : Low-F Low) → out-Low l ≡ f → joins p o e ≡ false → is_collapsed_in f ≡ false → site_at f ≡ None → erase ks l ≡ e → FitsIfNamed ks n (named_in f)
    → AllEverywhere (IsPlaced p o ks) n (inner_low f) → Ranged from to (parts_at f) → IsMade p o ks n from to e l
made_plain p o ks n from to e l f is apart apart_itself siteless erased fits inside ranged =
    made_sited p o ks n from to e l f is apart apart_itself erased fits inside (sites_below from to l (parts_at f) (ap parts_at is) (ap site_at is ∙ siteless) ranged)

-- the parts of an expression by its shape
parts_are : (p : Program) (o : Option Classes) (ks : List Kernel) (n from to : ℕ) (e : Core) (f : Core-F Core) (ls : List Low) → out-Core e ≡ f → AreMade p o ks n from to (outside e) ls → AreMade p o ks n from to (outside_in f) ls
parts_are p o ks n from to e f ls is h = subst (λ g. AreMade p o ks n from to (outside_in g) ls) is h

pub built_apply : (p : Program) (o : Option Classes) (n : ℕ) (m : Made) (e : Core) (g : FunId) (es : List Core) (ls : List Low) → e ≡ core.Apply g es → joins p o e ≡ false → WasBuilt p o n m m e ls (low.Apply g ls)
built_apply p o n m e g es ls is apart = record {
  grows = grows_refl m;
  later = λ ks ext from h.
      let laid = outer_made p o ks n from m.sites es ls (parts_are p o ks n from m.sites e (Core-F.Apply g es) ls (ap out-Core is ∙ core.outs-Apply g es) h) in
      made_plain p o ks n from m.sites e (low.Apply g ls) (Low-F.Apply g ls) (low.outs-Apply g ls) apart refl refl (erased_apply ks g ls ∙ (ap (core.Apply g) laid.erased ∙ sym is)) tt laid.places laid.ranged;
}

pub built_operator : (p : Program) (o : Option Classes) (n : ℕ) (m : Made) (e : Core) (g : Operator) (es : List Core) (ls : List Low) → e ≡ core.Operator g es → joins p o e ≡ false → WasBuilt p o n m m e ls (low.Operator g ls)
built_operator p o n m e g es ls is apart = record {
  grows = grows_refl m;
  later = λ ks ext from h.
      let laid = outer_made p o ks n from m.sites es ls (parts_are p o ks n from m.sites e (Core-F.Operator g es) ls (ap out-Core is ∙ core.outs-Operator g es) h) in
      made_plain p o ks n from m.sites e (low.Operator g ls) (Low-F.Operator g ls) (low.outs-Operator g ls) apart refl refl (erased_operator ks g ls ∙ (ap (core.Operator g) laid.erased ∙ sym is)) tt laid.places laid.ranged;
}

pub built_handler : (p : Program) (o : Option Classes) (n : ℕ) (old new : Made) (e : Core) (g : Handler) (es : List Core) (b : Core) (binds : ℕ) (ls : List Low) (id : KernId) (slots : List Slot) → e ≡ core.Handler g es b → binds ≡ handler_binds g
    → Grows old new → ((ks : List Kernel) → Extends new.table.kernels ks → IsKernelOf ks n binds b id.0 slots) → joins p o e ≡ false → WasBuilt p o n old new e ls (low.Handler g ls id slots)
built_handler p o n old new e g es b binds ls id slots is bound grows kernel apart = record {
  grows = grows;
  later = λ ks ext from h.
      let laid = outer_made p o ks n from old.sites es ls (parts_are p o ks n from old.sites e (Core-F.Handler g es b) ls (ap out-Core is ∙ core.outs-Handler g es b) h) in
      let k = subst (λ c. IsKernelOf ks n c b id.0 slots) bound (kernel ks ext) in
      let erased : erase ks (low.Handler g ls id slots) ≡ e = erased_handler ks g ls id slots ∙ ((λ i. core.Handler g (laid.erased i) (kernel_of_is ks n (handler_binds g) b id.0 slots k i)) ∙ sym is) in
      made_to p o ks n from old.sites new.sites e (low.Handler g ls id slots) grows.sites
      (made_plain p o ks n from old.sites e (low.Handler g ls id slots) (Low-F.Handler g ls id slots) (low.outs-Handler g ls id slots) apart refl refl erased (kernel_fits ks n (handler_binds g) b id.0 slots k) laid.places laid.ranged);
}

pub built_loop : (p : Program) (o : Option Classes) (n : ℕ) (old new : Made) (e : Core) (g : Loop) (es : List Core) (b : Core) (binds : ℕ) (ls : List Low) (id : KernId) (slots : List Slot) → e ≡ core.Loop g es b → binds ≡ loop_binds g
    → Grows old new → ((ks : List Kernel) → Extends new.table.kernels ks → IsKernelOf ks n binds b id.0 slots) → joins p o e ≡ false → WasBuilt p o n old new e ls (low.Loop g ls id slots)
built_loop p o n old new e g es b binds ls id slots is bound grows kernel apart = record {
  grows = grows;
  later = λ ks ext from h.
      let laid = outer_made p o ks n from old.sites es ls (parts_are p o ks n from old.sites e (Core-F.Loop g es b) ls (ap out-Core is ∙ core.outs-Loop g es b) h) in
      let k = subst (λ c. IsKernelOf ks n c b id.0 slots) bound (kernel ks ext) in
      let erased : erase ks (low.Loop g ls id slots) ≡ e = erased_loop ks g ls id slots ∙ ((λ i. core.Loop g (laid.erased i) (kernel_of_is ks n (loop_binds g) b id.0 slots k i)) ∙ sym is) in
      made_to p o ks n from old.sites new.sites e (low.Loop g ls id slots) grows.sites
      (made_plain p o ks n from old.sites e (low.Loop g ls id slots) (Low-F.Loop g ls id slots) (low.outs-Loop g ls id slots) apart refl refl erased (kernel_fits ks n (loop_binds g) b id.0 slots k) laid.places laid.ranged);
}

pub built_let : (p : Program) (o : Option Classes) (n : ℕ) (m : Made) (e : Core) (es : List Core) (b : Core) (all ls : List Low) (l : Low) → e ≡ core.Let es b → all ≡ ls ++ l ∷ [] → joins p o e ≡ false → WasBuilt p o n m m e all (low.Let ls l)
built_let p o n m e es b all ls l is split apart = record {
  grows = grows_refl m;
  later = λ ks ext from h.
      let made = subst (AreMade p o ks n from m.sites (outer es ++ (length es, b) ∷ [])) split (parts_are p o ks n from m.sites e (Core-F.Let es b) all (ap out-Core is ∙ core.outs-Let es b) h) in
      let laid = let_made p o ks n from m.sites es ls b l made in
      let erased : erase ks (low.Let ls l) ≡ e = erased_let ks ls l ∙ ((λ i. core.Let (laid.erased i) (laid.body i)) ∙ sym is) in
      made_plain p o ks n from m.sites e (low.Let ls l) (Low-F.Let ls l) (low.outs-Let ls l) apart refl refl erased tt laid.places laid.ranged;
}

-- so many were taken off
none_more : (ls : List Low) → length ls ≡ 0 → ls ≡ []
none_more [] h = refl
none_more (l ∷ ls) h = absurd (omega arith)

pub three_parts : (all p q r : List Low) (a b c : Low) → length all ≡ 3 → all ≡ p ++ c ∷ [] → p ≡ q ++ b ∷ [] → q ≡ r ++ a ∷ [] → all ≡ a ∷ b ∷ c ∷ []
three_parts all p q r a b c n hc hb ha =
    let whole : all ≡ ((r ++ a ∷ []) ++ b ∷ []) ++ c ∷ [] = hc ∙ ap (λ l. l ++ c ∷ []) (hb ∙ ap (λ l. l ++ b ∷ []) ha) in
    let long : length all ≡ length r + 3 = ap length whole ∙ simp length-append (omega arith) in
    whole ∙ ap (λ l. ((l ++ a ∷ []) ++ b ∷ []) ++ c ∷ []) (none_more r (omega (arith, n, long)))

pub two_parts : (all p q : List Low) (a b : Low) → length all ≡ 2 → all ≡ p ++ b ∷ [] → p ≡ q ++ a ∷ [] → all ≡ a ∷ b ∷ []
two_parts all p q a b n hb ha =
    let whole : all ≡ (q ++ a ∷ []) ++ b ∷ [] = hb ∙ ap (λ l. l ++ b ∷ []) ha in
    let long : length all ≡ length q + 2 = ap length whole ∙ simp length-append (omega arith) in
    whole ∙ ap (λ l. (l ++ a ∷ []) ++ b ∷ []) (none_more q (omega (arith, n, long)))

grows_counted : (old new : Made) → new ≡ record old { sites = old.sites + 1 } → Grows old new
grows_counted old new h = subst (Grows old) (sym h) (record { functions = refl; sound = λ s. s; kernels = λ id k s. s; sites = omega arith })

pub built_if : (p : Program) (o : Option Classes) (n : ℕ) (old new : Made) (e x y z : Core) (all : List Low) (s : SiteId) (a b c : Low) → e ≡ core.If x y z → all ≡ a ∷ b ∷ c ∷ [] → s.0 ≡ old.sites → new ≡ record old { sites = old.sites + 1 }
    → joins p o e ≡ false → WasBuilt p o n old new e all (low.If s a b c)
built_if p o n old new e x y z all s a b c is split number counted apart = record {
  grows = grows_counted old new counted;
  later = λ ks ext from h.
      let made = subst (AreMade p o ks n from old.sites (outer (x ∷ y ∷ z ∷ []))) split (parts_are p o ks n from old.sites e (Core-F.If x y z) all (ap out-Core is ∙ core.outs-If x y z) h) in
      let laid = outer_made p o ks n from old.sites (x ∷ y ∷ z ∷ []) (a ∷ b ∷ c ∷ []) made in
      let erased : erase ks (low.If s a b c) ≡ e = erased_if ks s a b c ∙ ((λ i. core.If (made.1.0.erased i) (made.1.1.1.0.erased i) (made.1.1.1.1.1.0.erased i)) ∙ sym is) in
      let sites : HasSites from (old.sites + 1) (low.If s a b c) = sites_own from old.sites (low.If s a b c) (a ∷ b ∷ c ∷ []) s (ap parts_at (low.outs-If s a b c)) (ap site_at (low.outs-If s a b c)) number laid.ranged in
      let last : old.sites + 1 ≡ new.sites = ap (λ (m : Made). m.sites) (sym counted) in
      made_sited p o ks n from new.sites e (low.If s a b c) (Low-F.If s a b c) (low.outs-If s a b c) apart refl erased tt laid.places (subst (λ k. HasSites from k (low.If s a b c)) last sites);
}

pub built_feedback : (p : Program) (o : Option Classes) (n : ℕ) (m : Made) (e x y : Core) (all : List Low) (a b : Low) → e ≡ core.Feedback x y → all ≡ a ∷ b ∷ [] → joins p o e ≡ false → WasBuilt p o n m m e all (low.Feedback a b)
built_feedback p o n m e x y all a b is split apart = record {
  grows = grows_refl m;
  later = λ ks ext from h.
      let made = subst (AreMade p o ks n from m.sites ((0, x) ∷ (1, y) ∷ [])) split (parts_are p o ks n from m.sites e (Core-F.Feedback x y) all (ap out-Core is ∙ core.outs-Feedback x y) h) in
      let erased : erase ks (low.Feedback a b) ≡ e = erased_feedback ks a b ∙ ((λ i. core.Feedback (made.1.0.erased i) (made.1.1.1.0.erased i)) ∙ sym is) in
      made_plain p o ks n from m.sites e (low.Feedback a b) (Low-F.Feedback a b) (low.outs-Feedback a b) apart refl refl erased tt
      (made.1.0.placed, (made.1.1.1.0.placed, tt)) (made.0, (made.1.0.sites, (made.1.1.0, (made.1.1.1.0.sites, made.1.1.1.1))));
}
