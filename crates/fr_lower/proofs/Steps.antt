-- What is known between two parts: of what was found of them, and of what was closed.
use Rattle.std.proofs.Common.{◌≡◌, ◌+◌, ◌&&◌, ℕ, Bool, true, false, List, [], ◌∷◌, ◌++◌, map, Option, Some, None, is_none, refl, sym, ap, subst, ◌∙◌, append_assoc, arith}
use Rattle.std.proofs.lemmas.List.{append-nil}
use Rattle.fr_core.specs.Classes.{IsFitExpr}
use Rattle.fr_core.specs.Shapes.{all_true}
use Rattle.fr_core.specs.declared.core_form.Core.{Core, out-Core}
use Rattle.fr_core.specs.declared.lowered.Low.{Low}
use Rattle.fr_core.specs.declared.program.Function.{Function}
use Rattle.fr_core.specs.declared.program.Program.{Program}
use Rattle.fr_purity.specs.declared.classification.Classes.{Classes}
use Rattle.fr_kernel.specs.Kernels.{Kernel}
use Rattle.fr_lower.specs.declared.making.Made.{Made}
use Rattle.fr_lower.specs.Making.{AreGiven, joins_itself, joins, outside, Extends, Grows, IsMade, IsFound, AreFound, AreMade, WasFound, WasMade, WasWhole, AreReady, AreClosed, WasClosed, WereClosed, WasBuilt}
use Rattle.fr_lower.proofs.Joining.{joins-opens, found_ready}
use Rattle.fr_lower.proofs.Rows.{closed_made, chained_to, whole_made}

pub grows_refl : (m : Made) → Grows m m
grows_refl m = record { functions = refl; sound = λ s. s; kernels = λ id k h. h; sites = omega arith }

pub grows_more : (a b c : Made) → Grows a b → Grows b c → Grows a c
grows_more a b c g h = record { functions = h.functions ∙ g.functions; sound = λ s. h.sound (g.sound s); kernels = λ id k s. h.kernels id k (g.kernels id k s); sites = omega (arith, g.sites, h.sites) }

-- what was found of the first parts of an expression, where these are left
pub record Gathers (p : Program) (o : Option Classes) (n : ℕ) (old now : Made) (e : Core) (found : List (Option Low)) (joined : Bool) (left : List (ℕ × Core)) : Type 0 where
  pub grows : Grows old now
  pub told : joined && all_true (map (λ x. joins p o x.1) left) ≡ joins p o e
  pub later : (ks : List Kernel) → Extends now.table.kernels ks → (to : ℕ) (rest : List (Option Low)) → AreFound p o ks n now.sites to left rest → AreFound p o ks n old.sites to (outside e) (found ++ rest)

pub gathers_first : (p : Program) (o : Option Classes) (n : ℕ) (m : Made) (e : Core) (joined : Bool) → AreGiven p o → IsFitExpr p e → joined ≡ joins_itself p o (out-Core e) → Gathers p o n m m e [] joined (outside e)
gathers_first p o n m e joined given fit is = record {
  grows = grows_refl m;
  told = ap (λ t. t && all_true (map (λ (x : ℕ × Core). joins p o x.1) (outside e))) is ∙ sym (joins-opens p o e given fit);
  later = λ ks ext to rest h. h;
}

found_tells : (p : Program) (o : Option Classes) (ks : List Kernel) (n from to : ℕ) (e : Core) (f : Option Low) → IsFound p o ks n from to e f → is_none f ≡ joins p o e
found_tells p o ks n from to e None h = sym h.0
found_tells p o ks n from to e (Some l) h = sym h.0

and_assoc : (a b c : Bool) → (a && b) && c ≡ a && (b && c)
and_assoc true b c = refl
and_assoc false b c = refl

pub gathers_next : (p : Program) (o : Option Classes) (n inside : ℕ) (old now new : Made) (e : Core) (found : List (Option Low)) (joined : Bool) (x : ℕ × Core) (left : List (ℕ × Core)) (f : Option Low) (more : Bool)
    → inside ≡ n + x.0 → WasFound p o inside now new x.1 f → more ≡ joined && is_none f → Gathers p o n old now e found joined (x ∷ left) → Gathers p o n old new e (found ++ f ∷ []) more left
gathers_next p o n inside old now new e found joined x left f more place w is g =
    let was : WasFound p o (n + x.0) now new x.1 f = subst (λ m. WasFound p o m now new x.1 f) place w in
    let tells = found_tells p o new.table.kernels (n + x.0) now.sites new.sites x.1 f (was.later new.table.kernels (λ id k h. h)) in
    let others = all_true (map (λ (y : ℕ × Core). joins p o y.1) left) in
    record {
      grows = grows_more old now new g.grows was.grows;
      told = ap (λ t. t && others) (is ∙ ap (λ t. joined && t) tells) ∙ (and_assoc joined (joins p o x.1) others ∙ g.told);
      later = λ ks ext to rest h.
          subst (AreFound p o ks n old.sites to (outside e)) (sym (append_assoc found (f ∷ []) rest))
          (g.later ks (λ id k s. ext id k (was.grows.kernels id k s)) to (f ∷ rest) (new.sites, (was.later ks ext, h)));
    }

-- the same, where none is left
pub record Gathered (p : Program) (o : Option Classes) (n : ℕ) (old now : Made) (e : Core) (found : List (Option Low)) (joined : Bool) : Type 0 where
  pub grows : Grows old now
  pub told : joined ≡ joins p o e
  pub later : (ks : List Kernel) → Extends now.table.kernels ks → AreFound p o ks n old.sites now.sites (outside e) found

and_true : (t : Bool) → t && true ≡ t
and_true true = refl
and_true false = refl

pub gathered : (p : Program) (o : Option Classes) (n : ℕ) (old now : Made) (e : Core) (found : List (Option Low)) (joined : Bool) (left : List (ℕ × Core)) → left ≡ [] → Gathers p o n old now e found joined left
    → Gathered p o n old now e found joined
gathered p o n old now e found joined left none h =
    let g : Gathers p o n old now e found joined [] = subst (Gathers p o n old now e found joined) none h in
    record {
      grows = g.grows;
      told = sym (and_true joined) ∙ g.told;
      later = λ ks ext. subst (AreFound p o ks n old.sites now.sites (outside e)) (append-nil found) (g.later ks ext now.sites [] (omega arith));
    }

pub found_none : (p : Program) (o : Option Classes) (n : ℕ) (old now : Made) (e : Core) (found : List (Option Low)) (joined : Bool) → joined ≡ true → Gathered p o n old now e found joined → WasFound p o n old now e None
found_none p o n old now e found joined is g = record { grows = g.grows; later = λ ks ext. (sym g.told ∙ is, g.grows.sites) }

pub found_some : (p : Program) (o : Option Classes) (n : ℕ) (old now closed new : Made) (e : Core) (found : List (Option Low)) (joined : Bool) (parts : List Low) (l : Low)
    → joined ≡ false → Gathered p o n old now e found joined → WereClosed n now closed (outside e) found parts → ((q : Program) (r : Option Classes) → joins q r e ≡ false → WasBuilt q r n closed new e parts l) → WasFound p o n old new e (Some l)
found_some p o n old now closed new e found joined parts l is g c built =
    let apart : joins p o e ≡ false = sym g.told ∙ is in
    let b = built p o apart in
    record {
      grows = grows_more old now new g.grows (grows_more now closed new c.grows b.grows);
      later = λ ks ext.
          let ext_closed : Extends closed.table.kernels ks = λ id k s. ext id k (b.grows.kernels id k s) in
          let ext_now : Extends now.table.kernels ks = λ id k s. ext_closed id k (c.grows.kernels id k s) in
          let made : AreMade p o ks n old.sites now.sites (outside e) parts = closed_made p o ks n old.sites now.sites (outside e) found parts (g.later ks ext_now) (c.later ks ext_closed) in
          (apart, b.later ks ext old.sites (chained_to (λ a d x m. IsMade p o ks (n + x.0) a d x.1 m) old.sites now.sites closed.sites (outside e) parts c.grows.sites made));
    }

-- the parts are ready to be closed
pub gathered_ready : (p : Program) (o : Option Classes) (n : ℕ) (old now : Made) (e : Core) (found : List (Option Low)) (joined : Bool) → AreGiven p o → old.table.functions ≡ p.functions → Gathered p o n old now e found joined
    → AreReady now.table.functions (outside e) found
gathered_ready p o n old now e found joined given same g =
    found_ready p o now.table.kernels now.table.functions n old.sites now.sites (outside e) found given (g.grows.functions ∙ same) (g.later now.table.kernels (λ id k h. h))

-- what is closed, or was lowered, is made
pub made_whole : (p : Program) (o : Option Classes) (n : ℕ) (old now new : Made) (e : Core) (l : Low) → WasFound p o n old now e None → WasWhole n now new e l → WasMade p o n old new e l
made_whole p o n old now new e l f w = record {
  grows = grows_more old now new f.grows w.grows;
  later = λ ks ext.
      let told = f.later ks (λ id k s. ext id k (w.grows.kernels id k s)) in
      whole_made p o ks n old.sites new.sites e l told.0 (omega (arith, told.1, w.grows.sites)) (w.later ks ext);
}

pub made_found : (p : Program) (o : Option Classes) (n : ℕ) (old new : Made) (e : Core) (l : Low) → WasFound p o n old new e (Some l) → WasMade p o n old new e l
made_found p o n old new e l f = record { grows = f.grows; later = λ ks ext. (f.later ks ext).1 }

-- what was closed of the first parts, where these are left
pub record Closing (n : ℕ) (old now : Made) (xs : List (ℕ × Core)) (fs : List (Option Low)) (left : List (ℕ × Core)) (queue : List (Option Low)) (parts : List Low) : Type 0 where
  pub grows : Grows old now
  pub ready : AreReady now.table.functions left queue
  pub later : (ks : List Kernel) → Extends now.table.kernels ks → (rest : List Low) → AreClosed ks n left queue rest → AreClosed ks n xs fs (parts ++ rest)

pub closing_first : (n : ℕ) (m : Made) (xs : List (ℕ × Core)) (fs : List (Option Low)) → AreReady m.table.functions xs fs → Closing n m m xs fs xs fs []
closing_first n m xs fs h = record { grows = grows_refl m; ready = h; later = λ ks ext rest k. k }

-- something was found of a part that is left
pub closing_none : (n : ℕ) (old now : Made) (xs : List (ℕ × Core)) (fs : List (Option Low)) (x : ℕ × Core) (left : List (ℕ × Core)) (parts : List Low) → Closing n old now xs fs (x ∷ left) [] parts → ⊥
closing_none n old now xs fs x left parts h = h.ready

pub closing_next : (n : ℕ) (old now new : Made) (xs : List (ℕ × Core)) (fs : List (Option Low)) (x : ℕ × Core) (left : List (ℕ × Core)) (f : Option Low) (queue : List (Option Low)) (parts : List Low) (l : Low)
    → WasClosed n now new x f l → Closing n old now xs fs (x ∷ left) (f ∷ queue) parts → Closing n old new xs fs left queue (parts ++ l ∷ [])
closing_next n old now new xs fs x left f queue parts l w h = record {
  grows = grows_more old now new h.grows w.grows;
  ready = subst (λ gs. AreReady gs left queue) (sym w.grows.functions) h.ready.1;
  later = λ ks ext rest k.
      subst (AreClosed ks n xs fs) (sym (append_assoc parts (l ∷ []) rest))
      (h.later ks (λ id m s. ext id m (w.grows.kernels id m s)) (l ∷ rest) (w.later ks ext, k));
}

nothing_left : (gs : List Function) (ks : List Kernel) (n : ℕ) (queue : List (Option Low)) → AreReady gs [] queue → AreClosed ks n [] queue []
nothing_left gs ks n [] h = tt
nothing_left gs ks n (f ∷ fs) h = absurd h

pub closing_last : (n : ℕ) (old now : Made) (xs : List (ℕ × Core)) (fs : List (Option Low)) (left : List (ℕ × Core)) (queue : List (Option Low)) (parts : List Low) → left ≡ [] → Closing n old now xs fs left queue parts
    → WereClosed n old now xs fs parts
closing_last n old now xs fs left queue parts none g =
    let h : Closing n old now xs fs [] queue parts = subst (λ l. Closing n old now xs fs l queue parts) none g in
    record {
      grows = h.grows;
      later = λ ks ext. subst (AreClosed ks n xs fs) (append-nil parts) (h.later ks ext [] (nothing_left now.table.functions ks n queue h.ready));
    }
