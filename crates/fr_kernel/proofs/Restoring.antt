-- An expression that was numbered is restored.
use Rattle.std.proofs.Common.{◌≡◌, ◌+◌, ◌-◌, ◌<◌, ◌≤◌, inl, inr, ℕ, suc, Bool, true, false, if◌then◌else◌, ◌==◌, List, [], ◌∷◌, map, length, slice_index, refl, sym, ap, ◌∙◌, subst, arith}
use Rattle.std.proofs.lemmas.Bool.{le-ltb, lt-ltb}
use Rattle.std.proofs.lemmas.Bool.Decides.{nat_tests}
use Rattle.fr_core.specs.Shapes.{parts_in}
use Rattle.fr_core.specs.declared.core_form.Core.{Core, out-Core, roll-Core, roll-out-Core, fold_out-Core, map-Core}
use Rattle.fr_core.specs.declared.core_form.Core.TheOpen.{Core-F}
use Rattle.fr_core.specs.declared.core_form.Core.TheVariants.{outs-Lit, outs-Var, outs-Source, outs-Let, outs-If, outs-Apply, outs-Operator, outs-Handler, outs-Loop, outs-Feedback}
use Rattle.fr_core.proofs.Folds.{Each, by_parts}
use Rattle.fr_meaning.specs.Dependence.{joined, own_variable, variables, own_source, sources_of}
use Rattle.fr_meaning.proofs.Named.{variables-opens, sources-opens, each_outer, each_body}
use Rattle.fr_kernel.specs.Numbers.{Scheme, around, width, index_of, before_params, variable_slot, source_slot, numbered, variable_of, source_of, stood_for, restore_step, restored, Every}
use Rattle.fr_kernel.proofs.Numbers.{below_or, every_both, number_layer, numbered-opens}

-- what a restored expression opens to

restore_layer : Scheme → Core-F Core → Core-F Core
restore_layer s (Core-F.Var x) = out-Core (stood_for s x.0)
restore_layer s l = map-Core Core Core (restored s) l

step_opens : (s : Scheme) (l : Core-F Core) → out-Core (restore_step s (map-Core Core Core (restored s) l)) ≡ restore_layer s l
unfolding restore_layer
step_opens s (Core-F.Var x) = refl
step_opens s (Core-F.Source x) = outs-Source _
step_opens s (Core-F.Lit v) = outs-Lit _
step_opens s (Core-F.Let es b) = outs-Let _ _
step_opens s (Core-F.If a b c) = outs-If _ _ _
step_opens s (Core-F.Apply f es) = outs-Apply _ _
step_opens s (Core-F.Operator o es) = outs-Operator _ _
step_opens s (Core-F.Handler h es b) = outs-Handler _ _ _
step_opens s (Core-F.Loop l es b) = outs-Loop _ _ _
step_opens s (Core-F.Feedback a b) = outs-Feedback _ _

restored-opens : (s : Scheme) (e : Core) → out-Core (restored s e) ≡ restore_layer s (out-Core e)
unfolding restored
restored-opens s e = ap out-Core (fold_out-Core Core (restore_step s) e) ∙ step_opens s (out-Core e)

-- what a slot stands for that was given to a name

index_found : (q : ℕ) (ns : List ℕ) → index_of q ns < length ns → slice_index ns (index_of q ns) ≡ q
index_found q [] h = absurd (omega (arith, h))
index_found q (n ∷ ns) h = by (q == n) refl (index_found q ns) h
  where
    by : (t : Bool) → (q == n) ≡ t → (index_of q ns < length ns → slice_index ns (index_of q ns) ≡ q)
        → (if t then 0 else 1 + index_of q ns) < length (n ∷ ns) → slice_index (n ∷ ns) (if t then 0 else 1 + index_of q ns) ≡ q
    by true e rest h = grind (arith, nat_tests)
    by false e rest h =
        let one : 1 + index_of q ns ≡ suc (index_of q ns) = omega arith in
        ap (slice_index (n ∷ ns)) one ∙ rest (omega (arith, h))

module _ (s : Scheme) where
  at_outer : (k : ℕ) → k < length s.outer → stood_for s k ≡ variable_of (slice_index s.outer k)
  at_outer k h = rw (lt-ltb k (length s.outer) h) refl

  at_source : (k : ℕ) → length s.outer ≤ k → k < before_params s → stood_for s k ≡ source_of (slice_index s.sources (k - length s.outer))
  at_source k past h = rw (le-ltb k (length s.outer) past, lt-ltb k (before_params s) h) refl

  at_param : (k : ℕ) → before_params s ≤ k → k < width s → stood_for s k ≡ variable_of (k - before_params s + s.first)
  at_param k past h = rw (le-ltb k (length s.outer) (omega (arith, past)), le-ltb k (before_params s) past, lt-ltb k (width s) h) refl

  at_own : (k : ℕ) → width s ≤ k → stood_for s k ≡ variable_of (k - width s + around s)
  at_own k past = rw (le-ltb k (length s.outer) (omega (arith, past)), le-ltb k (before_params s) (omega (arith, past)), le-ltb k (width s) past) refl

  pub slot_outer : (x : ℕ) → x < s.first → variable_slot s x ≡ index_of x s.outer
  slot_outer x h = rw (lt-ltb x s.first h) refl

  pub slot_param : (x : ℕ) → s.first ≤ x → x < around s → variable_slot s x ≡ x - s.first + before_params s
  slot_param x past h = rw (le-ltb x s.first past, lt-ltb x (around s) h) refl

  slot_own : (x : ℕ) → around s ≤ x → variable_slot s x ≡ x - around s + width s
  slot_own x past = rw (le-ltb x s.first (omega (arith, past)), le-ltb x (around s) past) refl

  abbrev pub HasSlot : ℕ → Type 0
  HasSlot x = x < s.first → index_of x s.outer < length s.outer

  abbrev pub IsSource : ℕ → Type 0
  IsSource x = index_of x s.sources < length s.sources

  variable_back : (x : ℕ) → HasSlot x → stood_for s (variable_slot s x) ≡ variable_of x
  variable_back x h = elim (below_or x s.first) [
    | inl near ↦ ap (stood_for s) (slot_outer x near) ∙ at_outer (index_of x s.outer) (h near) ∙ ap variable_of (index_found x s.outer (h near))
    | inr past ↦ elim (below_or x (around s)) [
      | inl below ↦
          let k = x - s.first + before_params s in
          let same : k - before_params s + s.first ≡ x = omega (arith, past) in
          ap (stood_for s) (slot_param x past below) ∙ at_param k (omega arith) (omega (arith, past, below)) ∙ ap variable_of same
      | inr own ↦
          let k = x - around s + width s in
          let same : k - width s + around s ≡ x = omega (arith, own) in
          ap (stood_for s) (slot_own x own) ∙ at_own k (omega arith) ∙ ap variable_of same
    ]
  ]

  source_back : (x : ℕ) → IsSource x → stood_for s (source_slot s x) ≡ source_of x
  source_back x h =
      let i = index_of x s.sources in
      let same : length s.outer + i - length s.outer ≡ i = omega arith in
      at_source (length s.outer + i) (omega arith) (omega (arith, h)) ∙ ap source_of (ap (slice_index s.sources) same ∙ index_found x s.sources h)

  -- an expression is restored where each variable and source that it names has its slot
  pub record Named (e : Core) : Type 0 where
    pub found : Every HasSlot (variables e)
    pub read : Every IsSource (sources_of e)

  abbrev pub Restores : Core → Type 0
  Restores e = Named e → restored s (numbered s e) ≡ e

  abbrev back : Core → Core
  back e = restored s (numbered s e)

  each_restores : (es : List Core) → Each Restores es → Every HasSlot (joined (map variables es)) → Every IsSource (joined (map sources_of es)) → Each (λ e. back e ≡ e) es
  each_restores [] h u v = tt
  each_restores (e ∷ es) h u v =
      let a = every_both HasSlot (variables e) (joined (map variables es)) u in
      let b = every_both IsSource (sources_of e) (joined (map sources_of es)) v in
      (h.0 (record { found = a.0; read = b.0 }), each_restores es h.1 a.1 b.1)

  all_back : (es : List Core) → Each (λ e. back e ≡ e) es → map (restored s) (map (numbered s) es) ≡ es
  all_back [] h = refl
  all_back (e ∷ es) h = rw (h.0, all_back es h.1) refl

  layer_back : (l : Core-F Core) → Every HasSlot (own_variable l) → Every IsSource (own_source l) → Each (λ e. back e ≡ e) (parts_in l) → restore_layer s (number_layer s l) ≡ l
  unfolding restore_layer
  layer_back (Core-F.Lit v) u w h = refl
  layer_back (Core-F.Var x) u w h = ap out-Core (variable_back x.0 u.0) ∙ outs-Var x
  layer_back (Core-F.Source x) u w h = ap out-Core (source_back x.0 w.0) ∙ outs-Source x
  layer_back (Core-F.Let es b) u w h = let t = each_body (λ e. back e ≡ e) es (length es) b h in rw (all_back es t.0, t.1) refl
  layer_back (Core-F.If a b c) u w h = rw (h.0, h.1.0, h.1.1.0) refl
  layer_back (Core-F.Apply f es) u w h = rw (all_back es (each_outer (λ e. back e ≡ e) es h)) refl
  layer_back (Core-F.Operator o es) u w h = rw (all_back es (each_outer (λ e. back e ≡ e) es h)) refl
  layer_back (Core-F.Handler g es b) u w h = let t = each_body (λ e. back e ≡ e) es _ b h in rw (all_back es t.0, t.1) refl
  layer_back (Core-F.Loop g es b) u w h = let t = each_body (λ e. back e ≡ e) es _ b h in rw (all_back es t.0, t.1) refl
  layer_back (Core-F.Feedback a b) u w h = rw (h.0, h.1.0) refl

  pub restores : (e : Core) → Restores e
  restores = by_parts Restores (λ e h named.
      let l = out-Core e in
      let u = every_both HasSlot (own_variable l) (joined (map variables (parts_in l))) (subst (Every HasSlot) (variables-opens e) named.found) in
      let v = every_both IsSource (own_source l) (joined (map sources_of (parts_in l))) (subst (Every IsSource) (sources-opens e) named.read) in
      let same = restored-opens s (numbered s e) ∙ ap (restore_layer s) (numbered-opens s e) ∙ layer_back l u.0 v.0 (each_restores (parts_in l) h u.1 v.1) in
      sym (roll-out-Core (back e)) ∙ ap roll-Core same ∙ roll-out-Core e)
