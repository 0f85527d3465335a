-- The walk that finds the choices at all sites.
use Rattle.std.proofs.Common.{◌≡◌, ◌≢◌, ◌⊎◌, inl, inr, ◌+◌, ◌<◌, ◌==◌, ℕ, zero, suc, Bool, true, false, List, [], ◌∷◌, ◌++◌, map, drop, slice_get, Option, Some, None, refl, sym, ap, subst, ◌∙◌, append_assoc, arith}
use Rattle.std.specs.Option.{option_and_then}
use Rattle.std.proofs.lemmas.Bool.Decides.{nat_tests}
use Rattle.std.proofs.lemmas.List.{map-append, append-nil}
use denote.Ref.{Bor}
use Rattle.fr_value.proofs.Meet.{same_some}
use Rattle.fr_value.specs.Data.{total}
use Rattle.fr_value.specs.declared.ids.SiteId.{SiteId}
use Rattle.fr_core.specs.Sites.{parts_at, parts, site_at, site_of, below, among, bodies, item_expr, HasSitesOnce}
use Rattle.fr_core.specs.declared.lowered.Low.{Low, out-Low, fold-Low, fold_out-Low, map-Low}
use Rattle.fr_core.specs.declared.lowered.Low.TheOpen.{Low-F}
use Rattle.fr_core.specs.declared.lowered.LowFunction.{LowFunction}
use Rattle.fr_core.specs.declared.lowered.LowItem.{LowItem}
use Rattle.fr_core.specs.declared.lowered.Lowered.{Lowered}
use Rattle.fr_core.proofs.PartLists.{drop_part, drop_none, total-append}
use Rattle.fr_ready.specs.declared.choices.Branches.{Branches}
use Rattle.fr_ready.specs.Seen.{entries_seen, lows_seen}
use Rattle.fr_ready.specs.Switches.{Found, IsFoundAt, WasNoted, HasFoundAll}

-- the expression stands in the program
pub record Stands (l : Lowered) (e : Low) : Type 0 where
  pub number : ℕ
  pub path : List ℕ
  pub at : among (bodies l) number path ≡ Some e

-- the expression stands among these or in one of them
pub record Waits (ws : List Low) (e : Low) : Type 0 where
  pub number : ℕ
  pub path : List ℕ
  pub at : among ws number path ≡ Some e

-- those that wait stand in the program, and the choices of every switch were found, or it waits
pub record Gathers (l : Lowered) (found : Found) (waiting : List Low) : Type 0 where
  pub stand : (k : ℕ) (w : Low) → slice_get waiting k ≡ Some w → Stands l w
  pub known : (e : Low) → Stands l e → IsFoundAt found (out-Low e) ⊎ Waits waiting e

pub gathers_first : (l : Lowered) → Gathers l [] (bodies l)
gathers_first l = record {
  stand = λ k w h. record { number = k; path = []; at = ap (option_and_then (λ e. below e [])) h };
  known = λ e s. inr (record { number = s.number; path = s.path; at = s.at });
}

pub gathers_last : (l : Lowered) (found : Found) (waiting : List Low) → waiting ≡ [] → Gathers l found waiting → HasFoundAll l found
gathers_last l found waiting none h = record {
  each = λ i path e s. elim (h.known e (record { number = i; path = path; at = s })) [
    | inl a ↦ a
    | inr w ↦ absurd (nothing w.number w.path e (subst (λ ws. among ws w.number w.path ≡ Some e) none w.at))
  ];
}
  where
    nothing : (k : ℕ) (q : List ℕ) (e : Low) → among [] k q ≡ Some e → ⊥
    nothing k q e s = cc

-- a path that goes on
below_more : (path more : List ℕ) (e w : Low) → below e path ≡ Some w → below e (path ++ more) ≡ below w more
below_more [] more e w h = ap (λ x. below x more) (same_some e w h)
below_more (i ∷ path) more e w h = by (λ x k. below_more path more x w k) (slice_get (parts e) i) refl h
  where
    by : ((x : Low) → below x path ≡ Some w → below x (path ++ more) ≡ below w more) → (o : Option Low) → slice_get (parts e) i ≡ o → option_and_then (λ part. below part path) o ≡ Some w → below e (i ∷ path ++ more) ≡ below w more
    by rest None s k = absurd cc
    by rest (Some x) s k = ap (option_and_then (λ part. below part (path ++ more))) s ∙ rest x k

among_more : (es : List Low) (i : ℕ) (path more : List ℕ) (w : Low) → among es i path ≡ Some w → among es i (path ++ more) ≡ below w more
among_more es i path more w h = by (slice_get es i) h
  where
    by : (o : Option Low) → option_and_then (λ e. below e path) o ≡ Some w → option_and_then (λ e. below e (path ++ more)) o ≡ below w more
    by None k = absurd cc
    by (Some x) k = below_more path more x w k

part_stands : (l : Lowered) (w : Low) → Stands l w → (j : ℕ) (x : Low) → slice_get (parts w) j ≡ Some x → Stands l x
part_stands l w s j x h = record {
  number = s.number;
  path = s.path ++ j ∷ [];
  at = among_more (bodies l) s.number s.path (j ∷ []) w s.at ∙ ap (option_and_then (λ part. below part [])) h;
}

-- two lists

first_or_second : (es fs : List Low) (k : ℕ) (w : Low) → slice_get (es ++ fs) k ≡ Some w → (slice_get es k ≡ Some w) ⊎ ((j : ℕ) × (slice_get fs j ≡ Some w))
first_or_second [] fs k w h = inr (k, h)
first_or_second (e ∷ es) fs zero w h = inl h
first_or_second (e ∷ es) fs (suc k) w h = first_or_second es fs k w h

waits_first : (es fs : List Low) (k : ℕ) (q : List ℕ) (e : Low) → among es k q ≡ Some e → Waits (es ++ fs) e
waits_first [] fs k q e h = absurd cc
waits_first (x ∷ es) fs zero q e h = record { number = 0; path = q; at = h }
waits_first (x ∷ es) fs (suc k) q e h = let r = waits_first es fs k q e h in record { number = suc r.number; path = r.path; at = r.at }

waits_second : (es fs : List Low) (k : ℕ) (q : List ℕ) (e : Low) → among fs k q ≡ Some e → Waits (es ++ fs) e
waits_second [] fs k q e h = record { number = k; path = q; at = h }
waits_second (x ∷ es) fs k q e h = let r = waits_second es fs k q e h in record { number = suc r.number; path = r.path; at = r.at }

among_split : (es fs : List Low) (k : ℕ) (q : List ℕ) (e : Low) → among (es ++ fs) k q ≡ Some e → (among es k q ≡ Some e) ⊎ ((j : ℕ) × (among fs j q ≡ Some e))
among_split [] fs k q e h = inr (k, h)
among_split (x ∷ es) fs zero q e h = inl h
among_split (x ∷ es) fs (suc k) q e h = among_split es fs k q e h

-- what was found stays

same_site : (s t : SiteId) → s.0 ≡ t.0 → s ≡ t
same_site s t h = λ i. record { 0 = h i }

module _ (l : Lowered) (once : HasSitesOnce l) where
  -- a site stands at one place, so that two expressions that carry it are one
  same_switch : (e f : Low) (site : SiteId) → Stands l e → Stands l f → site_of e ≡ Some site → site_of f ≡ Some site → e ≡ f
  same_switch e f site s t c d =
      let one = once.once site s.number t.number s.path t.path e f s.at t.at c d in
      let at : among (bodies l) t.number t.path ≡ Some e = subst (λ k. among (bodies l) k t.path ≡ Some e) one.0 (subst (λ q. among (bodies l) s.number q ≡ Some e) one.1 s.at) in
      same_some e f (sym at ∙ t.at)

  stays : (old new : Found) (w e : Low) → Stands l w → Stands l e → WasNoted old new w → IsFoundAt old (out-Low e) → IsFoundAt new (out-Low e)
  stays old new w e sw se noted h = by (out-Low e) refl h
    where
      by : (f : Low-F Low) → out-Low e ≡ f → IsFoundAt old f → IsFoundAt new f
      by (Low-F.Lit v) is k = tt
      by (Low-F.Var y) is k = tt
      by (Low-F.Source s) is k = tt
      by (Low-F.Let es b) is k = tt
      by (Low-F.If site a b c) is k = at (site_of w) refl
        where
          carries : site_of e ≡ Some site
          carries = ap site_at is

          other : ((s : SiteId) → site_of w ≡ Some s → site.0 ≢ s.0) → IsFoundAt new (Low-F.If site a b c)
          other apart = noted.elsewhere site.0 apart ∙ k

          tested : (s : SiteId) → site_of w ≡ Some s → (t : Bool) → (site.0 == s.0) ≡ t → IsFoundAt new (Low-F.If site a b c)
          tested s own true e0 =
              let number : site.0 ≡ s.0 = grind (arith, nat_tests) in
              let same = same_switch w e site sw se (own ∙ ap (λ x. Some x) (sym (same_site site s number))) carries in
              subst (IsFoundAt new) is (subst (λ x. IsFoundAt new (out-Low x)) same noted.here)
          tested s own false e0 =
              other (λ r found. λ number.
              let same : s ≡ r = same_some s r (sym own ∙ found) in
              let apart : site.0 ≢ s.0 = grind (arith, nat_tests) in
              apart (number ∙ ap (λ (x : SiteId). x.0) (sym same)))

          at : (o : Option SiteId) → site_of w ≡ o → IsFoundAt new (Low-F.If site a b c)
          at None own = other (λ s found. λ number. none s (sym own ∙ found))
            where
              none : (s : SiteId) → None ≡ Some s → ⊥
              none s h = cc
          at (Some s) own = tested s own (site.0 == s.0) refl
      by (Low-F.Apply f es) is k = tt
      by (Low-F.Operator o es) is k = tt
      by (Low-F.Handler g es id ss) is k = tt
      by (Low-F.Loop g es id ss) is k = tt
      by (Low-F.Feedback a b) is k = tt
      by (Low-F.Collapse id ss) is k = tt

  last_stands : (rest : List Low) (w : Low) (found : Found) → Gathers l found (rest ++ w ∷ []) → Stands l w
  last_stands rest w found h = at rest (λ k x s. h.stand k x s)
    where
      at : (es : List Low) → ((k : ℕ) (x : Low) → slice_get (es ++ w ∷ []) k ≡ Some x → Stands l x) → Stands l w
      at [] given = given 0 w refl
      at (e ∷ es) given = at es (λ k x s. given (suc k) x s)

  pub gathers_next : (old new : Found) (rest : List Low) (w : Low) → Gathers l old (rest ++ w ∷ []) → WasNoted old new w → Gathers l new (rest ++ parts w)
  gathers_next old new rest w h noted = record { stand = stand; known = known }
    where
      here : Stands l w
      here = last_stands rest w old h

      first : (es : List Low) → ((k : ℕ) (x : Low) → slice_get (es ++ w ∷ []) k ≡ Some x → Stands l x) → (k : ℕ) (x : Low) → slice_get es k ≡ Some x → Stands l x
      first [] given k x s = absurd cc
      first (e ∷ es) given zero x s = given 0 x s
      first (e ∷ es) given (suc k) x s = first es (λ j y t. given (suc j) y t) k x s

      stand : (k : ℕ) (x : Low) → slice_get (rest ++ parts w) k ≡ Some x → Stands l x
      stand k x s = elim (first_or_second rest (parts w) k x s) [
        | inl a ↦ first rest (λ j y t. h.stand j y t) k x a
        | inr b ↦ part_stands l w here b.0 x b.1
      ]

      last : (e : Low) (j : ℕ) (q : List ℕ) → among (w ∷ []) j q ≡ Some e → IsFoundAt new (out-Low e) ⊎ Waits (rest ++ parts w) e
      last e zero [] s = inl (subst (λ x. IsFoundAt new (out-Low x)) (same_some w e s) noted.here)
      last e zero (i ∷ q) s = inr (waits_second rest (parts w) i q e s)
      last e (suc j) q s = absurd cc

      known : (e : Low) → Stands l e → IsFoundAt new (out-Low e) ⊎ Waits (rest ++ parts w) e
      known e s = elim (h.known e s) [
        | inl a ↦ inl (stays old new w e here s noted a)
        | inr v ↦ elim (among_split rest (w ∷ []) v.number v.path e v.at) [
          | inl b ↦ inr (waits_first rest (parts w) v.number v.path e b)
          | inr d ↦ last e d.0 v.path d.1
        ]
      ]

-- how many expressions wait

low_parts : {X : Type 0} → Low-F X → List X
low_parts (Low-F.Lit v) = []
low_parts (Low-F.Var x) = []
low_parts (Low-F.Source x) = []
low_parts (Low-F.Let es b) = es ++ b ∷ []
low_parts (Low-F.If s a b c) = a ∷ b ∷ c ∷ []
low_parts (Low-F.Apply f es) = es
low_parts (Low-F.Operator o es) = es
low_parts (Low-F.Handler h es k ss) = es
low_parts (Low-F.Loop l es k ss) = es
low_parts (Low-F.Feedback a b) = a ∷ b ∷ []
low_parts (Low-F.Collapse k ss) = []

low_step : Low-F ℕ → ℕ
low_step f = 1 + total (low_parts f)

-- the number of expressions in one, itself among them
pub low_count : Low → ℕ
low_count = fold-Low ℕ low_step

parts-map : (f : Low → ℕ) (l : Low-F Low) → low_parts (map-Low Low ℕ f l) ≡ map f (parts_at l)
unfolding low_parts
parts-map f (Low-F.Let es b) = sym (map-append f es (b ∷ []))
parts-map f _ = refl

count_opens : (e : Low) → low_count e ≡ 1 + total (map low_count (parts e))
unfolding low_count low_step
count_opens e = fold_out-Low ℕ low_step e ∙ ap (λ ns. 1 + total ns) (parts-map low_count (out-Low e))

pub wait_falls : (rest : List Low) (w : Low) → total (map low_count (rest ++ parts w)) < total (map low_count (rest ++ w ∷ []))
wait_falls rest w =
    let after = ap total (map-append low_count rest (parts w)) ∙ total-append (map low_count rest) (map low_count (parts w)) in
    let before = ap total (map-append low_count rest (w ∷ [])) ∙ total-append (map low_count rest) (low_count w ∷ []) in
    omega (arith, after, before, count_opens w)

-- lists of what is borrowed

pub seen_more : (ws : List (Bor Low)) (x : Bor Low) → lows_seen (ws ++ x ∷ []) ≡ lows_seen ws ++ x.now ∷ []
seen_more ws x = map-append (λ (e : Bor Low). e.now) ws (x ∷ [])

pub waits_next : (ws : List (Bor Low)) (x : Bor Low) (ps all : List Low) (i : ℕ) → Some x.now ≡ slice_get ps i → lows_seen ws ++ drop i ps ≡ all → lows_seen (ws ++ x ∷ []) ++ drop (i + 1) ps ≡ all
waits_next ws x ps all i is h =
    ap (λ es. es ++ drop (i + 1) ps) (seen_more ws x) ∙ (append_assoc (lows_seen ws) (x.now ∷ []) (drop (i + 1) ps) ∙ (ap (λ es. lows_seen ws ++ es) (sym (drop_part ps i x.now is)) ∙ h))

pub waits_last : (ws : List (Bor Low)) (ps all : List Low) (i : ℕ) → None ≡ slice_get ps i → lows_seen ws ++ drop i ps ≡ all → lows_seen ws ≡ all
waits_last ws ps all i is h = sym (append-nil (lows_seen ws)) ∙ (ap (λ es. lows_seen ws ++ es) (sym (drop_none ps i is)) ∙ h)

-- the walk, over what is borrowed

pub gather_begins : (l : Lowered) (es : List (Option Branches)) (none functions items : List (Bor Low)) (fs : List LowFunction) (is : List LowItem) → es ≡ [] → none ≡ [] → fs ≡ l.functions → is ≡ l.body
    → lows_seen functions ≡ lows_seen none ++ map (λ f. f.body) fs → lows_seen items ≡ lows_seen functions ++ map item_expr is → Gathers l (entries_seen es) (lows_seen items)
gather_begins l es none functions items fs is e n f i g h =
    let first : lows_seen functions ≡ map (λ f. f.body) l.functions = g ∙ (ap (λ (ws : List (Bor Low)). lows_seen ws ++ map (λ f. f.body) fs) n ∙ ap (λ (hs : List LowFunction). map (λ f. f.body) hs) f) in
    let all : lows_seen items ≡ bodies l = h ∙ (ap (λ (ws : List Low). ws ++ map item_expr is) first ∙ ap (λ (js : List LowItem). map (λ f. f.body) l.functions ++ map item_expr js) i) in
    subst (Gathers l (entries_seen es)) (sym all) (subst (λ (ds : List (Option Branches)). Gathers l (entries_seen ds) (bodies l)) (sym e) (gathers_first l))

popped : (ws rest : List (Bor Low)) (e : Bor Low) → ws ≡ rest ++ e ∷ [] → lows_seen ws ≡ lows_seen rest ++ e.now ∷ []
popped ws rest e h = ap (λ (es : List (Bor Low)). lows_seen es) h ∙ seen_more rest e

pub gather_falls : (ws rest next : List (Bor Low)) (e : Bor Low) → ws ≡ rest ++ e ∷ [] → lows_seen next ≡ lows_seen rest ++ parts e.now → total (map low_count (lows_seen next)) < total (map low_count (lows_seen ws))
gather_falls ws rest next e h g =
    omega (arith, wait_falls (lows_seen rest) e.now, ap (λ (es : List Low). total (map low_count es)) (popped ws rest e h), ap (λ (es : List Low). total (map low_count es)) g)

pub gather_goes : (l : Lowered) → HasSitesOnce l → (old new : Found) (ws rest next : List (Bor Low)) (e : Bor Low) → ws ≡ rest ++ e ∷ [] → WasNoted old new e.now → lows_seen next ≡ lows_seen rest ++ parts e.now → Gathers l old (lows_seen ws)
    → Gathers l new (lows_seen next)
gather_goes l once old new ws rest next e h noted g k =
    subst (Gathers l new) (sym g) (gathers_next l once old new (lows_seen rest) e.now (subst (Gathers l old) (popped ws rest e h) k) noted)
