-- One part is built behind others.
use Rattle.std.proofs.Common.{◌≡◌, ◌⊎◌, inl, inr, ℕ, zero, suc, ◌<◌, true, List, [], ◌∷◌, ◌++◌, slice_get, refl, ap, sym, ◌∙◌, subst, append_assoc}
use Rattle.fr_links.proofs.Has.{has_append_left, has_append_right}
use Rattle.fr_core.specs.declared.lowered.Slot.{Slot}
use Rattle.fr_core.specs.declared.lowered.Slot.TheVariants as slot
use Rattle.fr_graph.specs.Graph.{Part, steady, signal, source, Graph}
use Rattle.fr_graph.specs.Walk.{Plan, Placed, variable_part, slot_parts}
use Rattle.fr_graph.specs.Wired.{IsSource, SlotsStand}
use Rattle.fr_graph.specs.Known.{Reads}
use Rattle.fr_way.specs.Frame.{is_watch}
use Rattle.fr_way.specs.Way.{Way}
use Rattle.fr_nodes.specs.Makes.{AreThere}
use Rattle.fr_build.specs.Ready.{Planned, plan_of, LiveAreTaken, AreSlotsIn}
use Rattle.fr_build.specs.Builds.{InReach, Stays, NamesNoWatch, Grew, Builds}
use Rattle.fr_build.proofs.Grown.{grew_live, seq, scope_reach}
use Rattle.fr_build.proofs.Stand.{IsAlike, AreAlike}

-- WHAT PARTS NAME
pub reads_append : (ps qs : List Part) (j : ℕ) → Reads j (ps ++ qs) → Reads j ps ⊎ Reads j qs
reads_append [] qs j r = inr r
reads_append (steady v ∷ ps) qs j r = reads_append ps qs j r
reads_append (signal m ∷ ps) qs j r = elim r [
  | inl e ↦ inl (inl e)
  | inr s ↦ elim (reads_append ps qs j s) [ inl l ↦ inl (inr l) | inr k ↦ inr k ]
]

pub reads_first : (q : Part) (qs : List Part) (j : ℕ) → Reads j (q ∷ qs) → Reads j (q ∷ []) ⊎ Reads j qs
reads_first q qs j r = reads_append (q ∷ []) qs j r

-- a part alone names what it is the signal of
pub reads_one : (q : Part) (j : ℕ) → Reads j (q ∷ []) → q ≡ signal j
reads_one (steady v) j r = absurd r
reads_one (signal m) j r = elim r [ inl e ↦ ap signal e | inr o ↦ absurd o ]

pub one_reads : (q : Part) (j : ℕ) → q ≡ signal j → Reads j (q ∷ [])
one_reads q j e = subst (λ (k : Part). Reads j (k ∷ [])) (sym e) (inl refl)

reads_there : (q : Part) (qs : List Part) (j : ℕ) → Reads j qs → Reads j (q ∷ qs)
reads_there (steady v) qs j r = r
reads_there (signal m) qs j r = inr r

-- what a variable stands for names what the scope does
pub variable_reads : (env : List Part) (i j : ℕ) → Reads j (variable_part (slice_get env i) ∷ []) → Reads j env
variable_reads [] i j r = absurd r
variable_reads (steady v ∷ env) zero j r = absurd r
variable_reads (signal m ∷ env) zero j r = elim r [ inl e ↦ inl e | inr o ↦ absurd o ]
variable_reads (q ∷ env) (suc i) j r = reads_there q env j (variable_reads env i j r)

-- what slots stand for names what is in scope, or a source
pub slot_reads : (planned : Planned) (env : List Part) (n : ℕ) (ss : List Slot) (j : ℕ) → AreSlotsIn n planned.sources ss → Reads j (slot_parts (plan_of planned) env ss) → Reads j env ⊎ (j < planned.sources)
slot_reads planned env n [] j ok r = absurd r
slot_reads planned env n (slot.Var v ∷ ss) j ok r = elim (reads_first (variable_part (slice_get env v.0)) (slot_parts (plan_of planned) env ss) j r) [
  | inl l ↦ inl (variable_reads env v.0 j l)
  | inr k ↦ slot_reads planned env n ss j ok.1 k
]
slot_reads planned env n (slot.Source s ∷ ss) j ok r = elim r [
  | inl e ↦ inr (subst (λ (i : ℕ). i < planned.sources) e ok.0)
  | inr k ↦ slot_reads planned env n ss j ok.1 k
]

-- the nodes of so many sources are there
abbrev pub SourcesAre : Way → ℕ → Type 0
SourcesAre at many = (s : ℕ) → s < many → (at.graph.live s ≡ true) × (at.graph.kind s ≡ source s)

pub slots_stand : (at : Way) (planned : Planned) (n : ℕ) (ss : List Slot) → SourcesAre at planned.sources → AreSlotsIn n planned.sources ss → SlotsStand at.graph (plan_of planned) ss
slots_stand at planned n [] there ok = tt
slots_stand at planned n (slot.Var v ∷ ss) there ok = slots_stand at planned n ss there ok.1
slots_stand at planned n (slot.Source s ∷ ss) there ok = (record { live = (there s.0 ok.0).0; kind = (there s.0 ok.0).1 }, slots_stand at planned n ss there ok.1)

-- a node that stays is the same
pub alike_stays : (mid new : Way) → LiveAreTaken mid → (m : ℕ) → Stays mid new m → IsAlike mid.graph new.graph m
alike_stays mid new live m s = record {
  live = s.live;
  kind = s.same.kind;
  inputs = s.same.inputs;
  later = s.same.later;
  level = s.same.level;
  era = s.same.era;
  result_of = λ w lv k. s.result_of w (live (mid.graph.result_of m) lv) k;
}

pub source_stays : (mid new : Way) (p : Plan) → LiveAreTaken mid → ((j : ℕ) → mid.taken j ≡ true → Stays mid new j) → (s : ℕ) → IsSource mid.graph p s → IsSource new.graph p s
source_stays mid new p live still s i =
    let t = still (p.node_of s) (live (p.node_of s) i.live) in
    record { live = t.live ∙ i.live; kind = t.same.kind ∙ i.kind }

pub sources_stay : (at new : Way) (many : ℕ) → LiveAreTaken at → ((j : ℕ) → at.taken j ≡ true → Stays at new j) → SourcesAre at many → SourcesAre new many
sources_stay at new many live still there s lt =
    let was = there s lt in
    let t = still s (live s was.0) in
    (t.live ∙ was.0, t.same.kind ∙ was.1)

pub env_stays : (at new : Way) (env : List Part) → LiveAreTaken at → AreThere at env → ((j : ℕ) → at.taken j ≡ true → Stays at new j) → NamesNoWatch at.graph env → NamesNoWatch new.graph env
env_stays at new env live given still none j r = ap is_watch (still j (live j (given j r))).same.kind ∙ none j r

-- what is in reach lives
pub reach_lives : (at new : Way) (x : ℕ) (env : List Part) (a : List ℕ) → LiveAreTaken at → AreThere at env → Grew at new x env a → (j : ℕ) → InReach new.graph env a j → new.graph.live j ≡ true
reach_lives at new x env a live given g j r = elim r [
  | inl o ↦ elim o [
    | inl rd ↦ (g.still j (live j (given j rd))).live ∙ given j rd
    | inr s ↦ s.0
  ]
  | inr h ↦ (g.born j h).live
]

module _ (at mid new : Way) (x : ℕ) (env scope : List Part) (live : LiveAreTaken at) (given : AreThere at env) (a : List ℕ) (one : Grew at mid x env a)
    (reach : (j : ℕ) → Reads j scope → InReach mid.graph env a j) (watches : NamesNoWatch at.graph env → NamesNoWatch mid.graph scope) where
  -- what was built stays the same
  pub alike : (b : List ℕ) → Grew mid new x scope b → AreAlike mid.graph new.graph a
  alike b two m h = alike_stays mid new (grew_live at mid x env a live one) m (two.still m (one.born m h).taken)

  pub source_on : (p : Plan) (b : List ℕ) → Grew mid new x scope b → (s : ℕ) → IsSource mid.graph p s → IsSource new.graph p s
  source_on p b two = source_stays mid new p (grew_live at mid x env a live one) two.still

  -- a part is built behind what was built, over parts that are in reach then
  pub behind : (walked : List ℕ → Placed) (stood : Graph → List ℕ → Type 0) (part : Part) (two : Builds mid new x scope walked stood part) (walk : List ℕ → Placed) (S : Graph → List ℕ → Type 0)
      → ((left : List ℕ) → walk (a ++ (two.added ++ left)) ≡ record { part = part; left = left }) → ((left : List ℕ) → S new.graph (a ++ (two.added ++ left))) → Builds at new x env walk S part
  behind walked stood part two walk S placed stands =
      let b = two.added in
      record {
        added = a ++ b;
        grew = seq at mid new x env scope a b live given one two.grew reach watches;
        reach = λ j e.
            scope_reach at mid new x env scope a b live given one two.grew reach watches b (a ++ b) j (λ m h. has_append_left a b m h) (λ m h. has_append_right a b m h) (two.reach j e);
        no_watch = λ none. two.no_watch (watches none);
        placed = λ left. subst (λ (l : List ℕ). walk l ≡ record { part = part; left = left }) (sym (append_assoc a b left)) (placed left);
        stands = λ left. subst (λ (l : List ℕ). S new.graph l) (sym (append_assoc a b left)) (stands left);
      }
