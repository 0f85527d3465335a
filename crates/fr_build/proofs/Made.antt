-- The node of a work grows its era by itself, with or without what its cell takes behind the instant.
use Rattle.std.proofs.Common.{◌≡◌, ◌≢◌, inl, inr, ℕ, suc, ◌-◌, ◌<◌, ◌≤◌, true, false, List, [], ◌∷◌, ◌++◌, refl, sym, ap, subst, ◌∙◌, append-nil, arith, Option, Some, None}
use Rattle.std.specs.Option.{option_map, option_copied}
use denote.Ref.{Bor}
use Rattle.std.proofs.lemmas.Bool.{false≢true}
use Rattle.fr_links.specs.Lists.{has_item}
use Rattle.fr_links.proofs.Has.{here, or_case, eq_is}
use Rattle.fr_value.specs.declared.now.Held.{Held}
use Rattle.fr_value.specs.declared.now.Held.TheVariants.{Steady, Signal}
use Rattle.fr_graph.specs.Graph.{Part, steady, signal, Work, Kind, works, result}
use Rattle.fr_graph.specs.Known.{Reads}
use Rattle.fr_graph.specs.Wired.{IsNext}
use Rattle.fr_way.specs.Frame.{AreCalm, Holds, Names, is_source, is_watch}
use Rattle.fr_way.specs.Way.{Way}
use Rattle.fr_store.specs.declared.node.NodeKind.{NodeKind}
use Rattle.fr_events.specs.Works.{work_of}
use Rattle.fr_nodes.specs.Kinds.{Sites, part_of, parts_of, kind_beside, kind_by, kind_of}
use Rattle.fr_nodes.specs.Makes.{IsStill, IsFree, Makes, Ties, AreThere}
use Rattle.fr_build.specs.Ready.{LiveAreTaken}
use Rattle.fr_build.specs.Works.{behind_of}
use Rattle.fr_build.specs.Builds.{IsNewIn, NamesNoWatch, Grew, BuildsNode}
use Rattle.fr_build.proofs.Switched.{still_stays}
use Rattle.fr_build.proofs.Seq.{reads_append, one_reads}

-- a node of a work was made as the last member of an era, and its cell takes this part behind the instant
pub record Adds (at new : Way) (m x n : ℕ) (w : Work) (inputs : List Part) (tied : Option Part) : Type 0 where
  pub fresh : at.taken m ≡ false
  pub absent : at.graph.live m ≡ false
  pub live : new.graph.live m ≡ true
  pub taken : new.taken m ≡ true
  pub kind : new.graph.kind m ≡ works w
  pub reads : new.graph.inputs m ≡ inputs
  pub later : new.graph.later m ≡ tied
  pub cell : new.graph.cell m ≡ None
  pub level : new.graph.level m ≡ n
  pub era : new.graph.era m ≡ x
  pub done : new.done m ≡ false
  pub queued : new.queued m ≡ Some (new.height m)
  pub above_inputs : (j : ℕ) → Reads j inputs → new.height j < new.height m
  pub above_owner : (v : ℕ) → x ≡ suc v → new.height v < new.height m
  pub still : (j : ℕ) → at.taken j ≡ true → IsStill at new j
  pub free : (j : ℕ) → at.taken j ≡ false → j ≢ m → IsFree at new j
  pub members : new.graph.members x ≡ at.graph.members x ++ m ∷ []
  pub others : (y : ℕ) → y ≢ x → new.graph.members y ≡ at.graph.members y

-- what was made is the node of a work
pub work_made : (at new : Way) (sites : Sites) (m x n : ℕ) (kind : NodeKind) (w : Work) (inputs : List Part) → n ≤ 2000 → work_of kind ≡ Some w → Makes at new m x (2000 - (2000 - n)) (kind_of sites m kind) inputs
    → Makes at new m x n (works w) inputs
work_made at new sites m x n kind w inputs few is makes =
    let same : 2000 - (2000 - n) ≡ n = omega arith in
    subst (λ (k : Kind). Makes at new m x n k inputs) (ap (λ (o : Option Work). kind_by o (kind_beside sites m kind)) is)
    (subst (λ (l : ℕ). Makes at new m x l (kind_of sites m kind) inputs) same makes)

pub made_adds : (at new : Way) (m x n : ℕ) (w : Work) (inputs : List Part) → Makes at new m x n (works w) inputs → Adds at new m x n w inputs None
made_adds at new m x n w inputs makes =
    let made = makes.made in
    record {
      fresh = made.fresh;
      absent = made.absent;
      live = made.live;
      taken = made.taken;
      kind = made.kind;
      reads = made.reads;
      later = made.later;
      cell = made.cell;
      level = made.level;
      era = made.era;
      done = made.done;
      queued = made.queued;
      above_inputs = made.above_inputs;
      above_owner = made.above_owner;
      still = makes.still;
      free = makes.free;
      members = makes.members;
      others = makes.others;
    }

module _ (mid new : Way) (m : ℕ) (last : Part) (ties : Ties mid new m last) where
  higher : (a b : ℕ) → mid.height a < mid.height b → new.height a < new.height b
  higher a b lt = let ha = ties.heights a in let hb = ties.heights b in omega arith

  tied_still : (at : Way) (j : ℕ) → j ≢ m → IsStill at mid j → IsStill at new j
  tied_still at j apart still = record {
    live = ties.live j ∙ still.live;
    taken = ties.taken j ∙ still.taken;
    same = record {
      kind = ties.kind j ∙ still.same.kind;
      inputs = ties.inputs j ∙ still.same.inputs;
      later = ties.later j apart ∙ still.same.later;
      value = ties.value j ∙ still.same.value;
      cell = ties.cell j ∙ still.same.cell;
      level = ties.level j ∙ still.same.level;
      era = ties.era j ∙ still.same.era;
      done = ties.done j ∙ still.same.done;
    };
    height = ties.heights j ∙ still.height;
    queued = ties.queued j ∙ still.queued;
    result_of = λ watches r. ties.result_of j ∙ still.result_of watches r;
  }

  tied_free : (at : Way) (j : ℕ) → IsFree at mid j → IsFree at new j
  tied_free at j free = record { live = ties.live j ∙ free.live; taken = ties.taken j ∙ free.taken; queued = ties.queued j ∙ free.queued }

  pub tied_adds : (at : Way) (x n : ℕ) (w : Work) (inputs : List Part) → Makes at mid m x n (works w) inputs → Adds at new m x n w inputs (Some last)
  tied_adds at x n w inputs makes =
      let made = makes.made in
      record {
        fresh = made.fresh;
        absent = made.absent;
        live = ties.live m ∙ made.live;
        taken = ties.taken m ∙ made.taken;
        kind = ties.kind m ∙ made.kind;
        reads = ties.inputs m ∙ made.reads;
        later = ties.here;
        cell = ties.cell m ∙ made.cell;
        level = ties.level m ∙ made.level;
        era = ties.era m ∙ made.era;
        done = ties.done m ∙ made.done;
        queued = ties.queued m ∙ made.queued ∙ ap (λ (h : ℕ). Some h) (sym (ties.heights m));
        above_inputs = λ j r. higher j m (made.above_inputs j r);
        above_owner = λ v e. higher v m (made.above_owner v e);
        still = λ j taken. tied_still at j (λ e. false≢true (sym made.fresh ∙ ap at.taken (sym e) ∙ taken)) (makes.still j taken);
        free = λ j free apart. tied_free at j (makes.free j free apart);
        members = ties.members x ∙ makes.members;
        others = λ y apart. ties.members y ∙ makes.others y apart;
      }

-- what one added node gives

only : (m j : ℕ) → has_item (m ∷ []) j ≡ true → m ≡ j
only m j h = or_case _ _ h (eq_is m j) (λ e. absurd (false≢true e))

other : (m j : ℕ) → has_item (m ∷ []) j ≡ false → j ≢ m
other m j h = λ e. false≢true (sym h ∙ subst (λ (i : ℕ). has_item (m ∷ []) i ≡ true) (sym e) (here m []))

no_watch_kind : (k : Kind) (w : Work) → k ≡ works w → is_watch k ≡ false
no_watch_kind k w e = ap is_watch e

module _ (at new : Way) (m x n : ℕ) (w : Work) (inputs : List Part) (later : Option Part) (adds : Adds at new m x n w inputs later)
    (env : List Part) (taken : LiveAreTaken at) (there : AreThere at env) (calm : AreCalm inputs)
    (reads : (j : ℕ) → Reads j inputs → Reads j env) (ties : (j : ℕ) → later ≡ Some (signal j) → Reads j env) where
  is_work : is_watch (new.graph.kind m) ≡ true → ⊥
  is_work e = false≢true (sym (no_watch_kind (new.graph.kind m) w adds.kind) ∙ e)

  no_result : new.graph.kind m ≡ result → ⊥
  no_result e = let k : works w ≡ result = sym adds.kind ∙ e in cc

  holds_none : (j : ℕ) → Holds j (new.graph.kind m) → ⊥
  holds_none j h = subst (λ (k : Kind). Holds j k) adds.kind h

  inputs_in_scope : (j : ℕ) → Reads j (new.graph.inputs m) → Reads j env
  inputs_in_scope j r = reads j (subst (λ (ps : List Part). Reads j ps) adds.reads r)

  later_in_scope : (j : ℕ) → new.graph.later m ≡ Some (signal j) → Reads j env
  later_in_scope j e = ties j (sym adds.later ∙ e)

  named_in_scope : (j : ℕ) → Names new.graph m j → Reads j env
  named_in_scope j (inl r) = inputs_in_scope j r
  named_in_scope j (inr (inl e)) = later_in_scope j e
  named_in_scope j (inr (inr h)) = absurd (holds_none j h)

  born : IsNewIn at new x m
  born = record {
    fresh = adds.fresh;
    absent = adds.absent;
    live = adds.live;
    taken = adds.taken;
    era = adds.era;
    cell = adds.cell;
    done = adds.done;
    queued = adds.queued;
    no_source = ap is_source adds.kind;
    calm = subst AreCalm (sym adds.reads) calm;
    above_inputs = λ j r. adds.above_inputs j (subst (λ (ps : List Part). Reads j ps) adds.reads r);
  }

  no_watch : NamesNoWatch at.graph env → (i j : ℕ) → has_item (m ∷ []) i ≡ true → Names new.graph i j → is_watch (new.graph.kind j) ≡ false
  no_watch none i j h names =
      let r = named_in_scope j (subst (λ (k : ℕ). Names new.graph k j) (sym (only m i h)) names) in
      ap is_watch (adds.still j (taken j (there j r))).same.kind ∙ none j r

  at_m : (P : ℕ → Type 0) → P m → (i : ℕ) → has_item (m ∷ []) i ≡ true → P i
  at_m P p i h = subst P (only m i h) p

  -- ONE NODE. The era grew by the node alone.
  pub grew_one : Grew at new x env (m ∷ [])
  grew_one = record {
    members = adds.members;
    others = adds.others;
    still = λ j was. still_stays at new j (adds.still j was);
    free = λ j free out. adds.free j free (other m j out);
    once = (refl, tt);
    born = at_m (IsNewIn at new x) born;
    above_owner = λ v i e was h. at_m (λ (k : ℕ). new.height v < new.height k) (adds.above_owner v e) i h;
    turn = (record { inputs = λ j r. inl (inl (inputs_in_scope j r)); held = λ j h. absurd (holds_none j h) }, tt);
    later = λ i j h e. inl (inl (at_m (λ (k : ℕ). new.graph.later k ≡ Some (signal j) → Reads j env) (later_in_scope j) i h e));
    switches = record {
      follows = λ i h k. absurd (at_m (λ (j : ℕ). is_watch (new.graph.kind j) ≡ true → ⊥) is_work i h k);
      results = λ i h k. absurd (at_m (λ (j : ℕ). is_watch (new.graph.kind j) ≡ true → ⊥) is_work i h k);
      apart = λ u v h i is it e. sym (only m u h) ∙ only m v i;
      watched = λ i h k. absurd (at_m (λ (j : ℕ). new.graph.kind j ≡ result → ⊥) no_result i h k);
      unread = λ i h k. absurd (at_m (λ (j : ℕ). new.graph.kind j ≡ result → ⊥) no_result i h k);
    };
    no_watch = no_watch;
  }

  reach_one : (i j : ℕ) → signal i ≡ signal j → i ≡ j
  reach_one i j e = cc

  next : (left : List ℕ) → IsNext new.graph x n (works w) inputs later (m ∷ left)
  next left = record { there = omega arith; live = adds.live; era = adds.era; level = adds.level; kind = adds.kind; inputs = adds.reads; later = adds.later }

  reads_one : (j : ℕ) → Reads j (signal m ∷ []) → is_watch (new.graph.kind j) ≡ false
  reads_one j (inl e) = subst (λ (k : ℕ). is_watch (new.graph.kind k) ≡ false) e (no_watch_kind (new.graph.kind m) w adds.kind)
  reads_one j (inr none) = absurd none

  pub builds_one : BuildsNode at new x n (works w) env inputs later (signal m)
  builds_one = record {
    added = m ∷ [];
    grew = grew_one;
    reach = λ j e. inr (subst (λ (k : ℕ). has_item (m ∷ []) k ≡ true) (reach_one m j e) (here m []));
    no_watch = λ none. reads_one;
    placed = λ left. refl;
    stands = next;
  }

-- parts that code holds are calm

pub parts_calm : (hs : List Held) → AreCalm (parts_of hs)
parts_calm [] = tt
parts_calm (Steady v ∷ hs) = (refl, parts_calm hs)
parts_calm (Signal id ∷ hs) = parts_calm hs

-- parts in scope, one list behind another

reads_left : (j : ℕ) (ps qs : List Part) → Reads j ps → Reads j (ps ++ qs)
reads_left j [] qs r = absurd r
reads_left j (steady v ∷ ps) qs r = reads_left j ps qs r
reads_left j (signal m ∷ ps) qs (inl e) = inl e
reads_left j (signal m ∷ ps) qs (inr r) = inr (reads_left j ps qs r)

reads_right : (j : ℕ) (ps qs : List Part) → Reads j qs → Reads j (ps ++ qs)
reads_right j [] qs r = r
reads_right j (steady v ∷ ps) qs r = reads_right j ps qs r
reads_right j (signal m ∷ ps) qs r = inr (reads_right j ps qs r)

there_both : (at : Way) (ps qs : List Part) → AreThere at ps → AreThere at qs → AreThere at (ps ++ qs)
there_both at ps qs a b j r = elim (reads_append ps qs j r) [ inl s ↦ a j s | inr s ↦ b j s ]

no_part : (j : ℕ) → Path (Option Part) None (Some (signal j)) → ⊥
no_part j e = cc

same_part : (p q : Part) → Path (Option Part) (Some p) (Some q) → p ≡ q
same_part p q e = cc

-- the node of a work that was made over parts that code holds stands for it

module _ (at mid : Way) (sites : Sites) (m x n : ℕ) (kind : NodeKind) (w : Work) (hs : List Held) (few : n ≤ 2000) (is : work_of kind ≡ Some w) (taken : LiveAreTaken at) (there : AreThere at (parts_of hs))
    (makes : Makes at mid m x (2000 - (2000 - n)) (kind_of sites m kind) (parts_of hs)) where
  made : Makes at mid m x n (works w) (parts_of hs)
  made = work_made at mid sites m x n kind w (parts_of hs) few is makes

  pub builds_made : BuildsNode at mid x n (works w) (parts_of hs) (parts_of hs) None (signal m)
  builds_made = builds_one at mid m x n w (parts_of hs) None (made_adds at mid m x n w (parts_of hs) made) (parts_of hs) taken there (parts_calm hs) (λ j r. r) (λ j e. absurd (no_part j e))

  -- nothing is told apart for its cell
  pub builds_untied : (o : Option (Bor Held)) → o ≡ None → BuildsNode at mid x n (works w) (parts_of hs ++ behind_of o) (parts_of hs) (option_map part_of (option_copied o)) (signal m)
  builds_untied o none =
      subst (λ (q : Option (Bor Held)). BuildsNode at mid x n (works w) (parts_of hs ++ behind_of q) (parts_of hs) (option_map part_of (option_copied q)) (signal m)) (sym none)
      (subst (λ (env : List Part). BuildsNode at mid x n (works w) env (parts_of hs) None (signal m)) (sym (append-nil (parts_of hs))) builds_made)

  -- its cell takes the last part
  pub builds_tied : (new : Way) (o : Option (Bor Held)) (b : Bor Held) (last : Held) → o ≡ Some b → last ≡ b.now → AreThere at (behind_of o) → Ties mid new m (part_of last)
      → BuildsNode at new x n (works w) (parts_of hs ++ behind_of o) (parts_of hs) (option_map part_of (option_copied o)) (signal m)
  builds_tied new o b last some same behind ties =
      let p = part_of b.now in
      let scope = parts_of hs ++ p ∷ [] in
      let own = subst (λ (h : Held). Ties mid new m (part_of h)) same ties in
      let around = there_both at (parts_of hs) (p ∷ []) there (subst (λ (q : Option (Bor Held)). AreThere at (behind_of q)) some behind) in
      subst (λ (q : Option (Bor Held)). BuildsNode at new x n (works w) (parts_of hs ++ behind_of q) (parts_of hs) (option_map part_of (option_copied q)) (signal m)) (sym some)
      (builds_one at new m x n w (parts_of hs) (Some p) (tied_adds mid new m p own at x n w (parts_of hs) made) scope taken around (parts_calm hs) (λ j r. reads_left j (parts_of hs) (p ∷ []) r)
      (λ j e. reads_right j (parts_of hs) (p ∷ []) (one_reads p j (same_part p (signal j) e))))
