-- What the adding of a watch and its result does to the graph under way.
use Rattle.std.proofs.Common.{◌≡◌, ℕ, suc, ◌+◌, ◌-◌, ◌<◌, List, [], ◌∷◌, ◌++◌, length, inl, inr, Option, Some, None, IsSome, is_some, Bool, true, false, not, ◌&&◌, nat_eq, refl, sym, ap, ◌∙◌, subst, arith}
use Rattle.fr_value.specs.declared.ids.EraId.{EraId}
use Rattle.fr_value.specs.declared.ids.NodeId.{NodeId}
use Rattle.fr_value.specs.declared.ids.SiteId.{SiteId}
use Rattle.fr_value.specs.declared.now.Held.{Held}
use Rattle.fr_value.specs.declared.now.Held.TheVariants.{Signal}
use Rattle.fr_links.specs.Lists.{has_item}
use Rattle.fr_links.proofs.Has.{by_truth, eq_is, or_case, true_false}
use Rattle.fr_queue.specs.Queue.{Queued}
use Rattle.fr_store.specs.declared.node.Node.{Node}
use Rattle.fr_store.specs.declared.node.NodeKind.TheVariants.{IfWatch, Result}
use Rattle.fr_store.specs.Nodes.{AreLive, Stored, height_in, least_height, new_node, node_at}
use Rattle.fr_eras.specs.Heights.{height_at}
use Rattle.fr_eras.specs.Lives.{Lives, grave, members}
use Rattle.fr_meaning.specs.Evaluation.{most_levels}
use Rattle.fr_graph.specs.Graph.{result}
use Rattle.fr_way.specs.Frame.{is_watch}
use Rattle.fr_nodes.specs.Kinds.{Sites, kind_of, parts_of}
use Rattle.fr_nodes.specs.Makes.{IsMade, IsStill, Makes, MakesSwitch}
use Rattle.fr_world.specs.Calls.{Adds}
use Rattle.fr_world.specs.World.{era_at, kind_at, next_in, way_by, way_of}
use Rattle.fr_world.proofs.Heights.{reads_of}
use Rattle.fr_world.proofs.Lists.{next_last}
use Rattle.fr_world.proofs.Made.{makes}
use Rattle.fr_world.proofs.Nodes.{made_here}
use Rattle.fr_world.proofs.Whole.{both, lives_there}

grouped : (xs : List ℕ) (w r : ℕ) → (xs ++ w ∷ []) ++ r ∷ [] ≡ xs ++ w ∷ r ∷ []
grouped [] w r = refl
grouped (x ∷ xs) w r = ap (λ (ys : List ℕ). x ∷ ys) (grouped xs w r)

result_taken : (sites : Sites) (v : ℕ) (o : Option Node) → kind_at sites v o ≡ result → is_some o ≡ true
result_taken sites v None e = cc
result_taken sites v (Some n) e = refl

-- the test of a watch is in the store
pub test_live : (b : Bool) (s : Stored) (l : Lives) (q : Queued) (k : ℕ) (test : NodeId) → ((sites : Sites) → (way_by b (way_of sites s l q k)).graph.live test.0 ≡ true) → AreLive s (Signal test ∷ [])
test_live b s l q k test lives i e =
    or_case (nat_eq test.0 i) false e (λ is. subst (λ (v : ℕ). IsSome (node_at s v)) (eq_is test.0 i is) (lives_there b s l q k test.0 lives)) (λ never. cc)

module _ (sites : Sites) (s t u : Stored) (l k v : Lives) (q r p : Queued) (i w res floor nest above : ℕ) (site : SiteId) (held : List Held) (test : NodeId) (era : EraId)
    (a : Adds s t l k q r w era.0 (new_node (IfWatch site held) (Signal test ∷ []) era (least_height s.nodes floor (Signal test ∷ [])) nest i))
    (b : Adds t u k v r p res era.0 (new_node Result [] era (least_height t.nodes above []) nest i))
    (live : AreLive s (Signal test ∷ [])) (owner : (o : ℕ) → era.0 ≡ suc o → IsSome (node_at s o)) (low : (o : ℕ) → era.0 ≡ suc o → height_at s o < floor)
    (over : above ≡ height_at t w + 1) where
  first : Makes (way_of sites s l q i) (way_of sites t k r i) w era.0 (most_levels - nest) (kind_of sites w (IfWatch site held)) (parts_of (Signal test ∷ []))
  first = makes sites s t l k q r i w floor nest (IfWatch site held) (Signal test ∷ []) era a live owner low

  second : Makes (way_of sites t k r i) (way_of sites u v p i) res era.0 (most_levels - nest) (kind_of sites res Result) (parts_of [])
  second = makes sites t u k v r p i res above nest Result [] era b (λ j e. cc) (λ o e. (first.still o (owner o e)).taken) (λ o e. (let h = first.made.above_owner o e in omega arith))

  high : height_at u res ≡ above
  high = ap height_in (made_here t u res (new_node Result [] era (least_height t.nodes above []) nest i) b.makes)

  kept : IsStill (way_of sites t k r i) (way_of sites u v p i) w
  kept = second.still w first.made.taken

  watch_made : IsMade (way_of sites s l q i) (way_of sites u v p i) w era.0 (most_levels - nest) (kind_of sites w (IfWatch site held)) (parts_of (Signal test ∷ []))
  watch_made = record {
    fresh = first.made.fresh;
    absent = first.made.absent;
    live = kept.live ∙ first.made.live;
    taken = kept.taken;
    kind = kept.same.kind ∙ first.made.kind;
    reads = kept.same.inputs ∙ first.made.reads;
    later = kept.same.later ∙ first.made.later;
    cell = kept.same.cell ∙ first.made.cell;
    level = kept.same.level ∙ first.made.level;
    era = kept.same.era ∙ first.made.era;
    done = kept.same.done ∙ first.made.done;
    queued = kept.queued ∙ first.made.queued ∙ ap Some (sym kept.height);
    above_inputs = λ j h. (
        let under = first.made.above_inputs j h in
        let same = (second.still j (first.still j (live j (reads_of (Signal test ∷ []) j h))).taken).height in
        let here = kept.height in
        omega arith);
    above_owner = λ o e. (
        let under = first.made.above_owner o e in
        let same = (second.still o (first.still o (owner o e)).taken).height in
        let here = kept.height in
        omega arith);
  }

  not_taken : (j : ℕ) → is_some (node_at t j) ≡ false → is_some (node_at s j) ≡ false
  not_taken j no_node = elim (by_truth (is_some (node_at s j))) [
    | inl there ↦ true_false (is_some (node_at t j)) (first.still j there).taken no_node
    | inr free ↦ free
  ]

  result_made : IsMade (way_of sites s l q i) (way_of sites u v p i) res era.0 (most_levels - nest) result []
  result_made = record {
    fresh = not_taken res second.made.fresh;
    absent = ap (λ (c : Bool). c && not (has_item (grave l) res)) (not_taken res second.made.fresh);
    live = second.made.live;
    taken = second.made.taken;
    kind = second.made.kind;
    reads = second.made.reads;
    later = second.made.later;
    cell = second.made.cell;
    level = second.made.level;
    era = second.made.era;
    done = second.made.done;
    queued = second.made.queued;
    above_inputs = second.made.above_inputs;
    above_owner = second.made.above_owner;
  }

  both_members : members v era.0 ≡ members l era.0 ++ w ∷ res ∷ []
  both_members = b.joins.here ∙ ap (λ (xs : List ℕ). xs ++ res ∷ []) a.joins.here ∙ grouped (members l era.0) w res

  its_result : next_in (length u.nodes) (members v (era_at (node_at u w))) w ≡ res
  its_result =
      ap (λ (y : ℕ). next_in (length u.nodes) (members v y) w) (kept.same.era ∙ first.made.era) ∙ ap (λ (xs : List ℕ). next_in (length u.nodes) xs w) both_members
      ∙ next_last (length u.nodes) (members l era.0) w res (a.alone.no_member era.0)

  stays_still : (j : ℕ) → is_some (node_at s j) ≡ true → IsStill (way_of sites s l q i) (way_of sites u v p i) j
  stays_still j h =
      let f = first.still j h in
      let g = second.still j f.taken in
      record {
        live = g.live ∙ f.live;
        taken = g.taken;
        same = record {
          kind = g.same.kind ∙ f.same.kind;
          inputs = g.same.inputs ∙ f.same.inputs;
          later = g.same.later ∙ f.same.later;
          value = g.same.value ∙ f.same.value;
          cell = g.same.cell ∙ f.same.cell;
          level = g.same.level ∙ f.same.level;
          era = g.same.era ∙ f.same.era;
          done = g.same.done ∙ f.same.done;
        };
        height = g.height ∙ f.height;
        queued = g.queued ∙ f.queued;
        result_of = λ watches res_is. (
            let e = f.result_of watches res_is in
            let m = first.still ((way_of sites s l q i).graph.result_of j) (result_taken sites ((way_of sites s l q i).graph.result_of j) (node_at s ((way_of sites s l q i).graph.result_of j)) res_is) in
            g.result_of (ap is_watch f.same.kind ∙ watches) (ap (way_of sites t k r i).graph.kind e ∙ m.same.kind ∙ res_is) ∙ e);
      }

  pub switches : MakesSwitch (way_of sites s l q i) (way_of sites u v p i) w res era.0 (most_levels - nest) (sites site.0).yes (sites site.0).no (parts_of held) test.0
  switches = record {
    watch = watch_made;
    result = result_made;
    apart = λ e. true_false (is_some (node_at t w)) first.made.taken (ap (λ (j : ℕ). is_some (node_at t j)) e ∙ second.made.fresh);
    result_of = its_result;
    above = (let here = kept.height in let up = high in omega arith);
    still = stays_still;
    free = λ j h ne other. (let f = first.free j h ne in let g = second.free j f.taken other in record { live = g.live; taken = g.taken; queued = g.queued ∙ f.queued });
    members = both_members;
    others = λ y ne. second.others y ne ∙ first.others y ne;
  }

-- the same by what the calls give
pub switches_by : (s t u : Stored) (l k v : Lives) (q r p : Queued) (i j n w res floor nest above : ℕ) (site : SiteId) (held env : List Held) (test : NodeId) (era : EraId) (c d : Bool)
    → Adds s t l k q r w era.0 (new_node (IfWatch site held) (Signal test ∷ []) era (least_height s.nodes floor (Signal test ∷ [])) nest i)
    → Adds t u k v r p res era.0 (new_node Result [] era (least_height t.nodes above []) nest j)
    → AreLive s (Signal test ∷ []) → ((o : ℕ) → era.0 ≡ suc o → IsSome (node_at s o)) → ((o : ℕ) → era.0 ≡ suc o → floor ≡ height_at s o + 1)
    → above ≡ height_at t w + 1 → j ≡ i → n ≡ j → held ≡ env → c ≡ true → d ≡ true → (sites : Sites)
    → MakesSwitch (way_by c (way_of sites s l q i)) (way_by d (way_of sites u v p n)) w res era.0 (most_levels - nest) (sites site.0).yes (sites site.0).no (parts_of env) test.0
switches_by s t u l k v q r p i j n w res floor nest above site held env test era c d a b live owner low over to_i to_j same whole whole' sites =
    let P : ℕ → Type 0 = λ z. Adds t u k v r p res era.0 (new_node Result [] era (least_height t.nodes above []) nest z) in
    let core = switches sites s t u l k v q r p i w res floor nest above site held test era a (subst P to_i b) live owner (λ o e. (let f = low o e in omega arith)) over in
    let Q : List Held → Type 0 = λ hs. MakesSwitch (way_of sites s l q i) (way_of sites u v p i) w res era.0 (most_levels - nest) (sites site.0).yes (sites site.0).no (parts_of hs) test.0 in
    let R : ℕ → Type 0 = λ z. MakesSwitch (way_of sites s l q i) (way_of sites u v p z) w res era.0 (most_levels - nest) (sites site.0).yes (sites site.0).no (parts_of env) test.0 in
    both (λ at new. MakesSwitch at new w res era.0 (most_levels - nest) (sites site.0).yes (sites site.0).no (parts_of env) test.0) c d (way_of sites s l q i) (way_of sites u v p n) whole whole'
    (subst R (sym (to_j ∙ to_i)) (subst Q same core))
