-- What grew stays so where a node that was added gets the part that its cell takes.
use Rattle.std.proofs.Common.{◌≡◌, ◌≢◌, inl, inr, ℕ, ◌<◌, true, false, List, [], Option, Some, ap, sym, ◌∙◌, subst}
use Rattle.fr_links.specs.Lists.{has_item}
use Rattle.fr_links.proofs.Has.{by_number, true_false}
use Rattle.fr_graph.specs.Graph.{Part, signal, result}
use Rattle.fr_graph.specs.Known.{Reads}
use Rattle.fr_way.specs.Frame.{AreCalm, Holds, Names, is_source, is_watch}
use Rattle.fr_way.specs.Way.{Way}
use Rattle.fr_nodes.specs.Makes.{Ties}
use Rattle.fr_build.specs.Builds.{InReach, Stays, IsNewIn, AreSwitches, NamesNoWatch, Precedes, Grew}
use Rattle.fr_build.proofs.Reach.{reach_wider, turn_over}

same_part : (p q : Part) → Path (Option Part) (Some p) (Some q) → p ≡ q
same_part p q e = cc

module _ (at mid new : Way) (x : ℕ) (env : List Part) (added : List ℕ) (m : ℕ) (last : Part) (grew : Grew at mid x env added) (ties : Ties mid new m last) (has : has_item added m ≡ true)
    (other : mid.graph.kind m ≢ result) (reach : (j : ℕ) → last ≡ signal j → InReach mid.graph env added j)
    (unwatched : NamesNoWatch at.graph env → (j : ℕ) → last ≡ signal j → is_watch (mid.graph.kind j) ≡ false) where
  pub tied_reach : (ms : List ℕ) (j : ℕ) → InReach mid.graph env ms j → InReach new.graph env ms j
  tied_reach ms j r = elim r [
    | inl g ↦ elim g [
      | inl rd ↦ inl (inl rd)
      | inr s ↦ inl (inr (ties.live j ∙ s.0, ap is_source (ties.kind j) ∙ s.1))
    ]
    | inr h ↦ inr h
  ]

  lower : (i j : ℕ) → mid.height i < mid.height j → new.height i < new.height j
  lower i j lt = subst (λ (k : ℕ). k < new.height j) (sym (ties.heights i)) (subst (λ (k : ℕ). mid.height i < k) (sym (ties.heights j)) lt)

  tied_stays : (j : ℕ) → at.taken j ≡ true → Stays at new j
  tied_stays j t =
      let s = grew.still j t in
      let apart : j ≢ m = λ e. true_false (at.taken j) t (ap at.taken e ∙ (grew.born m has).fresh) in
      record {
        live = ties.live j ∙ s.live;
        taken = ties.taken j ∙ s.taken;
        same = record {
          kind = ties.kind j ∙ s.same.kind;
          inputs = ties.inputs j ∙ s.same.inputs;
          later = ties.later j apart ∙ s.same.later;
          value = ties.value j ∙ s.same.value;
          cell = ties.cell j ∙ s.same.cell;
          level = ties.level j ∙ s.same.level;
          era = ties.era j ∙ s.same.era;
          done = ties.done j ∙ s.same.done;
        };
        height = ties.heights j ∙ s.height;
        queued = ties.queued j ∙ s.queued;
        result_of = λ w r k. ties.result_of j ∙ s.result_of w r k;
      }

  tied_born : (j : ℕ) → has_item added j ≡ true → IsNewIn at new x j
  tied_born j h =
      let b = grew.born j h in
      record {
        fresh = b.fresh;
        absent = b.absent;
        live = ties.live j ∙ b.live;
        taken = ties.taken j ∙ b.taken;
        era = ties.era j ∙ b.era;
        cell = ties.cell j ∙ b.cell;
        done = ties.done j ∙ b.done;
        queued = ties.queued j ∙ b.queued ∙ ap Some (sym (ties.heights j));
        no_source = ap is_source (ties.kind j) ∙ b.no_source;
        calm = subst AreCalm (sym (ties.inputs j)) b.calm;
        above_inputs = λ i r. lower i j (b.above_inputs i (subst (Reads i) (ties.inputs j) r));
      }

  was_watch : (w : ℕ) → is_watch (new.graph.kind w) ≡ true → is_watch (mid.graph.kind w) ≡ true
  was_watch w is = ap is_watch (sym (ties.kind w)) ∙ is

  tied_switches : AreSwitches new added
  tied_switches = record {
    follows = λ w h is. subst (λ (k : ℕ). Precedes added w k) (sym (ties.result_of w)) (grew.switches.follows w h (was_watch w is));
    results = λ w h is.
        let r = grew.switches.results w h (was_watch w is) in
        subst (λ (k : ℕ). (new.graph.kind k ≡ result) × (new.height w < new.height k)) (sym (ties.result_of w)) (ties.kind (mid.graph.result_of w) ∙ r.0, lower w (mid.graph.result_of w) r.1);
    apart = λ v w h i is it e. grew.switches.apart v w h i (was_watch v is) (was_watch w it) (sym (ties.result_of v) ∙ e ∙ ties.result_of w);
    watched = λ j h is.
        let w = grew.switches.watched j h (sym (ties.kind j) ∙ is) in
        (w.0, w.1, ap is_watch (ties.kind w.0) ∙ w.2, ties.result_of w.0 ∙ w.3);
    unread = λ j h is.
        let was : mid.graph.kind j ≡ result = sym (ties.kind j) ∙ is in
        let u = grew.switches.unread j h was in
        let apart : j ≢ m = λ e. other (sym (ap mid.graph.kind e) ∙ was) in
        (ties.inputs j ∙ u.0, ties.later j apart ∙ u.1);
  }

  tied_later : (k j : ℕ) → has_item added k ≡ true → new.graph.later k ≡ Some (signal j) → InReach new.graph env added j
  tied_later k j h e = elim (by_number k m) [
    | inl here ↦ tied_reach added j (reach j (same_part last (signal j) (sym ties.here ∙ sym (ap new.graph.later here) ∙ e)))
    | inr apart ↦ tied_reach added j (grew.later k j h (sym (ties.later k apart) ∙ e))
  ]

  tied_no_watch : NamesNoWatch at.graph env → (k j : ℕ) → has_item added k ≡ true → Names new.graph k j → is_watch (new.graph.kind j) ≡ false
  tied_no_watch none k j h nm = ap is_watch (ties.kind j) ∙ elim nm [
    | inl r ↦ grew.no_watch none k j h (inl (subst (Reads j) (ties.inputs k) r))
    | inr more ↦ elim more [
      | inl e ↦ elim (by_number k m) [
        | inl here ↦ unwatched none j (same_part last (signal j) (sym ties.here ∙ sym (ap new.graph.later here) ∙ e))
        | inr apart ↦ grew.no_watch none k j h (inr (inl (sym (ties.later k apart) ∙ e)))
      ]
      | inr o ↦ grew.no_watch none k j h (inr (inr (subst (Holds j) (ties.kind k) o)))
    ]
  ]

  pub tied : Grew at new x env added
  tied = record {
    members = ties.members x ∙ grew.members;
    others = λ y ne. ties.members y ∙ grew.others y ne;
    still = tied_stays;
    free = λ j n off.
        let f = grew.free j n off in
        record { live = ties.live j ∙ f.live; taken = ties.taken j ∙ f.taken; queued = ties.queued j ∙ f.queued };
    once = grew.once;
    born = tied_born;
    above_owner = λ w j e t h. lower w j (grew.above_owner w j e t h);
    turn =
        turn_over mid.graph new.graph env env [] added
        (λ k bs cs h none sub was. record {
          inputs = λ j r. reach_wider new.graph env bs cs j sub (tied_reach bs j (was.inputs j (subst (Reads j) (ties.inputs k) r)));
          held = λ j r. reach_wider new.graph env bs cs j sub (tied_reach bs j (was.held j (subst (Holds j) (ties.kind k) r)));
        })
        added [] [] (λ k h. h) (λ k h. h) (λ k h. h) grew.turn;
    later = tied_later;
    switches = tied_switches;
    no_watch = tied_no_watch;
  }
