-- A watch and its result were made.
use Rattle.std.proofs.Common.{◌≡◌, inl, inr, ℕ, ◌<◌, true, false, List, [], ◌∷◌, None, refl, ap, sym, ◌∙◌, subst}
use Rattle.fr_links.specs.Lists.{has_item}
use Rattle.fr_links.proofs.Has.{here, there, differ, cons_absent}
use Rattle.fr_core.specs.declared.lowered.Low.{Low}
use Rattle.fr_graph.specs.Graph.{Part, signal, Kind, watch, result}
use Rattle.fr_graph.specs.Known.{Reads}
use Rattle.fr_way.specs.Frame.{AreCalm, Holds, Names, is_source, is_watch}
use Rattle.fr_way.specs.Way.{Way}
use Rattle.fr_nodes.specs.Makes.{AreThere, IsStill, IsMade, MakesSwitch}
use Rattle.fr_build.specs.Ready.{LiveAreTaken}
use Rattle.fr_build.specs.Builds.{Stays, IsNewIn, NamesBefore, Precedes, Grew}
use Rattle.fr_build.proofs.Cases.{none_later, watch_no_result}
use Rattle.fr_build.proofs.Lists.{first_or_rest, only_item}

pub still_stays : (at new : Way) (m : ℕ) → IsStill at new m → Stays at new m
still_stays at new m s = record { live = s.live; taken = s.taken; same = s.same; height = s.height; queued = s.queued; result_of = λ w r k. s.result_of w k }

pub made_new : (at new : Way) (m x n : ℕ) (k : Kind) (inputs : List Part) → is_source k ≡ false → AreCalm inputs → IsMade at new m x n k inputs → IsNewIn at new x m
made_new at new m x n k inputs plain calm made = record {
  fresh = made.fresh;
  absent = made.absent;
  live = made.live;
  taken = made.taken;
  era = made.era;
  cell = made.cell;
  done = made.done;
  queued = made.queued;
  no_source = ap is_source made.kind ∙ plain;
  calm = subst AreCalm (sym made.reads) calm;
  above_inputs = λ j r. made.above_inputs j (subst (Reads j) made.reads r);
}

module _ (at new : Way) (w r x n : ℕ) (a b : Low) (env : List Part) (test : ℕ) (live : LiveAreTaken at) (given : AreThere at (signal test ∷ env)) (makes : MakesSwitch at new w r x n a b env test) where
  -- what holds of both
  for_both : (P : ℕ → Type 0) → P w → P r → (m : ℕ) → has_item (w ∷ r ∷ []) m ≡ true → P m
  for_both P p q m h = elim (first_or_rest w m (r ∷ []) h) [
    | inl l ↦ subst P (only_item w m l) p
    | inr k ↦ subst P (only_item r m k) q
  ]

  watches : is_watch (new.graph.kind w) ≡ true
  watches = ap is_watch makes.watch.kind

  not_watch : {A : Type 0} → is_watch (new.graph.kind r) ≡ true → A
  not_watch is = watch_no_result (new.graph.kind r) is makes.result.kind

  not_result : {A : Type 0} → new.graph.kind w ≡ result → A
  not_result is = watch_no_result (new.graph.kind w) watches is

  new_ones : (m : ℕ) → has_item (w ∷ r ∷ []) m ≡ true → IsNewIn at new x m
  new_ones = for_both (λ m. IsNewIn at new x m)
      (made_new at new w x n (watch a b env) (signal test ∷ []) refl tt makes.watch)
      (made_new at new r x n result [] refl tt makes.result)

  watch_names : NamesBefore new.graph (signal test ∷ env) [] w
  watch_names = record {
    inputs = λ j rd. elim (subst (Reads j) makes.watch.reads rd) [ inl e ↦ inl (inl (inl e)) | inr o ↦ absurd o ];
    held = λ j h. inl (inl (inr (subst (Holds j) makes.watch.kind h)));
  }

  result_names : (bs : List ℕ) → NamesBefore new.graph (signal test ∷ env) bs r
  result_names bs = record {
    inputs = λ j rd. absurd (subst (Reads j) makes.result.reads rd);
    held = λ j h. absurd (subst (Holds j) makes.result.kind h);
  }

  names_given : (m j : ℕ) → has_item (w ∷ r ∷ []) m ≡ true → Names new.graph m j → Reads j (signal test ∷ env)
  names_given m j h = for_both (λ m. Names new.graph m j → Reads j (signal test ∷ env))
      (λ nm. elim nm [
        | inl rd ↦ elim (subst (Reads j) makes.watch.reads rd) [ inl e ↦ inl e | inr o ↦ absurd o ]
        | inr more ↦ elim more [
          | inl e ↦ none_later (new.graph.later w) j makes.watch.later e
          | inr o ↦ inr (subst (Holds j) makes.watch.kind o)
        ]
      ])
      (λ nm. elim nm [
        | inl rd ↦ absurd (subst (Reads j) makes.result.reads rd)
        | inr more ↦ elim more [
          | inl e ↦ none_later (new.graph.later r) j makes.result.later e
          | inr o ↦ absurd (subst (Holds j) makes.result.kind o)
        ]
      ])
      m h

  follows_both : (m : ℕ) → has_item (w ∷ r ∷ []) m ≡ true → is_watch (new.graph.kind m) ≡ true → Precedes (w ∷ r ∷ []) m (new.graph.result_of m)
  follows_both = for_both (λ m. is_watch (new.graph.kind m) ≡ true → Precedes (w ∷ r ∷ []) m (new.graph.result_of m))
      (λ is. inl (refl, subst (λ (k : ℕ). has_item (r ∷ []) k ≡ true) (sym makes.result_of) (here r [])))
      (λ is. not_watch is)

  results_both : (m : ℕ) → has_item (w ∷ r ∷ []) m ≡ true → is_watch (new.graph.kind m) ≡ true → (new.graph.kind (new.graph.result_of m) ≡ result) × (new.height m < new.height (new.graph.result_of m))
  results_both = for_both (λ m. is_watch (new.graph.kind m) ≡ true → (new.graph.kind (new.graph.result_of m) ≡ result) × (new.height m < new.height (new.graph.result_of m)))
      (λ is. subst (λ (k : ℕ). (new.graph.kind k ≡ result) × (new.height w < new.height k)) (sym makes.result_of) (makes.result.kind, makes.above))
      (λ is. not_watch is)

  only_watch : (m : ℕ) → has_item (w ∷ r ∷ []) m ≡ true → is_watch (new.graph.kind m) ≡ true → m ≡ w
  only_watch = for_both (λ m. is_watch (new.graph.kind m) ≡ true → m ≡ w) (λ is. refl) (λ is. not_watch is)

  watched_both : (m : ℕ) → has_item (w ∷ r ∷ []) m ≡ true → new.graph.kind m ≡ result → (v : ℕ) × (has_item (w ∷ r ∷ []) v ≡ true) × (is_watch (new.graph.kind v) ≡ true) × (new.graph.result_of v ≡ m)
  watched_both = for_both (λ m. new.graph.kind m ≡ result → (v : ℕ) × (has_item (w ∷ r ∷ []) v ≡ true) × (is_watch (new.graph.kind v) ≡ true) × (new.graph.result_of v ≡ m))
      (λ is. not_result is)
      (λ is. (w, here w (r ∷ []), watches, makes.result_of))

  unread_both : (m : ℕ) → has_item (w ∷ r ∷ []) m ≡ true → new.graph.kind m ≡ result → (new.graph.inputs m ≡ []) × (new.graph.later m ≡ None)
  unread_both = for_both (λ m. new.graph.kind m ≡ result → (new.graph.inputs m ≡ []) × (new.graph.later m ≡ None))
      (λ is. not_result is)
      (λ is. (makes.result.reads, makes.result.later))

  -- so many nodes grew over the test and what is in scope
  pub switched : Grew at new x (signal test ∷ env) (w ∷ r ∷ [])
  switched = record {
    members = makes.members;
    others = makes.others;
    still = λ j t. still_stays at new j (makes.still j t);
    free = λ j n off.
        makes.free j n
        (λ e. differ (w ∷ r ∷ []) w j (here w (r ∷ [])) off (sym e))
        (λ e. differ (w ∷ r ∷ []) r j (there w r (r ∷ []) (here r [])) off (sym e));
    once = (cons_absent r [] w (λ e. makes.apart (sym e)) refl, (refl, tt));
    born = new_ones;
    above_owner = λ v m e t h. for_both (λ m. new.height v < new.height m) (makes.watch.above_owner v e) (makes.result.above_owner v e) m h;
    turn = (watch_names, (result_names (w ∷ []), tt));
    later = λ m j h e. none_later (new.graph.later m) j (for_both (λ m. new.graph.later m ≡ None) makes.watch.later makes.result.later m h) e;
    switches = record {
      follows = follows_both;
      results = results_both;
      apart = λ u v h i is it e. only_watch u h is ∙ sym (only_watch v i it);
      watched = watched_both;
      unread = unread_both;
    };
    no_watch = λ none m j h nm.
        let rd = names_given m j h nm in
        ap is_watch (makes.still j (live j (given j rd))).same.kind ∙ none j rd;
  }
