-- The nodes of a graph whose body was built: those of the sources, as they were, and those that were added.
use Rattle.std.proofs.Common.{◌≡◌, ◌⊎◌, inl, inr, ℕ, ◌<◌, true, false, List, None, ap, ◌∙◌, subst}
use Rattle.std.proofs.lemmas.Bool.{cases_lt}
use Rattle.fr_links.specs.Lists.{has_item}
use Rattle.fr_links.proofs.Has.{by_truth, true_false}
use Rattle.fr_core.specs.declared.lowered.LowItem.{LowItem}
use Rattle.fr_graph.specs.Graph.{Work, Kind, source, works, result}
use Rattle.fr_graph.specs.Walk.{Plan}
use Rattle.fr_graph.specs.Known.{Reads}
use Rattle.fr_way.specs.Frame.{Holds, Names, is_source, is_watch}
use Rattle.fr_way.specs.Way.{Way}
use Rattle.fr_build.specs.Builds.{Stays}
use Rattle.fr_build.proofs.Cases.{none_later}
use Rattle.fr_start.specs.Start.{BuildsBody, EachHasNode, NoOtherIsSource, OthersAreAmong, ResultsReadNothing}

same_source : (k : Kind) (m s : ℕ) → k ≡ source m → k ≡ source s → m ≡ s
same_source k m s a b = cc

pub source_is : (k : Kind) (s : ℕ) → k ≡ source s → is_source k ≡ true
source_is k s e = ap is_source e

source_no_watch : (k : Kind) (s : ℕ) → k ≡ source s → is_watch k ≡ false
source_no_watch k s e = ap is_watch e

pub source_no_work {ℓ} : {A : Type ℓ} → (k : Kind) (s : ℕ) (w : Work) → k ≡ source s → k ≡ works w → A
source_no_work k s w a b = absurd cc

source_no_result {ℓ} : {A : Type ℓ} → (k : Kind) (s : ℕ) → k ≡ source s → k ≡ result → A
source_no_result k s a b = absurd cc

module _ (p : Plan) (is : List LowItem) (many : ℕ) (at new : Way) (added : List ℕ) (b : BuildsBody p is many at new added) where
  -- a number was in use only for a source's node
  pub was_source : (m : ℕ) → at.taken m ≡ true → m < many
  was_source m t = elim (cases_lt m many) [
    | inl lt ↦ lt
    | inr le ↦ true_false (at.taken m) t (b.begins.no_other m le).1
  ]

  -- the node of a source stays
  pub stays : (m : ℕ) → m < many → Stays at new m
  stays m lt = b.grew.still m (b.begins.taken m lt)

  pub source_live : (m : ℕ) → m < many → new.graph.live m ≡ true
  source_live m lt = (stays m lt).live ∙ b.begins.live m lt

  pub source_kind : (m : ℕ) → m < many → new.graph.kind m ≡ source m
  source_kind m lt = (stays m lt).same.kind ∙ b.begins.kind m lt

  pub source_era : (m : ℕ) → m < many → new.graph.era m ≡ 0
  source_era m lt = (stays m lt).same.era ∙ b.begins.era m lt

  pub source_reads {ℓ} : {A : Type ℓ} → (m j : ℕ) → m < many → Reads j (new.graph.inputs m) → A
  source_reads m j lt r = absurd (subst (Reads j) ((stays m lt).same.inputs ∙ b.begins.inputs m lt) r)

  pub source_holds {ℓ} : {A : Type ℓ} → (m j : ℕ) → m < many → Holds j (new.graph.kind m) → A
  source_holds m j lt h = absurd (subst (Holds j) (source_kind m lt) h)

  -- a source's node names nothing
  pub source_names : {A : Type 0} → (m j : ℕ) → m < many → Names new.graph m j → A
  source_names m j lt nm = elim nm [
    | inl r ↦ source_reads m j lt r
    | inr more ↦ elim more [
      | inl l ↦ none_later (new.graph.later m) j ((stays m lt).same.later ∙ b.begins.later m lt) l
      | inr h ↦ source_holds m j lt h
    ]
  ]

  -- a node that lives is a source's, or was added
  pub node_case : (m : ℕ) → new.graph.live m ≡ true → (m < many) ⊎ (has_item added m ≡ true)
  node_case m lv = elim (by_truth (at.taken m)) [
    | inl t ↦ inl (was_source m t)
    | inr f ↦ elim (by_truth (has_item added m)) [
      | inl h ↦ inr h
      | inr off ↦ true_false (new.graph.live m) lv (b.grew.free m f off).live
    ]
  ]

  pub node_era : (m : ℕ) → new.graph.live m ≡ true → new.graph.era m ≡ 0
  node_era m lv = elim (node_case m lv) [
    | inl lt ↦ source_era m lt
    | inr h ↦ (b.grew.born m h).era
  ]

  -- only a source's node is of a source
  pub is_below : (m : ℕ) → new.graph.live m ≡ true → is_source (new.graph.kind m) ≡ true → m < many
  is_below m lv s = elim (node_case m lv) [
    | inl lt ↦ lt
    | inr h ↦ true_false (is_source (new.graph.kind m)) s (b.grew.born m h).no_source
  ]

  pub other_added : (m : ℕ) → new.graph.live m ≡ true → is_source (new.graph.kind m) ≡ false → has_item added m ≡ true
  other_added m lv s = elim (node_case m lv) [
    | inl lt ↦ true_false (is_source (new.graph.kind m)) (source_is (new.graph.kind m) m (source_kind m lt)) s
    | inr h ↦ h
  ]

  pub watch_added : (w : ℕ) → new.graph.live w ≡ true → is_watch (new.graph.kind w) ≡ true → has_item added w ≡ true
  watch_added w lv s = elim (node_case w lv) [
    | inl lt ↦ true_false (is_watch (new.graph.kind w)) s (source_no_watch (new.graph.kind w) w (source_kind w lt))
    | inr h ↦ h
  ]

  pub result_added : (m : ℕ) → new.graph.live m ≡ true → new.graph.kind m ≡ result → has_item added m ≡ true
  result_added m lv s = elim (node_case m lv) [
    | inl lt ↦ source_no_result (new.graph.kind m) m (source_kind m lt) s
    | inr h ↦ h
  ]

  -- a source's node wasn't added
  pub source_not_added : (m : ℕ) → m < many → has_item added m ≡ false
  source_not_added m lt = elim (by_truth (has_item added m)) [
    | inl h ↦ true_false (at.taken m) (b.begins.taken m lt) (b.grew.born m h).fresh
    | inr off ↦ off
  ]

  pub each_has_node : EachHasNode many new.graph
  each_has_node s lt = (source_live s lt, source_kind s lt)

  pub no_other_source : NoOtherIsSource many new.graph
  no_other_source m s lv e =
      let lt = is_below m lv (source_is (new.graph.kind m) s e) in
      let same = same_source (new.graph.kind m) m s (source_kind m lt) e in
      (same, subst (λ (i : ℕ). i < many) same lt)

  pub others_added : OthersAreAmong added new.graph
  others_added = other_added

  pub results_unread : ResultsReadNothing new.graph
  results_unread m lv e = (b.grew.switches.unread m (result_added m lv e) e).0

  -- where nothing lives, nothing is queued
  pub dead_idle : (m : ℕ) → new.graph.live m ≡ false → new.queued m ≡ None
  dead_idle m off = elim (cases_lt m many) [
    | inl lt ↦ true_false (new.graph.live m) (source_live m lt) off
    | inr le ↦ elim (by_truth (has_item added m)) [
      | inl h ↦ true_false (new.graph.live m) (b.grew.born m h).live off
      | inr out ↦ (b.grew.free m (b.begins.no_other m le).1 out).queued ∙ (b.begins.no_other m le).2
    ]
  ]

  -- each number in use is that of a node that lives
  pub taken_lives : (m : ℕ) → new.taken m ≡ true → new.graph.live m ≡ true
  taken_lives m t = elim (cases_lt m many) [
    | inl lt ↦ source_live m lt
    | inr le ↦ elim (by_truth (has_item added m)) [
      | inl h ↦ (b.grew.born m h).live
      | inr out ↦ true_false (new.taken m) t (b.grew.free m (b.begins.no_other m le).1 out).taken
    ]
  ]
