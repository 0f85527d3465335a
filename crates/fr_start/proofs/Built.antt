-- A graph whose body was built is one over which a first instant may run, and where only sources have nodes a body can be built.
use Rattle.std.proofs.Common.{◌≡◌, inl, inr, ℕ, Bool, true, false, List, [], Some, None, ap, sym, ◌∙◌}
use Rattle.std.proofs.lemmas.Bool.{cases_lt}
use Rattle.fr_links.proofs.Has.{true_false}
use Rattle.fr_core.specs.declared.lowered.LowItem.{LowItem}
use Rattle.fr_graph.specs.Graph.{Graph}
use Rattle.fr_graph.specs.Walk.{Plan}
use Rattle.fr_graph.specs.Goes.{IsEmpty}
use Rattle.fr_way.specs.Way.{Way}
use Rattle.fr_way.specs.Ends.{IsBuilt}
use Rattle.fr_way.specs.Fronts.{AreUsed}
use Rattle.fr_nodes.specs.Kinds.{Sites}
use Rattle.fr_world.specs.Calls.{HasSources}
use Rattle.fr_build.specs.Ready.{LiveAreTaken, IsGround}
use Rattle.fr_start.specs.Start.{BuildsBody}
use Rattle.fr_start.proofs.Nodes.{stays, node_case, node_era, other_added, dead_idle}
use Rattle.fr_start.proofs.Framed.{is_framed}

module _ (p : Plan) (is : List LowItem) (many : ℕ) (at new : Way) (added : List ℕ) (b : BuildsBody p is many at new added) where
  no_cell : (m : ℕ) → new.graph.live m ≡ true → new.graph.cell m ≡ None
  no_cell m lv = elim (node_case p is many at new added b m lv) [
    | inl lt ↦ (stays p is many at new added b m lt).same.cell ∙ b.begins.cell m lt
    | inr h ↦ (b.grew.born m h).cell
  ]

  not_done : (m : ℕ) → new.graph.live m ≡ true → new.done m ≡ false
  not_done m lv = elim (node_case p is many at new added b m lv) [
    | inl lt ↦ (stays p is many at new added b m lt).same.done ∙ b.begins.done m lt
    | inr h ↦ (b.grew.born m h).done
  ]

  is_queued : (m : ℕ) → new.graph.live m ≡ true → new.queued m ≡ Some (new.height m)
  is_queued m lv = elim (node_case p is many at new added b m lv) [
    | inl lt ↦
        let s = stays p is many at new added b m lt in
        s.queued ∙ b.begins.queued m lt ∙ ap Some (sym (s.height ∙ b.begins.height m lt))
    | inr h ↦ (b.grew.born m h).queued
  ]

  is_taken : (m : ℕ) → new.graph.live m ≡ true → new.taken m ≡ true
  is_taken m lv = elim (node_case p is many at new added b m lv) [
    | inl lt ↦ (stays p is many at new added b m lt).taken
    | inr h ↦ (b.grew.born m h).taken
  ]

  pub is_built : (old : Graph) → IsEmpty old → IsBuilt p is added old new
  is_built old none = record {
    empty = none;
    frame = is_framed p is many at new added b;
    items = b.stand;
    era = node_era p is many at new added b;
    cell = no_cell;
    done = not_done;
    queued = is_queued;
    no_other = dead_idle p is many at new added b;
    taken = is_taken;
  }

  pub are_used : AreUsed new.graph p is added
  are_used = record { among = λ m lv e s. other_added p is many at new added b m lv s; all = b.all }

-- the numbers of the nodes of sources are in use
sources_taken : (at : Way) (many : ℕ) → HasSources at many → LiveAreTaken at
sources_taken at many has m lv = elim (cases_lt m many) [
  | inl lt ↦ has.taken m lt
  | inr le ↦ true_false (at.graph.live m) lv (has.no_other m le).0
]

pub ground_is : (way : Sites → Way) (has_era : ℕ → Bool) (many : ℕ) → ((sites : Sites) → HasSources (way sites) many) → has_era 0 ≡ true → IsGround way has_era 0 [] many
ground_is way has_era many has era = record {
  era = era;
  taken = λ sites. sources_taken (way sites) many (has sites);
  scope = λ sites j r. absurd r;
  sources = λ sites s lt. ((has sites).live s lt, (has sites).kind s lt);
}
