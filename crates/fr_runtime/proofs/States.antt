-- What a graph comes to at an instant is what evaluating afresh gives.
use Rattle.std.proofs.Common.{◌≡◌, ℕ, true, List, [], ◌∷◌, map, Option, None, Ok, refl, ap, subst, sym, ◌∙◌}
use Rattle.fr_value.specs.declared.ids.NodeId.{NodeId}
use Rattle.fr_value.specs.declared.now.Now.{Now}
use Rattle.fr_core.specs.declared.inputs.Inputs.{Inputs}
use Rattle.fr_core.specs.declared.program.Program.{Program}
use Rattle.fr_meaning.specs.Words.{Seen}
use Rattle.fr_core.specs.declared.lowered.LowItem.{LowItem}
use Rattle.fr_meaning.specs.Afresh.{State, Instant, body, handed_on, instant, latest, sources_at}
use Rattle.fr_graph.specs.Graph.{Part, steady, signal, Graph, part_value, part_values}
use Rattle.fr_graph.specs.Walk.{Plan}
use Rattle.fr_graph.specs.Keeps.{everything}
use Rattle.fr_graph.specs.Known.{Have, IsKnown, Reads}
use Rattle.fr_graph.specs.Wired.{Wired}
use Rattle.fr_graph.specs.Items.{IsAfresh, ItemsStand, body_walk, place_items}
use Rattle.fr_way.specs.Way.{Way, cell_in}
use Rattle.fr_nodes.specs.Makes.{AreThere}
use Rattle.fr_engine.specs.Choices.{Buildable}
use Rattle.fr_sources.specs.declared.sources.Sources.{Sources}
use Rattle.fr_sources.specs.Instants.{AreSourcesAt}
use Rattle.fr_engine.specs.Instant.{AtRest, BodyErrs}
use Rattle.fr_run.specs.Standing.{IsBehind}
use Rattle.fr_runtime.specs.States.{StandsForState, ComesTo, ShowsState, DoesErr}

every : (p : Part) → IsKnown everything p
every (steady v) = tt
every (signal m) = tt

-- parts of which every value is known have them
pub have_all : (g : Graph) (ps : List Part) (vs : List Seen) → Have g everything ps vs → part_values g ps ≡ vs
have_all g [] [] h = refl
have_all g (p ∷ ps) (v ∷ vs) h =
    ap (λ (w : Seen). w ∷ part_values g ps) (h.0 (every p)) ∙ ap (λ (ws : List Seen). v ∷ ws) (have_all g ps vs h.1)
have_all g [] (v ∷ vs) h = absurd h
have_all g (p ∷ ps) [] h = absurd h

-- a graph that is at rest again, and shows what evaluating afresh over a state that it stood for shows, comes to the instant after that state
pub comes : (can : Buildable) (pr : Program) (p : Plan) (many : ℕ) (was sources : Sources) (parts : List Part) (wakes late waking later : List NodeId) (at new : Way) (s : State) (i : Inputs)
    → (st : StandsForState can pr p many was parts wakes late at s)
    → AreSourcesAt pr (latest pr.inputs s.values i.sets) i sources
    → AtRest can p many st.items st.members sources.values.items (cell_in at.graph) new waking later
    → IsAfresh new.graph pr p st.items st.members sources.values.items s.kept
    → ComesTo can pr p many sources parts waking later new (instant pr s i)
unfolding instant
comes can pr p many was sources parts wakes late waking later at new s i st fed rests afresh =
    let now = sources_at pr (latest pr.inputs s.values i.sets) i in
    let a = subst (λ (xs : List Now). IsAfresh new.graph pr p st.items st.members xs s.kept) fed.values afresh in
    record {
      state = record {
        items = st.items;
        members = st.members;
        inputs = i;
        before = cell_in at.graph;
        lowered = st.lowered;
        counted = st.counted;
        fed = fed;
        rests = rests;
        stands = a.stands;
        parts_are = st.parts_are;
      };
      shows = subst (λ (ps : List Part). part_values new.graph ps ≡ (body pr now s.kept).shown) st.parts_are (have_all new.graph _ _ a.shows);
      clean = a.errless;
    }

-- where evaluating afresh over a state errs, the instant after it does
pub errs : (pr : Program) (sources : Sources) (s : State) (i : Inputs) → AreSourcesAt pr (latest pr.inputs s.values i.sets) i sources → BodyErrs pr sources.values.items s.kept → DoesErr (instant pr s i)
unfolding instant
errs pr sources s i fed h = subst (λ (xs : List Now). BodyErrs pr xs s.kept) fed.values h

-- what a graph that came to an instant shows stands behind that instant
pub behind : (can : Buildable) (pr q : Program) (p : Plan) (many : ℕ) (sources : Sources) (parts : List Part) (wakes late : List NodeId) (at : Way) (n : Instant) (shown : List Now) (changed : List ℕ)
    → q ≡ pr → ComesTo can pr p many sources parts wakes late at n → map (λ v. Ok v) shown ≡ part_values at.graph parts
    → IsBehind (λ s. ShowsState can q p many sources parts wakes late at shown s) (record { program = q; shown = shown; changed = changed }) pr n
behind can pr q p many sources parts wakes late at n shown changed same c shows = record {
  program = same;
  state = record { state = subst (λ (r : Program). StandsForState can r p many sources parts wakes late at (handed_on n)) (sym same) c.state; shows = shows };
  shown = shows ∙ c.shows;
  clean = c.clean;
}

-- the parts of a graph that stands for a state live
pub parts_live : (can : Buildable) (pr : Program) (p : Plan) (many : ℕ) (sources : Sources) (parts : List Part) (wakes late : List NodeId) (at : Way) (s : State)
    → ((is : List LowItem) (ms : List ℕ) → ItemsStand (body_walk p) (Wired at.graph p 0 2000) [] is ms → (j : ℕ) → Reads j (place_items (body_walk p) [] is ms).parts → at.graph.live j ≡ true)
    → StandsForState can pr p many sources parts wakes late at s → AreThere at parts
parts_live can pr p many sources parts wakes late at s law st j r =
    law st.items st.members st.rests.whole.nodes.items j (subst (λ (ps : List Part). Reads j ps) (sym st.parts_are) r)
