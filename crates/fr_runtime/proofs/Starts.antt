-- What a graph comes to at the first instant.
use Rattle.std.proofs.Common.{◌≡◌, ◌⊎◌, inl, inr, ℕ, zero, suc, ◌+◌, ◌<◌, Bool, true, false, List, [], ◌∷◌, map, length, Option, None, Ok, refl, ap, subst, sym, ◌∙◌}
use Rattle.fr_links.specs.Lists.{has_item}
use Rattle.fr_value.specs.declared.ids.NodeId.{NodeId}
use Rattle.fr_value.specs.declared.value.Value.{Value}
use Rattle.fr_value.specs.declared.now.Now.{Now}
use Rattle.fr_core.specs.WellFormed.{last_source}
use Rattle.fr_core.specs.declared.kept.Kept.TheVariants as kept
use Rattle.fr_core.specs.declared.lowered.Low.{Low}
use Rattle.fr_core.specs.declared.lowered.LowItem.{LowItem}
use Rattle.fr_core.specs.declared.program.Input.{Input}
use Rattle.fr_core.specs.declared.program.Program.{Program}
use Rattle.fr_meaning.specs.Afresh.{State, beginning, body, first_instant, instant, latest, sources_at}
use Rattle.fr_graph.specs.Graph.{Part, Work, works, Kind, source, watch, result, Graph, is_late, part_values}
use Rattle.fr_graph.specs.Walk.{Plan}
use Rattle.fr_graph.specs.Items.{AreLowered, IsAfresh, body_walk, place_items}
use Rattle.fr_way.specs.Frame.{is_source, is_watch}
use Rattle.fr_way.specs.Way.{Way, cell_in}
use Rattle.fr_way.specs.Ends.{IsBuilt}
use Rattle.fr_way.specs.Fronts.{AreUsed}
use Rattle.fr_way.specs.Loop.{NothingAwaits}
use Rattle.fr_events.specs.Works.{HasKernel}
use Rattle.fr_nodes.specs.Kinds.{Sites}
use Rattle.fr_nodes.specs.Listed.{Named, IsLateIn, ListsLate}
use Rattle.fr_sources.specs.declared.sources.Sources.{Sources}
use Rattle.fr_sources.specs.Instants.{AreSourcesAt}
use Rattle.fr_engine.specs.Beginning.{HaveSources}
use Rattle.fr_engine.specs.Choices.{Buildable, AreFit}
use Rattle.fr_engine.specs.Instant.{AtRest, BodyErrs, IsBuiltUp}
use Rattle.fr_engine.specs.Notes.{AreLate}
use Rattle.fr_engine.specs.Rules.{AreUnread, HasKernels}
use Rattle.fr_ready.specs.Ready.{Planned, plan_of}
use Rattle.fr_start.specs.Start.{EachHasNode, NoOtherIsSource, OthersAreAmong, NoneHasChosen}
use Rattle.fr_switch.specs.Fit.{IsBuildable, IsFit}
use Rattle.fr_runtime.specs.States.{StandsForState, ComesTo, DoesErr}
use Rattle.fr_runtime.proofs.States.{have_all}

-- where nothing is set the inputs keep their values
unset : (is : List Input) → latest is (map (λ (i : Input). i.first) is) [] ≡ map (λ (i : Input). i.first) is
unset [] = refl
unset (i ∷ is) = ap (λ (vs : List Value). i.first ∷ vs) (unset is)

pub first_fed : (pr : Program) (sources : Sources) → AreSourcesAt pr (beginning pr).values first_instant sources → AreSourcesAt pr (latest pr.inputs (beginning pr).values []) first_instant sources
first_fed pr sources fed = subst (λ (vs : List Value). AreSourcesAt pr vs first_instant sources) (sym (unset pr.inputs)) fed

-- a graph that is at rest behind its first instant comes to it
pub comes_first : (can : Buildable) (pr : Program) (p : Plan) (many : ℕ) (sources : Sources) (parts : List Part) (waking later : List NodeId) (old : Graph) (new : Way) (is : List LowItem) (ms : List ℕ)
    → AreSourcesAt pr (beginning pr).values first_instant sources → many ≡ last_source pr + 1 → AreLowered pr p is
    → AtRest can p many is ms sources.values.items (cell_in old) new waking later → IsAfresh new.graph pr p is ms sources.values.items kept.Nothing
    → (place_items (body_walk p) [] is ms).parts ≡ parts
    → ComesTo can pr p many sources parts waking later new (instant pr (beginning pr) first_instant)
unfolding instant
comes_first can pr p many sources parts waking later old new is ms fed counted lowered rests afresh parts_are =
    let first = first_fed pr sources fed in
    let now = sources_at pr (latest pr.inputs (beginning pr).values []) first_instant in
    let a = subst (λ (xs : List Now). IsAfresh new.graph pr p is ms xs kept.Nothing) first.values afresh in
    record {
      state = record {
        items = is;
        members = ms;
        inputs = first_instant;
        before = cell_in old;
        lowered = lowered;
        counted = counted;
        fed = first;
        rests = rests;
        stands = a.stands;
        parts_are = parts_are;
      };
      shows = subst (λ (ps : List Part). part_values new.graph ps ≡ (body pr now kept.Nothing).shown) parts_are (have_all new.graph _ _ a.shows);
      clean = a.errless;
    }

pub errs_first : (pr : Program) (sources : Sources) → AreSourcesAt pr (beginning pr).values first_instant sources → BodyErrs pr sources.values.items kept.Nothing → DoesErr (instant pr (beginning pr) first_instant)
unfolding instant
errs_first pr sources fed h = subst (λ (xs : List Now). BodyErrs pr xs kept.Nothing) (first_fed pr sources fed).values h

-- whatever the sources have
pub errs_at_all : (pr : Program) → ((sources : List Now) → BodyErrs pr sources kept.Nothing) → DoesErr (instant pr (beginning pr) first_instant)
unfolding instant
errs_at_all pr h = h (sources_at pr (latest pr.inputs (beginning pr).values []) first_instant)

-- WHAT WAS BUILT
module _ (planned : Planned) (sites : Sites) (is : List LowItem) (ms : List ℕ) (old : Graph) (at : Way) (late : List NodeId)
    (built : IsBuilt (plan_of planned) is ms old at) (used : AreUsed at.graph (plan_of planned) is ms) (awaits : NothingAwaits at)
    (sources : EachHasNode planned.sources at.graph) (no_more : NoOtherIsSource planned.sources at.graph) (others : OthersAreAmong ms at.graph) (unchosen : NoneHasChosen at.graph)
    (fit : (m : ℕ) → has_item ms m ≡ true → IsFit planned sites at.graph m) (lists : ListsLate at.graph 0 [] late) where
  among : (m : ℕ) → at.graph.live m ≡ true → is_source (at.graph.kind m) ≡ false → IsFit planned sites at.graph m
  among m live kind = fit m (others m live kind)

  kernels : HasKernels planned.table planned.sources at.graph
  kernels = record {
    kernels = λ m w live k. (among m live (ap is_source k)).kernel w k;
    sources = λ m s live k. (no_more m s live k).1;
  }

  watch_no_source : (m : ℕ) → is_watch (at.graph.kind m) ≡ true → is_source (at.graph.kind m) ≡ false
  watch_no_source m w = by_kind (at.graph.kind m) w
    where
      by_kind : (k : Kind) → is_watch k ≡ true → is_source k ≡ false
      by_kind (source s) w = absurd cc
      by_kind (works v) w = refl
      by_kind (watch a b env) w = refl
      by_kind result w = refl

  fits : AreFit (IsBuildable planned sites) at.graph
  fits = record {
    tests = λ w live k. (among w live (watch_no_source w k)).test k;
    fits = λ w a b env live k. (among w live (ap is_source k)).choices a b env k;
  }

  listed : AreLate at late
  listed = record {
    listed = λ m w live k l.
        lists.late m (record { member = subst (λ (x : ℕ). has_item (at.graph.members x) m ≡ true) (built.era m live) (built.frame.members.joined m live); work = w; kind = k; late = l });
    taken = λ m named. elim (lists.only m named) [ inl none ↦ absurd none | inr l ↦ built.taken m (built.frame.members.member 0 m l.member).0 ];
  }

  pub is_up : IsBuiltUp (IsBuildable planned sites) (plan_of planned) planned.sources is ms old at late
  is_up = record {
    built = built;
    used = used;
    awaits = awaits;
    kernels = kernels;
    fit = fits;
    fed = record { there = sources; only = no_more };
    unread = λ w live k done gone. unchosen w live k;
    listed = listed;
  }
