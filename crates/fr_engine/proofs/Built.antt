-- A graph that was just built, by what is told of its members.
use Rattle.std.proofs.Common.{◌≡◌, ℕ, true, false, List, ap}
use Rattle.fr_links.specs.Lists.{has_item}
use Rattle.fr_value.specs.declared.ids.NodeId.{NodeId}
use Rattle.fr_core.specs.declared.lowered.LowItem.{LowItem}
use Rattle.fr_graph.specs.Graph.{Graph}
use Rattle.fr_graph.specs.Walk.{Plan}
use Rattle.fr_way.specs.Frame.{is_source}
use Rattle.fr_way.specs.Way.{Way}
use Rattle.fr_way.proofs.Cases.{watch_no_source}
use Rattle.fr_engine.specs.Choices.{Buildable}
use Rattle.fr_engine.specs.Instant.{IsBuiltUp, IsToldBuilt}

module _ (can : Buildable) (p : Plan) (many : ℕ) (is : List LowItem) (ms : List ℕ) (old : Graph) (at : Way) (late : List NodeId) (b : IsToldBuilt can p many is ms old at late) where
  member : (m : ℕ) → at.graph.live m ≡ true → is_source (at.graph.kind m) ≡ false → has_item ms m ≡ true
  member m live other = b.used.among m live (b.built.era m live) other

  pub built_up : IsBuiltUp can p many is ms old at late
  built_up = record {
    built = b.built;
    used = b.used;
    awaits = b.awaits;
    kernels = record {
      kernels = λ m w live k. b.members.kernels m w (member m live (ap is_source k)) k;
      sources = λ m s live k. (b.fed.only m s live k).1;
    };
    fit = record {
      tests = λ m live watches. b.members.tests m (member m live (watch_no_source (at.graph.kind m) watches)) watches;
      fits = λ m x y env live k. b.members.fits m x y env (member m live (ap is_source k)) k;
    };
    fed = b.fed;
    unread = λ w live watches waits was. b.unchosen w live watches;
    listed = record {
      listed = b.late_named;
      taken = λ m n. b.built.taken m (b.late_live m n);
    };
  }
