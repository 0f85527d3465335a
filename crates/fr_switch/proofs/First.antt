-- The nodes of a body that was built are fit.
use Rattle.std.proofs.Common.{◌≡◌, ℕ, true, false, List, ap, refl}
use Rattle.fr_core.specs.declared.lowered.LowItem.{LowItem}
use Rattle.fr_graph.specs.Graph.{Work, Kind, source, works, watch, result, Graph}
use Rattle.fr_events.specs.Works.{HasKernel}
use Rattle.fr_way.specs.Frame.{is_source, is_watch}
use Rattle.fr_engine.specs.Choices.{AreFit}
use Rattle.fr_nodes.specs.Kinds.{Sites}
use Rattle.fr_ready.specs.Ready.{Planned}
use Rattle.fr_switch.specs.Fit.{IsBuildable, IsBuiltFrom, IsFit}
use Rattle.fr_switch.proofs.Fit.{items_fit}

watch_no_source : (k : Kind) → is_watch k ≡ true → is_source k ≡ false
watch_no_source (source s) e = cc
watch_no_source (works w) e = refl
watch_no_source (watch a b env) e = refl
watch_no_source result e = refl

module _ (planned : Planned) (sites : Sites) (g : Graph) (is : List LowItem) (ms : List ℕ) (built : IsBuiltFrom planned sites g is ms) where
  live_fit : (m : ℕ) → g.live m ≡ true → is_source (g.kind m) ≡ false → IsFit planned sites g m
  live_fit m lv k = items_fit planned sites g is ms m built.plan built.matches built.ready built.items_match built.stand built.used.all (built.used.among m lv (built.era m lv) k)

  pub first_kernels : (m : ℕ) (v : Work) → g.live m ≡ true → g.kind m ≡ works v → HasKernel planned.table v
  first_kernels m v lv k = (live_fit m lv (ap is_source k)).kernel v k

  pub first_watches : AreFit (λ a b scope. IsBuildable planned sites a b scope) g
  first_watches = record {
    tests = λ w lv k. (live_fit w lv (watch_no_source (g.kind w) k)).test k;
    fits = λ w a b env lv k. (live_fit w lv (ap is_source k)).choices a b env k;
  }
