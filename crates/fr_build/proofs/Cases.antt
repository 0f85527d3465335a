-- Cases, and what can't be.
use Rattle.std.proofs.Common.{◌≡◌, ℕ, suc, true, [], Option, None, Some, arith}
use Rattle.fr_links.specs.Lists.{has_item}
use Rattle.fr_graph.specs.Graph.{Part, signal, Kind, source, works, watch, result}
use Rattle.fr_way.specs.Frame.{is_watch}

pub no_item : {A : Type 0} → (m : ℕ) → has_item [] m ≡ true → A
no_item m e = absurd cc

pub suc_same : (a b : ℕ) → suc a ≡ suc b → a ≡ b
suc_same a b e = omega arith

pub none_later : {A : Type 0} → (o : Option Part) (j : ℕ) → o ≡ None → o ≡ Some (signal j) → A
none_later o j a b = absurd cc

pub same_signal : (i j : ℕ) → Path (Option Part) (Some (signal i)) (Some (signal j)) → i ≡ j
same_signal i j e = cc

pub watch_no_result : {A : Type 0} → (k : Kind) → is_watch k ≡ true → k ≡ result → A
watch_no_result (source s) e f = absurd cc
watch_no_result (works w) e f = absurd cc
watch_no_result (watch a b env) e f = absurd cc
watch_no_result result e f = absurd cc
