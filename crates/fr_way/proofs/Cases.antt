-- Cases, and what can't be.
use Rattle.std.proofs.Common.{◌≡◌, ◌≢◌, ◌⊎◌, inl, inr, ℕ, suc, Bool, true, false, List, [], Option, Some, None, IsSome, refl, ap, arith}
use Rattle.fr_links.specs.Lists.{has_item}
use Rattle.fr_core.specs.declared.lowered.Low.{Low}
use Rattle.fr_graph.specs.Graph.{Part, Work, Kind, source, works, watch, result}
use Rattle.fr_way.specs.Frame.{is_watch, is_source, Holds}

pub bool_case : (b : Bool) → (b ≡ true) ⊎ (b ≡ false)
bool_case true = inl refl
bool_case false = inr refl

pub both_bools {ℓ} : {A : Type ℓ} → (b : Bool) → b ≡ true → b ≡ false → A
both_bools b t f = absurd cc

pub number_case : (o : Option ℕ) → (o ≡ None) ⊎ ((h : ℕ) × (o ≡ Some h))
number_case None = inl refl
number_case (Some h) = inr (h, refl)

pub none_some {ℓ} : {A : Type ℓ} → (o : Option ℕ) (h : ℕ) → o ≡ None → o ≡ Some h → A
none_some o h n s = absurd cc

pub no_some {ℓ} : {A : Type ℓ} → (o : Option ℕ) → o ≡ None → IsSome o → A
no_some o n s = absurd cc

pub some_number : (a b : ℕ) → Path (Option ℕ) (Some a) (Some b) → a ≡ b
some_number a b e = cc

pub by_number : (i j : ℕ) → (i ≡ j) ⊎ (i ≢ j)
by_number i j = grind arith

pub suc_same : (a b : ℕ) → suc a ≡ suc b → a ≡ b
suc_same a b e = omega arith

pub zero_suc {ℓ} : {A : Type ℓ} → (n v : ℕ) → n ≡ 0 → n ≡ suc v → A
zero_suc n v z s = absurd (omega arith)

-- a node is a result or not
pub result_case : (k : Kind) → (k ≡ result) ⊎ (k ≢ result)
result_case (source s) = inr (λ e. cc)
result_case (works w) = inr (λ e. cc)
result_case (watch a b env) = inr (λ e. cc)
result_case result = inl refl

pub watch_no_result : (k : Kind) → is_watch k ≡ true → k ≢ result
watch_no_result (source s) e f = absurd cc
watch_no_result (works w) e f = absurd cc
watch_no_result (watch a b env) e f = absurd cc
watch_no_result result e f = absurd cc

pub watch_no_source : (k : Kind) → is_watch k ≡ true → is_source k ≡ false
watch_no_source (source s) e = absurd cc
watch_no_source (works w) e = refl
watch_no_source (watch a b env) e = refl
watch_no_source result e = refl

-- what holds a node is a watch
pub holds_watch : (j : ℕ) (k : Kind) → Holds j k → is_watch k ≡ true
holds_watch j (source s) h = absurd h
holds_watch j (works w) h = absurd h
holds_watch j (watch a b env) h = refl
holds_watch j result h = absurd h

-- a watch has its choices and what is in scope
pub watch_parts : (k : Kind) → is_watch k ≡ true → (a : Low) × (b : Low) × (env : List Part) × (k ≡ watch a b env)
watch_parts (source s) e = absurd cc
watch_parts (works w) e = absurd cc
watch_parts (watch a b env) e = (a, b, env, refl)
watch_parts result e = absurd cc

pub work_no_watch : (k : Kind) (w : Work) → k ≡ works w → is_watch k ≡ true → ⊥
work_no_watch (source s) w e i = absurd cc
work_no_watch (works v) w e i = absurd cc
work_no_watch (watch a b env) w e i = absurd cc
work_no_watch result w e i = absurd cc

pub result_no_source : (k : Kind) → k ≡ result → is_source k ≡ false
result_no_source k e = ap is_source e

pub no_item {ℓ} : {A : Type ℓ} → (m : ℕ) → has_item [] m ≡ true → A
no_item m e = absurd cc

pub work_no_result : (k : Kind) (w : Work) → k ≡ works w → k ≢ result
work_no_result k w e f = cc
