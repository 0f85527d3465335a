-- Cases, and what can't be.
use Rattle.std.proofs.Common.{◌≡◌, ◌≢◌, ◌⊎◌, inl, inr, ℕ, ◌<◌, Bool, true, false, List, [], ◌∷◌, Option, Some, None, IsSome, Result, Ok, Err, refl, arith}
use Rattle.fr_value.specs.declared.now.Bad.{Bad}
use Rattle.fr_graph.specs.Graph.{Part, steady, signal}
use Rattle.fr_graph.specs.Wired.{Chosen}
use Rattle.fr_graph.specs.Known.{Reads}

pub by_bool : (b : Bool) → (b ≡ true) ⊎ (b ≡ false)
by_bool true = inl refl
by_bool false = inr refl

pub by_number : (i j : ℕ) → (i ≡ j) ⊎ (i ≢ j)
by_number i j = grind arith

pub no_both {ℓ} : {A : Type ℓ} → (b : Bool) → b ≡ true → b ≡ false → A
no_both b t f = absurd cc

pub not_below : {A : Type 0} (a : ℕ) → a < a → A
not_below a l = absurd (omega arith)

pub none_some {ℓ} : {A : Type ℓ} → (o : Option ℕ) (h : ℕ) → o ≡ None → o ≡ Some h → A
none_some o h n s = absurd cc

pub some_is : (o : Option ℕ) (h : ℕ) → o ≡ Some h → IsSome o
some_is o h e = cc

-- a node is among the signals of parts, or it isn't
pub reads_case : (m : ℕ) (ps : List Part) → Reads m ps ⊎ (Reads m ps → ⊥)
reads_case m [] = inr (λ r. r)
reads_case m (steady v ∷ ps) = reads_case m ps
reads_case m (signal j ∷ ps) = elim (by_number j m) [
  | inl e ↦ inl (inl e)
  | inr n ↦ elim (reads_case m ps) [
    | inl r ↦ inl (inr r)
    | inr no_more ↦ inr (λ r. elim r [ inl e ↦ n e | inr s ↦ no_more s ])
  ]
]

-- what either choice gives
pub by_choice : {A B C : Type 0} (r : Result Bool Bad) → Chosen r A B → (A → C) → (B → C) → C
by_choice (Err bad) c f g = absurd c
by_choice (Ok true) c f g = f c
by_choice (Ok false) c f g = g c
