-- Parts that have values.
use Rattle.std.proofs.Common.{◌≡◌, inl, inr, ℕ, zero, suc, Bool, true, false, ◌&&◌, List, [], ◌∷◌, ◌++◌, length, slice_get, refl, ap, ◌∙◌}
use Rattle.std.proofs.lemmas.Bool.{false≢true}
use Rattle.fr_meaning.specs.Words.{Seen, part}
use Rattle.fr_graph.specs.Graph.{Part, steady, signal, Graph, part_value, part_values}
use Rattle.fr_graph.specs.Walk.{all_steady, steady_values, variable_part}
use Rattle.fr_graph.specs.Known.{Reads, IsKnown, AllKnown, Have}

pub both_true : (a b : Bool) → a && b ≡ true → (a ≡ true) × (b ≡ true)
both_true true true h = (refl, refl)
both_true true false h = cc
both_true false b h = cc

pub read_known : (known : ℕ → Type 0) (ps : List Part) → ((j : ℕ) → Reads j ps → known j) → AllKnown known ps
read_known known [] h = tt
read_known known (steady v ∷ ps) h = (tt, read_known known ps h)
read_known known (signal m ∷ ps) h = (h m (inl refl), read_known known ps (λ j r. h j (inr r)))

module _ (g : Graph) (known : ℕ → Type 0) where
  -- the value of a part that is found is that which is found
  pub have_at : (ps : List Part) (vs : List Seen) (i : ℕ) → Have g known ps vs → IsKnown known (variable_part (slice_get ps i)) → part_value g (variable_part (slice_get ps i)) ≡ part vs i
  have_at [] [] i h kn = refl
  have_at [] (v ∷ vs) i h kn = absurd h
  have_at (p ∷ ps) [] i h kn = absurd h
  have_at (p ∷ ps) (v ∷ vs) zero h kn = h.0 kn
  have_at (p ∷ ps) (v ∷ vs) (suc i) h kn = have_at ps vs i h.1 kn

  pub have_append : (ps : List Part) (vs : List Seen) (qs : List Part) (ws : List Seen) → Have g known ps vs → Have g known qs ws → Have g known (ps ++ qs) (vs ++ ws)
  have_append [] [] qs ws h k = k
  have_append [] (v ∷ vs) qs ws h k = absurd h
  have_append (p ∷ ps) [] qs ws h k = absurd h
  have_append (p ∷ ps) (v ∷ vs) qs ws h k = (h.0, have_append ps vs qs ws h.1 k)

  pub have_length : (ps : List Part) (vs : List Seen) → Have g known ps vs → length ps ≡ length vs
  have_length [] [] h = refl
  have_length [] (v ∷ vs) h = absurd h
  have_length (p ∷ ps) [] h = absurd h
  have_length (p ∷ ps) (v ∷ vs) h = ap suc (have_length ps vs h.1)

  pub have_values : (ps : List Part) (vs : List Seen) → Have g known ps vs → AllKnown known ps → part_values g ps ≡ vs
  have_values [] [] h kn = refl
  have_values [] (v ∷ vs) h kn = absurd h
  have_values (p ∷ ps) [] h kn = absurd h
  have_values (p ∷ ps) (v ∷ vs) h kn = ap (λ x. x ∷ part_values g ps) (h.0 kn.0) ∙ ap (λ xs. v ∷ xs) (have_values ps vs h.1 kn.1)

  pub have_steady : (ps : List Part) (vs : List Seen) → all_steady ps ≡ true → Have g known ps vs → steady_values ps ≡ vs
  have_steady [] [] e h = refl
  have_steady [] (v ∷ vs) e h = absurd h
  have_steady (p ∷ ps) [] e h = absurd h
  have_steady (steady u ∷ ps) (v ∷ vs) e h = ap (λ x. x ∷ steady_values ps) (h.0 tt) ∙ ap (λ xs. v ∷ xs) (have_steady ps vs e h.1)
  have_steady (signal m ∷ ps) (v ∷ vs) e h = absurd (false≢true e)
