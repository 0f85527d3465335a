-- What nodes name, in a graph and in one that goes on from it.
use Rattle.std.proofs.Common.{◌≡◌, ◌⊎◌, inl, inr, ℕ, true, List, [], ◌∷◌, ◌++◌}
use Rattle.fr_links.specs.Lists.{has_item}
use Rattle.fr_links.proofs.Has.{here, there, has_append_left}
use Rattle.fr_graph.specs.Graph.{Part, Graph}
use Rattle.fr_build.proofs.Cases.{no_item}
use Rattle.fr_build.specs.Builds.{InReach, NamesBefore, InTurn}
use Rattle.fr_build.proofs.Lists.{AreAmong, among_cons, first_or_rest}

pub reach_wider : (g : Graph) (env : List Part) (ms ns : List ℕ) (j : ℕ) → AreAmong ms ns → InReach g env ms j → InReach g env ns j
reach_wider g env ms ns j sub r = elim r [ inl given ↦ inl given | inr h ↦ inr (sub j h) ]

-- the nodes of a list name what they did, over what comes before them and over more, which has these
module _ (g n : Graph) (env scope : List Part) (base whole : List ℕ)
    (names : (m : ℕ) (bs cs : List ℕ) → has_item whole m ≡ true → AreAmong base cs → AreAmong bs cs → NamesBefore g env bs m → NamesBefore n scope cs m) where
  pub turn_over : (ms bs cs : List ℕ) → AreAmong ms whole → AreAmong base cs → AreAmong bs cs → InTurn g env bs ms → InTurn n scope cs ms
  turn_over [] bs cs among has sub t = tt
  turn_over (m ∷ ms) bs cs among has sub t = (
    names m bs cs (among m (here m ms)) has sub t.0,
    turn_over ms (m ∷ bs) (m ∷ cs) (λ k h. among k (there m k ms h)) (λ k h. there m k cs (has k h)) (among_cons m bs cs sub) t.1,
  )

pub turn_wider : (g : Graph) (env : List Part) (ms bs cs : List ℕ) → AreAmong bs cs → InTurn g env bs ms → InTurn g env cs ms
turn_wider g env ms bs cs sub t =
    turn_over g g env env [] ms
    (λ m bs cs h none sub was. record { inputs = λ j r. reach_wider g env bs cs j sub (was.inputs j r); held = λ j r. reach_wider g env bs cs j sub (was.held j r) })
    ms bs cs (λ k h. h) (λ k h. no_item k h) sub t

pub turn_append : (g : Graph) (env : List Part) (xs ys bs big : List ℕ) → InTurn g env bs xs → InTurn g env big ys → ((m : ℕ) → has_item big m ≡ true → (has_item bs m ≡ true) ⊎ (has_item xs m ≡ true))
    → InTurn g env bs (xs ++ ys)
turn_append g env [] ys bs big t u c = turn_wider g env ys big bs (λ k h. elim (c k h) [ inl l ↦ l | inr r ↦ no_item k r ]) u
turn_append g env (x ∷ xs) ys bs big t u c = (
  t.0,
  turn_append g env xs ys (x ∷ bs) big t.1 u (λ k h. elim (c k h) [
    | inl l ↦ inl (there x k bs l)
    | inr r ↦ elim (first_or_rest x k xs r) [
      | inl f ↦ inl (has_append_left (x ∷ []) bs k f)
      | inr s ↦ inr s
    ]
  ]),
)
