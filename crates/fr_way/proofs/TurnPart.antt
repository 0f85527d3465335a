-- What stands for an expression that stands in an era: a value, what is in scope, a source, or a node of that era that is no watch.
use Rattle.std.proofs.Common.{◌≡◌, ℕ, zero, suc, Bool, true, false, ◌&&◌, if◌then◌else◌, List, [], ◌∷◌, ◌++◌, length, slice_get, ap, Option, Some, None, Result, Ok, Err}
use Rattle.fr_value.specs.declared.now.Bad.{Bad}
use Rattle.fr_core.specs.declared.lowered.Low.{Low, out-Low}
use Rattle.fr_core.specs.declared.lowered.Low.TheOpen.{Low-F}
use Rattle.fr_meaning.specs.Words.{test_of}
use Rattle.fr_graph.specs.Graph.{Part, steady, signal, Work, operates, handles, loops, runs, works, Graph, IsClean, work_line, is_plain}
use Rattle.fr_graph.specs.Walk.{Plan, first, rest, Walk, AllPlaced, by_value, by_next, place_all, all_steady, steady_values, variable_part, slot_parts, place_work, place_chosen, place_switch, low_body, place_call, place_shape, place}
use Rattle.fr_graph.specs.Wired.{IsNext, inputs_of, later_of, Either, WorkStands, IsSource, AllStand, Chosen, SwitchStands, CallStands, ShapeStands, Wired}
use Rattle.fr_graph.specs.Known.{IsKnown, AllKnown}
use Rattle.fr_way.specs.Frame.{is_watch}

module _ (known : ℕ → Type 0) where
  known_at : (ps : List Part) (i : ℕ) → AllKnown known ps → IsKnown known (variable_part (slice_get ps i))
  known_at [] i kn = tt
  known_at (q ∷ ps) zero kn = kn.0
  known_at (q ∷ ps) (suc i) kn = known_at ps i kn.1

  known_append : (ps qs : List Part) → AllKnown known ps → AllKnown known qs → AllKnown known (ps ++ qs)
  known_append [] qs kn more = more
  known_append (q ∷ ps) qs kn more = (kn.0, known_append ps qs kn.1 more)

module _ (g : Graph) (p : Plan) (x : ℕ) (known : ℕ → Type 0) (from_source : (s : ℕ) → IsSource g p s → known (p.node_of s))
    (from_era : (m : ℕ) → g.live m ≡ true → g.era m ≡ x → is_watch (g.kind m) ≡ false → known m) where
  abbrev pub KnownAt : ℕ → Type 0
  KnownAt n = (e : Low) (env : List Part) (ms : List ℕ) → AllKnown known env → Wired g p x n e env ms → IsKnown known (place p n e env ms).part

  work_from : (n : ℕ) (w : Work) (ps : List Part) (ms : List ℕ) → WorkStands g p x n w ps ms → IsKnown known (place_work p n w ps ms).part
  work_from n w ps ms st = by_steady (is_plain w && all_steady ps) st
    where
      by_steady : (b : Bool) → Either b (IsClean (work_line p.table n w None (steady_values ps))) (IsNext g x n (works w) (inputs_of w ps) (later_of w ps) ms)
          → IsKnown known (if b then by_value (work_line p.table n w None (steady_values ps)).value ms else by_next ms).part
      by_steady true st = tt
      by_steady false st = from_era (first ms) st.live st.era (ap is_watch st.kind)

  module _ (n : ℕ) (ih : KnownAt n) (env : List Part) (kn : AllKnown known env) where
    abbrev walk : Walk
    walk = place p n

    abbrev Stands : Low → List Part → List ℕ → Type 0
    Stands = Wired g p x n

    all_from : (es : List Low) (ms : List ℕ) → AllStand walk Stands env es ms → AllKnown known (place_all walk env es ms).parts
    all_from [] ms st = tt
    all_from (e ∷ es) ms st = (ih e env ms kn st.0, all_from es (walk e env ms).left st.1)

    chosen_from : (a b : Low) (ms : List ℕ) (o : Result Bool Bad) → Chosen o (Stands a env ms) (Stands b env ms) → IsKnown known (place_chosen walk a b env ms o).part
    chosen_from a b ms (Err bad) st = absurd st
    chosen_from a b ms (Ok true) st = ih a env ms kn st
    chosen_from a b ms (Ok false) st = ih b env ms kn st

    switch_from : (a b : Low) (h : Part) (ms : List ℕ) → SwitchStands g x n Stands a b env h ms → IsKnown known (place_switch walk a b env h ms).part
    switch_from a b (steady v) ms st = chosen_from a b ms (test_of v) st
    switch_from a b (signal m) ms st = from_era (first (rest ms)) st.live st.era (ap is_watch st.kind)

    call_from : (o : Option Low) (qs : AllPlaced) → AllKnown known qs.parts → CallStands Stands o qs → IsKnown known (place_call walk o qs).part
    call_from None qs all st = absurd st
    call_from (Some body) qs all st = ih body qs.parts qs.left all st

    shape_from : (l : Low-F Low) (ms : List ℕ) → ShapeStands g p x n walk Stands env ms l → IsKnown known (place_shape p n walk env ms l).part
    shape_from (Low-F.Lit v) ms st = tt
    shape_from (Low-F.Var v) ms st = known_at known env v.0 kn
    shape_from (Low-F.Source s) ms st = from_source s.0 st
    shape_from (Low-F.Let es body) ms st =
        let qs = place_all walk env es ms in
        ih body (env ++ qs.parts) qs.left (known_append known env qs.parts kn (all_from es ms st.0)) st.1
    shape_from (Low-F.If site test a b) ms st = switch_from a b (walk test env ms).part (walk test env ms).left st.1
    shape_from (Low-F.Apply f es) ms st = call_from (low_body (slice_get p.functions f.0) (length es)) (place_all walk env es ms) (all_from es ms st.0) st.1
    shape_from (Low-F.Operator o es) ms st = let qs = place_all walk env es ms in work_from n (operates o) qs.parts qs.left st.1
    shape_from (Low-F.Handler h es id ss) ms st = let qs = place_all walk env es ms in work_from n (handles h id.0) (qs.parts ++ slot_parts p env ss) qs.left st.2
    shape_from (Low-F.Loop l es id ss) ms st = let qs = place_all walk env es ms in work_from n (loops l id.0) (qs.parts ++ slot_parts p env ss) qs.left st.2
    shape_from (Low-F.Feedback init body) ms st =
        let i = walk init env ms in
        let fed = from_era (first i.left) st.2.live st.2.era (ap is_watch st.2.kind) in
        ih body (env ++ signal (first i.left) ∷ []) (rest i.left) (known_append known env (signal (first i.left) ∷ []) kn (fed, tt)) st.1
    shape_from (Low-F.Collapse id ss) ms st = work_from n (runs id.0) (slot_parts p env ss) ms st.1

  pub part_from : (n : ℕ) → KnownAt n
  unfolding place Wired
  part_from zero e env ms kn st = absurd st
  part_from (suc n) e env ms kn st = shape_from n (part_from n) env kn (out-Low e) ms st
