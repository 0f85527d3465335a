-- The value of what stands for a work.
use Rattle.std.proofs.Common.{◌≡◌, ℕ, Bool, true, false, ◌&&◌, if◌then◌else◌, List, [], ◌∷◌, refl, ap, sym, ◌∙◌, subst, Option, None, Result, Ok, Err}
use Rattle.std.proofs.lemmas.Bool.{false≢true}
use Rattle.fr_value.specs.declared.now.Now.{Now}
use Rattle.fr_value.specs.declared.now.Bad.{Bad}
use Rattle.fr_core.specs.declared.core_form.Operator.{Operator}
use Rattle.fr_core.specs.declared.core_form.Operator.TheVariants as operator
use Rattle.fr_meaning.specs.Words.{Seen, occurs, part}
use Rattle.fr_meaning.specs.Cells.{Cell}
use Rattle.fr_meaning.specs.States.{gives, beside, base_of, plain_or_bad, occurrence, state_next, of_operator, no_call, state_now}
use Rattle.fr_kernel.specs.Kernels.{Kernels}
use Rattle.fr_graph.specs.Graph.{Part, Work, operates, handles, loops, runs, feeds, Kind, works, Graph, part_value, part_values, IsClean, operator_early, work_line, is_plain, is_late}
use Rattle.fr_graph.specs.Walk.{Plan, first, by_value, by_next, all_steady, steady_values, place_work}
use Rattle.fr_graph.specs.Wired.{IsNext, inputs_of, later_of, Either, WorkStands}
use Rattle.fr_graph.specs.Known.{AllKnown, Reads, IsClosed, IsKnown, Have, IsWorked, Rule, SettledOn}
use Rattle.fr_graph.proofs.Parts.{both_true, read_known, have_values, have_steady}

pub beside_value : (v : Seen) (r : Result Cell Bad) → (beside v r).value ≡ v
beside_value v (Err b) = refl
beside_value v (Ok c) = refl

-- an operator's value is there before its cell takes its last part's
pub operator_value : (o : Operator) (c : Option Cell) (xs : List Seen) → (operator_early o c xs).value ≡ (state_now (of_operator o) c xs no_call).value
operator_value operator.Delay c xs = sym (beside_value (plain_or_bad (base_of c (part xs 0))) (state_next (of_operator operator.Delay) xs))
operator_value operator.DelayE c xs = sym (beside_value (occurs (occurrence c)) (state_next (of_operator operator.DelayE) xs))
operator_value (operator.Prim p) c xs = refl
operator_value operator.MergeE c xs = refl
operator_value operator.Hold c xs = refl
operator_value operator.Changes c xs = refl
operator_value operator.OnceE c xs = refl

-- the line of an operator that isn't late is that of the table
pub prompt_line : (o : Operator) (c : Option Cell) (xs : List Seen) → is_late (operates o) ≡ false → operator_early o c xs ≡ state_now (of_operator o) c xs no_call
prompt_line operator.Delay c xs e = absurd (false≢true (sym e))
prompt_line operator.DelayE c xs e = absurd (false≢true (sym e))
prompt_line (operator.Prim p) c xs e = refl
prompt_line operator.MergeE c xs e = refl
prompt_line operator.Hold c xs e = refl
prompt_line operator.Changes c xs e = refl
prompt_line operator.OnceE c xs e = refl

-- a plain work has no cell
pub plain_any : (t : Kernels) (n : ℕ) (w : Work) (c d : Option Cell) (xs : List Seen) → is_plain w ≡ true → work_line t n w c xs ≡ work_line t n w d xs
plain_any t n (operates (operator.Prim p)) c d xs h = refl
plain_any t n (operates operator.MergeE) c d xs h = absurd (false≢true h)
plain_any t n (operates operator.Hold) c d xs h = absurd (false≢true h)
plain_any t n (operates operator.Changes) c d xs h = absurd (false≢true h)
plain_any t n (operates operator.OnceE) c d xs h = absurd (false≢true h)
plain_any t n (operates operator.Delay) c d xs h = absurd (false≢true h)
plain_any t n (operates operator.DelayE) c d xs h = absurd (false≢true h)
plain_any t n (handles g id) c d xs h = absurd (false≢true h)
plain_any t n (loops l id) c d xs h = refl
plain_any t n (runs id) c d xs h = refl
plain_any t n feeds c d xs h = absurd (false≢true h)

-- a work that isn't plain has a node
pub stands_next : (g : Graph) (p : Plan) (x n : ℕ) (w : Work) (ps : List Part) (ms : List ℕ) → is_plain w ≡ false → WorkStands g p x n w ps ms → IsNext g x n (works w) (inputs_of w ps) (later_of w ps) ms
stands_next g p x n w ps ms plain st = subst (λ b. Either (b && all_steady ps) (IsClean (work_line p.table n w None (steady_values ps))) (IsNext g x n (works w) (inputs_of w ps) (later_of w ps) ms)) plain st

module _ (g : Graph) (known : ℕ → Type 0) where
  -- a work's line by the values of its inputs is that by the values of all its parts
  pub input_line : (t : Kernels) (n : ℕ) (w : Work) (c : Option Cell) (ps : List Part) (vs : List Seen) → Have g known ps vs → AllKnown known (inputs_of w ps)
      → work_line t n w c (part_values g (inputs_of w ps)) ≡ work_line t n w c vs
  input_line t n (operates operator.Delay) c [] [] h kn = refl
  input_line t n (operates operator.Delay) c [] (v ∷ vs) h kn = absurd h
  input_line t n (operates operator.Delay) c (p ∷ ps) [] h kn = absurd h
  input_line t n (operates operator.Delay) c (p ∷ ps) (v ∷ vs) h kn =
      ap (λ x. gives (plain_or_bad (base_of c x)) None) (h.0 kn.0)
  input_line t n (operates operator.DelayE) c ps vs h kn = refl
  input_line t n (operates (operator.Prim p)) c ps vs h kn = ap (λ xs. work_line t n (operates (operator.Prim p)) c xs) (have_values g known ps vs h kn)
  input_line t n (operates operator.MergeE) c ps vs h kn = ap (λ xs. work_line t n (operates operator.MergeE) c xs) (have_values g known ps vs h kn)
  input_line t n (operates operator.Hold) c ps vs h kn = ap (λ xs. work_line t n (operates operator.Hold) c xs) (have_values g known ps vs h kn)
  input_line t n (operates operator.Changes) c ps vs h kn = ap (λ xs. work_line t n (operates operator.Changes) c xs) (have_values g known ps vs h kn)
  input_line t n (operates operator.OnceE) c ps vs h kn = ap (λ xs. work_line t n (operates operator.OnceE) c xs) (have_values g known ps vs h kn)
  input_line t n (handles f id) c ps vs h kn = ap (λ xs. work_line t n (handles f id) c xs) (have_values g known ps vs h kn)
  input_line t n (loops l id) c ps vs h kn = ap (λ xs. work_line t n (loops l id) c xs) (have_values g known ps vs h kn)
  input_line t n (runs id) c ps vs h kn = ap (λ xs. work_line t n (runs id) c xs) (have_values g known ps vs h kn)
  input_line t n feeds c ps vs h kn = ap (λ xs. work_line t n feeds c xs) (have_values g known ps vs h kn)

module _ (g : Graph) (known : ℕ → Type 0) (t : Kernels) (sources : List Now) (before : ℕ → Option Cell) (closed : IsClosed g known) (settled : SettledOn g known t sources before) where
  -- the rule of a known node that is the next member
  pub rule_on : (x n : ℕ) (k : Kind) (ins : List Part) (later : Option Part) (ms : List ℕ) → known (first ms) → IsNext g x n k ins later ms → Rule g t sources before (first ms) k ins
  rule_on x n k ins later ms kn st =
      subst (λ (j : Kind). Rule g t sources before (first ms) j ins) st.kind
      (subst (λ (l : List Part). Rule g t sources before (first ms) (g.kind (first ms)) l) st.inputs (settled (first ms) kn st.live))

  -- its inputs are known
  pub inputs_on : (x n : ℕ) (k : Kind) (ins : List Part) (later : Option Part) (ms : List ℕ) → known (first ms) → IsNext g x n k ins later ms → AllKnown known ins
  inputs_on x n k ins later ms kn st = read_known known ins (λ j r. closed.input (first ms) j kn st.live (subst (λ (l : List Part). Reads j l) (sym st.inputs) r))

  -- the line of a known node, by the values of all its parts
  pub node_line : (x n : ℕ) (w : Work) (ps : List Part) (vs : List Seen) (ms : List ℕ) (c : Option Cell)
      → known (first ms) → IsNext g x n (works w) (inputs_of w ps) (later_of w ps) ms → Have g known ps vs → before (first ms) ≡ c
      → work_line t (g.level (first ms)) w (before (first ms)) (part_values g (inputs_of w ps)) ≡ work_line t n w c vs
  node_line x n w ps vs ms c kn st h e =
      ap (λ m. work_line t m w (before (first ms)) (part_values g (inputs_of w ps))) st.level
      ∙ ap (λ d. work_line t n w d (part_values g (inputs_of w ps))) e
      ∙ input_line g known t n w c ps vs h (inputs_on x n (works w) (inputs_of w ps) (later_of w ps) ms kn st)

  pub node_rule : (x n : ℕ) (w : Work) (ps : List Part) (ms : List ℕ) → known (first ms) → IsNext g x n (works w) (inputs_of w ps) (later_of w ps) ms → IsWorked g t (before (first ms)) (first ms) w (inputs_of w ps)
  node_rule x n w ps ms kn st = rule_on x n (works w) (inputs_of w ps) (later_of w ps) ms kn st

  node_value : (x n : ℕ) (w : Work) (ps : List Part) (vs : List Seen) (ms : List ℕ) (c : Option Cell)
      → known (first ms) → IsNext g x n (works w) (inputs_of w ps) (later_of w ps) ms → Have g known ps vs → before (first ms) ≡ c
      → g.value (first ms) ≡ (work_line t n w c vs).value
  node_value x n w ps vs ms c kn st h e = (node_rule x n w ps ms kn st).value ∙ ap (λ l. l.value) (node_line x n w ps vs ms c kn st h e)

  -- the line of a work is clean, by the values of all its parts, where its node is known if it has one
  pub work_clean : (p : Plan) (x n : ℕ) (w : Work) (ps : List Part) (vs : List Seen) (ms : List ℕ) (c : Option Cell) → p.table ≡ t
      → WorkStands g p x n w ps ms → Have g known ps vs → (is_plain w ≡ false → known (first ms) → before (first ms) ≡ c) → known (first ms) → IsClean (work_line t n w c vs)
  work_clean p x n w ps vs ms c same st h cell kn = by_steady (is_plain w && all_steady ps) refl st
    where
      by_plain : (b : Bool) → is_plain w ≡ b → IsNext g x n (works w) (inputs_of w ps) (later_of w ps) ms → IsClean (work_line t n w c vs)
      by_plain true e st = subst IsClean (node_line x n w ps vs ms (before (first ms)) kn st h refl ∙ plain_any t n w (before (first ms)) c vs e) (node_rule x n w ps ms kn st).clean
      by_plain false e st = subst IsClean (node_line x n w ps vs ms c kn st h (cell e kn)) (node_rule x n w ps ms kn st).clean

      by_steady : (b : Bool) → is_plain w && all_steady ps ≡ b → Either b (IsClean (work_line p.table n w None (steady_values ps))) (IsNext g x n (works w) (inputs_of w ps) (later_of w ps) ms) → IsClean (work_line t n w c vs)
      by_steady true e st =
          let both = both_true (is_plain w) (all_steady ps) e in
          subst IsClean (ap (λ s. work_line s n w None (steady_values ps)) same ∙ ap (λ xs. work_line t n w None xs) (have_steady g known ps vs both.1 h) ∙ plain_any t n w None c vs both.0) st
      by_steady false e st = by_plain (is_plain w) refl st

  pub work_value : (p : Plan) (x n : ℕ) (w : Work) (ps : List Part) (vs : List Seen) (ms : List ℕ) (c : Option Cell) → p.table ≡ t
      → WorkStands g p x n w ps ms → Have g known ps vs → (is_plain w ≡ false → known (first ms) → before (first ms) ≡ c)
      → IsKnown known (place_work p n w ps ms).part → part_value g (place_work p n w ps ms).part ≡ (work_line t n w c vs).value
  work_value p x n w ps vs ms c same st h cell kn = by_steady (is_plain w && all_steady ps) refl st kn
    where
      by_plain : (b : Bool) → is_plain w ≡ b → known (first ms) → IsNext g x n (works w) (inputs_of w ps) (later_of w ps) ms → g.value (first ms) ≡ (work_line t n w c vs).value
      by_plain true e kn st = node_value x n w ps vs ms (before (first ms)) kn st h refl ∙ ap (λ l. l.value) (plain_any t n w (before (first ms)) c vs e)
      by_plain false e kn st = node_value x n w ps vs ms c kn st h (cell e kn)

      by_steady : (b : Bool) → is_plain w && all_steady ps ≡ b
          → Either b (IsClean (work_line p.table n w None (steady_values ps))) (IsNext g x n (works w) (inputs_of w ps) (later_of w ps) ms)
          → IsKnown known (if b then by_value (work_line p.table n w None (steady_values ps)).value ms else by_next ms).part
          → part_value g (if b then by_value (work_line p.table n w None (steady_values ps)).value ms else by_next ms).part ≡ (work_line t n w c vs).value
      by_steady true e st kn =
          let both = both_true (is_plain w) (all_steady ps) e in
          ap (λ s. (work_line s n w None (steady_values ps)).value) same
          ∙ ap (λ xs. (work_line t n w None xs).value) (have_steady g known ps vs both.1 h)
          ∙ ap (λ l. l.value) (plain_any t n w None c vs both.0)
      by_steady false e st kn = by_plain (is_plain w) refl kn st
