-- A node that is as it was, and reads the values that it read, obeys its rule as it did.
use Rattle.std.proofs.Common.{◌≡◌, inl, inr, ℕ, List, [], ◌∷◌, Option, refl, ap, sym, ◌∙◌, subst}
use Rattle.fr_value.specs.declared.now.Now.{Now}
use Rattle.fr_meaning.specs.Words.{Seen, test_of}
use Rattle.fr_meaning.specs.Cells.{Cell}
use Rattle.fr_meaning.specs.States.{Line}
use Rattle.fr_kernel.specs.Kernels.{Kernels}
use Rattle.fr_graph.specs.Graph.{Part, steady, signal, Kind, source, works, watch, result, Graph, part_value, part_values, IsClean, work_line}
use Rattle.fr_graph.specs.Known.{Reads, Rule}

module _ (g n : Graph) where
  -- what is read here has the values that it had
  abbrev pub AreSame : List Part → Type 0
  AreSame ps = (j : ℕ) → Reads j ps → n.value j ≡ g.value j

  pub part_same : (q : Part) → AreSame (q ∷ []) → part_value n q ≡ part_value g q
  part_same (steady v) same = refl
  part_same (signal m) same = same m (inl refl)

  pub parts_same : (ps : List Part) → AreSame ps → part_values n ps ≡ part_values g ps
  parts_same [] same = refl
  parts_same (steady v ∷ ps) same = ap (λ (l : List Seen). v ∷ l) (parts_same ps (λ j r. same j r))
  parts_same (signal m ∷ ps) same = ap (λ (v : Seen). v ∷ part_values n ps) (same m (inl refl)) ∙ ap (λ (l : List Seen). g.value m ∷ l) (parts_same ps (λ j r. same j (inr r)))

  module _ (t : Kernels) (sources : List Now) (before : ℕ → Option Cell) (m : ℕ) (value : n.value m ≡ g.value m) (cell : n.cell m ≡ g.cell m) (level : n.level m ≡ g.level m) where
    rule_on : (k : Kind) (ins : List Part) → AreSame ins → Rule g t sources before m k ins → Rule n t sources before m k ins
    rule_on (source s) ins same r = record { now = r.now; there = r.there; value = value ∙ r.value }
    rule_on (works w) ins same r =
        let line : work_line t (n.level m) w (before m) (part_values n ins) ≡ work_line t (g.level m) w (before m) (part_values g ins)
        = ap (λ i. work_line t i w (before m) (part_values n ins)) level ∙ ap (λ vs. work_line t (g.level m) w (before m) vs) (parts_same ins same) in
        record {
          value = value ∙ r.value ∙ sym (ap (λ (l : Line). l.value) line);
          clean = subst IsClean (sym line) r.clean;
          cell = λ prompt. cell ∙ r.cell prompt ∙ sym (ap (λ (l : Line). l.next) line);
        }
    rule_on (watch a b env) [] same r = tt
    rule_on (watch a b env) (test ∷ []) same r = record { holds = r.holds; value = ap test_of value ∙ r.value; test = ap test_of (part_same test same) ∙ r.test }
    rule_on (watch a b env) (test ∷ q ∷ qs) same r = tt
    rule_on result [] same r = tt
    rule_on result (q ∷ []) same r = value ∙ r ∙ sym (part_same q same)
    rule_on result (q ∷ q2 ∷ qs) same r = tt

    -- with the kind and the inputs that it has
    pub rule_goes_on : n.kind m ≡ g.kind m → n.inputs m ≡ g.inputs m → AreSame (g.inputs m) → Rule g t sources before m (g.kind m) (g.inputs m) → Rule n t sources before m (n.kind m) (n.inputs m)
    rule_goes_on kind inputs same r =
        subst (λ k. Rule n t sources before m k (n.inputs m)) (sym kind)
        (subst (λ ins. Rule n t sources before m (g.kind m) ins) (sym inputs) (rule_on (g.kind m) (g.inputs m) same r))
