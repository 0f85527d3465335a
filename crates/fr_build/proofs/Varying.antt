-- Which of some parts vary, and which of them the cell of a delay takes.
use Rattle.std.proofs.Common.{◌≡◌, ℕ, zero, suc, ◌<◌, ◌==◌, true, false, List, [], ◌∷◌, ◌++◌, length, take, get_or, slice_get, IsSome, IfSome, Option, Some, None, refl, ap, sym, subst, ◌∙◌, arith}
use Rattle.std.proofs.lemmas.Bool.{false≢true}
use Rattle.std.specs.Option.{option_map, option_copied}
use denote.Ref.{Bor}
use Rattle.std.proofs.lemmas.Option.{slice_get-get_or}
use Rattle.std.proofs.lemmas.Bool.Decides.{nat_tests}
use Rattle.fr_value.specs.declared.ids.NodeId.{NodeId}
use Rattle.fr_value.specs.declared.now.Held.{Held}
use Rattle.fr_value.specs.declared.now.Held.TheVariants.{Steady, Signal}
use Rattle.fr_value.specs.declared.primitive.Primitive.{Primitive}
use Rattle.fr_value.specs.declared.value.Value.{Value}
use Rattle.fr_core.specs.Shapes.{operator_takes}
use Rattle.fr_core.specs.declared.core_form.Operator.{Operator}
use Rattle.fr_core.specs.declared.core_form.Operator.TheVariants as operator
use Rattle.fr_meaning.specs.Words.{Seen, plain}
use Rattle.fr_graph.specs.Graph.{Part, operates, is_plain}
use Rattle.fr_graph.specs.Wired.{inputs_of, later_of}
use Rattle.fr_graph.specs.Walk.{all_steady, steady_value, steady_values}
use Rattle.fr_nodes.specs.Kinds.{part_of, parts_of}
use Rattle.fr_build.specs.Works.{behind_by}

pub steady_then : (hs : List Held) (v : Value) → all_steady (parts_of hs) ≡ true → all_steady (parts_of (hs ++ Steady v ∷ [])) ≡ true
steady_then [] v h = refl
steady_then (Steady u ∷ hs) v h = steady_then hs v h
steady_then (Signal id ∷ hs) v h = absurd (false≢true h)

pub values_then : (hs : List Held) (v : Value) → steady_values (parts_of (hs ++ Steady v ∷ [])) ≡ steady_values (parts_of hs) ++ plain v ∷ []
values_then [] v = refl
values_then (h ∷ hs) v = ap (λ (vs : List Seen). steady_value (part_of h) ∷ vs) (values_then hs v)

pub varies_at : (hs : List Held) (i : ℕ) (d : Held) (id : NodeId) → i < length hs → get_or hs i d ≡ Signal id → all_steady (parts_of hs) ≡ false
varies_at [] i d id lt e = absurd (omega arith)
varies_at (Signal j ∷ hs) i d id lt e = refl
varies_at (Steady v ∷ hs) zero d id lt e = cc
varies_at (Steady v ∷ hs) (suc i) d id lt e = varies_at hs i d id (omega arith) e

-- the parts of a delay: the first is an input, and its cell takes the second

pub delay_scope : (hs : List Held) (o : Option Held) → length hs ≡ 2 → o ≡ slice_get hs 1 → parts_of (take 1 hs) ++ behind_by o ≡ parts_of hs
delay_scope [] o h e = absurd (omega arith)
delay_scope (a ∷ []) o h e = absurd (omega arith)
delay_scope (a ∷ b ∷ []) o h e = ap (λ (q : Option Held). part_of a ∷ behind_by q) e
delay_scope (a ∷ b ∷ d ∷ hs) o h e = absurd (omega arith)

pub delay_inputs : (hs : List Held) → parts_of (take 1 hs) ≡ take 1 (parts_of hs)
delay_inputs [] = refl
delay_inputs (a ∷ hs) = refl

pub delay_scope_e : (hs : List Held) (o : Option Held) → length hs ≡ 1 → o ≡ slice_get hs 0 → behind_by o ≡ parts_of hs
delay_scope_e [] o h e = absurd (omega arith)
delay_scope_e (a ∷ []) o h e = ap behind_by e
delay_scope_e (a ∷ b ∷ hs) o h e = absurd (omega arith)

pub part_at : (hs : List Held) (i : ℕ) → option_map part_of (slice_get hs i) ≡ slice_get (parts_of hs) i
part_at [] i = refl
part_at (h ∷ hs) zero = refl
part_at (h ∷ hs) (suc i) = part_at hs i

pub got : (hs : List Held) (i : ℕ) (o : Option (Bor Held)) → i < length hs → (i < length hs → IsSome o) → IfSome o (λ b. b.now ≡ get_or hs i b.now) → option_copied o ≡ slice_get hs i
got hs i None lt there h = absurd (false≢true (there lt))
got hs i (Some b) lt there h = ap (λ (x : Held). Some x) h ∙ sym (slice_get-get_or hs i b.now lt)

same_number : (n k : ℕ) → n == k ≡ true → n ≡ k
same_number n k e = grind (arith, nat_tests)

pub delay_two : (o : Operator) (n : ℕ) → o ≡ operator.Delay → operator_takes o n ≡ true → n ≡ 2
delay_two o n is takes = same_number n 2 (subst (λ (q : Operator). operator_takes q n ≡ true) is takes)

pub delay_one : (o : Operator) (n : ℕ) → o ≡ operator.DelayE → operator_takes o n ≡ true → n ≡ 1
delay_one o n is takes = same_number n 1 (subst (λ (q : Operator). operator_takes q n ≡ true) is takes)

-- what is no primitive and no delay has all its parts as inputs, and isn't plain

module _ (o : Operator) (ps : List Part) (prim : (p : Primitive) → o ≡ operator.Prim p → ⊥) (delay : o ≡ operator.Delay → ⊥) (delay_e : o ≡ operator.DelayE → ⊥) where
  pub other_varies : is_plain (operates o) ≡ false
  other_varies = by_kind o prim
    where
      by_kind : (q : Operator) → ((p : Primitive) → q ≡ operator.Prim p → ⊥) → is_plain (operates q) ≡ false
      by_kind (operator.Prim p) none = absurd (none p refl)
      by_kind operator.MergeE none = refl
      by_kind operator.Hold none = refl
      by_kind operator.Changes none = refl
      by_kind operator.OnceE none = refl
      by_kind operator.Delay none = refl
      by_kind operator.DelayE none = refl

  pub other_inputs : (ps ≡ inputs_of (operates o) ps) × (None ≡ later_of (operates o) ps)
  other_inputs = by_kind o delay delay_e
    where
      by_kind : (q : Operator) → (q ≡ operator.Delay → ⊥) → (q ≡ operator.DelayE → ⊥) → (ps ≡ inputs_of (operates q) ps) × (None ≡ later_of (operates q) ps)
      by_kind (operator.Prim p) a b = (refl, refl)
      by_kind operator.MergeE a b = (refl, refl)
      by_kind operator.Hold a b = (refl, refl)
      by_kind operator.Changes a b = (refl, refl)
      by_kind operator.OnceE a b = (refl, refl)
      by_kind operator.Delay a b = absurd (a refl)
      by_kind operator.DelayE a b = absurd (b refl)
