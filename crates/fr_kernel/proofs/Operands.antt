-- Primitives over parts that are integers, or are held one by one.
use Rattle.std.proofs.Common.{◌≡◌, ◌+◌, ℕ, ℤ, true, [], ◌∷◌, ◌++◌, length, take, drop, refl, sym, ap, subst, ◌∙◌, append_assoc, arith, Option, Some, None}
use Rattle.std.proofs.Math.Seq.{drop-append_seam, take-append_seam}
use Rattle.std.specs.Option.{option_or}
use Rattle.fr_value.specs.declared.now.Bad.{Bad}
use Rattle.fr_value.specs.declared.value.Value.TheVariants as value
use Rattle.fr_value.specs.declared.primitive.Primitive.{Primitive}
use Rattle.fr_prims.specs.Table.{prim_on}
use Rattle.fr_meaning.specs.Words.{Seen, First, Done, own, under, plain}
use Rattle.fr_meaning.specs.Primitives.{applied, answer_seen}
use Rattle.fr_meaning.specs.States.{Line, gives}
use Rattle.fr_meaning.specs.Evaluation.{Parts, join_part, no_parts, leaf, line_done}
use Rattle.fr_kernel.specs.declared.machine.Kind.{Kind}
use Rattle.fr_kernel.specs.declared.machine.Kind.TheVariants as kind
use Rattle.fr_kernel.specs.declared.machine.Machine.{Machine}
use Rattle.fr_kernel.specs.declared.fuel.KernStop.{KernStop}
use Rattle.fr_kernel.specs.Answers.{kind_of, StopsBy, Answers, Tells, Holds, AppliesHeld, TakesOr, IntOr, LeafOr, PushesOr}
use Rattle.fr_kernel.proofs.Runs.{stop_within, stop_or, kind_or, kind_under, leads, takes, takes_none}

-- integers that are read in place

pub leaf_or : (r : Option ℤ) (v : Seen) (d : Done) → d ≡ leaf v → IntOr r v → LeafOr r d
leaf_or None v d h i = tt
leaf_or (Some n) v d h i = h ∙ ap leaf i

pub applied_ints : (p : Primitive) (x y : ℤ) → applied p (plain (value.Int x) ∷ plain (value.Int y) ∷ []) ≡ answer_seen (prim_on p (value.Int x ∷ value.Int y ∷ []))
unfolding applied
applied_ints p x y = refl

-- two parts
abbrev pub two_parts : Done → Done → Parts
two_parts a b = join_part 0 a (join_part 1 b no_parts)

two_first : (a b : Done) → a.first ≡ None → b.first ≡ None → (two_parts a b).first ≡ None
two_first a b h g = rw (h, g) refl

or_none : (x : First) → option_or x None ≡ x
or_none None = refl
or_none (Some f) = refl

-- an integer, and behind it the second part with the primitive
pub int_then : (kd : Kind) (m0 m1 m2 : Machine) (p : Primitive) (a b : Done) → Tells kind.Int m0 m1 a
    → (let v = applied p (plain (value.Int m1.int) ∷ b.value ∷ []) in Answers kd m1 m2 v b.cost (option_or b.first (own v)))
    → Tells kd m0 m2 (line_done (two_parts a b) (gives (applied p (a.value ∷ b.value ∷ [])) None))
int_then kd m0 m1 m2 p a b h g =
    let v = applied p (a.value ∷ b.value ∷ []) in
    let g' : Answers kd m1 m2 v b.cost (option_or b.first (own v)) = subst (λ x. Answers kd m1 m2 (applied p (x ∷ b.value ∷ [])) b.cost (option_or b.first (own (applied p (x ∷ b.value ∷ []))))) (sym h.value) g in
    leads kd m0 m1 m2 m2.slots v b.cost (a.cost + (b.cost + 0) + 0) (option_or b.first (own v)) (line_done (two_parts a b) (gives v None)).first (record {
      paid = omega (arith, h.paid);
      clean = λ clean good. rw (h.clean) (two_clean b.first v clean good);
      kinds = λ k e. rw h.clean (two_kinds k b.first (own v) e);
      slots = λ same. same ∙ h.slots;
      held = h.held;
    }) g'
  where
    two_clean : (x : First) (v : Seen) → option_or x (own v) ≡ None → own v ≡ None → option_or (option_or (under 1 x) None) (option_or None (option_or (own v) None)) ≡ None
    two_clean None v h good = rw good refl
    two_clean (Some f) v h good = absurd cc

    two_kinds : (k : Bad) (x y : First) → kind_of (option_or x y) ≡ Some k → kind_of (option_or (option_or (under 1 x) None) (option_or None (option_or y None))) ≡ Some k
    two_kinds k None y e = rw (or_none y) e
    two_kinds k (Some f) y e = e

-- the primitive behind two integers
pub ints_then : (kd : Kind) (m1 m2 m3 : Machine) (p : Primitive) (x : ℤ) (b : Done) → Tells kind.Int m1 m2 b
    → (let v = applied p (plain (value.Int x) ∷ plain (value.Int m2.int) ∷ []) in Answers kd m2 m3 v 0 (own v))
    → (let v = applied p (plain (value.Int x) ∷ b.value ∷ []) in Answers kd m1 m3 v b.cost (option_or b.first (own v)))
ints_then kd m1 m2 m3 p x b h g =
    let v = applied p (plain (value.Int x) ∷ b.value ∷ []) in
    let g' : Answers kd m2 m3 v 0 (own v) = subst (λ y. Answers kd m2 m3 (applied p (plain (value.Int x) ∷ y ∷ [])) 0 (own (applied p (plain (value.Int x) ∷ y ∷ [])))) (sym h.value) g in
    leads kd m1 m2 m3 m3.slots v 0 b.cost (own v) (option_or b.first (own v)) (record {
      paid = omega (arith, h.paid);
      clean = λ clean good. rw h.clean good;
      kinds = λ k e. rw h.clean e;
      slots = λ same. same ∙ h.slots;
      held = h.held;
    }) g'

-- the primitive behind an integer and any value that are held
pub pair_then : (kd kd2 : Kind) (m1 m2 m3 m4 m5 : Machine) (p : Primitive) (x : ℤ) (a : Seen) (b : Done) → Tells kd m1 m2 b → TakesOr (Some a) kd m2 m3
    → PushesOr true m3 m4 (plain (value.Int x) ∷ a ∷ [])
    → AppliesHeld kd2 (length m3.held) m4 m5 (applied p (drop (length m3.held) m4.held))
    → (let v = applied p (plain (value.Int x) ∷ b.value ∷ []) in Answers kd2 m1 m5 v b.cost (option_or b.first (own v)))
pair_then kd kd2 m1 m2 m3 m4 m5 p x a b h t e g =
    let q = takes a kd m1 m2 m3 b.value b.cost b.first t h in
    let v = applied p (plain (value.Int x) ∷ b.value ∷ []) in
    let vs = plain (value.Int x) ∷ a ∷ [] in
    let held : m4.held ≡ m3.held ++ vs = ap (λ m. m.held) e in
    let values : drop (length m3.held) m4.held ≡ plain (value.Int x) ∷ b.value ∷ [] = rw (held, q.value) (drop-append_seam m3.held vs) in
    let before = record m4 { held = take (length m3.held) m4.held } in
    let g' : Answers kd2 before m5 v 0 (own v) = subst (λ vs. Answers kd2 before m5 (applied p vs) 0 (own (applied p vs))) values g in
    leads kd2 m1 before m5 m5.slots v 0 b.cost (own v) (option_or b.first (own v)) (record {
      paid = rw (ap (λ m. m.fuel) e) (omega (arith, q.paid));
      clean = λ clean good. rw q.clean good;
      kinds = λ k e. rw q.clean e;
      slots = λ same. same ∙ ap (λ m. m.slots) e ∙ q.slots;
      held = rw held (take-append_seam m3.held vs ∙ q.held);
    }) g'

-- values of two parts that are held
pub holds_two : (m0 m1 m2 : Machine) (a b : Done) → Holds m0 m1 (a.value ∷ []) a.cost a.first → Holds m1 m2 (b.value ∷ []) b.cost b.first
    → (let ps = two_parts a b in Holds m0 m2 ps.values ps.cost ps.first)
holds_two m0 m1 m2 a b h g = record {
  clean = two_first a b h.clean g.clean;
  paid = omega (arith, h.paid, g.paid);
  slots = g.slots ∙ h.slots;
  held = g.held ∙ rw h.held (append_assoc m0.held (a.value ∷ []) (b.value ∷ []));
}

-- a stop in the first of two parts, and in the second
pub first_stop : (s : KernStop) (left : ℕ) (a b : Done) (l : Line) → StopsBy s left a.cost a.first → (let d = line_done (two_parts a b) l in StopsBy s left d.cost d.first)
first_stop s left a b l h = stop_within s left left a.cost (a.cost + (b.cost + 0) + l.cost) a.first _ h (λ less. omega (arith, less)) (λ k e. kind_or k _ _ (kind_or k (under 0 a.first) _ (kind_under 0 a.first ∙ e)))

pub second_stop : (s : KernStop) (m0 m1 : Machine) (a b : Done) (l : Line) → Holds m0 m1 (a.value ∷ []) a.cost a.first → StopsBy s m1.fuel b.cost b.first → (let d = line_done (two_parts a b) l in StopsBy s m0.fuel d.cost d.first)
second_stop s m0 m1 a b l h g = stop_within s m1.fuel m0.fuel b.cost (a.cost + (b.cost + 0) + l.cost) b.first _ g (λ less. omega (arith, h.paid, less))
    (λ k e. rw h.clean (kind_or k (option_or (under 1 b.first) None) _ (kind_or k (under 1 b.first) None (kind_under 1 b.first ∙ e))))

pub second_none : (kd : Kind) (m1 m2 m3 : Machine) (b : Done) (y : First) → TakesOr None kd m2 m3 → Tells kd m1 m2 b → StopsBy m3.stop m1.fuel b.cost (option_or b.first y)
second_none kd m1 m2 m3 b y t h = stop_or m3.stop m1.fuel b.cost b.cost b.first y (takes_none kd m1 m2 m3 b.value b.cost b.first t h) (omega arith)
