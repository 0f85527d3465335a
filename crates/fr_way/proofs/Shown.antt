-- The worked graph beside evaluating afresh: its program is lowered, and at both instants it shows what evaluating the body afresh shows.
use Rattle.std.proofs.Common.{◌≡◌, ℕ, zero, suc, ◌+◌, pos, true, false, List, [], ◌∷◌, map, slice_get, refl, ap, sym, subst, Option, Some}
use Rattle.fr_value.specs.declared.value.Value.TheVariants as value
use Rattle.fr_value.specs.declared.primitive.Primitive.TheVariants as prim
use Rattle.fr_core.specs.declared.core_form.Operator.TheVariants as operator
use Rattle.fr_core.specs.declared.kept.Kept.{Kept}
use Rattle.fr_core.specs.declared.kept.Kept.TheVariants as kept
use Rattle.fr_core.specs.declared.lowered.Low.{Low}
use Rattle.fr_core.specs.declared.lowered.Low.TheOpen.{Low-F}
use Rattle.fr_core.specs.declared.lowered.Low.TheVariants.{outs-Lit, outs-Source, outs-If, outs-Operator}
use Rattle.fr_core.specs.declared.program.Program.{Program}
use Rattle.fr_kernel.specs.Erasure.{inner_low, erased_item}
use Rattle.fr_meaning.specs.Words.{Seen, plain}
use Rattle.fr_meaning.specs.Afresh.{body}
use Rattle.fr_graph.specs.Graph.{Part, signal, Graph}
use Rattle.fr_graph.specs.Keeps.{everything}
use Rattle.fr_graph.specs.Known.{Reads, Have}
use Rattle.fr_graph.specs.Sound.{Sound}
use Rattle.fr_graph.specs.Items.{AreLowered, Shown, place_items, body_walk, IsAfresh}
use Rattle.fr_graph.proofs.Items.{first_afresh, instant_afresh}
use Rattle.fr_way.specs.Way.{cell_in}
use Rattle.fr_way.proofs.Lives.{shown_lives}
use Rattle.fr_way.proofs.Concrete.{sound_by, some_part}
use Rattle.fr_way.proofs.Examples.{input, negated, seven, switch, items, plan, members_shown, truth, sources_of, switch_placed, none_yet, shown_on, whole_on, went_on, buried, whole_again, went_again}

-- THE PROGRAM IS LOWERED

abbrev pub program : Program
program = record { inputs = []; events = []; functions = []; body = map (erased_item []) items }

input_sound : Sound plan.table 0 input
input_sound = sound_by plan.table 0 input (Low-F.Source (record { 0 = 0 })) (outs-Source (record { 0 = 0 })) tt tt (λ i x h. absurd cc)

seven_sound : Sound plan.table 0 seven
seven_sound = sound_by plan.table 0 seven (Low-F.Lit (value.Int (pos 7))) (outs-Lit (value.Int (pos 7))) tt tt (λ i x h. absurd cc)

sound_part : (e : Low) (x : ℕ × Low) → Sound plan.table 0 e → Path (Option (ℕ × Low)) (Some (0, e)) (Some x) → Sound plan.table (0 + x.0) x.1
sound_part e x s h = subst (λ (y : ℕ × Low). Sound plan.table (0 + y.0) y.1) (some_part (0, e) x h) s

negated_sound : Sound plan.table 0 negated
negated_sound = sound_by plan.table 0 negated (Low-F.Operator (operator.Prim prim.Not) (input ∷ [])) (outs-Operator (operator.Prim prim.Not) (input ∷ [])) refl tt parts
  where
    parts : (i : ℕ) (x : ℕ × Low) → slice_get (inner_low (Low-F.Operator (operator.Prim prim.Not) (input ∷ []))) i ≡ Some x → Sound plan.table (0 + x.0) x.1
    parts zero x h = sound_part input x input_sound h
    parts (suc i) x h = absurd cc

switch_sound : Sound plan.table 0 switch
switch_sound = sound_by plan.table 0 switch (Low-F.If (record { 0 = 0 }) input negated seven) (outs-If (record { 0 = 0 }) input negated seven) tt tt parts
  where
    parts : (i : ℕ) (x : ℕ × Low) → slice_get (inner_low (Low-F.If (record { 0 = 0 }) input negated seven)) i ≡ Some x → Sound plan.table (0 + x.0) x.1
    parts zero x h = sound_part input x input_sound h
    parts (suc zero) x h = sound_part negated x negated_sound h
    parts (suc (suc zero)) x h = sound_part seven x seven_sound h
    parts (suc (suc (suc i))) x h = absurd cc

pub lowered : AreLowered program plan items
lowered = record {
  plan = record {
    functions = refl;
    table = refl;
    pure = λ i k h. absurd cc;
    slots = λ i k h. absurd cc;
    bodies = λ i f h. absurd cc;
  };
  items = refl;
  sound = (switch_sound, tt);
}

-- THE FIRST INSTANT, over nothing kept

abbrev pub kept_on : Kept
kept_on = kept.Group (body program (sources_of true) kept.Nothing).kepts

pub afresh_on : IsAfresh shown_on.graph program plan items members_shown (sources_of true) kept.Nothing
afresh_on = first_afresh none_yet shown_on.graph program plan items members_shown (sources_of true) (cell_in none_yet) lowered (λ m. refl) went_on whole_on.nodes whole_on.settled

-- THE FURTHER INSTANT, over what that keeps; the graph is the one in which a node was buried

afresh_again : IsAfresh buried.graph program plan items members_shown (sources_of false) kept_on
afresh_again = instant_afresh shown_on.graph buried.graph program plan items members_shown (sources_of false) (cell_in shown_on.graph) kept_on lowered went_again whole_on.nodes whole_again.nodes whole_again.settled afresh_on.stands

-- what is shown is the value of node 2
shown_of : (g : Graph) (vs : List Seen) → Have g everything (signal 2 ∷ []) vs → vs ≡ g.value 2 ∷ []
shown_of g [] h = absurd h
shown_of g (v ∷ []) h = ap (λ (u : Seen). u ∷ []) (sym (h.0 tt))
shown_of g (v ∷ u ∷ vs) h = absurd h.1

shown_parts : (place_items (body_walk plan) [] items members_shown).parts ≡ signal 2 ∷ []
shown_parts = ap (λ (s : Shown). s.parts) (switch_placed 1997)

-- so evaluating afresh shows `#f`, and then 7
shows_false : (body program (sources_of true) kept.Nothing).shown ≡ truth false ∷ []
shows_false = shown_of shown_on.graph (body program (sources_of true) kept.Nothing).shown (subst (λ (ps : List Part). Have shown_on.graph everything ps (body program (sources_of true) kept.Nothing).shown) shown_parts afresh_on.shows)

shows_seven : (body program (sources_of false) kept_on).shown ≡ plain (value.Int (pos 7)) ∷ []
shows_seven = shown_of buried.graph (body program (sources_of false) kept_on).shown (subst (λ (ps : List Part). Have buried.graph everything ps (body program (sources_of false) kept_on).shown) shown_parts afresh_again.shows)

-- what is shown lives
result_lives : (j : ℕ) → Reads j (place_items (body_walk plan) [] items members_shown).parts → buried.graph.live j ≡ true
result_lives = shown_lives buried.graph plan 0 2000 items [] members_shown (λ j rd. absurd rd) whole_again.nodes.items
