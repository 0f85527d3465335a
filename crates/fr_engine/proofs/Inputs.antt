-- Inputs that are read one by one.
use Rattle.std.proofs.Common.{◌≡◌, inl, inr, ℕ, zero, suc, ◌+◌, add-one, List, [], ◌∷◌, ◌++◌, length, slice_get, take, sym, ap, ◌∙◌, subst, arith, Option, Some, None, Ok}
use Rattle.std.specs.Option.{option_map}
use Rattle.fr_value.specs.declared.now.Now.{Now}
use Rattle.fr_value.specs.declared.now.Held.{Held}
use Rattle.fr_value.specs.declared.now.Held.TheVariants.{Steady, Signal}
use Rattle.fr_store.specs.declared.inputs.Input.{Input}
use Rattle.fr_store.specs.Rows.{held_of}
use Rattle.fr_store.specs.declared.node.Node.{Node}
use Rattle.fr_meaning.specs.Words.{Seen}
use Rattle.fr_graph.specs.Graph.{Part, Graph, part_value, part_values}
use Rattle.fr_graph.specs.Known.{Reads}
use Rattle.fr_way.specs.Way.{Way}
use Rattle.fr_nodes.specs.Kinds.{Sites, part_of, parts_of}
use Rattle.fr_nodes.specs.Signals.{IsSound, IsNodeOf}
use Rattle.fr_nodes.specs.Makes.{AreThere}
use Rattle.fr_engine.specs.Rules.{only_of}

none_is_some : {A : Type 0} (h : Held) → Path (Option Held) None (Some h) → A
none_is_some h e = absurd cc

same_held : (x h : Held) → Path (Option Held) (Some x) (Some h) → x ≡ h
same_held x h e = cc

head_read : (x : Held) (xs : List Held) (j : ℕ) → Reads j (part_of x ∷ []) → Reads j (part_of x ∷ parts_of xs)
head_read (Steady v) xs j r = absurd r
head_read (Signal id) xs j r = elim r [ inl e ↦ inl e | inr n ↦ absurd n ]

tail_read : (x : Held) (xs : List Held) (j : ℕ) → Reads j (parts_of xs) → Reads j (part_of x ∷ parts_of xs)
tail_read (Steady v) xs j r = r
tail_read (Signal id) xs j r = inr r

-- what an input reads, all inputs read
pub read_at : (xs : List Held) (i : ℕ) (h : Held) (j : ℕ) → slice_get xs i ≡ Some h → Reads j (part_of h ∷ []) → Reads j (parts_of xs)
read_at [] i h j e r = none_is_some h e
read_at (x ∷ xs) zero h j e r = head_read x xs j (subst (λ (v : Held). Reads j (part_of v ∷ [])) (sym (same_held x h e)) r)
read_at (x ∷ xs) (suc i) h j e r = tail_read x xs j (read_at xs i h j e r)

pub there_at : (at : Way) (xs : List Held) (i : ℕ) (input : Input) → Path (Option Held) (Some (held_of input)) (slice_get xs i) → AreThere at (parts_of xs) → AreThere at (part_of (held_of input) ∷ [])
there_at at xs i input e there = λ j r. there j (read_at xs i (held_of input) j (sym e) r)

-- the only input is the first
pub only_first : (xs : List Held) (o : Option Input) → length xs ≡ 1 → option_map held_of o ≡ slice_get xs 0 → option_map (λ (input : Input). part_of (held_of input)) o ≡ only_of (parts_of xs)
only_first [] o n e = absurd (omega arith)
only_first (x ∷ []) None n e = none_is_some x e
only_first (x ∷ []) (Some input) n e = ap (λ (h : Held). Some (part_of h)) (same_held (held_of input) x e)
only_first (x ∷ y ∷ xs) o n e = absurd (omega arith)

-- the only one of some parts reads what they read
pub there_only : (at : Way) (xs : List Held) (input : Input) → Path (Option Part) (Some (part_of (held_of input))) (only_of (parts_of xs)) → AreThere at (parts_of xs) → AreThere at (part_of (held_of input) ∷ [])
there_only at [] input e there = absurd (cc)
there_only at (x ∷ []) input e there = λ j r. there j (subst (λ (q : Part). Reads j (q ∷ [])) (let f : part_of (held_of input) ≡ part_of x = cc in f) r)
there_only at (x ∷ y ∷ xs) input e there = absurd (cc)

-- one more input
pub values_more : (g : Graph) (xs : List Held) (i : ℕ) (h : Held) → slice_get xs i ≡ Some h
    → part_values g (parts_of (take (suc i) xs)) ≡ part_values g (parts_of (take i xs)) ++ part_value g (part_of h) ∷ []
values_more g [] i h e = none_is_some h e
values_more g (x ∷ xs) zero h e = ap (λ (v : Held). part_value g (part_of v) ∷ []) (same_held x h e)
values_more g (x ∷ xs) (suc i) h e = ap (λ (vs : List Seen). part_value g (part_of x) ∷ vs) (values_more g xs i h e)

pub values_at : (g : Graph) (xs : List Held) (i : ℕ) (input : Input) (now : Now) → Path (Option Held) (Some (held_of input)) (slice_get xs i) → part_value g (part_of (held_of input)) ≡ Ok now
    → part_values g (parts_of (take (i + 1) xs)) ≡ part_values g (parts_of (take i xs)) ++ Ok now ∷ []
values_at g xs i input now e v =
    ap (λ (n : ℕ). part_values g (parts_of (take n xs))) (add-one i)
    ∙ values_more g xs i (held_of input) (sym e)
    ∙ ap (λ (x : Seen). part_values g (parts_of (take i xs)) ++ x ∷ []) v

-- what a stored node reads lives, whatever the choices at sites
pub node_there : (way : Sites → Way) (m : ℕ) (n : Node) → IsSound way → ((s : Sites) → IsNodeOf s (way s) m n)
    → ((s : Sites) × AreThere (way s) ((way s).graph.inputs m)) → (s : Sites) → AreThere (way s) (parts_of n.inputs)
node_there way m n sound is there s = λ j r.
    (sound.alike there.0 s).live j ∙ there.1 j (subst (λ (ps : List Part). Reads j ps) (sym (is there.0).inputs) r)
