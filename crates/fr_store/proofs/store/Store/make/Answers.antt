use Rattle.std.proofs.Common.{◌≡◌, ℕ, List, IsSome, Result, Ok, Err, OnErr, length, sym, ap, ◌∙◌, subst, arith}
use Rattle.fr_value.specs.declared.now.Held.{Held}
use Rattle.fr_store.specs.Nodes.{Makes, Stored, least_height, new_node, node_at, placed, signal_at}
use Rattle.fr_store.specs.Kept.{Wires, first_at, next_number, nodes_of, room_at, stored_in}
use Rattle.fr_store.proofs.Stores.{IsMade, made_is, signals_wide, store_again, store_made, view_again}
use Rattle.fr_store.proofs.store.Store.make.Goals as goal

pub invariant_of-self : goal.invariant_of-self
invariant_of-self c =
    store_again c.self.inside.limit c.self.inside.table c.prepare.new.table c.self.inside.edges c.prepare.new.edges c.self.invariant
    c.prepare.ensures.same c.in_err-inputs.ensures.err c.prepare.ensures.table c.prepare.ensures.edges

on_err : {T E : Type 0} (r : Result T E) (a b : Stored) → a ≡ b → OnErr r (a ≡ b)
on_err (Ok x) a b e = tt
on_err (Err x) a b e = e

pub returns-in_err-inputs-clause-err : goal.returns-in_err-inputs-clause-err
returns-in_err-inputs-clause-err c =
    on_err _ (stored_in c.self.inside.limit c.prepare.new.table c.prepare.new.edges) c.args.self.now
    (view_again c.self.inside.limit c.self.inside.table c.prepare.new.table c.self.inside.edges c.prepare.new.edges c.self.invariant
    c.prepare.ensures.same c.in_err-inputs.ensures.err ∙ c.self.view_is)

pub wire-requires-clause-lists : goal.wire-requires-clause-lists
wire-requires-clause-lists c = λ l p e.
    signals_wide c.self.inside.limit c.self.inside.table c.self.inside.edges c.prepare.new.edges (next_number c.prepare.new.table) (length c.args.inputs.now)
    c.self.invariant c.prepare.ensures.edges c.in_ok-inputs.ensures.wide c.args.inputs.now
    (λ i r. subst (λ (s : Stored). IsSome (node_at s i)) (sym c.self.view_is) (c.requires.live i r)) l p
    (ap (λ (hs : List Held). signal_at hs p) (sym c.in_ok-inputs.ensures.inputs) ∙ e)

made : (c : goal.After-put-id)
    → IsMade c.self.inside.limit c.self.inside.table c.prepare.new.table c.put-id.new.self c.self.inside.edges c.prepare.new.edges c.wire.new.self
    (new_node c.args.kind c.in_ok-inputs.inputs c.args.era c.least_height-height.result c.args.nest c.args.instant) (length c.args.inputs.now)
made c = record {
  same = c.prepare.ensures.same;
  sound = c.prepare.ensures.table;
  wide_edges = c.prepare.ensures.edges;
  widened = c.in_ok-inputs.ensures.wide;
  edges = c.wire.ensures.sound;
  runs = ap (λ v. v.items) c.wire.ensures.runs;
  few = let e : length c.in_ok-inputs.inputs ≡ length c.args.inputs.now = ap length c.in_ok-inputs.ensures.inputs in omega arith;
  wired =
      subst (λ (k : ℕ). Wires c.prepare.new.edges.links.lists c.wire.new.self.links.lists (first_at c.prepare.new.edges.runs.items k) (room_at c.prepare.new.edges.runs.items k) (signal_at c.in_ok-inputs.inputs))
      c.next.ensures c.wire.ensures.wired;
  table = c.put-id.ensures.sound;
  nodes = c.put-id.ensures.placed
      ∙ ap (placed (nodes_of c.prepare.new.table) c.put-id.result.0) c.new-node.ensures
      ∙ ap (λ (i : ℕ). placed (nodes_of c.prepare.new.table) i (new_node c.args.kind c.in_ok-inputs.inputs c.args.era c.least_height-height.result c.args.nest c.args.instant)) c.put-id.ensures.number;
  room = let h = c.if-self.false in omega arith;
}

pub invariant_of-self-2 : goal.invariant_of-self-2
invariant_of-self-2 c =
    store_made c.self.inside.limit c.self.inside.table c.prepare.new.table c.put-id.new.self c.self.inside.edges c.prepare.new.edges c.wire.new.self
    _ (length c.args.inputs.now) c.self.invariant (made c)

pub returns-clause-made : goal.returns-clause-made
returns-clause-made c =
    let height : c.least_height-height.result ≡ least_height c.args.self.now.nodes c.args.floor c.args.inputs.now =
    c.least_height-height.ensures ∙ ap (λ (s : Stored). least_height s.nodes c.args.floor c.args.inputs.now) c.self.view_is in
    subst (λ (h : ℕ). Makes c.args.self.now (stored_in c.self.inside.limit c.put-id.new.self c.wire.new.self) c.put-id.result.0 (new_node c.args.kind c.args.inputs.now c.args.era h c.args.nest c.args.instant)) height
    (subst (λ (hs : List Held). Makes c.args.self.now (stored_in c.self.inside.limit c.put-id.new.self c.wire.new.self) c.put-id.result.0 (new_node c.args.kind hs c.args.era c.least_height-height.result c.args.nest c.args.instant)) c.in_ok-inputs.ensures.inputs
    (subst (λ (i : ℕ). Makes c.args.self.now (stored_in c.self.inside.limit c.put-id.new.self c.wire.new.self) i (new_node c.args.kind c.in_ok-inputs.inputs c.args.era c.least_height-height.result c.args.nest c.args.instant)) (sym c.put-id.ensures.number)
    (made_is c.self.inside.limit c.self.inside.table c.prepare.new.table c.put-id.new.self c.self.inside.edges c.prepare.new.edges c.wire.new.self
    _ (length c.args.inputs.now) c.args.self.now c.self.invariant (made c) c.self.view_is)))
