use Rattle.std.proofs.Common.{◌≡◌, ◌<◌, ℕ, [], ◌∷◌, IsSome, length, sym, ap, ◌∙◌, subst, arith, List}
use Rattle.fr_value.specs.declared.now.Held.{Held}
use Rattle.fr_store.specs.Nodes.{Stored, node_at, node_in, signal_at}
use Rattle.fr_store.specs.Kept.{nodes_of}
use Rattle.fr_store.proofs.Stores.{number_within, signals_listed, store_rewired}
use Rattle.fr_store.proofs.Tables.{some_of}
use Rattle.fr_store.proofs.store.Store.rewire.Goals as goal

pub wire-requires-clause-lists : goal.wire-requires-clause-lists
wire-requires-clause-lists c = λ l p e.
    signals_listed c.self.inside.limit c.self.inside.table c.self.inside.edges c.self.invariant (c.args.input ∷ [])
    (λ i r. subst (λ (s : Stored). IsSome (node_at s i)) (sym c.self.view_is) (c.requires.live i r)) l p
    (ap (λ (hs : List Held). signal_at hs p) (sym c.one-inputs.ensures) ∙ e)

pub invariant_of-self : goal.invariant_of-self
invariant_of-self c =
    let n = some_of (node_in (nodes_of c.self.inside.table) c.args.id.0) (subst (λ (s : Stored). IsSome (node_at s c.args.id.0)) (sym c.self.view_is) c.requires.there) in
    let at = number_within c.self.inside.table c.args.id.0 n.0 n.1 in
    let there : c.args.id.0 < length c.self.inside.edges.runs.items = subst (λ (k : ℕ). c.args.id.0 < k) (sym c.self.invariant.runs) at in
    let four = (c.self.invariant.kept_edges.runs c.args.id.0 there).0 in
    let one : length c.one-inputs.result ≡ 1 = ap length c.one-inputs.ensures in
    store_rewired c.self.inside.limit c.self.inside.table c.self.inside.edges c.change.new.self c.wire.new.self c.args.id.0 n.0
    (record n.0 { inputs = c.one-inputs.result }) c.self.invariant
    c.change.ensures.sound c.change.ensures.keys n.1 (c.change.ensures.changed n.0 n.1) c.wire.ensures.sound (ap (λ v. v.items) c.wire.ensures.runs)
    (omega arith) c.wire.ensures.wired
