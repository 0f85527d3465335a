use Rattle.std.proofs.Common.{◌≡◌, ◌≤◌, length, ◌∙◌, arith}
use Rattle.fr_eras.proofs.Theres.{made_alone}
use Rattle.fr_tests.proofs.ChainLaws.{chain_counted, chain_grows, chain_height, chain_live, chain_longer, chain_low, chain_number}
use Rattle.fr_tests.proofs.chains.add_node.Goals as goal

pub make-requires-clause-live : goal.make-requires-clause-live
make-requires-clause-live c = chain_live c.args.eras.now c.args.store.now c.requires.chain c.args.inputs.now c.requires.before

pub make-requires-clause-low : goal.make-requires-clause-low
make-requires-clause-low c = chain_low c.args.eras.now c.args.store.now c.requires.chain c.args.inputs.now c.requires.before

pub make-requires-clause-floor : goal.make-requires-clause-floor
make-requires-clause-floor c =
    let e : c.count-nodes.result ≡ length c.args.store.now.nodes =
    c.count-nodes.ensures.value ∙ chain_counted c.args.eras.now c.args.store.now c.requires.chain in
    let few : length c.args.store.now.nodes ≤ 4194304 = c.requires.chain.few in
    omega arith

pub join-requires-clause-there : goal.join-requires-clause-there
join-requires-clause-there c = c.requires.chain.program

pub join-requires-clause-alone : goal.join-requires-clause-alone
join-requires-clause-alone c =
    made_alone c.args.eras.now c.args.store.now c.make.new.self c.in_ok-id.id.0 _ c.requires.chain.there c.in_ok-id.ensures.made

pub returns-clause-chain : goal.returns-clause-chain
returns-clause-chain c =
    let e : c.count-nodes.result ≡ length c.args.store.now.nodes =
    c.count-nodes.ensures.value ∙ chain_counted c.args.eras.now c.args.store.now c.requires.chain in
    chain_grows c.args.eras.now c.join.new.self c.args.store.now c.make.new.self c.in_ok-id.id.0 _ c.requires.chain c.in_ok-id.ensures.made
    c.in_ok-join.ensures.joins
    (chain_height c.args.eras.now c.args.store.now c.requires.chain c.args.inputs.now c.requires.before c.count-nodes.result e ∙ e) c.requires.before
    c.count-nodes.ensures.limit

pub returns-clause-number : goal.returns-clause-number
returns-clause-number c =
    chain_number c.args.eras.now c.join.new.self c.args.store.now c.make.new.self c.in_ok-id.id.0 _ c.requires.chain c.in_ok-id.ensures.made

pub returns-clause-longer : goal.returns-clause-longer
returns-clause-longer c =
    chain_longer c.args.eras.now c.join.new.self c.args.store.now c.make.new.self c.in_ok-id.id.0 _ c.requires.chain c.in_ok-id.ensures.made
