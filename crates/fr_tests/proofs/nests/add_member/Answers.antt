use Rattle.std.proofs.Common.{refl}
use Rattle.fr_eras.proofs.Theres.{made_alone}
use Rattle.fr_tests.proofs.NestLaws.{joined_member, still_member, young_grows}
use Rattle.fr_tests.proofs.nests.add_member.Goals as goal

pub join-requires-clause-alone : goal.join-requires-clause-alone
join-requires-clause-alone c =
    made_alone c.args.eras.now c.args.store.now c.make.new.self c.in_ok-id.id.0 _ c.requires.young.there c.in_ok-id.ensures.made

pub returns-clause-young : goal.returns-clause-young
returns-clause-young c =
    young_grows c.args.eras.now c.join.new.self c.args.store.now c.make.new.self c.args.era.0 c.in_ok-id.id.0 _ c.requires.young
    c.in_ok-id.ensures.made refl c.in_ok-join.ensures.joins

pub returns-clause-member : goal.returns-clause-member
returns-clause-member c = joined_member c.args.eras.now c.join.new.self c.args.era.0 c.in_ok-id.id.0 c.in_ok-join.ensures.joins

pub returns-clause-members : goal.returns-clause-members
returns-clause-members c = λ node m. still_member c.args.eras.now c.join.new.self c.args.era.0 c.in_ok-id.id.0 node c.in_ok-join.ensures.joins m
