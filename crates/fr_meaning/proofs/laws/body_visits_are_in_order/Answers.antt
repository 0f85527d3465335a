use Rattle.fr_meaning.specs.Evaluation.{world_of}
use Rattle.fr_meaning.specs.Visits.{body_visits}
use Rattle.fr_meaning.proofs.Visits.{all_distinct}
use Rattle.fr_meaning.proofs.Bodies.{body_rises, body_stands_together, body_uses}
use Rattle.fr_meaning.proofs.laws.body_visits_are_in_order.Goals as goal

pub returns : goal.returns
returns c = record {
  rising = body_rises;
  distinct = λ p sources k. all_distinct (world_of p sources) (body_visits p sources k) (body_rises p sources k);
  together = body_stands_together;
  uses = body_uses;
}
