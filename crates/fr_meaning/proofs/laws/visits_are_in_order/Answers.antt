use Rattle.fr_meaning.specs.Visits.{visits}
use Rattle.fr_meaning.proofs.Visits.{opens, they_rise, all_distinct, they_stand_together, they_use, used_values_decide}
use Rattle.fr_meaning.proofs.laws.visits_are_in_order.Goals as goal

pub returns : goal.returns
returns c = record {
  opens = opens;
  rising = they_rise;
  distinct = λ w v. all_distinct w (visits w v) (they_rise w v);
  together = they_stand_together;
  uses = they_use;
  used = used_values_decide;
}
