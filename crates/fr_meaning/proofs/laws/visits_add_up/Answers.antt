use Rattle.fr_meaning.proofs.Visits.{costs_add_up, first_is_found, clean}
use Rattle.fr_meaning.proofs.Bodies.{body_costs_add_up, body_first_is_found, body_clean}
use Rattle.fr_meaning.proofs.laws.visits_add_up.Goals as goal

pub returns : goal.returns
returns c = record {
  cost = costs_add_up;
  first = first_is_found;
  clean = clean;
  body_cost = body_costs_add_up;
  body_first = body_first_is_found;
  body_clean = body_clean;
}
