use Rattle.fr_meaning.proofs.Pure.{pure_is_steady, named_sources_decide}
use Rattle.fr_meaning.proofs.laws.pure_is_steady.Goals as goal

pub returns : goal.returns
returns c = record { kept = pure_is_steady; sources = named_sources_decide }
