use Rattle.fr_way.proofs.Names.{names_outside, named_lives}
use Rattle.fr_way.proofs.turning.nothing_that_lives_names_what_ended.Goals as goal

pub returns-clause-outside : goal.returns-clause-outside
returns-clause-outside c = λ g height w m j f live watches. names_outside g height f w live watches m j

pub returns-clause-lives : goal.returns-clause-lives
returns-clause-lives c = λ g height m j f. named_lives g height f m j
