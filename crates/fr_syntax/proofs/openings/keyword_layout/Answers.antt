use Rattle.fr_syntax.proofs.openings.keyword_layout.Goals as goal

pub returns-in-Quote : goal.returns-in-Quote
returns-in-Quote c below = rw c.in-Quote.is (c.quote.ensures below)

pub returns-in-Let : goal.returns-in-Let
returns-in-Let c below = rw c.in-Let.is (c.bound.ensures below)

pub returns-in-LetStar : goal.returns-in-LetStar
returns-in-LetStar c below = rw c.in-LetStar.is (c.bound-in-LetStar.ensures below)

pub returns-in-MapE : goal.returns-in-MapE
returns-in-MapE c below = rw c.in-MapE.is (c.handled.ensures below)

pub returns-in-FilterE : goal.returns-in-FilterE
returns-in-FilterE c below = rw c.in-FilterE.is (c.handled-in-FilterE.ensures below)

pub returns-in-CollectB : goal.returns-in-CollectB
returns-in-CollectB c below = rw c.in-CollectB.is (c.collected.ensures below)

pub returns-in-CollectE : goal.returns-in-CollectE
returns-in-CollectE c below = rw c.in-CollectE.is (c.collected-in-CollectE.ensures below)
