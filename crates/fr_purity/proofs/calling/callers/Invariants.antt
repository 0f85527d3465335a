use Rattle.fr_purity.proofs.Listing.{ListedBefore}
use Rattle.fr_purity.proofs.calling.callers.Given as goal

abbrev pub invariant-loop-number : goal.invariant-loop-number
invariant-loop-number l = ListedBefore l.functions l.number l.callers.items
