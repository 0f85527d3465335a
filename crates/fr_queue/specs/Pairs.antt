-- How heights with nodes are in order.
use Rattle.std.specs.Prelude.{ℕ}
use Rattle.std.specs.declared.cmp.Ordering.{Ordering}
use Rattle.std.specs.Ordering.{nat_cmp, ordering_then}

-- The least height comes first, and among equal heights the least node.
abbrev pub by_height : ℕ × ℕ → ℕ × ℕ → Ordering
by_height p q = ordering_then (nat_cmp p.0 q.0) (nat_cmp p.1 q.1)
