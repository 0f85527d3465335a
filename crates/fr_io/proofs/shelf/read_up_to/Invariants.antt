use Rattle.std.proofs.Common.{◌≡◌, ◌≤◌, ◌+◌, ◌-◌, [], ◌∷◌, length, take, IfSome}
use Rattle.fr_io.specs.Files.{ReachesFront}
use Rattle.fr_io.specs.Shelves.{Reads}
use Rattle.fr_io.proofs.shelf.read_up_to.Given as goal

abbrev pub invariant-loop-buf : goal.invariant-loop-buf
invariant-loop-buf g l = record {
  within : length l.bytes.items ≤ l.limit + 1;
  bytes : IfSome (g.S.Shelf.holds l.fn.shelf l.name) (λ file. l.bytes.items ≡ take (length l.bytes.items) file);
  reached : ReachesFront (g.S.Shelf.reached l.fn.shelf l.name) (g.S.Shelf.reached l.shelf l.name) (length l.bytes.items);
  shelf : Reads (l.name ∷ []) ⊥ (g.S.Shelf.holds l.fn.shelf) (g.S.Shelf.holds l.shelf) (g.S.Shelf.reached l.fn.shelf) (g.S.Shelf.reached l.shelf) (g.S.Shelf.faults l.fn.shelf) (g.S.Shelf.faults l.shelf);
}

abbrev pub decreases-loop-buf : goal.decreases-loop-buf
decreases-loop-buf g l = l.limit + 1 - length l.bytes.items
