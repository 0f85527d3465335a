use Rattle.std.proofs.Common.{◌≡◌, ◌∙◌, ℕ, ◌+◌, ◌≤◌, ◌++◌, List, length, take, ap, sym, subst, arith, rules, length-append, length-take}
use Rattle.std.proofs.lemmas.List.{take-append-le, length-take-le}
use Rattle.fr_io.specs.Files.{Reaches, ReachesFront}
use Rattle.fr_io.proofs.Reading.{piece_read, reached_more}
use Rattle.fr_io.proofs.Shelves.{fine, reads_then}
use Rattle.fr_io.proofs.shelf.read_up_to.Goals as goal

pub loop-buf-preserved : goal.loop-buf-preserved
loop-buf-preserved g c =
    let items : c.extend_from_slice.new.self.items ≡ c.loop-buf.bytes.items ++ take c.in-Ok.n c.read.new.buf =
    c.in-Ok-extend_from_slice.ensures.items ∙ ap (λ (z : List ℕ). c.loop-buf.bytes.items ++ z) (take-append-le c.in-Ok.n c.read.new.buf _ c.in-Ok.ensures.within) in
    let len : length c.extend_from_slice.new.self.items ≡ length c.loop-buf.bytes.items + length (take c.in-Ok.n c.read.new.buf) = ap length items ∙ length-append c.loop-buf.bytes.items (take c.in-Ok.n c.read.new.buf) in
    let upper : length (take c.in-Ok.n c.read.new.buf) ≤ c.in-Ok.n = omega (arith, length-take c.in-Ok.n c.read.new.buf) in
    let within : c.in-Ok.n ≤ length c.read.new.buf = c.in-Ok.ensures.within in
    let grown : length c.extend_from_slice.new.self.items ≡ length c.loop-buf.bytes.items + c.in-Ok.n = len ∙ ap (λ (m : ℕ). length c.loop-buf.bytes.items + m) (length-take-le c.in-Ok.n c.read.new.buf c.in-Ok.ensures.within) in
    let small : c.in-Ok.n ≤ c.min-room.result + 1 = search rules in
    record {
      within = omega arith;
      bytes = piece_read _ _ _ _ c.read.new.buf c.in-Ok.n c.len-in-loop-buf-2.result (c.loop-buf.invariant.shelf.files c.args.name.now) (search rules) c.in-Ok.ensures.within items c.loop-buf.invariant.bytes c.in-Ok.ensures.given;
      reached = subst (λ (n : ℕ). ReachesFront (g.S.Shelf.reached c.args.shelf.now c.args.name.now) (g.S.Shelf.reached c.read.new.self c.args.name.now) n) (sym grown)
          (reached_more _ _ _ (length c.loop-buf.bytes.items) c.in-Ok.n c.loop-buf.invariant.reached (subst (λ (p : ℕ). Reaches (g.S.Shelf.reached c.loop-buf.shelf c.args.name.now) (g.S.Shelf.reached c.read.new.self c.args.name.now) p c.in-Ok.n) (search rules) c.in-Ok.ensures.reaches));
      shelf = reads_then c.loop-buf.invariant.shelf (λ x. x) (fine _ ⊥ _ _ _ _ _ _ (λ x. x) c.read.ensures.files (λ other apart. c.read.ensures.others other apart.0) c.in-Ok.ensures.counts_stay);
    }
