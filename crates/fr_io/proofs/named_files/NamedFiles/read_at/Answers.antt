use Rattle.std.proofs.Common.{arith, [], ◌≡◌, ◌<◌, ◌+◌, ◌-◌, ◌∙◌, ap, sym, length}
use Rattle.std.proofs.lemmas.List.{get_or-map}
use Rattle.fr_io.specs.NamedFiles.{bytes_at}
use Rattle.fr_io.proofs.Reading.{take-copied}
use Rattle.fr_io.proofs.named_files.NamedFiles.read_at.Goals as goal

pub returns-then-n-gt0-clause-bytes : goal.returns-then-n-gt0-clause-bytes
returns-then-n-gt0-clause-bytes c =
    let there : c.args.at < length c.args.self.now.files.items = c.requires in
    let here : bytes_at c.args.self.now.files.items c.args.at ≡ c.deref.result.now =
    get_or-map (λ (file : _). file.1.items) _ c.args.at c.index.result.now [] there ∙ ap (λ (file : _). file.1.items) (sym c.index.ensures) ∙ sym c.deref.ensures.value in
    let start : c.min-start.result ≡ c.args.position = omega arith in
    take-copied c.copy_from_slice.new.self _ _ _ _ c.min-n.result (c.min-start.result + c.min-n.result - c.min-start.result) _ here start (omega arith) (omega arith) c.copy_from_slice.ensures.after
