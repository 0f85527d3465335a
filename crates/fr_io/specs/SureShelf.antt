-- What a shelf in memory that never fails keeps.
use Rattle.std.specs.Prelude.{ℕ, List, [], unwrap_or}
use Rattle.fr_io.specs.declared.sure.SureShelf.{SureShelf}
use Rattle.fr_io.specs.NamedFiles.{file_of, number_of}

-- the bytes of the first file of a name, and no bytes for a name that isn't there
abbrev pub held_file : SureShelf → List ℕ → List ℕ
held_file shelf name = unwrap_or (file_of shelf.files.files.items name) []

-- the greatest position, counted from 1, of a byte that was read of a name
abbrev pub reached_position : SureShelf → List ℕ → ℕ
reached_position shelf name = unwrap_or (number_of shelf.files.files.items shelf.files.reached.items name) 0
