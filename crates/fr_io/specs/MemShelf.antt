-- What a shelf in memory keeps.
use Rattle.std.specs.Prelude.{◌⊎◌, ℕ, List, length, get_or, Contains, IsNone, Option, unwrap_or}
use Rattle.fr_io.specs.declared.mem_shelf.MemShelf.{MemShelf}
use Rattle.fr_io.specs.Faults.{one_more}
use Rattle.fr_io.specs.NamedFiles.{place, file_of, number_of}

-- the bytes of the first file of a name, none for a name that isn't there
abbrev pub held_file : MemShelf → List ℕ → Option (List ℕ)
held_file shelf name = file_of shelf.files.files.items name

-- the greatest position, counted from 1, of a byte that was read of a name, none for a name that isn't there
abbrev pub reached_position : MemShelf → List ℕ → Option ℕ
reached_position shelf name = number_of shelf.files.files.items shelf.files.reached.items name

-- the counts of faults, one for each file and one for all other names
abbrev pub fault_counts : MemShelf → List ℕ
fault_counts shelf = shelf.faults.items

-- where the count of a name stands among them
abbrev pub count_place : MemShelf → List ℕ → ℕ
count_place shelf name = unwrap_or (place shelf.files.files.items name) (length shelf.files.files.items)

-- the count of faults of a name
abbrev pub fault_count : MemShelf → List ℕ → ℕ
fault_count shelf name = get_or shelf.faults.items (count_place shelf name) 0

-- how many calls were made
abbrev pub call_count : MemShelf → ℕ
call_count shelf = shelf.calls.made

-- the numbers of the calls that are to fail
abbrev pub failing_calls : MemShelf → List ℕ
failing_calls shelf = shelf.calls.failing.items

-- the next read of a name is to fail
abbrev pub FailsNext : MemShelf → List ℕ → Type 0
FailsNext shelf name = Contains (failing_calls shelf) (one_more (call_count shelf)) ⊎ IsNone (held_file shelf name)
