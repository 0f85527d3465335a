-- Files in memory, found by name.
use Rattle.std.specs.Prelude.{ℕ, Bool, List, [], map, get_or, position, option_map, Option, Vec, String, string_bytes, bytes_eq}
use Rattle.std.specs.declared.alloc.Global.{Global}

-- whether a file has that name
abbrev pub is_named : List ℕ → String Global × Vec ℕ Global → Bool
is_named name file = bytes_eq (string_bytes file.0) name

-- the place of the first file of that name
abbrev pub place : List (String Global × Vec ℕ Global) → List ℕ → Option ℕ
place files name = position (is_named name) files

-- the bytes of the file at a place
abbrev pub bytes_at : List (String Global × Vec ℕ Global) → ℕ → List ℕ
bytes_at files at = get_or (map (λ file. file.1.items) files) at []

-- the bytes of the first file of that name
abbrev pub file_of : List (String Global × Vec ℕ Global) → List ℕ → Option (List ℕ)
file_of files name = option_map (bytes_at files) (place files name)

-- the number that is kept beside the first file of that name
abbrev pub number_of : List (String Global × Vec ℕ Global) → List ℕ → List ℕ → Option ℕ
number_of files numbers name = option_map (λ at. get_or numbers at 0) (place files name)
