-- What a read gives of a file, and what is known of what was written.
use Rattle.std.specs.Prelude.{◌≡◌, ◌<◌, ◌≤◌, ◌+◌, ◌==◌, if◌then◌else◌, max, ℕ, List, length, take, drop, Some, IfSome}
use Rattle.std.specs.declared.option.Option.{Option}
use Rattle.std.specs.Io.KnownBytes.{Appends}

-- n bytes at the front of the buffer are those of the file from that position on, none only at the end or with no room
pub record GivesFrom (file : List ℕ) (position n : ℕ) (buf : List ℕ) : Type 0 where
  pub bytes : take n buf ≡ take n (drop position file)
  pub none_at_end : length file ≤ position → n ≡ 0
  pub end : n ≡ 0 → 0 < length buf → length file ≤ position

-- after n bytes from a position were given, where that is told
abbrev pub Reaches : Option ℕ → Option ℕ → ℕ → ℕ → Type 0
Reaches before now position n = IfSome before (λ r. now ≡ Some (if n == 0 then r else max r (position + n)))

-- after the first n bytes were given, where that is told
abbrev pub ReachesFront : Option ℕ → Option ℕ → ℕ → Type 0
ReachesFront before now n = IfSome before (λ r. now ≡ Some (max r n))

-- some first bytes of these were appended, but not all of them, where that is told
abbrev pub AppendsSome : Option (List ℕ) → Option (List ℕ) → List ℕ → Type 0
AppendsSome old new bytes = (n : ℕ) × (n < length bytes) × Appends old new (take n bytes)
