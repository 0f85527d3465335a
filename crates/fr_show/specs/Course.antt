-- The course of a command: the texts that are written, each whole, and how it ends.
use Rattle.std.specs.Prelude.{ℕ, List, [], ◌∷◌, ◌++◌, Option}
use Rattle.fr_show.specs.declared.stop.Stop.{Stop}

-- the texts in order, and the stop, or none where it goes to the end
pub record Course : Type 0 where
  pub texts : List (List ℕ)
  pub stop : Option Stop

-- all bytes of the texts
abbrev pub all_bytes : List (List ℕ) → List ℕ
all_bytes [] = []
all_bytes (t ∷ ts) = t ++ all_bytes ts

-- no text any more
abbrev pub stopped : Option Stop → Course
stopped s = record { texts = []; stop = s }

-- these texts before a course
abbrev pub after : List (List ℕ) → Course → Course
after [] c = c
after (t ∷ ts) c = record { texts = t ∷ (after ts c).texts; stop = (after ts c).stop }
