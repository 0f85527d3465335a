-- A line reader behind the lines that it takes before it has a turn to give.
use Rattle.std.specs.Prelude.{ℕ, ◌+◌, Bool, true, false, List, [], ◌∷◌, length, take, Option, Some, None}
use Rattle.indexmap.specs.IndexMap.{get_by_text}
use Rattle.fr_script.specs.declared.turn.Turn.{Turn}
use Rattle.fr_script.specs.declared.line_reader.LineReader.{LineReader}
use Rattle.fr_script.specs.Lines.{line_end}
use Rattle.fr_script.specs.Kinds.{says}
use Rattle.fr_script.specs.Instants.{BadLine}
use Rattle.fr_script.specs.Steps.{turn_of, behind_line}

-- the reader behind a step, where that gives no turn
abbrev pub unless_turn : Option Turn → LineReader → Option LineReader
unless_turn None new = Some new
unless_turn (Some t) new = None

-- behind a line of so many bytes, and of so many with the newline that ends it
abbrev pub behind_bytes : ℕ → ℕ → LineReader → Option LineReader
behind_bytes n bytes r =
    let s = says (get_by_text r.names) r.past (take n r.rest) bytes in
    unless_turn (turn_of s r.past) (behind_line s r bytes)

-- behind what follows the last newline, which is a line where the script has ended
abbrev pub behind_rest : Bool → List ℕ → LineReader → Option LineReader
behind_rest false rest r = None
behind_rest true [] r = None
behind_rest true (b ∷ bs) r = behind_bytes (length r.rest) (length r.rest) r

-- behind the line that the first newline ends, if there is one
abbrev pub behind_end : Option ℕ → LineReader → Option LineReader
behind_end (Some n) r = behind_bytes n (n + 1) r
behind_end None r = behind_rest r.ended r.rest r

-- unless a bad line was met
abbrev pub unless_met : Option BadLine → Option LineReader → Option LineReader
unless_met None x = x
unless_met (Some b) x = None

-- the reader behind its next line, where there is one and it gives no turn
abbrev pub next_line : LineReader → Option LineReader
next_line r = unless_met r.bad (behind_end (line_end r.rest) r)

-- on from the next reader, if there is one
abbrev pub on_from : Option LineReader → LineReader → (LineReader → LineReader) → LineReader
on_from None r next = r
on_from (Some q) r next = next q

-- the reader behind such lines, of which there are at most as many as these bytes
unfoldable pub settled_in : List ℕ → LineReader → LineReader
settled_in [] r = r
settled_in (b ∷ bs) r = on_from (next_line r) r (λ q. settled_in bs q)

-- the reader behind all lines that it takes before it has a turn to give
unfoldable pub settled : LineReader → LineReader
settled r = settled_in r.rest r
