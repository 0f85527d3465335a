-- What a sink in memory keeps.
use Rattle.std.specs.Prelude.{◌≡◌, ◌⊎◌, ◌<◌, ◌-◌, ℕ, List, length, Contains}
use Rattle.fr_io.specs.declared.mem_sink.MemSink.{MemSink}
use Rattle.fr_io.specs.Faults.{one_more}

-- what was written
abbrev pub sink_bytes : MemSink → List ℕ
sink_bytes sink = sink.bytes.items

-- for how many bytes there is room in all
abbrev pub sink_room : MemSink → ℕ
sink_room sink = sink.room

-- for how many bytes there is still room
abbrev pub room_left : MemSink → ℕ
room_left sink = sink.room - length sink.bytes.items

-- the count of faults
abbrev pub fault_count : MemSink → ℕ
fault_count sink = sink.faults

-- how many calls were made
abbrev pub call_count : MemSink → ℕ
call_count sink = sink.calls.made

-- the numbers of the calls that are to fail
abbrev pub failing_calls : MemSink → List ℕ
failing_calls sink = sink.calls.failing.items

-- the next write of these bytes is to fail
abbrev pub FailsNext : MemSink → List ℕ → Type 0
FailsNext sink bytes = Contains (failing_calls sink) (one_more (call_count sink)) ⊎ ((0 < length bytes) × (room_left sink ≡ 0))
