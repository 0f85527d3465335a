-- Values for sources.
use Rattle.std.specs.Prelude.{ℕ, ◌+◌, ◌<◌, ◌==◌, nat_lt, if◌then◌else◌, List, [], ◌∷◌, Option, Some, None}
use Rattle.fr_value.specs.declared.ids.SrcId.{SrcId}
use Rattle.fr_value.specs.declared.value.Value.{Value}
use Rattle.fr_core.specs.declared.inputs.Entry.{Entry}

-- the greatest time of an instant, which is the greatest integer of the language
abbrev pub greatest_time : ℕ
greatest_time = 9223372036854775807

-- the value of the first entry for a source, or none where the source isn't there
abbrev pub value_in : SrcId → List Entry → Option Value
value_in source [] = None
value_in source (e ∷ es) = if e.source.0 == source.0 then Some e.value else value_in source es

-- the number of entries before the first one whose source comes behind this one
abbrev pub place_in : SrcId → List Entry → ℕ
place_in source [] = 0
place_in source (e ∷ es) = if nat_lt source.0 e.source.0 then 0 else place_in source es + 1

-- the entries with a new one before the first whose source comes behind its own
abbrev pub placed : Entry → List Entry → List Entry
placed new [] = new ∷ []
placed new (e ∷ es) = if nat_lt new.source.0 e.source.0 then new ∷ e ∷ es else e ∷ placed new es

-- the sources of all entries come behind this one
abbrev pub AllBehind : SrcId → List Entry → Type 0
AllBehind source [] = Unit {0}
AllBehind source (e ∷ es) = (source.0 < e.source.0) × AllBehind source es

-- the sources rise, so that each stands once
abbrev pub AreRising : List Entry → Type 0
AreRising [] = Unit {0}
AreRising (e ∷ es) = AllBehind e.source es × AreRising es
