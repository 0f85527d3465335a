-- Parts of a form that are found one after the other.
use Rattle.std.specs.Prelude.{Option, Result, Ok, Err}
use Rattle.std.specs.Option.{option_map}

-- what is there already, with what may be there beside it
abbrev pub beside : {A B E : Type 0} → A → Result (Option B) E → Result (Option (A × B)) E
beside a (Ok b) = Ok (option_map (λ b. (a, b)) b)
beside a (Err e) = Err e
