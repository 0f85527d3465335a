-- Expressions that are copied, or numbered for a kernel.
use Rattle.std.specs.Prelude.{ℕ, Option, Some, None}
use Rattle.std.specs.Option.{option_map}
use denote.Ref.{Bor}
use Rattle.fr_core.specs.declared.core_form.Core.{Core}
use Rattle.fr_kernel.specs.declared.names.Names.{Names}
use Rattle.fr_kernel.specs.Numbers.{Scheme, numbered}
use Rattle.fr_kernel.specs.Slots.{outer_of, read_by}

-- what the code has of a kernel's slots
abbrev pub scheme_of : Names → Scheme
scheme_of n = record { first = n.first; params = n.params; outer = n.outer; sources = n.sources }

-- what the slots of the kernel of an expression stand for, whose parameters are so many variables from `first` on
abbrev pub scheme_for : ℕ → ℕ → Core → Scheme
scheme_for first params e = record { first = first; params = params; outer = outer_of first e; sources = read_by e }

abbrev pub scheme_at : Option (Bor Names) → Option Scheme
scheme_at o = option_map (λ n. scheme_of n.now) o

-- an expression over these slots, or as it is
abbrev pub placed : Option Scheme → Core → Core
placed None e = e
placed (Some s) e = numbered s e
