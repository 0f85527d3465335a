-- What each source has where what is written goes by its number.
use Rattle.std.specs.Prelude.{ℕ, ◌+◌, List, [], ◌∷◌, Option, Some, None, map}
use Rattle.fr_value.specs.declared.value.Value.{Value}
use Rattle.fr_value.specs.declared.now.Now.{Now}
use Rattle.fr_value.specs.declared.now.Now.TheVariants.{Plain}
use Rattle.fr_core.specs.Sets.{value_in}
use Rattle.fr_core.specs.declared.inputs.Entry.{Entry}
use Rattle.fr_core.specs.declared.program.Input.{Input}
use Rattle.fr_meaning.specs.Afresh.{input_value}
use Rattle.fr_sources.specs.Writes.{written}

-- each value is changed by its number, where the first has number k
abbrev pub each_at : (ℕ → Now → Now) → List Now → ℕ → List Now
each_at g [] k = []
each_at g (x ∷ xs) k = g k x ∷ each_at g xs (k + 1)

-- what a source has where it is set to this
abbrev pub overlaid : Option Value → Now → Now
overlaid None x = x
overlaid (Some v) x = written v x

-- what source number n has behind these entries
abbrev pub by_entries : List Entry → ℕ → Now → Now
by_entries es n x = overlaid (value_in (record { 0 = n }) es) x

-- the values of inputs before any is set
abbrev pub firsts : List Input → List Value
firsts is = map (λ i. i.first) is

-- what a source has where it is the input with this value
abbrev pub begun : Option Value → Now → Now
begun None x = x
begun (Some v) x = Plain v

-- what source number n has behind the first values of these inputs
abbrev pub by_firsts : List Input → ℕ → Now → Now
by_firsts is n x = begun (input_value is (firsts is) n) x
