-- Loops that are run over given values.
use Rattle.std.specs.Prelude.{ℕ, ◌+◌, List, map, Ok}
use Rattle.fr_value.specs.declared.now.Now.{Now}
use Rattle.fr_core.specs.declared.core_form.Core.{Core}
use Rattle.fr_core.specs.declared.core_form.Loop.{Loop}
use Rattle.fr_core.specs.declared.kept.Kept.TheVariants as kept
use Rattle.fr_meaning.specs.Words.{Seen, Env, Done, part}
use Rattle.fr_meaning.specs.Evaluation.{World, ended, rounds, all_turns, body_with, eval}

-- the turns of a loop with this body: the first of these values is the first accumulator, the second the list or count
abbrev pub loop_over : Loop → (List Seen → Done) → List Seen → Done
loop_over l body vs = let ts = all_turns body (part vs 0) (rounds l (part vs 1)) in ended ts.value kept.Nothing ts.cost ts.first

-- a loop at a nest over these inputs, where the variables around its body have these values: the body is evaluated one level below
abbrev pub loop_at : World → ℕ → Loop → Core → Env → List Now → Done
loop_at w nest l body env inputs = loop_over l (body_with (eval w (nest + 1)) env body) (map (λ n. Ok n) inputs)
