-- The values of inputs, one by one.
use Rattle.std.proofs.Common.{◌≡◌, ℕ, List, [], ◌∷◌, ◌++◌, refl, sym, ◌∙◌, ◌≤◌, length, drop, append-nil}
use Rattle.std.proofs.lemmas.List.{drop_all}
use Rattle.fr_value.specs.declared.value.Value.{Value}
use Rattle.fr_core.specs.declared.inputs.Entry.{Entry}
use Rattle.fr_core.specs.declared.program.Input.{Input}
use Rattle.fr_meaning.specs.Afresh.{latest}

latest-nil : (is : List Input) (sets : List Entry) → latest is [] sets ≡ []
latest-nil [] sets = refl
latest-nil (i ∷ is) sets = refl

pub latest_ends : (new all : List Value) (is : List Input) (vs : List Value) (sets : List Entry) (i : ℕ) → length vs ≤ i → new ++ latest (drop i is) (drop i vs) sets ≡ all → new ≡ all
latest_ends new all is vs sets i none h =
    let e : latest (drop i is) (drop i vs) sets ≡ [] = rw (drop_all i vs none) (latest-nil (drop i is) sets) in
    sym (append-nil new) ∙ (rw e at h)
