-- There is one value for each show, at every instant.
use Rattle.std.proofs.Common.{◌≡◌, ◌∙◌, ℕ, ◌+◌, List, [], ◌∷◌, ◌++◌, length, take, Ok, Some, Option, refl, sym, ap, suc}
use Rattle.std.proofs.lemmas.List.{length-map, take_more}
use Rattle.std.proofs.lemmas.Option.{slice_get_within, get_or_from_slice_get}
use Rattle.std.specs.List.{slice_get}
use Rattle.fr_value.specs.declared.now.Now.{Now}
use Rattle.fr_core.specs.declared.inputs.Inputs.{Inputs}
use Rattle.fr_core.specs.declared.kept.Kept.{Kept}
use Rattle.fr_core.specs.declared.program.Item.{Item}
use Rattle.fr_core.specs.declared.program.Item.TheVariants as item
use Rattle.fr_core.specs.declared.program.Program.{Program}
use Rattle.fr_meaning.specs.Words.{Seen, Env}
use Rattle.fr_meaning.specs.Evaluation.{Ev, eval}
use Rattle.fr_meaning.specs.Cells.{child}
use Rattle.fr_meaning.specs.Texts.{Shown, next_each}
use Rattle.fr_meaning.specs.Afresh.{State, Instant, items, instant, latest, sources_at}
use Rattle.fr_show.specs.Output.{shows_of}
use Rattle.fr_run.specs.Standing.{Standing, IsBehind}
use Rattle.fr_run.specs.Written.{AreShowsOf, Wrote}

items_shown : (ev : Ev) (env : Env) (k : Kept) (i : ℕ) (is : List Item) → length (items ev env k i is).shown ≡ length (shows_of is)
items_shown ev env k i [] = refl
items_shown ev env k i (item.Define e ∷ is) = items_shown ev (env ++ (ev e env (child k i)).value ∷ []) k (i + 1) is
items_shown ev env k i (item.Show name e ∷ is) = ap (λ (n : ℕ). suc n) (items_shown ev env k (i + 1) is)

-- an instant shows one value for each show
pub instant_shown : (p : Program) (s : State) (i : Inputs) → length (instant p s i).evaluated.shown ≡ length (shows_of p.body)
unfolding instant
instant_shown p s i =
    let sources = sources_at p (latest p.inputs s.values i.sets) i in
    items_shown (eval (record { functions = p.functions; sources = sources }) 1) [] s.kept 0 p.body

-- the shows stay as many
next_length : (shows : List Shown) (vs : List Seen) → length (next_each shows vs) ≡ length shows
next_length [] vs = refl
next_length (s ∷ ss) [] = refl
next_length (s ∷ ss) (v ∷ vs) = ap (λ (n : ℕ). suc n) (next_length ss vs)

-- behind an instant of a program there is a value for each of its shows
pub one_each : (stands_for : State → Type 0) (e : Standing) (p : Program) (s : State) (i : Inputs) (shows : List Shown) → IsBehind stands_for e p (instant p s i) → AreShowsOf shows p
    → length e.shown ≡ length shows
one_each stands_for e p s i shows h k =
    sym (length-map e.shown (λ v. Ok v)) ∙ ap (λ (vs : List Seen). length vs) h.shown ∙ instant_shown p s i ∙ sym k

-- behind an instant there is still one for each show
pub shows_after : (stands_for : State → Type 0) (e : Standing) (p : Program) (n : Instant) (time : ℕ) (shows later : List Shown) (x y : Option (List ℕ))
    → Wrote stands_for e p n time shows later x y → AreShowsOf shows p → AreShowsOf later e.program
shows_after stands_for e p n time shows later x y w each =
    ap (λ (ss : List Shown). length ss) w.shows_are ∙ next_length shows n.evaluated.shown ∙ each ∙ ap (λ (q : Program). length (shows_of q.body)) (sym w.behind.program)

-- one more value
pub one_more : (vs : List Now) (i : ℕ) (v : Now) → slice_get vs i ≡ Some v → take i vs ++ v ∷ [] ≡ take (i + 1) vs
one_more vs i v h =
    let less = slice_get_within vs i v h in
    sym (take_more vs i v less ∙ ap (λ (w : Now). take i vs ++ w ∷ []) (get_or_from_slice_get vs i v v h))
