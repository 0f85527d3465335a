-- An instant, as what was done tells of it.
use Rattle.std.proofs.Common.{◌≡◌, ℕ, List, [], Some, None, Result, Ok, Err, refl, sym, ap, ◌∙◌, IfOk, IfErr, append-nil}
use Rattle.std.specs.Option.{option_or}
use Rattle.std.specs.declared.alloc.AllocError.{AllocError}
use Rattle.fr_value.specs.declared.value.Value.{Value}
use Rattle.fr_core.specs.declared.inputs.Inputs.{Inputs}
use Rattle.fr_core.specs.declared.kept.Kept.{Kept}
use Rattle.fr_core.specs.declared.kept.Kept.TheVariants as kept
use Rattle.fr_core.specs.declared.program.Item.{Item}
use Rattle.fr_core.specs.declared.program.Program.{Program}
use Rattle.fr_meaning.specs.Words.{First}
use Rattle.fr_meaning.specs.Evaluation.{World, Ev, eval_to}
use Rattle.fr_meaning.specs.Afresh.{Evaluated, State, Instant, items, body, latest, sources_at, instant}
use Rattle.fr_afresh.specs.declared.bodies.Progress.{Progress}
use Rattle.fr_afresh.specs.declared.running.Afresh.{Afresh}
use Rattle.fr_afresh.specs.declared.running.AfreshStop.{AfreshStop}
use Rattle.fr_afresh.specs.Bodies.{whole, unbegun, all_good}
use Rattle.fr_afresh.specs.Stands.{Leaves, ErrsBy}
use Rattle.fr_afresh.specs.Progress.{IsProgressOf, IsClean}
use Rattle.fr_meaning.proofs.Good.{items_good}
use Rattle.fr_afresh.proofs.Good.{some_good, all_good_map}

or_none : (f : First) → option_or f None ≡ f
or_none None = refl
or_none (Some f) = refl

pub all_told : (ev : Ev) (k : Kept) (n : ℕ) (p : Progress) (is : List Item) → whole ev k n p [] ≡ whole ev k 0 unbegun is → IsProgressOf p (items ev [] k 0 is)
all_told ev k n p is h = record {
  shown = sym (append-nil p.shown) ∙ ap (λ (e : Evaluated). e.shown) h;
  kepts = sym (append-nil p.around.kepts) ∙ ap (λ (e : Evaluated). e.kepts) h;
  first = sym (or_none p.around.first) ∙ ap (λ (e : Evaluated). e.first) h;
}

pub told_clean : (n : ℕ) (w : World) (k : Kept) (is : List Item) (p : Progress) → IsProgressOf p (items (eval_to n w) [] k 0 is) → IsClean p
told_clean n w k is p t first none = some_good _ (items_good n w [] k 0 is (sym t.first ∙ first)) (rw t.shown at none)

pub stands_behind : (r : Result Afresh AfreshStop) (values : List Value) (done : Progress) (p : Program) (s : State) (i : Inputs) → values ≡ latest p.inputs s.values i.sets → IsProgressOf done (body p (sources_at p values i) s.kept)
    → IfOk r (λ a. (n : Instant) → n.values ≡ values → IsProgressOf done n.evaluated → Leaves a p n) → IfOk r (λ a. Leaves a p (instant p s i))
unfolding instant
stands_behind (Ok a) values done p s i is t h = h (instant p s i) (sym is) (rw is at t)
stands_behind (Err e) values done p s i is t h = tt

pub errs_behind : (r : Result Afresh AfreshStop) (values : List Value) (done : Progress) (p : Program) (s : State) (i : Inputs) → values ≡ latest p.inputs s.values i.sets → IsProgressOf done (body p (sources_at p values i) s.kept)
    → IfErr r (λ stop. (n : Instant) → IsProgressOf done n.evaluated → ErrsBy stop i.time n) → IfErr r (λ stop. ErrsBy stop i.time (instant p s i))
unfolding instant
errs_behind (Ok a) values done p s i is t h = tt
errs_behind (Err e) values done p s i is t h = h (instant p s i) (rw is at t)

pub told_cleanly : (r : Result Progress AllocError) (n : ℕ) (w : World) (k : Kept) (is : List Item) → IfOk r (λ p. IsProgressOf p (items (eval_to n w) [] k 0 is)) → IfOk r (λ p. IsClean p)
told_cleanly (Ok p) n w k is t = told_clean n w k is p t
told_cleanly (Err e) n w k is t = tt

pub stands_now : (a : Afresh) (done : Progress) (n : Instant) → n.values ≡ a.values → a.kept ≡ kept.Group done.around.kepts → all_good done.shown ≡ Some a.shown → done.around.first ≡ None → IsProgressOf done n.evaluated → Leaves a a.program n
stands_now a done n is_values is_kept good quiet t = record {
  program = refl;
  state = rw (is_values, ← t.kepts, is_kept) refl;
  shown = all_good_map done.shown a.shown good ∙ t.shown;
  clean = sym t.first ∙ quiet;
}
