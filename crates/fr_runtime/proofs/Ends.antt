-- What follows of values, of errors and of stops.
use Rattle.std.proofs.Common.{◌≡◌, List, ℕ, [], Result, Ok, Err, IfOk, IfErr, OnOk, inl, length, subst, sym, ap, ◌∙◌}
use Rattle.std.specs.List.{Contains, range_with_len}
use Rattle.fr_value.specs.declared.now.Now.{Now}
use Rattle.fr_core.specs.declared.program.Program.{Program}
use Rattle.fr_meaning.specs.Afresh.{State, beginning, first_instant, instant}
use Rattle.fr_engine.specs.Stops.{StopsWhere}
use Rattle.fr_engine.specs.declared.stops.RunStop.{RunStop}
use Rattle.fr_engine.specs.declared.stops.RunStop.TheVariants as stop
use Rattle.fr_show.specs.Shows.{RiseFrom}
use Rattle.fr_show.proofs.Numbers.{all_numbers_rise, is_number}
use Rattle.fr_run.specs.Standing.{Standing, IsBehind, NamesChanges, HasBegun}

pub ok_map : {T E : Type 0} (r : Result T E) (F G : T → Type 0) → ((t : T) → F t → G t) → IfOk r F → IfOk r G
ok_map (Ok t) F G h k = h t k
ok_map (Err e) F G h k = tt

pub err_map : {T E : Type 0} (r : Result T E) (F G : E → Type 0) → ((e : E) → F e → G e) → IfErr r F → IfErr r G
err_map (Ok t) F G h k = tt
err_map (Err e) F G h k = h e k

pub ok_both : {T E : Type 0} (r : Result T E) (F G H : T → Type 0) → ((t : T) → F t → G t → H t) → IfOk r F → IfOk r G → IfOk r H
ok_both (Ok t) F G H h f g = h t f g
ok_both (Err e) F G H h f g = tt

pub on_two : {T E : Type 0} (r : Result T E) (A B C : Type 0) → (A → B → C) → OnOk r A → OnOk r B → OnOk r C
on_two (Ok t) A B C h a b = h a b
on_two (Err e) A B C h a b = tt

pub stops_map : (s : RunStop) (A B : Type 0) → (A → B) → StopsWhere s A → StopsWhere s B
stops_map (stop.Bad b) A B f h = f h
stops_map (stop.Memory e) A B f h = tt
stops_map stop.Fuel A B f h = tt
stops_map stop.TooMany A B f h = tt

-- all numbers name whatever changed
pub all_named : (before now : List Now) (count : ℕ) (numbers : List ℕ) → count ≡ length now → numbers ≡ range_with_len 0 count → NamesChanges before now numbers
all_named before now count numbers many all = record {
  rising = subst (λ (ns : List ℕ). RiseFrom 0 (length now) ns) (sym (all ∙ ap (λ (n : ℕ). range_with_len 0 n) many)) (all_numbers_rise (length now));
  others = λ n less. inl (subst (λ (ns : List ℕ). Contains ns n) (sym (all ∙ ap (λ (k : ℕ). range_with_len 0 k) many)) (is_number (length now) n less));
}

pub has_begun : (stands_for : State → Type 0) (e : Standing) (p : Program) → IsBehind stands_for e p (instant p (beginning p) first_instant) → NamesChanges [] e.shown e.changed
    → (e.program ≡ p) × HasBegun stands_for e
has_begun stands_for e p behind changed =
    (behind.program, record { behind = subst (λ (q : Program). IsBehind stands_for e q (instant q (beginning q) first_instant)) (sym behind.program) behind; changed = changed })
