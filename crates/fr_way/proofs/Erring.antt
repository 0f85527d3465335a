-- The worked graphs where something errs: a test that is an event, at the first instant and at a further one, and a delay whose last part is an event, which it refuses once nothing is queued. In each case evaluating the body afresh errs.
use Rattle.std.proofs.Common.{◌≡◌, true, false, List, [], ◌∷◌, refl, arith, None}
use Rattle.fr_value.specs.declared.now.Now.{Now}
use Rattle.fr_value.specs.declared.now.Now.TheVariants.{Occ}
use Rattle.fr_core.specs.declared.kept.Kept.TheVariants as kept
use Rattle.fr_meaning.specs.Words.{occurs}
use Rattle.fr_meaning.specs.Afresh.{body}
use Rattle.fr_graph.specs.Graph.{signal}
use Rattle.fr_way.specs.Way.{Way, cell_in}
use Rattle.fr_way.specs.Steps.{IsLeast, Computes}
use Rattle.fr_way.specs.Fronts.{ErrsAt, ErrsAtEnd}
use Rattle.fr_way.specs.Loop.{IsOnItsWay}
use Rattle.fr_way.proofs.Errs.{taken_errs, first_taken_errs, first_left_errs}
use Rattle.fr_way.proofs.Loop.{on_its_way_built, on_its_way_started, on_its_way_computed}
use Rattle.fr_way.proofs.Concrete.{each_2, each_3, each_4, off, on, none, at_least, computed, computes_by}
use Rattle.fr_way.proofs.Examples.{items, plan, members_shown, none_yet, sources_of, built, built_well, built_used, shown_on, whole_on, restarted, starts_again}
use Rattle.fr_way.proofs.Shown.{program, lowered, kept_on, afresh_on}
use Rattle.fr_way.proofs.Delayed as delayed

-- x is an event, which doesn't occur
abbrev an_event : List Now
an_event = Occ None ∷ []

-- AT THE FIRST INSTANT the watch can't tell its test

begun : IsOnItsWay plan items members_shown 4 an_event none_yet built
begun = on_its_way_built plan items members_shown 4 an_event none_yet built built_well built_used (λ m use_m. use_m) (each_3 _ (λ t. omega arith) (λ t. omega arith) (λ t. omega arith) (λ m t. off t))

abbrev input_now : Way
input_now = computed built 0 (occurs None) None

input_computes : Computes plan an_event none_yet built input_now 0
input_computes = computes_by plan items members_shown an_event none_yet built 0 0 (occurs None) None begun.under_way (record { was = refl; least = λ j k e. omega arith })
    (record { now = Occ None; there = refl; value = refl }) (λ w k late. refl) (λ iw. off iw)

input_went : IsOnItsWay plan items members_shown 4 an_event none_yet input_now
input_went = on_its_way_computed plan items members_shown 4 an_event none_yet built input_now 0 begun input_computes

watch_least : IsLeast input_now 1 1
watch_least = record {
  was = refl;
  least = each_3 _ (λ k e. none k e) (λ k e. at_least 1 0 k e) (λ k e. at_least 1 1 k e) (λ m k e. none k e);
}

watch_errs : ErrsAt input_now 1 plan none_yet 1
watch_errs holds told = absurd cc

evaluating_errs : (body program an_event kept.Nothing).first ≡ None → ⊥
evaluating_errs = first_taken_errs program plan items members_shown an_event none_yet input_now 1 1 lowered (λ m. refl) input_went.under_way input_went.used watch_least watch_errs

-- AND AT A FURTHER ONE, over what the first has kept

begun_again : IsOnItsWay plan items members_shown 4 an_event shown_on.graph restarted
begun_again = on_its_way_started plan items members_shown 4 an_event (sources_of true) (cell_in none_yet) shown_on restarted whole_on (starts_again an_event)

abbrev input_again : Way
input_again = computed restarted 0 (occurs None) None

input_computes_again : Computes plan an_event shown_on.graph restarted input_again 0
input_computes_again = computes_by plan items members_shown an_event shown_on.graph restarted 0 0 (occurs None) None begun_again.under_way (record { was = refl; least = λ j k e. omega arith })
    (record { now = Occ None; there = refl; value = refl }) (λ w k late. refl) (λ iw. off iw)

input_went_again : IsOnItsWay plan items members_shown 4 an_event shown_on.graph input_again
input_went_again = on_its_way_computed plan items members_shown 4 an_event shown_on.graph restarted input_again 0 begun_again input_computes_again

watch_least_again : IsLeast input_again 1 1
watch_least_again = record {
  was = refl;
  least = each_4 _ (λ k e. none k e) (λ k e. at_least 1 0 k e) (λ k e. none k e) (λ k e. at_least 1 1 k e) (λ m k e. none k e);
}

watch_errs_again : ErrsAt input_again 1 plan shown_on.graph 1
watch_errs_again holds told = absurd cc

evaluating_errs_again : (body program an_event kept_on).first ≡ None → ⊥
evaluating_errs_again = taken_errs program plan items members_shown an_event shown_on.graph input_again 1 1 kept_on lowered whole_on.nodes afresh_on.stands input_went_again.under_way input_went_again.used watch_least_again watch_errs_again

-- ONCE NOTHING IS QUEUED the delay refuses the event

late_begun : IsOnItsWay delayed.plan delayed.items (1 ∷ []) 2 an_event delayed.none_yet delayed.built
late_begun = on_its_way_built delayed.plan delayed.items (1 ∷ []) 2 an_event delayed.none_yet delayed.built delayed.built_well delayed.built_used (λ m use_m. use_m) (each_2 _ (λ t. omega arith) (λ t. omega arith) (λ m t. off t))

abbrev late_input : Way
late_input = computed delayed.built 0 (occurs None) None

late_input_computes : Computes delayed.plan an_event delayed.none_yet delayed.built late_input 0
late_input_computes = computes_by delayed.plan delayed.items (1 ∷ []) an_event delayed.none_yet delayed.built 0 0 (occurs None) None late_begun.under_way (record { was = refl; least = λ j k e. omega arith })
    (record { now = Occ None; there = refl; value = refl }) (λ w k late. refl) (λ iw. off iw)

late_input_went : IsOnItsWay delayed.plan delayed.items (1 ∷ []) 2 an_event delayed.none_yet late_input
late_input_went = on_its_way_computed delayed.plan delayed.items (1 ∷ []) 2 an_event delayed.none_yet delayed.built late_input 0 late_begun late_input_computes

abbrev late_shown : Way
late_shown = computed late_input 1 (delayed.truth false) None

late_computes : Computes delayed.plan an_event delayed.none_yet late_input late_shown 1
late_computes = computes_by delayed.plan delayed.items (1 ∷ []) an_event delayed.none_yet late_input 1 0 (delayed.truth false) None late_input_went.under_way (record { was = refl; least = λ j k e. omega arith })
    (record { value = refl; clean = record { value = refl; inner = refl; refusal = refl }; cell = λ early. on early }) (λ w k late. refl) (λ iw. off iw)

late_went : IsOnItsWay delayed.plan delayed.items (1 ∷ []) 2 an_event delayed.none_yet late_shown
late_went = on_its_way_computed delayed.plan delayed.items (1 ∷ []) 2 an_event delayed.none_yet late_input late_shown 1 late_input_went late_computes

late_errs : ErrsAtEnd late_shown delayed.plan delayed.none_yet 1
late_errs = record { live = refl; errs = λ clean latches. latches refl (signal 0) refl refl }

evaluating_errs_late : (body delayed.program an_event kept.Nothing).first ≡ None → ⊥
evaluating_errs_late = first_left_errs delayed.program delayed.plan delayed.items (1 ∷ []) an_event delayed.none_yet late_shown 1 delayed.lowered (λ m. refl) late_went.under_way late_went.used (each_2 _ refl refl (λ m. refl)) late_errs
