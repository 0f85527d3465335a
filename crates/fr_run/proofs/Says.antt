-- What the writing of one instant leaves, and what a stop there says.
use Rattle.std.proofs.Common.{◌≡◌, ◌≢◌, ◌∙◌, ℕ, ◌+◌, List, [], ◌∷◌, Option, Some, None, sym, ap, subst, refl}
use Rattle.std.specs.Io.KnownBytes.{Appends}
use Rattle.fr_core.specs.declared.inputs.Inputs.{Inputs}
use Rattle.fr_core.specs.declared.program.Program.{Program}
use Rattle.fr_meaning.specs.Words.{Seen, First}
use Rattle.fr_meaning.specs.Texts.{Shown, instant_text, next_each}
use Rattle.fr_meaning.specs.Afresh.{State, Instant, handed_on, instant}
use Rattle.fr_meaning.specs.Runs.{unless_erred, runs_from}
use Rattle.fr_show.specs.declared.stop.Stop.{Stop}
use Rattle.fr_show.specs.declared.stop.Stop.TheVariants.{Evaluation, Write, Memory}
use Rattle.fr_show.specs.Course.{Course, all_bytes, after}
use Rattle.fr_show.specs.Ends.{StopSays}
use Rattle.fr_show.specs.Output.{unless_errs, course_of}
use Rattle.fr_show.proofs.Writing.{some_front}
use Rattle.fr_show.proofs.Courses.{appends_nothing, nothing_whole}
use Rattle.fr_run.specs.declared.evaluator.InstantStop.{InstantStop}
use Rattle.fr_run.specs.declared.evaluator.InstantStop.TheVariants as instant_stop
use Rattle.fr_run.specs.Standing.{Standing, IsBehind, seen_of, IsCause, unfinished}
use Rattle.fr_run.specs.Written.{Wrote, CutShort, StopsIn}

-- the text of what stands behind an instant was written
pub wrote_all : (stands_for : State → Type 0) (e : Standing) (p : Program) (n : Instant) (time : ℕ) (shows later : List Shown) (x y : Option (List ℕ)) → IsBehind stands_for e p n
    → later ≡ next_each shows (seen_of e) → Appends x y (instant_text time shows (seen_of e)) → Wrote stands_for e p n time shows later x y
wrote_all stands_for e p n time shows later x y h s w = record {
  behind = h;
  shows_are = s ∙ ap (λ (vs : List Seen). next_each shows vs) h.shown;
  written = subst (λ (vs : List Seen). Appends x y (instant_text time shows vs)) h.shown w;
}

-- where an instant errs or not, the course is that of its first error
pub course_by_first : (k : ℕ) (end : Option Stop) (p : Program) (s : State) (i : Inputs) (is : List Inputs) (shows : List Shown) (first : First) → (instant p s i).evaluated.first ≡ first
    → course_of end shows (runs_from k p s (i ∷ is))
    ≡ unless_errs first i.time (instant_text i.time shows (instant p s i).evaluated.shown)
    (course_of end (next_each shows (instant p s i).evaluated.shown) (unless_erred first (runs_from (k + 1) p (handed_on (instant p s i)) is)))
course_by_first k end p s i is shows first is_first =
    let n = instant p s i in
    let text = instant_text i.time shows n.evaluated.shown in
    ap (λ (f : First). unless_errs f i.time text (course_of end (next_each shows n.evaluated.shown) (unless_erred f (runs_from (k + 1) p (handed_on n) is)))) is_first

-- a text that was cut short, before a course
cut_before : (stop : Stop) (text : List ℕ) (rest : Course) (x y : Option (List ℕ)) → CutShort stop text x y → StopSays stop (after (text ∷ []) rest) x y
cut_before Write text rest x y h = some_front x y text (all_bytes rest.texts) h
cut_before (Memory e) text rest x y h = subst (λ (z : Option (List ℕ)). StopSays (Memory e) (after (text ∷ []) rest) x z) (sym h) (nothing_whole (after (text ∷ []) rest).texts x)
cut_before other text rest x y h = absurd h

-- what a stop says while the text of an instant is written
pub cut_says : (stop : Stop) (stands_for : State → Type 0) (e : Standing) (p : Program) (s : State) (i : Inputs) (shows : List Shown) (x y : Option (List ℕ)) → IsBehind stands_for e p (instant p s i)
    → CutShort stop (instant_text i.time shows (seen_of e)) x y → StopsIn stop p s i shows x y
cut_says stop stands_for e p s i shows x y h cut k end is =
    let n = instant p s i in
    let text = instant_text i.time shows n.evaluated.shown in
    let rest = course_of end (next_each shows n.evaluated.shown) (runs_from (k + 1) p (handed_on n) is) in
    let cut1 = subst (λ (vs : List Seen). CutShort stop (instant_text i.time shows vs) x y) h.shown cut in
    subst (λ (c : Course). StopSays stop c x y) (sym (course_by_first k end p s i is shows None h.clean)) (cut_before stop text rest x y cut1)

-- an instant that errs ends the course
errs_says : (p : Program) (s : State) (i : Inputs) (shows : List Shown) (x : Option (List ℕ)) (first : First) → (instant p s i).evaluated.first ≡ first → first ≢ None
    → StopsIn (Evaluation i.time) p s i shows x x
errs_says p s i shows x None is_first h k end is = absurd (h refl)
errs_says p s i shows x (Some f) is_first h k end is =
    subst (λ (c : Course). StopSays (Evaluation i.time) c x x) (sym (course_by_first k end p s i is shows (Some f) is_first)) (refl, appends_nothing x)

-- what the stop of an instant that wasn't evaluated to its end says
pub unfinished_says : (stop : InstantStop) (p : Program) (s : State) (i : Inputs) (shows : List Shown) (x : Option (List ℕ)) → IsCause stop (instant p s i)
    → StopsIn (unfinished stop i.time) p s i shows x x
unfinished_says (instant_stop.Memory e) p s i shows x h k end is = nothing_whole (course_of end shows (runs_from k p s (i ∷ is))).texts x
unfinished_says instant_stop.Errs p s i shows x h k end is = errs_says p s i shows x (instant p s i).evaluated.first refl h k end is
