-- A run over the instants of a script, one after the other.
use Rattle.std.proofs.Common.{◌≡◌, ◌∙◌, ℕ, ◌+◌, true, List, [], ◌∷◌, ◌++◌, Option, Some, None, refl, sym, ap, subst}
use Rattle.std.specs.Io.KnownBytes.{Appends}
use Rattle.fr_io.proofs.Appending.{appends_more}
use Rattle.fr_core.specs.declared.inputs.Inputs.{Inputs}
use Rattle.fr_core.specs.declared.program.Program.{Program}
use Rattle.fr_script.specs.declared.reader.ScriptReader.{ScriptReader}
use Rattle.fr_script.specs.Sources.{Named}
use Rattle.fr_script.specs.Instants.{BadLine, bad_line}
use Rattle.fr_meaning.specs.Texts.{Shown, instant_text, next_each}
use Rattle.fr_meaning.specs.Afresh.{State, handed_on, instant}
use Rattle.fr_meaning.specs.Runs.{runs_from}
use Rattle.fr_show.specs.declared.stop.Stop.{Stop}
use Rattle.fr_show.specs.declared.stop.Stop.TheVariants.{Read, Write, Memory}
use Rattle.fr_show.specs.Course.{Course, all_bytes, after, stopped}
use Rattle.fr_show.specs.Ends.{EndsThere, StopSays, extent_of, first_text}
use Rattle.fr_show.specs.Output.{course_of, script_end}
use Rattle.fr_show.proofs.Courses.{bytes_append, after_after, appends_nothing, appends_one, ends_after, writes_after, nothing_whole}
use Rattle.fr_run.specs.Standing.{Standing}
use Rattle.fr_run.specs.Scripts.{IsFed, ahead, Gives, EndsAt}
use Rattle.fr_run.specs.Written.{Wrote, StopsIn, course_behind}
use Rattle.fr_run.proofs.Says.{course_by_first}

-- these texts of a course over a script were written, and it goes on from where the reader stands and a state that the evaluator stands for
pub record SoFar (ss : List Named) (script : List ℕ) (course : Course) (reader : ScriptReader) (stands_for : State → Type 0) (p : Program) (shows : List Shown) (old new : Option (List ℕ)) : Type 0 where
  pub done : List (List ℕ)
  pub given : ℕ
  pub fed : IsFed reader ss script given
  pub written : Appends old new (all_bytes done)
  pub state : State
  pub stands : stands_for state
  pub rest : course ≡ after done (course_behind p state ss script given shows)

-- what a reader's turn gives, wherever it stands
abbrev pub GivesNext : ScriptReader → ScriptReader → Option Inputs → Type 0
GivesNext r q o = (ss : List Named) (script : List ℕ) (given : ℕ) → IsFed r ss script given → Gives o q ss script given

pub none_done : (ss : List Named) (script : List ℕ) (given : ℕ) (r : ScriptReader) (stands_for : State → Type 0) (p : Program) (s : State) (shows : List Shown) (x : Option (List ℕ))
    → stands_for s → IsFed r ss script given → SoFar ss script (course_behind p s ss script given shows) r stands_for p shows x x
none_done ss script given r stands_for p s shows x stands h = record { done = []; given = given; fed = h; written = appends_nothing x; state = s; stands = stands; rest = refl }

-- an instant's text, and then the course behind it
pub course_wrote : (k : ℕ) (end : Option Stop) (stands_for : State → Type 0) (next : Standing) (p : Program) (s : State) (i : Inputs) (is : List Inputs) (shows later : List Shown) (y z : Option (List ℕ))
    → Wrote stands_for next p (instant p s i) i.time shows later y z
    → course_of end shows (runs_from k p s (i ∷ is))
    ≡ after (instant_text i.time shows (instant p s i).evaluated.shown ∷ []) (course_of end later (runs_from (k + 1) next.program (handed_on (instant p s i)) is))
course_wrote k end stands_for next p s i is shows later y z w =
    let n = instant p s i in
    let text = instant_text i.time shows n.evaluated.shown in
    let program = ap (λ (q : Program). after (text ∷ []) (course_of end (next_each shows n.evaluated.shown) (runs_from (k + 1) q (handed_on n) is))) (sym w.behind.program) in
    let shown = ap (λ (l : List Shown). after (text ∷ []) (course_of end l (runs_from (k + 1) next.program (handed_on n) is))) (sym w.shows_are) in
    course_by_first k end p s i is shows None w.behind.clean ∙ program ∙ shown

-- over the instants that are ahead
course_ahead : (p : Program) (s : State) (ss : List Named) (script : List ℕ) (given : ℕ) (shows : List Shown) (is : List Inputs) → ahead ss script given ≡ is
    → course_behind p s ss script given shows ≡ course_of (script_end (bad_line ss script true)) shows (runs_from (given + 1) p s is)
course_ahead p s ss script given shows is h = ap (λ (js : List Inputs). course_of (script_end (bad_line ss script true)) shows (runs_from (given + 1) p s js)) h

-- what an evaluator leaves behind an instant, whichever of the states it stood for
abbrev pub WritesOn : (State → Type 0) → (State → Type 0) → Program → Standing → Inputs → List Shown → List Shown → Option (List ℕ) → Option (List ℕ) → Type 0
WritesOn before now p next i shows later y z = (s : State) → before s → Wrote now next p (instant p s i) i.time shows later y z

pub one_done : (ss : List Named) (script : List ℕ) (course : Course) (r q : ScriptReader) (before now : State → Type 0) (p : Program) (next : Standing) (shows later : List Shown) (i : Inputs) (x y z : Option (List ℕ))
    → ((given : ℕ) → IsFed r ss script given → Gives (Some i) q ss script given) → SoFar ss script course r before p shows x y
    → WritesOn before now p next i shows later y z → SoFar ss script course q now next.program later x z
one_done ss script course r q before now p next shows later i x y z gives far writes =
    let g = gives far.given far.fed in
    let w = writes far.state far.stands in
    let n = instant p far.state i in
    let text = instant_text i.time shows n.evaluated.shown in
    let both = appends_more x y z (all_bytes far.done) (all_bytes (text ∷ [])) far.written (appends_one y z text w.written) in
    let wrote = course_ahead p far.state ss script far.given shows (i ∷ ahead ss script (far.given + 1)) g.0
    ∙ course_wrote (far.given + 1) (script_end (bad_line ss script true)) now next p far.state i (ahead ss script (far.given + 1)) shows later y z w in
    record {
      done = far.done ++ text ∷ [];
      given = far.given + 1;
      fed = g.1;
      written = subst (λ (b : List ℕ). Appends x z b) (sym (bytes_append far.done (text ∷ []))) both;
      state = handed_on n;
      stands = w.behind.state;
      rest = far.rest ∙ ap (λ (c : Course). after far.done c) wrote ∙ sym (after_after far.done (text ∷ []) (course_behind next.program (handed_on n) ss script (far.given + 1) later));
    }

-- nothing is ahead, and the script ends so
course_ended : (end : Option Stop) (p : Program) (s : State) (ss : List Named) (script : List ℕ) (given : ℕ) (shows : List Shown)
    → ahead ss script given ≡ [] → script_end (bad_line ss script true) ≡ end → course_behind p s ss script given shows ≡ stopped end
course_ended end p s ss script given shows none h = course_ahead p s ss script given shows [] none ∙ ap (λ (o : Option Stop). stopped o) h

-- the script's end is the course's
pub all_done : (ss : List Named) (script : List ℕ) (course : Course) (r q : ScriptReader) (stands_for : State → Type 0) (p : Program) (shows : List Shown) (x y : Option (List ℕ))
    → ((given : ℕ) → IsFed r ss script given → Gives None q ss script given) → SoFar ss script course r stands_for p shows x y → EndsThere None course x y
all_done ss script course r q stands_for p shows x y gives far =
    let g = gives far.given far.fed in
    let is = course_ended None p far.state ss script far.given shows g.0 (ap (λ (b : Option BadLine). script_end b) g.1) in
    subst (λ (c : Course). EndsThere None c x y) (sym (far.rest ∙ ap (λ (c : Course). after far.done c) is)) (ends_after None far.done (stopped None) x y y far.written (refl, appends_nothing y))

-- no script ends with a write fault
no_write : (b : Option BadLine) → script_end b ≡ Some Write → ⊥
no_write None h = cc
no_write (Some b) h = cc

ends_bad : (other : Stop) (p : Program) (s : State) (ss : List Named) (script : List ℕ) (given : ℕ) (shows : List Shown) (x : Option (List ℕ))
    → (ahead ss script given ≡ []) × (script_end (bad_line ss script true) ≡ Some other) → EndsThere (Some other) (course_behind p s ss script given shows) x x
ends_bad other p s ss script given shows x h =
    subst (λ (c : Course). EndsThere (Some other) c x x) (sym (course_ended (Some other) p s ss script given shows h.0 h.1)) (refl, appends_nothing x)

ends_says : (other : Stop) (p : Program) (s : State) (ss : List Named) (script : List ℕ) (given : ℕ) (shows : List Shown) (x : Option (List ℕ))
    → EndsAt other ss script given → StopSays other (course_behind p s ss script given shows) x x
ends_says Read p s ss script given shows x h = nothing_whole _ x
ends_says Write p s ss script given shows x h = absurd (no_write (bad_line ss script true) h.1)
ends_says (Memory m) p s ss script given shows x h = nothing_whole _ x
ends_says other p s ss script given shows x h = ends_bad other p s ss script given shows x h

-- only a read fault tells of the first text
only_read : (stop : Stop) → (stop ≡ Read → ⊥) → extent_of stop ≡ first_text → ⊥
only_read Read unread h = unread refl
only_read other unread h = cc

-- behind what was written, a stop but for a read fault says of the course what it says of the rest
rest_says : (other : Stop) (ss : List Named) (script : List ℕ) (course : Course) (r : ScriptReader) (stands_for : State → Type 0) (p : Program) (shows : List Shown) (x y z : Option (List ℕ)) → (other ≡ Read → ⊥)
    → (far : SoFar ss script course r stands_for p shows x y) → StopSays other (course_behind p far.state ss script far.given shows) y z → StopSays other course x z
rest_says other ss script course r stands_for p shows x y z unread far says =
    subst (λ (c : Course). StopSays other c x z) (sym far.rest)
    (writes_after (extent_of other) other far.done (course_behind p far.state ss script far.given shows) x y z far.written (only_read other unread) says)

-- a stop that the reader told
pub ends_here : (other : Stop) (ss : List Named) (script : List ℕ) (course : Course) (r : ScriptReader) (stands_for : State → Type 0) (p : Program) (shows : List Shown) (x y : Option (List ℕ)) → (other ≡ Read → ⊥)
    → ((given : ℕ) → IsFed r ss script given → EndsAt other ss script given) → SoFar ss script course r stands_for p shows x y → StopSays other course x y
ends_here other ss script course r stands_for p shows x y unread ends far =
    rest_says other ss script course r stands_for p shows x y y unread far (ends_says other p far.state ss script far.given shows y (ends far.given far.fed))

-- a stop within an instant, whichever of the states the evaluator stood for
pub stops_here : (other : Stop) (ss : List Named) (script : List ℕ) (course : Course) (r q : ScriptReader) (stands_for : State → Type 0) (p : Program) (shows : List Shown) (i : Inputs) (x y z : Option (List ℕ)) → (other ≡ Read → ⊥)
    → ((given : ℕ) → IsFed r ss script given → Gives (Some i) q ss script given) → SoFar ss script course r stands_for p shows x y
    → ((s : State) → stands_for s → StopsIn other p s i shows y z) → StopSays other course x z
stops_here other ss script course r q stands_for p shows i x y z unread gives far says =
    let next = ahead ss script (far.given + 1) in
    let is = course_ahead p far.state ss script far.given shows (i ∷ next) (gives far.given far.fed).0 in
    rest_says other ss script course r stands_for p shows x y z unread far
    (subst (λ (c : Course). StopSays other c y z) (sym is) (says far.state far.stands (far.given + 1) (script_end (bad_line ss script true)) next))
