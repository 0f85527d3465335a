-- A run over its script's file: instant 0, and then what the file holds.
use Rattle.std.proofs.Common.{◌≡◌, ◌∙◌, ℕ, ◌+◌, true, List, [], ◌∷◌, length, take, Option, Some, None, Ok, Err, IfSome, refl, sym, ap, subst, arith}
use Rattle.std.specs.Io.KnownBytes.{Appends}
use Rattle.fr_io.specs.Files.{ReachesFront}
use Rattle.fr_core.specs.declared.program.Program.{Program}
use Rattle.fr_script.specs.declared.reader.ScriptReader.{ScriptReader}
use Rattle.fr_script.specs.Sources.{Named, sources}
use Rattle.fr_script.specs.Instants.{BadLine, whole, bad_line}
use Rattle.fr_meaning.specs.Words.{First}
use Rattle.fr_meaning.specs.Texts.{Shown, instant_text, next_each}
use Rattle.fr_meaning.specs.Afresh.{State, beginning, first_instant, handed_on, instant}
use Rattle.fr_meaning.specs.Runs.{Run, runs_from}
use Rattle.fr_show.specs.declared.acceptance.AcceptStop.{AcceptStop}
use Rattle.fr_show.specs.declared.acceptance.AcceptStop.TheVariants as accept
use Rattle.fr_show.specs.declared.stop.Stop.{Stop}
use Rattle.fr_show.specs.declared.stop.Stop.TheVariants.{Program as Refused, Read}
use Rattle.fr_show.specs.Accepted.{Verdict, OnJudged, OnEachJudged}
use Rattle.fr_show.specs.Stops.{Explains, unaccepted}
use Rattle.fr_show.specs.Course.{Course, all_bytes, after}
use Rattle.fr_show.specs.Ends.{Extent, first_text, extent_of, WritesTo, EndsThere, StopSays, SaysOn, Begins}
use Rattle.fr_show.specs.Output.{shows_of, unless_errs, course_of, script_end, program_course, course_over}
use Rattle.fr_show.proofs.Courses.{appends_nothing, appends_one, ends_after, writes_after, nothing_whole}
use Rattle.fr_show.proofs.Judged.{on_each, says_judged}
use Rattle.fr_run.specs.Scripts.{IsFed, ahead}
use Rattle.fr_run.specs.Standing.{Standing}
use Rattle.fr_run.specs.Written.{Wrote, StopsIn, course_behind}
use Rattle.fr_run.proofs.Loops.{course_wrote}
use Rattle.fr_run.proofs.Readers.{good_whole}

-- what holds of all bytes holds of those that are told
pub told_all : (o : Option (List ℕ)) (F : List ℕ → Type 0) → ((b : List ℕ) → F b) → IfSome o F
told_all None F h = tt
told_all (Some b) F h = h b

pub told_map : (o : Option (List ℕ)) (F G : List ℕ → Type 0) → ((b : List ℕ) → F b → G b) → IfSome o F → IfSome o G
told_map None F G h k = tt
told_map (Some b) F G h k = h b k

unless_stop : (f : First) (time : ℕ) (text : List ℕ) (rest : Course) → (unless_errs f time text rest).stop ≡ None → rest.stop ≡ None
unless_stop None time text rest h = h
unless_stop (Some first) time text rest h = cc

-- the course of a run that goes to its end has no other end
over_stop : (end : Option Stop) (shows : List Shown) (rs : List Run) → (course_of end shows rs).stop ≡ None → end ≡ None
over_stop end shows [] h = h
over_stop end shows (r ∷ rs) h =
    let now = r.instant.evaluated in
    let later = next_each shows now.shown in
    over_stop end later rs (unless_stop now.first r.time (instant_text r.time shows now.shown) (course_of end later rs) h)

no_bad : (b : Option BadLine) → script_end b ≡ None → b ≡ None
no_bad None h = refl
no_bad (Some b) h = cc

-- the file was fed of which these bytes were read
pub fed_file : (r : ScriptReader) (p q : Program) (seen bytes file : List ℕ) → ((f : List ℕ) → seen ≡ take 1099511627777 f → IsFed r (sources q) f 0)
    → q ≡ p → seen ≡ bytes → bytes ≡ take 1099511627777 file → IsFed r (sources p) file 0
fed_file r p q seen bytes file feeds same items is = subst (λ (o : Program). IsFed r (sources o) file 0) same (feeds file (items ∙ is))

-- a script whose course went to its end was read to its end
pub read_whole : (p : Program) (s : State) (ss : List Named) (file bytes : List ℕ) (given : ℕ) (shows : List Shown) (x y : Option (List ℕ)) (before now : Option ℕ)
    → bytes ≡ take 1099511627777 file → EndsThere None (course_behind p s ss file given shows) x y → ReachesFront before now (length bytes) → ReachesFront before now (length file)
read_whole p s ss file bytes given shows x y before now is ends reached =
    let good = no_bad (bad_line ss file true) (over_stop (script_end (bad_line ss file true)) shows (runs_from (given + 1) p s (ahead ss file given)) ends.0) in
    subst (λ (b : List ℕ). ReachesFront before now (length b)) (is ∙ good_whole ss file good) reached

-- what a stop says of the rest, it says of the run, once the text of instant 0 was written
writes_first : (e : Extent) (stop : Stop) (text : List ℕ) (c : Course) (x y z : Option (List ℕ)) → Appends x y text → (e ≡ first_text → z ≡ y)
    → WritesTo e stop c y z → WritesTo e stop (after (text ∷ []) c) x z
writes_first first_text stop text c x y z h r s =
    (1, omega arith, subst (λ (w : Option (List ℕ)). Appends x w (all_bytes (text ∷ []))) (sym (r refl)) (appends_one x y text h))
writes_first other stop text c x y z h r s = writes_after other stop (text ∷ []) c x y z (appends_one x y text h) (λ e. cc) s

only_unread : (stop : Stop) (y z : Option (List ℕ)) → (stop ≡ Read → z ≡ y) → extent_of stop ≡ first_text → z ≡ y
only_unread Read y z unread e = unread refl
only_unread other y z unread e = cc

-- what instant 0 hands on
abbrev pub first_state : Program → State
first_state p = handed_on (instant p (beginning p) first_instant)

-- the text of instant 0, and then the course over the script
course_first : (p : Program) (stands_for : State → Type 0) (e : Standing) (later : List Shown) (x y : Option (List ℕ)) (file : List ℕ)
    → Wrote stands_for e p (instant p (beginning p) first_instant) 0 (shows_of p.body) later x y
    → program_course p file true
    ≡ after (instant_text 0 (shows_of p.body) (instant p (beginning p) first_instant).evaluated.shown ∷ []) (course_behind e.program (first_state p) (sources e.program) file 0 later)
course_first p stands_for e later x y file w =
    let text = instant_text 0 (shows_of p.body) (instant p (beginning p) first_instant).evaluated.shown in
    course_wrote 0 (script_end (bad_line (sources p) file true)) stands_for e p (beginning p) first_instant (whole (sources p) file true) (shows_of p.body) later x y w
    ∙ ap (λ (q : Program). after (text ∷ []) (course_behind e.program (first_state p) (sources q) file 0 later)) (sym w.behind.program)

-- instant 0 and the rest went to their end
pub first_ends : (p : Program) (stands_for : State → Type 0) (e : Standing) (later : List Shown) (x y z : Option (List ℕ)) (file : List ℕ)
    → Wrote stands_for e p (instant p (beginning p) first_instant) 0 (shows_of p.body) later x y
    → EndsThere None (course_behind e.program (first_state p) (sources e.program) file 0 later) y z → EndsThere None (program_course p file true) x z
first_ends p stands_for e later x y z file w ends =
    let text = instant_text 0 (shows_of p.body) (instant p (beginning p) first_instant).evaluated.shown in
    subst (λ (c : Course). EndsThere None c x z) (sym (course_first p stands_for e later x y file w))
    (ends_after None (text ∷ []) (course_behind e.program (first_state p) (sources e.program) file 0 later) x y z (appends_one x y text w.written) ends)

-- a stop behind instant 0
pub first_stops : (stop : Stop) (p : Program) (stands_for : State → Type 0) (e : Standing) (later : List Shown) (x y z : Option (List ℕ)) (file : List ℕ)
    → Wrote stands_for e p (instant p (beginning p) first_instant) 0 (shows_of p.body) later x y → (stop ≡ Read → z ≡ y)
    → StopSays stop (course_behind e.program (first_state p) (sources e.program) file 0 later) y z → StopSays stop (program_course p file true) x z
first_stops stop p stands_for e later x y z file w unread says =
    let text = instant_text 0 (shows_of p.body) (instant p (beginning p) first_instant).evaluated.shown in
    subst (λ (c : Course). StopSays stop c x z) (sym (course_first p stands_for e later x y file w))
    (writes_first (extent_of stop) stop text (course_behind e.program (first_state p) (sources e.program) file 0 later) x y z w.written (only_unread stop y z unread) says)

-- behind instant 0 alone
pub first_begins : (p : Program) (stands_for : State → Type 0) (e : Standing) (later : List Shown) (x y z : Option (List ℕ)) (file : List ℕ)
    → Wrote stands_for e p (instant p (beginning p) first_instant) 0 (shows_of p.body) later x y → z ≡ y → Begins (program_course p file true) x z
first_begins p stands_for e later x y z file w same =
    let text = instant_text 0 (shows_of p.body) (instant p (beginning p) first_instant).evaluated.shown in
    record {
      text = text;
      behind = (course_behind e.program (first_state p) (sources e.program) file 0 later).texts;
      texts = ap (λ (c : Course). c.texts) (course_first p stands_for e later x y file w);
      written = subst (λ (o : Option (List ℕ)). Appends x o text) (sym same) w.written;
    }

-- a stop within instant 0
pub stops_first : (stop : Stop) (p : Program) (shows : List Shown) (x y : Option (List ℕ)) (file : List ℕ) → shows ≡ shows_of p.body
    → StopsIn stop p (beginning p) first_instant shows x y → StopSays stop (program_course p file true) x y
stops_first stop p shows x y file same says =
    subst (λ (l : List Shown). StopsIn stop p (beginning p) first_instant l x y) same says 0 (script_end (bad_line (sources p) file true)) (whole (sources p) file true)

-- the course of an accepted program
pub over_told : (p : Program) (held : Option (List ℕ)) (F : Course → Type 0) → IfSome held (λ file. F (program_course p file true)) → IfSome (course_over held (Ok p)) F
over_told p None F k = tt
over_told p (Some file) F k = k

-- a program that isn't accepted
pub says_unaccepted : (bytes : List ℕ) (held : Option (List ℕ)) (e : AcceptStop) (x : Option (List ℕ)) → Explains bytes e
    → SaysOn (unaccepted e) (OnJudged (course_over held) (Some bytes)) (OnEachJudged (course_over held) (Some bytes)) x x
says_unaccepted bytes held (accept.Memory m) x h = on_each (course_over held) (Some bytes) _ (λ c. nothing_whole c.texts x)
says_unaccepted bytes held (accept.Refused form kind) x h =
    let v : Verdict = Err (record { form = form; kind = kind }) in
    says_judged (course_over held) bytes v (Refused form kind) x x h (refl, appends_nothing x)
