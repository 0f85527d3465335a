-- A command on its program's file, and a run on its script's.
use Rattle.std.proofs.Common.{◌≡◌, ◌≢◌, ◌∙◌, ◌⊎◌, inl, inr, max, true, false, ℕ, List, [], ◌∷◌, length, take, ap, sym, subst, refl, arith, rules, None, Some, Ok, Err, IfSome, OnOk, IfErr, Option, Result, codes}
use Rattle.std.specs.Io.KnownBytes.{Appends}
use Rattle.std.specs.Str.{bytes_eq}
use Rattle.std.proofs.lemmas.Slice.Eq.{bytes_eq-Decides}
use Rattle.fr_io.specs.Faults.{Rose, FailsAs, Counts, AnyRose}
use Rattle.fr_io.specs.Files.{AppendsSome, ReachesFront}
use Rattle.fr_io.specs.Shelves.{Holds, Reached, Faults, Reads}
use Rattle.fr_io.proofs.Counts as counting
use Rattle.fr_io.proofs.Shelves.{any_rose, reads_then, reads_among, reads_if}
use Rattle.fr_core.specs.declared.program.Program.{Program as Core}
use Rattle.fr_show.specs.declared.stop.Stop.{Stop}
use Rattle.fr_show.specs.declared.stop.Stop.TheVariants.{Program, Read, Write, Memory}
use Rattle.fr_show.specs.declared.acceptance.AcceptStop.{AcceptStop}
use Rattle.fr_show.specs.declared.acceptance.AcceptStop.TheVariants.{Refused, Memory as NoMemory}
use Rattle.fr_show.specs.Accepted.{IsProgram, Verdict, OnJudged, OnEachJudged}
use Rattle.fr_show.specs.Ends.{EndsThere, StopSays, SaysOn, Begins}
use Rattle.fr_show.specs.Output.{course_over}
use Rattle.fr_show.specs.Stops.{Explains, unaccepted}
use Rattle.fr_show.proofs.Courses.{appends_nothing, nothing_whole}
use Rattle.fr_show.proofs.Judged.{on_each, on_read, judged_of_front, says_of_front, read_accepted}
use Rattle.fr_cli.specs.declared.telling.Failure.{Failure}
use Rattle.fr_cli.specs.declared.telling.Failure.TheVariants.{Usage, Stopped}
use Rattle.fr_cli.specs.Command.{Command, script_command, check, checked, AllRead, IsAmong}
use Rattle.fr_cli.specs.Lines.{status_of}
use Rattle.fr_cli.specs.Obeyed.{IsUnread, Obeys, failed}

-- among more files than the first
pub first_alone : {first : List ℕ} {more : List (List ℕ)} {fault : Type 0} {h0 h1 : Holds} {r0 r1 : Reached} {c0 c1 : Faults}
    → Reads (first ∷ []) fault h0 h1 r0 r1 c0 c1 → Reads (first ∷ more) fault h0 h1 r0 r1 c0 c1
first_alone s = reads_among (λ name a. (a.0, tt)) (λ r. elim r [ inl p ↦ inl p | inr b ↦ absurd b ]) s

only : (a : List ℕ) (before now : Faults) → AnyRose (a ∷ []) before now → Rose (before a) (now a)
only a before now (inl h) = h
only a before now (inr h) = absurd h

-- a stop that a failure stands for
same_stop : (a b : Stop) → Stopped a ≡ Stopped b → a ≡ b
same_stop a b e = ap (stop_in a) e
  where
    stop_in : Stop → Failure → Stop
    stop_in s Usage = s
    stop_in s (Stopped t) = t

-- the reads of a call, whose fault is a failure of the command
reads_failed : {names : List (List ℕ)} {h0 h1 : Holds} {r0 r1 : Reached} {c0 c1 : Faults} (stop : Stop)
    → Reads names (stop ≡ Read) h0 h1 r0 r1 c0 c1 → Reads names (Stopped stop ≡ Stopped Read) h0 h1 r0 r1 c0 c1
reads_failed stop s = reads_if (same_stop stop Read) (λ e. ap Stopped e) s

-- a program's file couldn't be read
pub unread : {T : Type 0} (w : Command) (stop : Stop) (h0 h1 : Holds) (r0 r1 : Reached) (c0 c1 : Faults) (x : Option (List ℕ)) (f : ℕ)
    → IsUnread stop → IsAmong 6 w.statuses → IsAmong 8 w.statuses → Reads (w.program ∷ []) (stop ≡ Read) h0 h1 r0 r1 c0 c1
    → Obeys {T = T} (Some w) (Err (Stopped stop)) h0 h1 r0 r1 c0 c1 x x f f
unread w Read h0 h1 r0 r1 c0 c1 x f is six eight s = record {
  ok = tt;
  err = on_each (w.course h0) (h0 w.program) _ (λ c. nothing_whole (take 1 c.texts) x);
  to_end = tt;
  unread = λ e. inl (only w.program c0 c1 (s.rises refl), appends_nothing x);
  shelf = first_alone (reads_failed Read s);
  counts = counting.stays _ f f (λ e. absurd (cc)) refl;
  answers = six;
  usage = (λ e. absurd (cc), λ e. absurd (cc));
  quiet = λ q not. appends_nothing x;
}
unread w (Memory m) h0 h1 r0 r1 c0 c1 x f is six eight s = record {
  ok = tt;
  err = on_each (w.course h0) (h0 w.program) _ (λ c. nothing_whole c.texts x);
  to_end = tt;
  unread = λ e. absurd (cc);
  shelf = first_alone (reads_failed (Memory m) s);
  counts = counting.stays _ f f (λ e. absurd (cc)) refl;
  answers = eight;
  usage = (λ e. absurd (cc), λ e. absurd (cc));
  quiet = λ q not. appends_nothing x;
}
unread w other h0 h1 r0 r1 c0 c1 x f is six eight s = absurd is

-- what a session leaves
pub record Session {T : Type 0} (answer : Result T Stop) (text script : List ℕ) (h0 h1 : Holds) (r0 r1 : Reached) (c0 c1 : Faults) (x y : Option (List ℕ)) (f g : ℕ) : Type 0 where
  pub ok : OnOk answer (OnJudged (course_over (h0 script)) (Some text) (λ c. EndsThere None c x y))
  pub err : IfErr answer (λ stop. SaysOn stop (OnJudged (course_over (h0 script)) (Some text)) (OnEachJudged (course_over (h0 script)) (Some text)) x y)
  pub to_end : OnOk answer (IfSome (h0 script) (λ file. ReachesFront (r0 script) (r1 script) (length file)))
  pub began : FailsAs answer Read → (any : Option (List ℕ)) → OnJudged (course_over any) (Some text) (λ c. Begins c x y)
  pub shelf : Reads (script ∷ []) (FailsAs answer Read) h0 h1 r0 r1 c0 c1
  pub counts : Counts (FailsAs answer Write) f g

same_or_not : (a b : List ℕ) → (a ≡ b) ⊎ (a ≢ b)
same_or_not a b = by (bytes_eq a b) refl
  where
    by : (t : _) → bytes_eq a b ≡ t → (a ≡ b) ⊎ (a ≢ b)
    by true e = inl ((bytes_eq-Decides a b).0 e)
    by false e = inr (λ same. let h = (bytes_eq-Decides a b).1 same in cc)

reached_twice : (a b c : Option ℕ) (n : ℕ) → ReachesFront a b n → ReachesFront b c n → ReachesFront a c n
reached_twice None b c n h k = tt
reached_twice (Some r) b c n h k = subst (λ (o : Option ℕ). ReachesFront o c n) h k ∙ ap Some (let e : max (max r n) n ≡ max r n = omega arith in e)

told_twice : (o : Option (List ℕ)) (a b c : Option ℕ) → IfSome o (λ file. ReachesFront a b (length file)) → IfSome o (λ file. ReachesFront b c (length file))
    → IfSome o (λ file. ReachesFront a c (length file))
told_twice None a b c h k = tt
told_twice (Some file) a b c h k = reached_twice a b c (length file) h k

-- a course over a script that goes to its end is that of an accepted program
accepted : (o : Option (List ℕ)) (text : List ℕ) (x y : Option (List ℕ)) → OnJudged (course_over o) (Some text) (λ c. EndsThere None c x y) → (p : Core) × IsProgram text p
accepted o text x y (Ok p, is, k) = (p, is)
accepted o text x y (Err r, is, k) = absurd (let e = k.0 in cc)

-- both files were read to their ends, whether they are two or one
both_read : (program script : List ℕ) (h : Holds) (r0 r1 r2 : Reached) → (script ≡ program) ⊎ (script ≢ program)
    → ((name : List ℕ) → name ≢ program → r1 name ≡ r0 name) → ((name : List ℕ) → name ≢ script → r2 name ≡ r1 name)
    → IfSome (h program) (λ file. ReachesFront (r0 program) (r1 program) (length file))
    → IfSome (h script) (λ file. ReachesFront (r1 script) (r2 script) (length file))
    → AllRead (program ∷ script ∷ []) h r0 r2
both_read program script h r0 r1 r2 (inr two) first second p s = (
  subst (λ (o : Option ℕ). IfSome (h program) (λ file. ReachesFront (r0 program) o (length file))) (sym (second program (λ e. two (sym e)))) p,
  (subst (λ (o : Option ℕ). IfSome (h script) (λ file. ReachesFront o (r2 script) (length file))) (first script two) s, tt),
)
both_read program script h r0 r1 r2 (inl one) first second p s =
    let again = subst (λ (n : List ℕ). IfSome (h n) (λ file. ReachesFront (r1 n) (r2 n) (length file))) one s in
    let all = told_twice (h program) (r0 program) (r1 program) (r2 program) p again in
    (all, (subst (λ (n : List ℕ). IfSome (h n) (λ file. ReachesFront (r0 n) (r2 n) (length file))) (sym one) all, tt))

run_answers : (stop : Stop) → IsAmong (status_of (Stopped stop)) (0 ∷ 2 ∷ 3 ∷ 4 ∷ 6 ∷ 7 ∷ 8 ∷ [])
run_answers Read = search rules
run_answers other = search rules

-- a session behind the reading of the program
pub ran : {T : Type 0} (word program script text : List ℕ) (answer : Result T Stop) (h0 h1 h2 : Holds) (r0 r1 r2 : Reached) (c0 c1 c2 : Faults) (x y : Option (List ℕ)) (f g : ℕ)
    → IfSome (h0 program) (λ file. text ≡ take 1048577 file) → ReachesFront (r0 program) (r1 program) (length text)
    → Reads (program ∷ []) ⊥ h0 h1 r0 r1 c0 c1 → Session answer text script h1 h2 r1 r2 c1 c2 x y f g
    → Obeys (Some (script_command word program script)) (failed answer) h0 h2 r0 r2 c0 c2 x y f g
ran word program script text (Ok t) h0 h1 h2 r0 r1 r2 c0 c1 c2 x y f g bytes reached s k =
    let isp = accepted (h1 script) text x y k.ok in
    record {
      ok = judged_of_front (course_over (h0 script)) (h0 program) text (λ c. EndsThere None c x y) bytes
          (subst (λ (o : Option (List ℕ)). OnJudged (course_over o) (Some text) (λ c. EndsThere None c x y)) (s.files script) k.ok);
      err = tt;
      to_end = both_read program script h0 r0 r1 r2 (same_or_not script program) (λ name ne. s.unread name (ne, tt)) (λ name ne. k.shelf.unread name (ne, tt))
          (read_accepted (h0 program) text isp.0 (r0 program) (r1 program) bytes isp.1 reached)
          (subst (λ (o : Option (List ℕ)). IfSome o (λ file. ReachesFront (r1 script) (r2 script) (length file))) (s.files script) k.to_end);
      unread = λ e. absurd e;
      shelf = reads_then (first_alone s) (λ b. b) (reads_among (λ name a. (a.1.0, tt)) inr k.shelf);
      counts = k.counts;
      answers = inl refl;
      usage = (λ e. absurd e, λ e. absurd (cc));
      quiet = λ q. absurd (cc);
    }
ran word program script text (Err stop) h0 h1 h2 r0 r1 r2 c0 c1 c2 x y f g bytes reached s k = record {
  ok = tt;
  err = says_of_front (course_over (h0 script)) (h0 program) text stop x y bytes
      (subst (λ (o : Option (List ℕ)). SaysOn stop (OnJudged (course_over o) (Some text)) (OnEachJudged (course_over o) (Some text)) x y) (s.files script) k.err);
  to_end = tt;
  unread = λ e. inr (
    any_rose (script ∷ []) c0 c1 c2 (s.stays (λ b. b)) (k.shelf.rises (same_stop stop Read e)),
    λ any. judged_of_front (course_over (any script)) (h0 program) text (λ c. Begins c x y) bytes (k.began (same_stop stop Read e) (any script)),
  );
  shelf = reads_then (first_alone s) (λ b. b) (reads_among (λ name a. (a.1.0, tt)) inr (reads_failed stop k.shelf));
  counts = counting.counts_if (same_stop stop Write) (λ e. ap Stopped e) k.counts;
  answers = run_answers stop;
  usage = (λ e. absurd (cc), λ e. absurd (cc));
  quiet = λ q. absurd (cc);
}

-- a program that isn't accepted, under `check`
pub told_refused : {T : Type 0} (program text : List ℕ) (e : AcceptStop) (h0 h1 : Holds) (r0 r1 : Reached) (c0 c1 : Faults) (x : Option (List ℕ)) (f : ℕ)
    → IfSome (h0 program) (λ file. text ≡ take 1048577 file) → Explains text e → Reads (program ∷ []) ⊥ h0 h1 r0 r1 c0 c1
    → Obeys {T = T} (Some (check program)) (Err (Stopped (unaccepted e))) h0 h1 r0 r1 c0 c1 x x f f
told_refused program text (NoMemory m) h0 h1 r0 r1 c0 c1 x f bytes is s =
    unread (check program) (Memory m) h0 h1 r0 r1 c0 c1 x f tt (search rules) (search rules) (reads_if (λ e. absurd (cc)) (λ b. absurd b) s)
told_refused program text (Refused form kind) h0 h1 r0 r1 c0 c1 x f bytes is s =
    let v : Verdict = Err (record { form = form; kind = kind }) in
    record {
      ok = tt;
      err = on_read checked (h0 program) text v (λ c. StopSays (Program form kind) c x x) bytes is (refl, appends_nothing x);
      to_end = tt;
      unread = λ e. absurd (cc);
      shelf = reads_if (λ e. absurd (cc)) (λ b. absurd b) s;
      counts = counting.stays _ f f (λ e. absurd (cc)) refl;
      answers = search rules;
      usage = (λ e. absurd (cc), λ e. absurd (cc));
      quiet = λ q not. appends_nothing x;
    }

-- an accepted program that was told
pub told_whole : {T : Type 0} (program text : List ℕ) (t : T) (p : Core) (h0 h1 : Holds) (r0 r1 : Reached) (c0 c1 : Faults) (x y : Option (List ℕ)) (f g : ℕ)
    → IfSome (h0 program) (λ file. text ≡ take 1048577 file) → ReachesFront (r0 program) (r1 program) (length text) → IsProgram text p
    → Reads (program ∷ []) ⊥ h0 h1 r0 r1 c0 c1 → Appends x y (codes "accepted\n") → g ≡ f
    → Obeys (Some (check program)) (Ok t) h0 h1 r0 r1 c0 c1 x y f g
told_whole program text t p h0 h1 r0 r1 c0 c1 x y f g bytes reached is s w stay = record {
  ok = on_read checked (h0 program) text (Ok p) (λ c. EndsThere None c x y) bytes is (refl, w);
  err = tt;
  to_end = (read_accepted (h0 program) text p (r0 program) (r1 program) bytes is reached, tt);
  unread = λ e. absurd e;
  shelf = s;
  counts = counting.stays ⊥ f g (λ b. b) stay;
  answers = inl refl;
  usage = (λ e. absurd e, λ e. absurd (cc));
  quiet = λ q not. tt;
}

-- one whose telling failed
pub told_cut : {T : Type 0} (program text : List ℕ) (p : Core) (h0 h1 : Holds) (r0 r1 : Reached) (c0 c1 : Faults) (x y : Option (List ℕ)) (f g : ℕ)
    → IfSome (h0 program) (λ file. text ≡ take 1048577 file) → IsProgram text p
    → Reads (program ∷ []) ⊥ h0 h1 r0 r1 c0 c1 → AppendsSome x y (codes "accepted\n") → Counts (true ≡ true) f g
    → Obeys {T = T} (Some (check program)) (Err (Stopped Write)) h0 h1 r0 r1 c0 c1 x y f g
told_cut program text p h0 h1 r0 r1 c0 c1 x y f g bytes is s w rose = record {
  ok = tt;
  err = on_read checked (h0 program) text (Ok p) (λ c. StopSays Write c x y) bytes is w;
  to_end = tt;
  unread = λ e. absurd (cc);
  shelf = reads_if (λ e. absurd (cc)) (λ b. absurd b) s;
  counts = counting.counts_if (λ e. refl) (λ e. refl) rose;
  answers = search rules;
  usage = (λ e. absurd (cc), λ e. absurd (cc));
  quiet = λ q not. absurd (not refl);
}
