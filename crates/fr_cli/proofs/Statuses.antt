-- What a status says, by the failure that it stands for.
use Rattle.std.proofs.Common.{◌≡◌, ◌⊎◌, inl, inr, ◌∙◌, ℕ, ◌≤◌, List, length, take, drop, ap, sym, refl, subst, arith, None, Some, IfSome, Option}
use Rattle.std.proofs.lemmas.List.{take_all, length-take, take-append-le, take-append-drop}
use Rattle.std.specs.Io.KnownBytes.{Appends}
use Rattle.fr_io.specs.Files.{AppendsSome}
use Rattle.fr_io.specs.Shelves.{Holds}
use Rattle.fr_show.specs.declared.stop.Stop.{Stop}
use Rattle.fr_show.specs.declared.stop.Stop.TheVariants.{Script, Evaluation, Program, Read, Write, Memory}
use Rattle.fr_show.specs.Accepted.{Verdict, OnJudged, OnEachJudged}
use Rattle.fr_show.specs.Course.{Course, all_bytes}
use Rattle.fr_show.specs.Ends.{Extent, own_end, whole_texts, first_text, first_bytes, extent_of, WritesTo, StopSays, OnOrEach, EndsThere, AppendsWhole, RefusesProgram, RefusesScript, Errs}
use Rattle.fr_show.proofs.Judged.{each_of}
use Rattle.fr_cli.specs.declared.telling.Failure.{Failure}
use Rattle.fr_cli.specs.declared.telling.Failure.TheVariants.{Usage, Stopped}
use Rattle.fr_cli.specs.Command.{Command, OnCommand, OnEachCommand, WritesWhole}
use Rattle.fr_cli.specs.Lines.{status_of, status_of_end, FailureSays, CallsFor}

some_map : (o : Option Course) (F G : Course → Type 0) → ((c : Course) → F c → G c) → IfSome o F → IfSome o G
some_map None F G h k = tt
some_map (Some c) F G h k = h c k

judged_map : (course : Verdict → Option Course) (held : Option (List ℕ)) (F G : Course → Type 0) → ((c : Course) → F c → G c)
    → OnJudged course held F → OnJudged course held G
judged_map course None F G h k = tt
judged_map course (Some bytes) F G h k = (k.0, k.1, some_map (course k.0) F G h k.2)

-- what follows of a course follows of that of a command
on_map : (w : Option Command) (holds : Holds) (F G : Course → Type 0) → ((c : Course) → F c → G c) → OnCommand w holds F → OnCommand w holds G
on_map None holds F G h k = k
on_map (Some c) holds F G h k = judged_map (c.course holds) (holds c.program) F G h k

each_map : (course : Verdict → Option Course) (held : Option (List ℕ)) (F G : Course → Type 0) → ((c : Course) → F c → G c)
    → OnEachJudged course held F → OnEachJudged course held G
each_map course None F G h k = tt
each_map course (Some bytes) F G h k = λ v is. some_map (course v) F G h (k v is)

-- what follows of whole texts follows of each course of a command
each_whole : (w : Option Command) (holds : Holds) (x y : Option (List ℕ)) (F : Course → Type 0) → ((c : Course) → F c → AppendsWhole x y c.texts)
    → OnEachCommand w holds F → WritesWhole w holds x y
each_whole None holds x y F h k = absurd k
each_whole (Some c) holds x y F h k = each_map (c.course holds) (holds c.program) F (λ d. AppendsWhole x y d.texts) h k

on_to_each : (w : Option Command) (holds : Holds) (F : Course → Type 0) → OnCommand w holds F → OnEachCommand w holds F
on_to_each None holds F k = k
on_to_each (Some c) holds F k = each_of (c.course holds) (holds c.program) F k

-- what a status says of the course
pub says_program : (f : Failure) (w : Option Command) (holds : Holds) (x y : Option (List ℕ)) → status_of f ≡ 2 → FailureSays f w holds x y
    → OnCommand w holds (λ c. RefusesProgram c x y)
says_program (Stopped (Program form kind)) w holds x y e s = on_map w holds (λ c. StopSays (Program form kind) c x y) (λ c. RefusesProgram c x y) (λ c h. (form, kind, h)) s
says_program other w holds x y e s = absurd (omega (arith, e))

pub says_script : (f : Failure) (w : Option Command) (holds : Holds) (x y : Option (List ℕ)) → status_of f ≡ 3 → FailureSays f w holds x y
    → OnCommand w holds (λ c. RefusesScript c x y)
says_script (Stopped (Script line kind)) w holds x y e s = on_map w holds (λ c. StopSays (Script line kind) c x y) (λ c. RefusesScript c x y) (λ c h. (line, kind, h)) s
says_script other w holds x y e s = absurd (omega (arith, e))

pub says_errs : (f : Failure) (w : Option Command) (holds : Holds) (x y : Option (List ℕ)) → status_of f ≡ 4 → FailureSays f w holds x y
    → OnCommand w holds (λ c. Errs c x y)
says_errs (Stopped (Evaluation time)) w holds x y e s = on_map w holds (λ c. StopSays (Evaluation time) c x y) (λ c. Errs c x y) (λ c h. (time, h)) s
says_errs other w holds x y e s = absurd (omega (arith, e))

-- what a write fault says
pub says_cut : (f : Failure) (w : Option Command) (holds : Holds) (x y : Option (List ℕ)) → status_of f ≡ 7 → FailureSays f w holds x y
    → OnCommand w holds (λ c. AppendsSome x y (all_bytes c.texts))
says_cut (Stopped Write) w holds x y e s = s
says_cut other w holds x y e s = absurd (omega (arith, e))

-- all texts are a whole number of them
all_whole : (c : Course) (x y : Option (List ℕ)) → Appends x y (all_bytes c.texts) → AppendsWhole x y c.texts
all_whole c x y h = (length c.texts, omega arith, subst (λ (ts : List (List ℕ)). Appends x y (all_bytes ts)) (sym (take_all (length c.texts) c.texts (omega arith))) h)

take_first : (ts : List (List ℕ)) (k : ℕ) → k ≤ length (take 1 ts) → take k (take 1 ts) ≡ take k ts
take_first ts k le = sym (take-append-le k (take 1 ts) (drop 1 ts) le) ∙ ap (λ (us : List (List ℕ)). take k us) (take-append-drop 1 ts)

first_whole : (c : Course) (x y : Option (List ℕ)) → AppendsWhole x y (take 1 c.texts) → AppendsWhole x y c.texts
first_whole c x y (k, le, h) =
    (k, omega (arith, length-take 1 c.texts, le), subst (λ (us : List (List ℕ)). Appends x y (all_bytes us)) (take_first c.texts k le) h)

pub done_whole : (end : Option Stop) (w : Option Command) (holds : Holds) (x y : Option (List ℕ)) → OnCommand w holds (λ c. EndsThere end c x y) → WritesWhole w holds x y
done_whole end w holds x y s = each_whole w holds x y (λ c. EndsThere end c x y) (λ c h. all_whole c x y h.1) (on_to_each w holds (λ c. EndsThere end c x y) s)

-- a stop but for a write fault says that whole texts were written
stop_whole : (e : Extent) (stop : Stop) (w : Option Command) (holds : Holds) (x y : Option (List ℕ)) → (e ≡ first_bytes → ⊥)
    → OnOrEach e (OnCommand w holds) (OnEachCommand w holds) (λ c. WritesTo e stop c x y) → WritesWhole w holds x y
stop_whole own_end stop w holds x y other s = done_whole (Some stop) w holds x y s
stop_whole whole_texts stop w holds x y other s = each_whole w holds x y (λ c. AppendsWhole x y c.texts) (λ c h. h) s
stop_whole first_text stop w holds x y other s = each_whole w holds x y (λ c. AppendsWhole x y (take 1 c.texts)) (λ c h. first_whole c x y h) s
stop_whole first_bytes stop w holds x y other s = absurd (other refl)

only_write : (stop : Stop) → (status_of (Stopped stop) ≡ 7 → ⊥) → extent_of stop ≡ first_bytes → ⊥
only_write Write other e = other refl
only_write stop other e = cc

pub says_whole : (f : Failure) (w : Option Command) (holds : Holds) (x y : Option (List ℕ)) → (status_of f ≡ 7 → ⊥) → FailureSays f w holds x y → WritesWhole w holds x y
says_whole Usage w holds x y other s = subst (λ (v : Option Command). WritesWhole v holds x y) (sym s.0) s.1
says_whole (Stopped stop) w holds x y other s = stop_whole (extent_of stop) stop w holds x y (only_write stop other) s

-- a course that ends so calls for the status of that end
pub done_complete : (n : ℕ) (end : Option Stop) (w : Option Command) (holds : Holds) (x y : Option (List ℕ)) → n ≡ status_of_end end → OnCommand w holds (λ c. EndsThere end c x y)
    → CallsFor w holds n ⊎ (n ≡ 8)
done_complete n end None holds x y e s = absurd s
done_complete n end (Some c) holds x y e s =
    inl (judged_map (c.course holds) (holds c.program) (λ d. EndsThere end d x y) (λ d. n ≡ status_of_end d.stop) (λ d h. e ∙ ap status_of_end (sym h.0)) s)

-- a failure that is no fault is the one that the words call for, or want of memory
pub says_complete : (f : Failure) (w : Option Command) (holds : Holds) (x y : Option (List ℕ)) → (status_of f ≡ 6 → ⊥) → (status_of f ≡ 7 → ⊥) → FailureSays f w holds x y
    → CallsFor w holds (status_of f) ⊎ (status_of f ≡ 8)
says_complete Usage w holds x y read write s = inl (subst (λ (v : Option Command). CallsFor v holds 1) (sym s.0) refl)
says_complete (Stopped Read) w holds x y read write s = absurd (read refl)
says_complete (Stopped Write) w holds x y read write s = absurd (write refl)
says_complete (Stopped (Memory m)) w holds x y read write s = inr refl
says_complete (Stopped stop) w holds x y read write s = done_complete (status_of (Stopped stop)) (Some stop) w holds x y refl s

-- the failure that a status stands for
pub is_read : (f : Failure) → status_of f ≡ 6 → f ≡ Stopped Read
is_read (Stopped Read) e = refl
is_read other e = absurd (omega (arith, e))

pub is_write : (f : Failure) → status_of f ≡ 7 → f ≡ Stopped Write
is_write (Stopped Write) e = refl
is_write other e = absurd (omega (arith, e))

pub is_usage : (f : Failure) → status_of f ≡ 1 → f ≡ Usage
is_usage Usage e = refl
is_usage (Stopped Read) e = absurd (omega (arith, e))
is_usage (Stopped other) e = absurd (omega (arith, e))
