-- A text is judged, and the verdict leads to a course.
use Rattle.std.proofs.Common.{◌≡◌, ℕ, List, take, sym, subst, None, Some, IfSome, Option, ◌≤◌, length, ◌∙◌}
use Rattle.fr_io.specs.Files.{ReachesFront}
use Rattle.fr_core.specs.declared.program.Program.{Program as Core}
use Rattle.fr_show.specs.declared.stop.Stop.{Stop}
use Rattle.fr_show.specs.Accepted.{Verdict, IsProgram, IsVerdict, OnJudged, OnEachJudged}
use Rattle.fr_show.specs.Course.{Course}
use Rattle.fr_show.specs.Ends.{Extent, own_end, whole_texts, first_text, first_bytes, extent_of, StopSays, OnOrEach, SaysOn}
use Rattle.fr_show.proofs.Verdicts.{judged_front, front_judged, verdict_is_one, whole_front}

pub any_course : (o : Option Course) (F : Course → Type 0) → ((c : Course) → F c) → IfSome o F
any_course None F h = tt
any_course (Some c) F h = h c

-- what holds of every course holds of that of each verdict
pub on_each : (course : Verdict → Option Course) (held : Option (List ℕ)) (F : Course → Type 0) → ((c : Course) → F c) → OnEachJudged course held F
on_each course None F h = tt
on_each course (Some bytes) F h = λ v is. any_course (course v) F h

-- what holds of the course of the verdict on what was read
pub on_read : (course : Verdict → Option Course) (held : Option (List ℕ)) (bytes : List ℕ) (v : Verdict) (F : Course → Type 0)
    → IfSome held (λ file. bytes ≡ take 1048577 file) → IsVerdict bytes v → IfSome (course v) F → OnJudged course held F
on_read course None bytes v F h is k = tt
on_read course (Some file) bytes v F h is k = (v, judged_front file v (subst (λ b. IsVerdict b v) h is), k)

-- a text has one verdict, so the course of the one is that of each
pub each_of : (course : Verdict → Option Course) (held : Option (List ℕ)) (F : Course → Type 0) → OnJudged course held F → OnEachJudged course held F
each_of course None F k = tt
each_of course (Some bytes) F k = λ v is. subst (λ w. IfSome (course w) F) (verdict_is_one bytes k.0 v k.1 is) k.2

-- an accepted program was read to its end
pub read_accepted : (held : Option (List ℕ)) (bytes : List ℕ) (p : Core) (before now : Option ℕ)
    → IfSome held (λ file. bytes ≡ take 1048577 file) → IsProgram bytes p → ReachesFront before now (length bytes)
    → IfSome held (λ file. ReachesFront before now (length file))
read_accepted None bytes p before now h is k = tt
read_accepted (Some file) bytes p before now h is k =
    let short = subst (λ (b : List ℕ). length b ≤ 1048576) h is.read.short in
    subst (λ (b : List ℕ). ReachesFront before now (length b)) (h ∙ whole_front 1048576 file short) k

-- what holds of the course of the verdict on a text
judged_or_each : (e : Extent) (course : Verdict → Option Course) (bytes : List ℕ) (v : Verdict) (F : Course → Type 0) → IsVerdict bytes v → IfSome (course v) F
    → OnOrEach e (OnJudged course (Some bytes)) (OnEachJudged course (Some bytes)) F
judged_or_each own_end course bytes v F is k = (v, is, k)
judged_or_each whole_texts course bytes v F is k = each_of course (Some bytes) F (v, is, k)
judged_or_each first_text course bytes v F is k = each_of course (Some bytes) F (v, is, k)
judged_or_each first_bytes course bytes v F is k = (v, is, k)

-- a stop that says so of the course of the verdict on a text
pub says_judged : (course : Verdict → Option Course) (bytes : List ℕ) (v : Verdict) (stop : Stop) (x y : Option (List ℕ)) → IsVerdict bytes v → IfSome (course v) (λ c. StopSays stop c x y)
    → SaysOn stop (OnJudged course (Some bytes)) (OnEachJudged course (Some bytes)) x y
says_judged course bytes v stop x y is k = judged_or_each (extent_of stop) course bytes v (λ c. StopSays stop c x y) is k

-- what holds on the front of a file that was judged holds on the file
pub judged_of_front : (course : Verdict → Option Course) (held : Option (List ℕ)) (bytes : List ℕ) (F : Course → Type 0)
    → IfSome held (λ file. bytes ≡ take 1048577 file) → OnJudged course (Some bytes) F → OnJudged course held F
judged_of_front course None bytes F h k = tt
judged_of_front course (Some file) bytes F h k = (k.0, judged_front file k.0 (subst (λ b. IsVerdict b k.0) h k.1), k.2)

-- what holds on the front of a file, whatever that is judged to be, holds on the file
pub each_of_front : (course : Verdict → Option Course) (held : Option (List ℕ)) (bytes : List ℕ) (F : Course → Type 0)
    → IfSome held (λ file. bytes ≡ take 1048577 file) → OnEachJudged course (Some bytes) F → OnEachJudged course held F
each_of_front course None bytes F h k = tt
each_of_front course (Some file) bytes F h k = λ v is. k v (subst (λ b. IsVerdict b v) (sym h) (front_judged file v is))

-- what a stop says on the front of a file it says on the file
pub says_of_front : (course : Verdict → Option Course) (held : Option (List ℕ)) (bytes : List ℕ) (stop : Stop) (x y : Option (List ℕ))
    → IfSome held (λ file. bytes ≡ take 1048577 file) → SaysOn stop (OnJudged course (Some bytes)) (OnEachJudged course (Some bytes)) x y
    → SaysOn stop (OnJudged course held) (OnEachJudged course held) x y
says_of_front course held bytes stop x y h k = by (extent_of stop) (λ c. StopSays stop c x y) k
  where
    by : (e : Extent) (F : Course → Type 0) → OnOrEach e (OnJudged course (Some bytes)) (OnEachJudged course (Some bytes)) F → OnOrEach e (OnJudged course held) (OnEachJudged course held) F
    by own_end F s = judged_of_front course held bytes F h s
    by whole_texts F s = each_of_front course held bytes F h s
    by first_text F s = each_of_front course held bytes F h s
    by first_bytes F s = judged_of_front course held bytes F h s
