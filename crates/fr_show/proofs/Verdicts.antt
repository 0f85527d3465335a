-- A text has one verdict, and its front decides it.
use Rattle.std.proofs.Common.{ℕ, ◌≡◌, ◌≤◌, ◌+◌, List, length, take, Result, Ok, Err, refl, sym, ◌∙◌, ap, subst, arith}
use Rattle.std.proofs.lemmas.List.{length-take, take_all}
use Rattle.fr_value.specs.Grammar.{IsRefused}
use Rattle.fr_value.specs.declared.value.Datum.{Datum}
use Rattle.fr_value.proofs.Meet.{reads_one}
use Rattle.fr_core.specs.declared.program.Program.{Program}
use Rattle.fr_expand.specs.declared.refusal.Kind.TheVariants as form_kind
use Rattle.fr_expand.specs.declared.refusal.Refusal.{Refusal as FormRefusal}
use Rattle.fr_expand.specs.Expansion.{IsExpansion}
use Rattle.fr_expand.proofs.OneExpansion.{expansion_is_one}
use Rattle.fr_show.specs.declared.stop.ProgramKind.{ProgramKind}
use Rattle.fr_show.specs.declared.stop.ProgramKind.TheVariants.{Length, Text, Form, Name, Unbound, Twice, Handler, Nesting}
use Rattle.fr_show.specs.Accepted.{IsForms, IsProgram, Cause, long, unread, refused, cause_of, IsRefusedFor, IsVerdict, Verdict, Refusal}

-- the forms of a text expand in one way
expands_one : (bytes : List ℕ) (f g : List Datum) (v w : Result Program FormRefusal) → IsForms bytes f → IsForms bytes g → IsExpansion f v → IsExpansion g w → v ≡ w
expands_one bytes f g v w h k x y = expansion_is_one g v w (subst (λ ds. IsExpansion ds v) (reads_one bytes f g h.reads k.reads) x) y

abbrev program_in : Program → Result Program FormRefusal → Program
program_in p (Ok q) = q
program_in p (Err r) = p

abbrev refusal_in : FormRefusal → Result Program FormRefusal → FormRefusal
refusal_in r (Ok q) = r
refusal_in r (Err s) = s

-- a text is accepted as one program at most
program_is_one : (bytes : List ℕ) (p q : Program) → IsProgram bytes p → IsProgram bytes q → p ≡ q
program_is_one bytes p q h k = ap (program_in p) (expands_one bytes h.forms k.forms (Ok p) (Ok q) h.read k.read h.expands k.expands)

-- an accepted text isn't refused
not_refused : (bytes : List ℕ) (p : Program) (form : ℕ) (c : Cause) → IsProgram bytes p → IsRefusedFor bytes form c → ⊥
not_refused bytes p form long h k = omega (arith, h.read.short, k.1)
not_refused bytes p form unread h k = k.1.none h.forms h.read.reads
not_refused bytes p form (refused c) h k =
    let e : Path (Result Program FormRefusal) (Ok p) (Err (record { form = form; kind = c })) = expands_one bytes h.forms k.forms _ _ h.read k.read h.expands k.refused in cc

-- a text that doesn't read is refused at one form
form_is_one : (bytes : List ℕ) (n m : ℕ) → IsRefused bytes n → IsRefused bytes m → n ≡ m
form_is_one bytes n m h k =
    let a = h.before in
    let b = k.before in
    omega (arith, a.3, b.3, h.most b.0 b.1 b.2, k.most a.0 a.1 a.2)

-- a text is refused in one way
refused_one : (bytes : List ℕ) (n m : ℕ) (c d : Cause) → IsRefusedFor bytes n c → IsRefusedFor bytes m d → (n ≡ m) × (c ≡ d)
refused_one bytes n m long long h k = (h.0 ∙ sym k.0, refl)
refused_one bytes n m long unread h k = absurd (omega (arith, h.1, k.0))
refused_one bytes n m long (refused d) h k = absurd (omega (arith, h.1, k.read.short))
refused_one bytes n m unread long h k = absurd (omega (arith, h.0, k.1))
refused_one bytes n m unread unread h k = (form_is_one bytes n m h.1 k.1, refl)
refused_one bytes n m unread (refused d) h k = absurd (h.1.none k.forms k.read.reads)
refused_one bytes n m (refused c) long h k = absurd (omega (arith, h.read.short, k.1))
refused_one bytes n m (refused c) unread h k = absurd (k.1.none h.forms h.read.reads)
refused_one bytes n m (refused c) (refused d) h k =
    let r : FormRefusal = record { form = n; kind = c } in
    let e = ap (refusal_in r) (expands_one bytes h.forms k.forms (Err r) (Err (record { form = m; kind = d })) h.read k.read h.refused k.refused) in
    (ap (λ (s : FormRefusal). s.form) e, ap (λ (s : FormRefusal). refused s.kind) e)

-- the kind that tells of a cause
abbrev kind_for : Cause → ProgramKind
kind_for long = Length
kind_for unread = Text
kind_for (refused form_kind.Form) = Form
kind_for (refused form_kind.Name) = Name
kind_for (refused form_kind.Unbound) = Unbound
kind_for (refused form_kind.Twice) = Twice
kind_for (refused form_kind.Handler) = Handler
kind_for (refused form_kind.Nesting) = Nesting

kind_back : (k : ProgramKind) → kind_for (cause_of k) ≡ k
kind_back Length = refl
kind_back Text = refl
kind_back Form = refl
kind_back Name = refl
kind_back Unbound = refl
kind_back Twice = refl
kind_back Handler = refl
kind_back Nesting = refl

same_kind : (k l : ProgramKind) → cause_of k ≡ cause_of l → k ≡ l
same_kind k l e = sym (kind_back k) ∙ ap kind_for e ∙ kind_back l

same_refusal : (n m : ℕ) (k l : ProgramKind) → n ≡ m → k ≡ l → Path Refusal (record { form = n; kind = k }) (record { form = m; kind = l })
same_refusal n m k l e f = rw (e, f) refl

pub verdict_is_one : (bytes : List ℕ) (v w : Verdict) → IsVerdict bytes v → IsVerdict bytes w → v ≡ w
verdict_is_one bytes (Ok p) (Ok q) h k = ap Ok (program_is_one bytes p q h k)
verdict_is_one bytes (Ok p) (Err s) h k = absurd (not_refused bytes p s.form (cause_of s.kind) h k)
verdict_is_one bytes (Err r) (Ok q) h k = absurd (not_refused bytes q r.form (cause_of r.kind) k h)
verdict_is_one bytes (Err r) (Err s) h k =
    let e = refused_one bytes r.form s.form (cause_of r.kind) (cause_of s.kind) h k in ap Err (same_refusal r.form s.form r.kind s.kind e.0 (same_kind r.kind s.kind e.1))

-- what is at most so long is its own front
pub whole_front : (n : ℕ) (bytes : List ℕ) → length (take (n + 1) bytes) ≤ n → take (n + 1) bytes ≡ bytes
whole_front n bytes h = take_all (n + 1) bytes (omega (arith, length-take (n + 1) bytes, h))

-- a fact of a front that is short enough is one of the whole
pub on_whole : (bytes : List ℕ) (P : List ℕ → Type 0) → length (take 1048577 bytes) ≤ 1048576 → P (take 1048577 bytes) → P bytes
on_whole bytes P h k = subst P (whole_front 1048576 bytes h) k

pub refused_front : (bytes : List ℕ) (form : ℕ) (c : Cause) → IsRefusedFor (take 1048577 bytes) form c → IsRefusedFor bytes form c
refused_front bytes form long h = (h.0, omega (arith, length-take 1048577 bytes, h.1))
refused_front bytes form unread h = on_whole bytes (λ b. IsRefusedFor b form unread) h.0 h
refused_front bytes form (refused c) h = on_whole bytes (λ b. IsRefusedFor b form (refused c)) h.read.short h

-- the first 1,048,577 bytes are judged as the whole
pub judged_front : (bytes : List ℕ) (v : Verdict) → IsVerdict (take 1048577 bytes) v → IsVerdict bytes v
judged_front bytes (Ok p) h = on_whole bytes (λ b. IsProgram b p) h.read.short h
judged_front bytes (Err r) h = refused_front bytes r.form (cause_of r.kind) h

on_front : (bytes : List ℕ) (P : List ℕ → Type 0) → length bytes ≤ 1048576 → P bytes → P (take 1048577 bytes)
on_front bytes P h k = subst P (sym (take_all 1048577 bytes (omega (arith, h)))) k

refused_back : (bytes : List ℕ) (form : ℕ) (c : Cause) → IsRefusedFor bytes form c → IsRefusedFor (take 1048577 bytes) form c
refused_back bytes form long h = (h.0, omega (arith, length-take 1048577 bytes, h.1))
refused_back bytes form unread h = on_front bytes (λ b. IsRefusedFor b form unread) h.0 h
refused_back bytes form (refused c) h = on_front bytes (λ b. IsRefusedFor b form (refused c)) h.read.short h

-- the whole is judged as its first 1,048,577 bytes
pub front_judged : (bytes : List ℕ) (v : Verdict) → IsVerdict bytes v → IsVerdict (take 1048577 bytes) v
front_judged bytes (Ok p) h = on_front bytes (λ b. IsProgram b p) h.read.short h
front_judged bytes (Err r) h = refused_back bytes r.form (cause_of r.kind) h
