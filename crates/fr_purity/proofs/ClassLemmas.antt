-- What is left after the removals are the closed functions and the pure functions.
use Rattle.std.proofs.Common.{ℕ, zero, suc, ◌≡◌, ◌+◌, ◌<◌, ◌≤◌, ◌↔◌, IsTrue, Bool, true, false, ◌&&◌, List, [], ◌∷◌, inl, inr, length, map, get_or, slice_get, Some, refl, sym, ap, ◌∙◌, subst, arith, lt-ltb, ltb-true, zero-add}
use Rattle.std.proofs.lemmas.Bool.{and_parts, and_from, cases_lt, both_ways}
use Rattle.std.proofs.lemmas.List.{get_or_past, length-map}
use Rattle.std.proofs.lemmas.Option.{get_or_from_slice_get, slice_get-map, slice_get_cases, slice_get_within}
use Rattle.std.specs.Option.{option_map}
use Rattle.fr_core.specs.Classes.{FunctionSet, names_only, calls_of, ClosedOver, IsClosed, PureOver, FitsPure, IsPure, IsPureExpr, IsFitExpr}
use Rattle.fr_core.specs.declared.core_form.Core.{Core}
use Rattle.fr_core.specs.declared.program.Function.{Function}
use Rattle.fr_core.specs.declared.program.Program.{Program}
use Rattle.fr_purity.specs.Calls.{calls}
use Rattle.fr_purity.specs.Judgements.{pure_bodies}
use Rattle.fr_purity.specs.Marks.{set_of, below, AreClasses}
use Rattle.fr_purity.specs.Removal.{has, list_at, called_by, AreCallers, CallsMembers, IsWithin, IsGreatest}
use Rattle.fr_purity.proofs.Parts.{pure_in, fit_in}
use Rattle.fr_purity.proofs.Splits.{names_over, names_members, pure_over, pure_members, fit_grows}

-- an item within the list is there
there : {A : Type 0} (xs : List A) (i : ℕ) → i < length xs → (x : A) × (slice_get xs i ≡ Some x)
there xs i h = elim (slice_get_cases xs i).1 [ inl is ↦ (is.0, is.2) | inr past ↦ absurd (omega (arith, past.0, h)) ]

mapped_at : {A B : Type 0} (f : A → B) (xs : List A) (i : ℕ) (x : A) (d : B) → slice_get xs i ≡ Some x → get_or (map f xs) i d ≡ f x
mapped_at f xs i x d h = get_or_from_slice_get (map f xs) i (f x) d (slice_get-map f xs i ∙ ap (option_map f) h)

-- what is marked is within the list
marked_within : (marks : List Bool) (f : ℕ) → set_of marks f ≡ true → f < length marks
marked_within marks f h = elim (cases_lt f (length marks)) [ inl short ↦ short | inr past ↦ absurd (both_ways (set_of marks f) (get_or_past marks f false past) h) ]

nothing_at : (xss : List (List ℕ)) (n m : ℕ) → length xss ≤ n → has (list_at xss n) m ≡ false
nothing_at xss n m h = ap (λ l. has l m) (get_or_past xss n [] h)

-- a member's function, which calls members alone
pub record MemberCalls (p : Program) (s : FunctionSet) (f : ℕ) : Type 0 where
  pub function : Function
  pub stands : slice_get p.functions f ≡ Some function
  pub called : (n : ℕ) → has (calls function.body) n ≡ true → s n ≡ true

-- where each member's body calls members alone, members call members alone
members_call : (p : Program) (callers : List (List ℕ)) (s : FunctionSet) → AreCallers (called_by p.functions) callers → ((f : ℕ) → s f ≡ true → MemberCalls p s f) → CallsMembers callers s
members_call p callers s table h = record {
  called = λ f g marked calls_g. elim (cases_lt g (length callers)) [
    | inr past ↦ absurd (both_ways (has (list_at callers g) f) (nothing_at callers g f past) calls_g)
    | inl short ↦
        let m = h f marked in
        let there_g : g < length (called_by p.functions) = subst (λ n. g < n) table.one_for_each short in
        m.called g (ap (λ l. has l g) (sym (mapped_at (λ w. calls w.body) p.functions f m.function [] m.stands)) ∙ (sym (table.members f g there_g) ∙ calls_g))
  ];
}

-- where members call members alone, a member's body does, if it calls functions of the program alone
body_calls : (p : Program) (callers : List (List ℕ)) (s : FunctionSet) (f : ℕ) (function : Function) → AreCallers (called_by p.functions) callers → CallsMembers callers s → slice_get p.functions f ≡ Some function
    → s f ≡ true → ((n : ℕ) → has (calls function.body) n ≡ true → n < length p.functions) → (n : ℕ) → has (calls function.body) n ≡ true → s n ≡ true
body_calls p callers s f function table members stands marked short n h =
    let low : n < length (called_by p.functions) = subst (λ k. n < k) (sym (length-map p.functions (λ w. calls w.body))) (short n h) in
    members.called f n marked (table.members f n low ∙ (ap (λ l. has l n) (mapped_at (λ w. calls w.body) p.functions f function [] stands) ∙ h))

-- the closed functions

pub closed_left : (p : Program) (callers : List (List ℕ)) (first kept : List Bool) → AreCallers (called_by p.functions) callers → first ≡ map (λ f. names_only (below (length p.functions)) f.body) p.functions
    → length kept ≡ length first → IsGreatest callers (set_of first) (set_of kept) → (f : ℕ) → IsTrue (set_of kept f) ↔ IsClosed p f
closed_left p callers first kept table first_is size greatest f =
    let s = set_of kept in
    let functions = p.functions in
    let known = below (length functions) in
    let first_at : (g : ℕ) (w : Function) → slice_get functions g ≡ Some w → set_of first g ≡ names_only known w.body
    = λ g w h. ap (λ l. set_of l g) first_is ∙ mapped_at (λ v. names_only known v.body) functions g w false h in
    let fits : (g : ℕ) → s g ≡ true → ClosedOver p s g = λ g h.
    let low : g < length functions = omega (arith, marked_within kept g h, size, ap length first_is, length-map functions (λ v. names_only known v.body)) in
    let w = there functions g low in
    let names : names_only known w.0.body ≡ true = sym (first_at g w.0 w.1) ∙ greatest.within g h in
    record {
      function = w.0;
      stands = w.1;
      body = names_over known s w.0.body names (body_calls p callers s g w.0 table greatest.closed w.1 h (λ n k. ltb-true n (length functions) (names_members known w.0.body n names k)));
    } in (
      (λ h. record { set = s; fits = record { fits = fits }; member = h }),
      (λ c.
          let within : IsWithin c.set (set_of first) = λ g h.
          let o = c.fits.fits g h in
          first_at g o.function o.stands ∙ names_over c.set known o.function.body o.body (λ n k.
          let q = c.fits.fits n (names_members c.set o.function.body n o.body k) in lt-ltb n (length functions) (slice_get_within functions n q.function q.stands)) in
          let calls_own : (g : ℕ) → c.set g ≡ true → MemberCalls p c.set g = λ g h.
          let o = c.fits.fits g h in record { function = o.function; stands = o.stands; called = λ n k. names_members c.set o.function.body n o.body k } in
          greatest.greatest c.set within (members_call p callers c.set table calls_own) f c.member),
    )

-- the pure functions

pure_bodies_at : (p : Program) (s : FunctionSet) (n : ℕ) (fs : List Function) (i : ℕ) (w : Function) → slice_get fs i ≡ Some w → set_of (pure_bodies p s n fs) i ≡ s (n + i) && pure_in (calls_of p s) w.body
pure_bodies_at p s n [] i w h = absurd cc
pure_bodies_at p s n (f ∷ fs) zero w h =
    let same : f ≡ w = cc in
    let e : n ≡ n + 0 = omega arith in
    ap (λ v. s n && pure_in (calls_of p s) v.body) same ∙ ap (λ k. s k && pure_in (calls_of p s) w.body) e
pure_bodies_at p s n (f ∷ fs) (suc i) w h =
    let e : n + 1 + i ≡ n + suc i = omega arith in
    pure_bodies_at p s (n + 1) fs i w h ∙ ap (λ k. s k && pure_in (calls_of p s) w.body) e

pub length-pure_bodies : (p : Program) (s : FunctionSet) (n : ℕ) (fs : List Function) → length (pure_bodies p s n fs) ≡ length fs
length-pure_bodies p s n [] = refl
length-pure_bodies p s n (f ∷ fs) = ap (λ k. suc k) (length-pure_bodies p s (n + 1) fs)

pub pure_left : (p : Program) (callers : List (List ℕ)) (closed first kept : List Bool) → AreCallers (called_by p.functions) callers → length closed ≡ length p.functions
    → ((f : ℕ) → IsTrue (set_of closed f) ↔ IsClosed p f) → first ≡ pure_bodies p (set_of closed) 0 p.functions → length kept ≡ length first → IsGreatest callers (set_of first) (set_of kept)
    → (f : ℕ) → IsTrue (set_of kept f) ↔ IsPure p f
pure_left p callers closed first kept table closed_size is_closed first_is size greatest f =
    let s = set_of kept in
    let k = set_of closed in
    let functions = p.functions in
    let first_at : (g : ℕ) (w : Function) → slice_get functions g ≡ Some w → set_of first g ≡ k g && pure_in (calls_of p k) w.body
    = λ g w h. ap (λ l. set_of l g) first_is ∙ (pure_bodies_at p k 0 functions g w h ∙ ap (λ m. k m && pure_in (calls_of p k) w.body) (zero-add g)) in
    let fits : (g : ℕ) → s g ≡ true → PureOver p s g = λ g h.
    let low : g < length functions = omega (arith, marked_within kept g h, size, ap length first_is, length-pure_bodies p k 0 functions) in
    let w = there functions g low in
    let both = and_parts (k g) (pure_in (calls_of p k) w.0.body) (sym (first_at g w.0 w.1) ∙ greatest.within g h) in
    record {
      closed = (is_closed g).0 both.0;
      function = w.0;
      stands = w.1;
      body = pure_over p k s w.0.body both.1 (body_calls p callers s g w.0 table greatest.closed w.1 h (λ n m. subst (λ l. n < l) closed_size (marked_within closed n (pure_members p k w.0.body n both.1 m))));
    } in (
      (λ h. record { set = s; fits = record { fits = fits }; member = h }),
      (λ c.
          let within : IsWithin c.set (set_of first) = λ g h.
          let o = c.fits.fits g h in
          first_at g o.function o.stands ∙ and_from (k g) (pure_in (calls_of p k) o.function.body) ((is_closed g).1 o.closed)
          (pure_over p c.set k o.function.body o.body (λ n m. (is_closed n).1 (c.fits.fits n (pure_members p c.set o.function.body n o.body m)).closed)) in
          let calls_own : (g : ℕ) → c.set g ≡ true → MemberCalls p c.set g = λ g h.
          let o = c.fits.fits g h in record { function = o.function; stands = o.stands; called = λ n m. pure_members p c.set o.function.body n o.body m } in
          greatest.greatest c.set within (members_call p callers c.set table calls_own) f c.member),
    )

-- what is left of both are the classes
pub classified : (p : Program) (callers : List (List ℕ)) (sourceless closed judged pure : List Bool) → AreCallers (called_by p.functions) callers
    → sourceless ≡ map (λ f. names_only (below (length p.functions)) f.body) p.functions → length closed ≡ length sourceless → IsGreatest callers (set_of sourceless) (set_of closed)
    → judged ≡ pure_bodies p (set_of closed) 0 p.functions → length pure ≡ length judged → IsGreatest callers (set_of judged) (set_of pure) → AreClasses p closed pure
classified p callers sourceless closed judged pure table sourceless_is closed_size closed_greatest judged_is pure_size pure_greatest =
    let size : length closed ≡ length p.functions = closed_size ∙ (ap length sourceless_is ∙ length-map p.functions (λ f. names_only (below (length p.functions)) f.body)) in
    let members = closed_left p callers sourceless closed table sourceless_is closed_size closed_greatest in
    record {
      closed_length = size;
      closed_members = members;
      pure_length = pure_size ∙ (ap length judged_is ∙ length-pure_bodies p (set_of closed) 0 p.functions);
      pure_members = pure_left p callers closed judged pure table size members judged_is pure_size pure_greatest;
    }

-- the pure functions as a set

-- the set of the pure functions fits
pure_fits : (p : Program) (closed pure : List Bool) → AreClasses p closed pure → FitsPure p (set_of pure)
pure_fits p closed pure c = record {
  fits = λ f h.
      let q = (c.pure_members f).0 h in
      let o = q.fits.fits f q.member in
      record {
        closed = o.closed;
        function = o.function;
        stands = o.stands;
        body = pure_over p q.set (set_of pure) o.function.body o.body (λ n m. (c.pure_members n).1 (record { set = q.set; fits = q.fits; member = pure_members p q.set o.function.body n o.body m }));
      };
}

-- what is pure over a set that fits is pure over the pure functions
pure_over_all : (p : Program) (closed pure : List Bool) (s : FunctionSet) (e : Core) → AreClasses p closed pure → FitsPure p s → pure_in (calls_of p s) e ≡ true → pure_in (calls_of p (set_of pure)) e ≡ true
pure_over_all p closed pure s e c fits h =
    pure_over p s (set_of pure) e h (λ n m. (c.pure_members n).1 (record { set = s; fits = fits; member = pure_members p s e n h m }))

pub is_pure_expr : (p : Program) (closed pure : List Bool) (e : Core) → AreClasses p closed pure → IsTrue (pure_in (calls_of p (set_of pure)) e) ↔ IsPureExpr p e
is_pure_expr p closed pure e c = ((λ h. record { set = set_of pure; fits = pure_fits p closed pure c; pure = h }), (λ q. pure_over_all p closed pure q.set e c q.fits q.pure))

pub is_fit_expr : (p : Program) (closed pure : List Bool) (e : Core) → AreClasses p closed pure → IsTrue (fit_in (calls_of p (set_of pure)) e) ↔ IsFitExpr p e
is_fit_expr p closed pure e c = (
  (λ h. record { set = set_of pure; fits = pure_fits p closed pure c; fit = h }),
  (λ q. fit_grows (calls_of p q.set) (calls_of p (set_of pure)) (λ b h. pure_over_all p closed pure q.set b c q.fits h) e q.fit),
)
