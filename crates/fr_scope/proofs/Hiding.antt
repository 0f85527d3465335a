-- One more variable in scope, and one less.
use Rattle.std.proofs.Common.{ℕ, suc, ◌≡◌, ◌<◌, ◌+◌, ◌++◌, Bool, true, false, List, [], ◌∷◌, Option, Some, None, IsSome, if◌then◌else◌, map, length, length-append, append_assoc, arith, ap, sym, ◌∙◌, refl}
use Rattle.std.specs.Option.{option_map, option_or}
use Rattle.std.proofs.lemmas.List.{append-nil, map-append, length-map, same_from_push}
use Rattle.std.proofs.lemmas.Slice.Eq.{bytes_eq-Decides}
use Rattle.fr_value.specs.declared.ids.VarId.{VarId}
use Rattle.fr_scope.specs.declared.scope.Variable.{Variable}
use Rattle.fr_scope.specs.Meanings.{Binder, binds, innermost, most_numbered}
use Rattle.fr_scope.specs.Hiding.{binders, variable_in, hides, hidden_behind, IsKept}

-- the innermost of one variable more, where the others give o
one_or : (test own : Bool) (m n : ℕ) (o : Option ℕ) → option_or (if test then Some m else o) (if own then Some n else None) ≡ (if test then Some m else option_or o (if own then Some n else None))
one_or true own m n o = refl
one_or false own m n o = refl

innermost-push : (name : List ℕ) (n : ℕ) (bs : List Binder) (b : Binder) → innermost name n (bs ++ b ∷ []) ≡ (if binds name b then Some (n + length bs) else innermost name n bs)
innermost-push name n [] b = let e : n + 0 ≡ n = omega arith in rw e refl
innermost-push name n (a ∷ bs) b =
    let e : n + 1 + length bs ≡ n + suc (length bs) = omega arith in
    ap (λ (o : Option ℕ). option_or o (if binds name a then Some n else None)) (innermost-push name (n + 1) bs b)
    ∙ one_or (binds name b) (binds name a) (n + 1 + length bs) n (innermost name (n + 1) bs)
    ∙ ap (λ (m : ℕ). if binds name b then Some m else innermost name n (a ∷ bs)) e

number_of : (test : Bool) (n : ℕ) (o : Option ℕ)
    → option_map {U = VarId} (λ n. record { 0 = n }) (if test then Some n else o) ≡ (if test then Some (record { 0 = n }) else option_map (λ n. record { 0 = n }) o)
number_of true n o = refl
number_of false n o = refl

variable_in-push : (bs : List Binder) (b : Binder) (name : List ℕ) → variable_in (bs ++ b ∷ []) name ≡ (if binds name b then Some (record { 0 = length bs }) else variable_in bs name)
variable_in-push bs b name =
    let e : 0 + length bs ≡ length bs = omega arith in
    ap (option_map (λ n. record { 0 = n })) (innermost-push name 0 bs b ∙ ap (λ (m : ℕ). if binds name b then Some m else innermost name 0 bs) e)
    ∙ number_of (binds name b) (length bs) (innermost name 0 bs)

hidden_behind-push : (outer bs : List Binder) (b : Binder) → hidden_behind outer (bs ++ b ∷ []) ≡ hidden_behind outer bs ++ hides (outer ++ bs) b ∷ []
hidden_behind-push outer [] b = rw append-nil refl
hidden_behind-push outer (a ∷ bs) b =
    ap (λ (hs : List (Option VarId)). hides outer a ∷ hs)
    (hidden_behind-push (outer ++ a ∷ []) bs b ∙ ap (λ (bs' : List Binder). hidden_behind (outer ++ a ∷ []) bs ++ hides bs' b ∷ []) (append_assoc outer (a ∷ []) bs))

-- a variable more
pub one_more : (vs : List Variable) (v : Variable) (look_up after : List ℕ → Option VarId) → IsKept vs look_up → length (binders vs) < most_numbered → v.hidden ≡ hides (binders vs) v.name
    → ((name : List ℕ) → after name ≡ (if binds name v.name then Some (record { 0 = length (binders vs) }) else look_up name)) → IsKept (vs ++ v ∷ []) after
one_more vs v look_up after kept few hidden found = record {
  few = let h = few in rw length-append (omega (arith, simp length-map at h));
  hidden =
      map-append (λ (v : Variable). v.hidden) vs (v ∷ [])
      ∙ (rw (kept.hidden, hidden) (sym (hidden_behind-push [] (binders vs) v.name)))
      ∙ ap (hidden_behind []) (sym (map-append (λ (v : Variable). v.name) vs (v ∷ [])));
  found = λ name.
      found name
      ∙ rw kept.found refl
      ∙ sym (variable_in-push (binders vs) v.name name)
      ∙ ap (λ (bs : List Binder). variable_in bs name) (sym (map-append (λ (v : Variable). v.name) vs (v ∷ [])));
}

hides_same : (bs : List Binder) (b : Binder) (name : List ℕ) → binds name b ≡ true → hides bs b ≡ variable_in bs name
hides_same bs None name h = cc
hides_same bs (Some n) name h = ap (variable_in bs) ((bytes_eq-Decides n name).0 h)

less : (test : Bool) (hidden before here : Option VarId) (v : VarId) → (test ≡ true → hidden ≡ here) → before ≡ (if test then Some v else here) → (if test then hidden else before) ≡ here
less true hidden before here v e f = e refl
less false hidden before here v e f = f

-- what the variables hide, without the last one
hidden_less : (vs : List Variable) (v : Variable) (look_up : List ℕ → Option VarId) → IsKept (vs ++ v ∷ []) look_up
    → (map (λ v. v.hidden) vs ≡ hidden_behind [] (binders vs)) × (v.hidden ≡ hides (binders vs) v.name)
hidden_less vs v look_up kept = same_from_push _ _ _ _
    (sym (map-append (λ (v : Variable). v.hidden) vs (v ∷ []))
    ∙ kept.hidden
    ∙ ap (hidden_behind []) (map-append (λ (v : Variable). v.name) vs (v ∷ []))
    ∙ hidden_behind-push [] (binders vs) v.name)

-- what is found with the last variable
found_last : (vs : List Variable) (v : Variable) (look_up : List ℕ → Option VarId) → IsKept (vs ++ v ∷ []) look_up
    → (name : List ℕ) → look_up name ≡ (if binds name v.name then Some (record { 0 = length (binders vs) }) else variable_in (binders vs) name)
found_last vs v look_up kept name =
    kept.found name ∙ ap (λ (bs : List Binder). variable_in bs name) (map-append (λ (v : Variable). v.name) vs (v ∷ [])) ∙ variable_in-push (binders vs) v.name name

-- a variable less
pub one_less : (vs : List Variable) (v : Variable) (look_up after : List ℕ → Option VarId) → IsKept (vs ++ v ∷ []) look_up
    → ((name : List ℕ) → after name ≡ (if binds name v.name then v.hidden else look_up name)) → IsKept vs after
one_less vs v look_up after kept found =
    let was = hidden_less vs v look_up kept in
    record {
      few = let h = kept.few in omega (arith, simp length-append at h);
      hidden = was.0;
      found = λ name. found name
          ∙ less (binds name v.name) v.hidden (look_up name) (variable_in (binders vs) name) (record { 0 = length (binders vs) })
          (λ h. was.1 ∙ hides_same (binders vs) v.name name h) (found_last vs v look_up kept name);
    }

some_here : (test : Bool) (v : VarId) (o p : Option VarId) → test ≡ true → p ≡ (if test then Some v else o) → IsSome p
some_here true v o p h e = rw e refl
some_here false v o p h e = cc

-- the innermost variable is found by its name
pub is_found : (vs : List Variable) (v : Variable) (look_up : List ℕ → Option VarId) → IsKept (vs ++ v ∷ []) look_up → (name : List ℕ) → v.name ≡ Some name → IsSome (look_up name)
is_found vs v look_up kept name named =
    some_here (binds name v.name) _ _ (look_up name) (rw named ((bytes_eq-Decides name name).1 refl)) (found_last vs v look_up kept name)
