-- What a name means is in scope.
use Rattle.std.specs.Prelude.{ℕ, ◌≡◌, ◌+◌, ◌<◌, ◌≤◌, ◌||◌, Bool, true, false, if◌then◌else◌, List, [], ◌∷◌, length, Option, Some, None, is_some, codes}
use Rattle.std.proofs.Common.{refl, sym, ap, ◌∙◌, arith}
use Rattle.std.specs.Option.{option_map, option_or}
use Rattle.std.specs.Str.{bytes_eq}
use Rattle.fr_value.specs.declared.primitive.Primitive.{Primitive}
use Rattle.fr_prims.specs.Names.{prim_named}
use Rattle.fr_syntax.specs.declared.outlines.Sort.{Sort}
use Rattle.fr_syntax.specs.declared.outlines.Sort.TheVariants as sort
use Rattle.fr_syntax.specs.Outlines.{Global}
use Rattle.fr_scope.specs.Meanings.{Binder, binds, innermost, given_as, sources_behind, functions_behind, global, built_in, meaning_of}
use Rattle.fr_scope.specs.declared.meaning.Meaning.{Meaning}
use Rattle.fr_scope.specs.declared.meaning.Meaning.TheVariants as meaning
use Rattle.fr_value.specs.declared.ids.VarId.{VarId}
use Rattle.fr_expand.specs.declared.faults.Faults.{Faults}
use Rattle.fr_expand.specs.Faults.{clean, misplaced, value_fault, callee_fault, is_among}
use Rattle.fr_expand.specs.Shaped.{names_in}

-- the numbers of sources and of functions among global names
abbrev pub sources_among : List Global → ℕ
sources_among [] = 0
sources_among (g ∷ gs) = sources_behind g.1 (sources_among gs)

abbrev pub functions_among : List Global → ℕ
functions_among [] = 0
functions_among (g ∷ gs) = functions_behind g.1 (functions_among gs)

-- what is meant is there, where there are so many functions, sources and variables
abbrev pub IsThere : ℕ → ℕ → ℕ → Option Meaning → Type 0
IsThere functions sources n None = Unit {0}
IsThere functions sources n (Some (meaning.Variable x)) = x.0 < n
IsThere functions sources n (Some (meaning.Source x)) = x.0 ≤ sources
IsThere functions sources n (Some (meaning.Function f)) = f.0 < functions
IsThere functions sources n (Some (meaning.Primitive p)) = Unit {0}

-- it is a number below this one
abbrev Below : ℕ → Option ℕ → Type 0
Below m None = Unit {0}
Below m (Some k) = k < m

below_or : (m : ℕ) (a b : Option ℕ) → Below m a → Below m b → Below m (option_or a b)
below_or m None b h k = k
below_or m (Some x) b h k = h

below_same : (m n : ℕ) (a : Option ℕ) → m ≡ n → Below m a → Below n a
below_same m n None e h = tt
below_same m n (Some x) e h = omega (arith, e, h)

below_if : (b : Bool) (n m : ℕ) → n < m → Below m (if b then Some n else None)
below_if true n m h = h
below_if false n m h = tt

innermost_below : (name : List ℕ) (n : ℕ) (bs : List Binder) → Below (n + length bs) (innermost name n bs)
innermost_below name n [] = tt
innermost_below name n (b ∷ bs) =
    below_or (n + length (b ∷ bs)) (innermost name (n + 1) bs) (if binds name b then Some n else None)
    (below_same (n + 1 + length bs) (n + length (b ∷ bs)) (innermost name (n + 1) bs) (omega arith) (innermost_below name (n + 1) bs))
    (below_if (binds name b) n (n + length (b ∷ bs)) (omega arith))

there_or : (functions sources n : ℕ) (a b : Option Meaning) → IsThere functions sources n a → IsThere functions sources n b → IsThere functions sources n (option_or a b)
there_or functions sources n None b h k = k
there_or functions sources n (Some (meaning.Variable x)) b h k = h
there_or functions sources n (Some (meaning.Source x)) b h k = h
there_or functions sources n (Some (meaning.Function f)) b h k = h
there_or functions sources n (Some (meaning.Primitive p)) b h k = tt

variable_there : (functions sources n : ℕ) (o : Option ℕ) → Below n o → IsThere functions sources n (option_map (λ k. meaning.Variable (record { 0 = k })) o)
variable_there functions sources n None h = tt
variable_there functions sources n (Some k) h = h

-- more sources and functions
there_more : (f g s t n : ℕ) (m : Option Meaning) → f ≡ g → s ≡ t → IsThere f s n m → IsThere g t n m
there_more f g s t n None e k h = tt
there_more f g s t n (Some (meaning.Variable x)) e k h = h
there_more f g s t n (Some (meaning.Source x)) e k h = omega (arith, k, h)
there_more f g s t n (Some (meaning.Function x)) e k h = omega (arith, e, h)
there_more f g s t n (Some (meaning.Primitive p)) e k h = tt

given_there : (k : Sort) (s f n c d : ℕ) → IsThere (f + functions_behind k d) (s + sources_behind k c) n (Some (given_as k (s + 1) f))
given_there sort.Function s f n c d = omega arith
given_there sort.Input s f n c d = omega arith
given_there sort.Event s f n c d = omega arith

-- the same of the names behind one
abbrev Later : List ℕ → ℕ → List Global → Type 0
Later name n gs = (s f : ℕ) → IsThere (f + functions_among gs) (s + sources_among gs) n (global name (s + 1) f gs)

later_there : (k : Sort) (name : List ℕ) (s f n : ℕ) (gs : List Global) → Later name n gs
    → IsThere (f + functions_behind k (functions_among gs)) (s + sources_behind k (sources_among gs)) n (global name (sources_behind k (s + 1)) (functions_behind k f) gs)
later_there sort.Function name s f n gs h = there_more (f + 1 + functions_among gs) _ (s + sources_among gs) _ n (global name (s + 1) (f + 1) gs) (omega arith) refl (h s (f + 1))
later_there sort.Input name s f n gs h = there_more (f + functions_among gs) _ (s + 1 + sources_among gs) _ n (global name (s + 1 + 1) f gs) refl (omega arith) (h (s + 1) f)
later_there sort.Event name s f n gs h = there_more (f + functions_among gs) _ (s + 1 + sources_among gs) _ n (global name (s + 1 + 1) f gs) refl (omega arith) (h (s + 1) f)

either_there : (functions sources n : ℕ) (b : Bool) (x y : Option Meaning) → IsThere functions sources n x → IsThere functions sources n y → IsThere functions sources n (if b then x else y)
either_there functions sources n true x y h k = h
either_there functions sources n false x y h k = k

-- what a global name means is among those before it and those in the list
global_there : (name : List ℕ) (n : ℕ) (gs : List Global) → Later name n gs
global_there name n [] s f = tt
global_there name n (g ∷ gs) s f =
    either_there _ _ n (bytes_eq g.0 name) (Some (given_as g.1 (s + 1) f)) (global name (sources_behind g.1 (s + 1)) (functions_behind g.1 f) gs)
    (given_there g.1 s f n (sources_among gs) (functions_among gs)) (later_there g.1 name s f n gs (global_there name n gs))

prim_there : (functions sources n : ℕ) (o : Option Primitive) → IsThere functions sources n (option_map meaning.Primitive o)
prim_there functions sources n None = tt
prim_there functions sources n (Some p) = tt

built_there : (functions sources n : ℕ) (name : List ℕ) → IsThere functions sources n (built_in name)
built_there functions sources n name = either_there functions sources n (bytes_eq name (codes "now")) _ _ (omega arith) (prim_there functions sources n (prim_named name))

-- what a name means is there
pub meaning_there : (globals : List Global) (scope : List Binder) (name : List ℕ) → IsThere (functions_among globals) (sources_among globals) (length scope) (meaning_of globals scope name)
unfolding meaning_of
meaning_there globals scope name =
    let f = functions_among globals in
    let s = sources_among globals in
    let n = length scope in
    there_or f s n _ _ (variable_there f s n (innermost name 0 scope) (below_same (0 + n) n (innermost name 0 scope) (omega arith) (innermost_below name 0 scope)))
    (there_or f s n _ _ (there_more (0 + f) f (0 + s) s n (global name (0 + 1) 0 globals) (omega arith) (omega arith) (global_there name n globals 0 0)) (built_there f s n name))

-- whether a name is among those of the variables
none_or : (a : Option ℕ) → option_or a None ≡ a
none_or None = refl
none_or (Some k) = refl

some_or : (a : Option ℕ) (b : Bool) (n : ℕ) → is_some (option_or a (if b then Some n else None)) ≡ (b || is_some a)
some_or None true n = refl
some_or None false n = refl
some_or (Some k) true n = refl
some_or (Some k) false n = refl

innermost_among : (name : List ℕ) (n : ℕ) (bs : List Binder) → is_some (innermost name n bs) ≡ is_among name (names_in bs)
innermost_among name n [] = refl
innermost_among name n (None ∷ bs) = ap is_some (none_or (innermost name (n + 1) bs)) ∙ innermost_among name (n + 1) bs
innermost_among name n (Some m ∷ bs) = some_or (innermost name (n + 1) bs) (bytes_eq m name) n ∙ ap (λ b. bytes_eq m name || b) (innermost_among name (n + 1) bs)

-- what is told of a meaning, and is the same of each variable
module _ (tell : Option Meaning → Faults) (variable : Faults) (same : (x : VarId) → tell (Some (meaning.Variable x)) ≡ variable) where
  told_or : (o : Option ℕ) (m : Option Meaning) → tell (option_or (option_map (λ k. meaning.Variable (record { 0 = k })) o) m) ≡ (if is_some o then variable else tell m)
  told_or None m = refl
  told_or (Some k) m = same (record { 0 = k })

  told_alike : (globals : List Global) (s t : List Binder) (name : List ℕ) → names_in s ≡ names_in t → tell (meaning_of globals s name) ≡ tell (meaning_of globals t name)
  unfolding meaning_of
  told_alike globals s t name e =
      let other : Option Meaning = option_or (global name 1 0 globals) (built_in name) in
      let bound : is_some (innermost name 0 s) ≡ is_some (innermost name 0 t) = innermost_among name 0 s ∙ ap (is_among name) e ∙ sym (innermost_among name 0 t) in
      told_or (innermost name 0 s) other ∙ ap (λ b. if b then variable else tell other) bound ∙ sym (told_or (innermost name 0 t) other)

-- the fault of a name where these variables are in scope is told by their names alone
pub value_alike : (globals : List Global) (s t : List Binder) (name : List ℕ) → names_in s ≡ names_in t → value_fault (meaning_of globals s name) ≡ value_fault (meaning_of globals t name)
value_alike = told_alike value_fault clean (λ x. refl)

pub callee_alike : (globals : List Global) (s t : List Binder) (name : List ℕ) → names_in s ≡ names_in t → callee_fault (meaning_of globals s name) ≡ callee_fault (meaning_of globals t name)
callee_alike = told_alike callee_fault misplaced (λ x. refl)
