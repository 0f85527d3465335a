-- Names that are added to a map.
use Rattle.std.specs.Prelude.{ℕ, ◌≡◌, Bool, true, false, cond, if◌then◌else◌, List, [], ◌∷◌, ◌++◌, Option, Some, None, is_some}
use Rattle.std.specs.Option.{option_or}
use Rattle.std.specs.Str.{bytes_eq}
use Rattle.std.specs.Prelude.{String}
use Rattle.std.specs.String.{string_bytes}
use Rattle.std.specs.Map.{lookup}
use Rattle.std.specs.declared.alloc.Global.{Global}
use Rattle.std.specs.HashMap.{HashMap, get_by_text}
use Rattle.std.proofs.Common.{refl, sym, ◌∙◌, ap}
use Rattle.std.proofs.lemmas.Slice.Eq.{bytes_eq-Decides}
use Rattle.fr_script.specs.declared.sources.Source.{Source}
use Rattle.fr_script.specs.Sources.{Named, named}

none_of : {A : Type 0} (o : Option A) → is_some o ≡ false → o ≡ None
none_of None h = refl
none_of (Some x) h = let e : true ≡ false = h in cc

or_none : {A : Type 0} (o : Option A) → option_or o None ≡ o
or_none None = refl
or_none (Some x) = refl

-- an option that is taken in one case, and the other value in the other
by_test : (b c : Bool) (s : Source) (old : Option Source) → b ≡ c → (c ≡ true → old ≡ None) → cond b (Some s) old ≡ option_or old (if c then Some s else None)
by_test b true s old h k = rw (h, k refl) refl
by_test b false s old h k = rw h (sym (or_none old))

same_test : (a b : Bool) → (a ≡ true → b ≡ true) → (b ≡ true → a ≡ true) → a ≡ b
same_test true b h k = sym (h refl)
same_test false true h k = k refl
same_test false false h k = refl

turned : (xs ys : List ℕ) → bytes_eq xs ys ≡ bytes_eq ys xs
turned xs ys = let d = bytes_eq-Decides xs ys in let e = bytes_eq-Decides ys xs in same_test (bytes_eq xs ys) (bytes_eq ys xs) (λ h. e.1 (sym (d.0 h))) (λ h. d.1 (sym (e.0 h)))

-- what the map has after a new name was added
pub added : (name key q : List ℕ) (s : Source) (old : List ℕ → Option Source) (new : Option Source) → new ≡ cond (bytes_eq key q) (Some s) (old q) → key ≡ name → old name ≡ None
    → new ≡ option_or (old q) (if bytes_eq q name then Some s else None)
added name key q s old new h e none =
    h ∙ by_test (bytes_eq key q) (bytes_eq q name) s (old q) (ap (λ x. bytes_eq x q) e ∙ turned name q) (λ t. ap old ((bytes_eq-Decides q name).0 t) ∙ none)

pub absent : {A : Type 0} (o : Option A) (b : Bool) → b ≡ is_some o → b ≡ false → o ≡ None
absent o b h k = none_of o (sym h ∙ k)

named_append : (ss ts : List Named) (q : List ℕ) → named (ss ++ ts) q ≡ option_or (named ss q) (named ts q)
named_append [] ts q = refl
named_append (s ∷ ss) ts q = elim (bytes_eq q s.0) as (λ b. (if b then Some s.1 else named (ss ++ ts) q) ≡ option_or (if b then Some s.1 else named ss q) (named ts q)) [ true ↦ refl | false ↦ named_append ss ts q ]

-- the names of two lists one after the other
pub both : (ss ts : List Named) (q : List ℕ) (a b : Option Source) → a ≡ option_or None (named ss q) → b ≡ option_or a (named ts q) → b ≡ named (ss ++ ts) q
both ss ts q a b h k = k ∙ ap (λ x. option_or x (named ts q)) h ∙ sym (named_append ss ts q)

-- a map with no entries
pub empty_map : {S : Type 0} (m : HashMap (String Global) Source S) (q : List ℕ) → m.entries ≡ [] → get_by_text m q ≡ None
empty_map m q h = ap (λ es. lookup (λ k. bytes_eq q (string_bytes k)) es) h
