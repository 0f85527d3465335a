-- What an expression names, from what it is itself and what its parts name.
use Rattle.std.proofs.Common.{◌≡◌, ◌+◌, ℕ, List, [], ◌∷◌, ◌++◌, map, drop, slice_get, refl, sym, ap, ◌∙◌, append_assoc, Some, None}
use Rattle.std.proofs.lemmas.List.{append-nil}
use Rattle.fr_core.specs.Shapes.{parts_of}
use Rattle.fr_core.specs.declared.core_form.Core.{Core}
use Rattle.fr_core.proofs.PartLists.{drop_part, drop_none}
use Rattle.fr_meaning.specs.Dependence.{joined}
use Rattle.fr_kernel.specs.Slots.{if_below, all_below}

pub all_below-append : (bound : ℕ) (ms ns : List ℕ) → all_below bound (ms ++ ns) ≡ all_below bound ms ++ all_below bound ns
all_below-append bound [] ns = refl
all_below-append bound (m ∷ ms) ns = ap (λ l. if_below bound m ++ l) (all_below-append bound ms ns) ∙ sym (append_assoc (if_below bound m) (all_below bound ms) (all_below bound ns))

-- where names are gathered by a function on lists that keeps the order
module _ (names : Core → List ℕ) (f : List ℕ → List ℕ) (none : f [] ≡ []) (both : (ms ns : List ℕ) → f (ms ++ ns) ≡ f ms ++ f ns) where
  -- what these parts name
  abbrev pub named_in : List Core → List ℕ
  named_in es = f (joined (map names es))

  pub named_first : (e : Core) (own xs : List ℕ) → names e ≡ own ++ joined (map names (parts_of e)) → (xs ++ f own) ++ named_in (parts_of e) ≡ xs ++ f (names e)
  named_first e own xs opens = append_assoc xs (f own) (named_in (parts_of e)) ∙ ap (λ l. xs ++ l) (sym (both own (joined (map names (parts_of e)))) ∙ ap f (sym opens))

  pub named_next : (es : List Core) (i : ℕ) (part : Core) (xs all : List ℕ) → Some part ≡ slice_get es i → xs ++ named_in (drop i es) ≡ all → (xs ++ f (names part)) ++ named_in (drop (i + 1) es) ≡ all
  named_next es i part xs all is h =
      let rest = drop (i + 1) es in
      append_assoc xs (f (names part)) (named_in rest) ∙ ap (λ l. xs ++ l) (sym (both (names part) (joined (map names rest)))) ∙ (rw (drop_part es i part is) at h)

  pub named_last : (es : List Core) (i : ℕ) (xs all : List ℕ) → None ≡ slice_get es i → xs ++ named_in (drop i es) ≡ all → xs ≡ all
  named_last es i xs all is h = sym (append-nil xs) ∙ ap (λ l. xs ++ l) (sym none) ∙ (rw (drop_none es i is) at h)
