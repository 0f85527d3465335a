-- The edges of a run, taken out of lists and put into lists one after the other.
use Rattle.std.proofs.Common.{◌≡◌, ◌≢◌, ℕ, ◌+◌, ◌<◌, ◌≤◌, List, length, ◌⊎◌, inl, inr, Option, Some, None, false, nat_eq, refl, sym, ap, ◌∙◌, arith}
use Rattle.fr_links.specs.Lists.{has_item, list_at, with_last, without}
use Rattle.fr_links.proofs.Has.{eq_apart, eq_self}
use Rattle.fr_store.specs.Nodes.{is_number}
use Rattle.fr_store.specs.Kept.{Wires}
use Rattle.fr_store.proofs.Lists.{by_bound, by_number, last_elsewhere, last_here, last_other, without_here, without_other}

pub wires_none : (lists : List (List ℕ)) (first : ℕ) (names : ℕ → Option ℕ) → Wires lists lists first 0 names
wires_none lists first names = record { here = λ l place lt. absurd (omega arith); others = λ l edge away. refl }

-- one more edge at the end of those that were done
pub wires_more : (old mid new : List (List ℕ)) (first room : ℕ) (names : ℕ → Option ℕ) (name : Option ℕ)
    → Wires old mid first room names → Wires mid new (first + room) 1 (λ _. name) → names room ≡ name → Wires old new first (room + 1) names
wires_more old mid new first room names name w one same = record {
  here = λ l place lt. elim (by_bound place room) [
    | inl before ↦ one.others l (first + place) (inl (omega arith)) ∙ w.here l place before
    | inr after ↦
        let e : place ≡ room = omega arith in
        let at : first + place ≡ first + room + 0 = omega arith in
        ap (λ (k : ℕ). has_item (list_at new l) k) at ∙ one.here l 0 (omega arith)
        ∙ ap (λ (o : Option ℕ). is_number o l) (sym same) ∙ ap (λ (k : ℕ). is_number (names k) l) (sym e)
  ];
  others = λ l edge away. one.others l edge (past edge away) ∙ w.others l edge (within edge away);
}
  where
    past : (edge : ℕ) → (edge < first) ⊎ (first + (room + 1) ≤ edge) → (edge < first + room) ⊎ (first + room + 1 ≤ edge)
    past edge away = elim away [ inl lt ↦ inl (omega arith) | inr le ↦ inr (omega arith) ]

    within : (edge : ℕ) → (edge < first) ⊎ (first + (room + 1) ≤ edge) → (edge < first) ⊎ (first + room ≤ edge)
    within edge away = elim away [ inl lt ↦ inl lt | inr le ↦ inr (omega arith) ]

-- an edge that is in no list stays out
pub wires_idle : (lists : List (List ℕ)) (edge : ℕ) → ((l : ℕ) → has_item (list_at lists l) edge ≡ false) → Wires lists lists edge 1 (λ _. None)
wires_idle lists edge absent = record {
  here = λ l place lt. let e : edge + place ≡ edge = omega arith in ap (λ (k : ℕ). has_item (list_at lists l) k) e ∙ absent l;
  others = λ l other away. refl;
}

apart_of : (first edge : ℕ) → (edge < first) ⊎ (first + 1 ≤ edge) → edge ≢ first
apart_of first edge away e = elim away [ inl lt ↦ omega arith | inr le ↦ omega arith ]

pub wires_without : (lists : List (List ℕ)) (edge : ℕ) → Wires lists (without lists edge) edge 1 (λ _. None)
wires_without lists edge = record {
  here = λ l place lt. let e : edge + place ≡ edge = omega arith in
      ap (λ (k : ℕ). has_item (list_at (without lists edge) l) k) e ∙ without_here lists edge l;
  others = λ l other away. without_other lists edge l other (apart_of edge other away);
}

pub wires_last : (lists : List (List ℕ)) (edge name : ℕ) → name < length lists → ((l : ℕ) → has_item (list_at lists l) edge ≡ false)
    → Wires lists (with_last lists name edge) edge 1 (λ _. Some name)
wires_last lists edge name lt absent = record {
  here = λ l place small. let e : edge + place ≡ edge = omega arith in
      ap (λ (k : ℕ). has_item (list_at (with_last lists name edge) l) k) e ∙ now l;
  others = λ l other away. last_other lists name edge l other lt (apart_of edge other away);
}
  where
    now : (l : ℕ) → has_item (list_at (with_last lists name edge) l) edge ≡ nat_eq name l
    now l = elim (by_number l name) [
      | inl e ↦
          ap (λ (k : ℕ). has_item (list_at (with_last lists name edge) k) edge) e ∙ last_here lists name edge lt
          ∙ sym (ap (λ (k : ℕ). nat_eq name k) e ∙ eq_self name)
      | inr ne ↦
          ap (λ (xs : List ℕ). has_item xs edge) (last_elsewhere lists name edge l ne) ∙ absent l ∙ sym (eq_apart name l (λ e. ne (sym e)))
    ]

-- the places behind the last name nothing
pub wires_wide : (old new : List (List ℕ)) (first few room : ℕ) (names : ℕ → Option ℕ) → few ≤ room → Wires old new first few names
    → ((l place : ℕ) → place < room → has_item (list_at old l) (first + place) ≡ false) → ((place : ℕ) → few ≤ place → names place ≡ None)
    → Wires old new first room names
wires_wide old new first few room names le w idle none = record {
  here = λ l place lt. elim (by_bound place few) [
    | inl before ↦ w.here l place before
    | inr after ↦ w.others l (first + place) (inr (omega arith)) ∙ idle l place lt ∙ ap (λ (o : Option ℕ). is_number o l) (sym (none place after))
  ];
  others = λ l edge away. w.others l edge (within edge away);
}
  where
    within : (edge : ℕ) → (edge < first) ⊎ (first + room ≤ edge) → (edge < first) ⊎ (first + few ≤ edge)
    within edge away = elim away [ inl lt ↦ inl lt | inr far ↦ inr (omega arith) ]

-- what was taken out and then put in
pub wires_anew : (old mid new : List (List ℕ)) (first room : ℕ) (names : ℕ → Option ℕ)
    → Wires old mid first room (λ _. None) → Wires mid new first room names → Wires old new first room names
wires_anew old mid new first room names out w = record {
  here = w.here;
  others = λ l edge away. w.others l edge away ∙ out.others l edge away;
}
