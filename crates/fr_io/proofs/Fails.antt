use Rattle.std.proofs.Common.{◌≡◌, true, false, ◌⊎◌, inl, inr}

-- a call that answered Ok was not to fail
pub not_failed : {A B : Type 0} → (A → ⊥) → (B → ⊥) → (false ≡ true → A ⊎ B) × (A ⊎ B → false ≡ true)
not_failed {A} {B} a b = (λ e. absurd (cc), λ h. absurd (elim h as (λ _. ⊥) [ inl x ↦ a x | inr y ↦ b y ]))
