-- What a count does over calls, one after the other.
use Rattle.std.proofs.Common.{◌≡◌, ◌≤◌, ℕ, subst, arith}
use Rattle.fr_io.specs.Faults.{Rose, Counts}

-- no fault
pub stays : (fault : Type 0) (a b : ℕ) → (fault → ⊥) → b ≡ a → Counts fault a b
stays fault a b none e = record { falls_not = omega arith; rises = λ f. absurd (none f); stays = λ _. e }

-- a fault
pub rose : (fault : Type 0) (a b : ℕ) → fault → a ≤ b → Rose a b → Counts fault a b
rose fault a b is le r = record { falls_not = le; rises = λ _. r; stays = λ none. absurd (none is) }

-- a call behind another that had no fault
pub counts_then : {f fault : Type 0} {a b c : ℕ} → Counts f a b → (f → ⊥) → Counts fault b c → Counts fault a c
counts_then {f} {fault} {a} {b} {c} h none k = subst (λ n. Counts fault n c) (h.stays none) k

-- the same, where the fault is told in other words
pub counts_if : {fault other : Type 0} {a b : ℕ} → (other → fault) → (fault → other) → Counts fault a b → Counts other a b
counts_if to from h = record { falls_not = h.falls_not; rises = λ x. h.rises (to x); stays = λ not. h.stays (λ x. not (from x)) }
