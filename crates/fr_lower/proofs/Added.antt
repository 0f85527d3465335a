-- A kernel that was added to a table.
use Rattle.std.proofs.Common.{◌≡◌, ◌&&◌, ◌⊎◌, inl, inr, ℕ, zero, suc, Bool, true, false, not, List, [], ◌∷◌, ◌++◌, length, drop, slice_get, Option, Some, None, is_none, Result, Ok, Err, IfOk, OnOk, refl, sym, ap, subst, ◌∙◌, arith, length-drop}
use Rattle.fr_value.proofs.Meet.{same_some}
use Rattle.std.specs.Option.{is_some}
use Rattle.fr_value.specs.declared.ids.KernId.{KernId}
use Rattle.fr_core.specs.declared.core_form.Core.{Core}
use Rattle.fr_core.specs.declared.lowered.Slot.{Slot}
use Rattle.fr_core.proofs.PartLists.{body_at}
use Rattle.fr_kernel.specs.Kernels.{Kernel, Kernels, kernel_for}
use Rattle.fr_kernel.specs.Slots.{slots_of}
use Rattle.fr_core.specs.declared.program.Function.{Function}
use Rattle.fr_kernel.specs.Purity.{IsPureOver}
use Rattle.fr_lower.specs.declared.making.Made.{Made}
use Rattle.fr_lower.specs.Making.{Extends, Grows, IsKernelOf, IsSoundKernel, HasSoundKernels}

pub added_kernel : {E : Type 0} (old new : Kernels) (first params : ℕ) (e : Core) (r : Result (KernId × List Slot) E) → IfOk r (λ a. a.0.0 ≡ length old.kernels) → IfOk r (λ a. a.1 ≡ slots_of first e)
    → IfOk r (λ a. new ≡ record old { kernels = old.kernels ++ kernel_for first params e ∷ [] }) → IfOk r (λ a. (ks : List Kernel) → Extends new.kernels ks → IsKernelOf ks first params e a.0.0 a.1)
added_kernel old new first params e (Err x) number slots appended = tt
added_kernel old new first params e (Ok a) number slots appended = λ ks ext. record {
  stands = ext a.0.0 (kernel_for first params e) (ap (λ (t : Kernels). slice_get t.kernels a.0.0) appended ∙ body_at old.kernels (kernel_for first params e) a.0.0 number);
  reads = slots;
}

kept_first : (ks : List Kernel) (added : Kernel) (id : ℕ) (k : Kernel) → slice_get ks id ≡ Some k → slice_get (ks ++ added ∷ []) id ≡ Some k
kept_first [] added id k h = absurd cc
kept_first (x ∷ ks) added zero k h = h
kept_first (x ∷ ks) added (suc id) k h = kept_first ks added id k h

first_or_added : (ks : List Kernel) (added : Kernel) (id : ℕ) (k : Kernel) → slice_get (ks ++ added ∷ []) id ≡ Some k → (slice_get ks id ≡ Some k) ⊎ (added ≡ k)
first_or_added [] added zero k h = inr (same_some added k h)
first_or_added [] added (suc id) k h = absurd cc
first_or_added (x ∷ ks) added zero k h = inl h
first_or_added (x ∷ ks) added (suc id) k h = first_or_added ks added id k h

-- one sound kernel more
sound_more : (fs : List Function) (ks : List Kernel) (added : Kernel) → IsSoundKernel fs added → HasSoundKernels (record { functions = fs; kernels = ks }) → HasSoundKernels (record { functions = fs; kernels = ks ++ added ∷ [] })
sound_more fs ks added one h = record {
  each = λ id k s. elim (first_or_added ks added id k s) [
    | inl a ↦ h.each id k a
    | inr b ↦ subst (IsSoundKernel fs) b one
  ];
}

-- no kernel at all
pub sound_none : (fs : List Function) → HasSoundKernels (record { functions = fs; kernels = [] })
sound_none fs = record { each = λ id k s. absurd (nothing_at id k s) }
  where
    nothing_at : (id : ℕ) (k : Kernel) → slice_get [] id ≡ Some k → ⊥
    nothing_at id k s = cc

pub added_grows : {T E : Type 0} (m : Made) (t : Kernels) (first params : ℕ) (e : Core) (r : Result T E) → IsPureOver m.table.functions e
    → IfOk r (λ a. t ≡ record m.table { kernels = m.table.kernels ++ kernel_for first params e ∷ [] }) → OnOk r (Grows m (record m { table = t }))
added_grows m t first params e (Err x) pure appended = tt
added_grows m t first params e (Ok a) pure appended =
    let added = kernel_for first params e in
    let one : IsSoundKernel m.table.functions added = record { pure = pure; slots = refl } in
    subst (λ (u : Kernels). Grows m (record m { table = u })) (sym appended) (record {
      functions = refl;
      sound = λ h. sound_more m.table.functions m.table.kernels added one h;
      kernels = λ id k s. kept_first m.table.kernels added id k s;
      sites = omega arith;
    })

-- what follows of a value follows where there is one
pub if_ok : {T E : Type 0} (A B : T → Type 0) (r : Result T E) → ((x : T) → A x → B x) → IfOk r A → IfOk r B
if_ok A B (Ok x) f h = f x h
if_ok A B (Err e) f h = tt

pub joined_then : (joined none more : Bool) → joined ≡ true → more ≡ none → more ≡ joined && none
joined_then true none more h k = k
joined_then false none more h k = absurd cc

pub joined_else : (joined none more : Bool) → joined ≡ false → more ≡ false → more ≡ joined && none
joined_else true none more h k = absurd cc
joined_else false none more h k = k

-- what is none isn't some
pub none_told : {A : Type 0} (o : Option A) (t : Bool) → is_some o ≡ not t → t ≡ is_none o
none_told None true h = refl
none_told None false h = absurd cc
none_told (Some x) true h = absurd cc
none_told (Some x) false h = refl

-- a list is empty where nothing comes off its front
pub nothing_off : {A : Type 0} (xs : List A) → xs ≡ drop 1 xs → xs ≡ []
nothing_off [] h = refl
nothing_off (x ∷ xs) h = absurd (omega (arith, ap length h, length-drop 1 (x ∷ xs)))
