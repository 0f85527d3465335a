-- What is told of an expression by what it is itself and what is told of its parts.
use Rattle.std.proofs.Common.{◌≡◌, ◌&&◌, ◌++◌, ℕ, Bool, true, List, [], ◌∷◌, map, refl, sym, ap, ◌∙◌, arith}
use Rattle.std.specs.List.{concat}
use Rattle.fr_core.specs.Classes.{Judged, judge, pure_itself, body_passes}
use Rattle.fr_core.specs.Shapes.{outer, parts_in, parts_of, all_true}
use Rattle.fr_core.specs.declared.core_form.Core.{Core, out-Core, map-Core, fold_out-Core}
use Rattle.fr_core.specs.declared.core_form.Core.TheOpen.{Core-F}
use Rattle.fr_core.proofs.Folds.{judge-opens}
use Rattle.fr_core.proofs.Parts.{map-map, parts_in-map}
use Rattle.fr_purity.specs.Calls.{calls_itself, calls, calls_step}
use Rattle.fr_purity.specs.Judgements.{both}

calls_itself-map : {X Y : Type 0} (f : X → Y) (l : Core-F X) → calls_itself (map-Core X Y f l) ≡ calls_itself l
calls_itself-map f (Core-F.Lit v) = refl
calls_itself-map f _ = refl

pub calls-opens : (e : Core) → calls e ≡ calls_itself (out-Core e) ++ concat (map calls (parts_of e))
unfolding calls
calls-opens e = fold_out-Core (List ℕ) calls_step e ∙ rw (calls_itself-map calls (out-Core e), parts_in-map calls (out-Core e))

abbrev pub pure_in : (ℕ → ℕ → Bool) → Core → Bool
pure_in c e = (judge c e).pure

abbrev pub fit_in : (ℕ → ℕ → Bool) → Core → Bool
fit_in c e = (judge c e).fit

pub pure-opens : (c : ℕ → ℕ → Bool) (e : Core) → pure_in c e ≡ pure_itself c (out-Core e) && all_true (map (pure_in c) (parts_of e))
pure-opens c e = ap (λ j. j.pure) (judge-opens c e) ∙ ap (λ l. pure_itself c (out-Core e) && all_true l) (map-map (λ j. j.pure) (judge c) (parts_of e))

pub fit-opens : (c : ℕ → ℕ → Bool) (e : Core) → fit_in c e ≡ body_passes (pure_in c) (out-Core e) && all_true (map (fit_in c) (parts_of e))
fit-opens c e = ap (λ j. j.fit) (judge-opens c e) ∙ ap (λ l. body_passes (pure_in c) (out-Core e) && all_true l) (map-map (λ j. j.fit) (judge c) (parts_of e))

-- the last of these, or the first one where there is none
abbrev pub last_of : Bool → List Bool → Bool
last_of t [] = t
last_of t (u ∷ us) = last_of u us

last_body : (f : Core → Bool) (t : Bool) (es : List Core) (n : ℕ) (b : Core) → last_of t (map f (map (λ (x : ℕ × Core). x.1) (outer es ++ (n, b) ∷ []))) ≡ f b
last_body f t [] n b = refl
last_body f t (e ∷ es) n b = last_body f (f e) es n b

-- a body is the last part
pub body_is_last : (f : Core → Bool) (l : Core-F Core) → body_passes f l ≡ body_passes (λ x. last_of true (map f (parts_in l))) l
body_is_last f (Core-F.Handler h es b) = sym (last_body f true es _ b)
body_is_last f (Core-F.Loop l es b) = sym (last_body f true es _ b)
body_is_last f _ = refl

-- what is found of an expression itself and its first parts, where these are left
pub record Judging (c : ℕ → ℕ → Bool) (e : Core) (all : Judged) (last : Bool) (left : List Core) : Type 0 where
  pub pure : all.pure && all_true (map (pure_in c) left) ≡ pure_in c e
  pub fit : all.fit && all_true (map (fit_in c) left) ≡ all_true (map (fit_in c) (parts_of e))
  pub last_is : last_of last (map (pure_in c) left) ≡ last_of true (map (pure_in c) (parts_of e))

pub judging_first : (c : ℕ → ℕ → Bool) (e : Core) → Judging c e (record { pure = pure_itself c (out-Core e); fit = true }) true (parts_of e)
judging_first c e = record { pure = sym (pure-opens c e); fit = refl; last_is = refl }

pub judging_next : (c : ℕ → ℕ → Bool) (e part : Core) (all new found : Judged) (last : Bool) (left : List Core) → found ≡ judge c part → new ≡ both all found → Judging c e all last (part ∷ left)
    → Judging c e new found.pure left
judging_next c e part all new found last left found_is new_is h = rw (new_is, found_is) (record {
  pure = grind (arith, h.pure);
  fit = grind (arith, h.fit);
  last_is = h.last_is;
})

pub judging_last : (c : ℕ → ℕ → Bool) (e : Core) (all : Judged) (last allowed : Bool) → allowed ≡ body_passes (λ x. last) (out-Core e) → Judging c e all last []
    → both all (record { pure = true; fit = allowed }) ≡ judge c e
judging_last c e all last allowed is h =
    let body : allowed ≡ body_passes (pure_in c) (out-Core e) = is ∙ ap (λ t. body_passes (λ x. t) (out-Core e)) h.last_is ∙ sym (body_is_last (pure_in c) (out-Core e)) in
    let fit : all.fit && allowed ≡ fit_in c e = grind (arith, body, h.fit, fit-opens c e) in
    λ i. record { pure = h.pure i; fit = fit i }
