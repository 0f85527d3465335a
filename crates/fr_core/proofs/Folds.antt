-- What is defined of an expression by its parts, from what is of them: one equation for any expression, of which `outs-Let` and the like tell the shape.
use Rattle.std.proofs.Common.{◌≡◌, ◌≤◌, ◌<◌, ◌+◌, ◌&&◌, ℕ, zero, suc, Bool, List, [], ◌∷◌, map, max, slice_get, Some, sym, ap, ◌∙◌, subst, arith}
use Rattle.fr_value.specs.Data.{total, greatest}
use Rattle.fr_core.specs.declared.core_form.Core.{Core, out-Core, roll-Core, out-roll-Core, fold_out-Core, ind-Core}
use Rattle.fr_core.specs.Shapes.{inner, parts_in, parts_of, entries, has_its_parts, all_true}
use Rattle.fr_core.specs.WellFormed.{nesting, nesting_step, count, count_step, longest, longest_step, widest, widest_step, names_something, all_at, scope_step, is_scoped, formed_step, is_formed}
use Rattle.fr_core.specs.Classes.{FunctionSet, closed_itself, closed_step, names_only, Judged, pure_itself, body_passes, all_pure, all_fit, judge_step, judge}
use Rattle.fr_core.proofs.Parts.{map-map, inner-map, parts_in-map, entries-map, has_its_parts-map, names_something-map, closed_itself-map, pure_itself-map, body_passes-map}

pub nesting-opens : (e : Core) → nesting e ≡ 1 + greatest (map nesting (parts_in (out-Core e)))
unfolding nesting
nesting-opens e = fold_out-Core ℕ nesting_step e ∙ ap (λ ns. 1 + greatest ns) (parts_in-map nesting (out-Core e))

nests_within : (es : List Core) (i : ℕ) (e : Core) → Some e ≡ slice_get es i → nesting e ≤ greatest (map nesting es)
nests_within [] i e h = absurd cc
nests_within (d ∷ es) zero e h = let same : e ≡ d = cc in omega (arith, ap nesting same)
nests_within (d ∷ es) (suc i) e h = omega (arith, nests_within es i e h)

-- the measure of a walk over the parts
pub part_nests_less : (e part : Core) (i : ℕ) → Some part ≡ slice_get (parts_of e) i → nesting part < nesting e
part_nests_less e part i h = omega (arith, nesting-opens e, nests_within (parts_of e) i part h)

pub count-opens : (e : Core) → count e ≡ 1 + total (map count (parts_in (out-Core e)))
unfolding count
count-opens e = fold_out-Core ℕ count_step e ∙ ap (λ ns. 1 + total ns) (parts_in-map count (out-Core e))

pub longest-opens : (e : Core) → longest e ≡ max (entries (out-Core e)) (greatest (map longest (parts_in (out-Core e))))
unfolding longest
longest-opens e = fold_out-Core ℕ longest_step e ∙ rw (entries-map longest (out-Core e), parts_in-map longest (out-Core e))

pub widest-opens : (e : Core) → widest e ≡ greatest (map (λ x. x.0 + widest x.1) (inner (out-Core e)))
unfolding widest
widest-opens e = fold_out-Core ℕ widest_step e ∙ rw (inner-map widest (out-Core e), map-map)

pub scoped-opens : (functions sources : ℕ) (e : Core) (n : ℕ)
    → is_scoped functions sources e n ≡ names_something functions sources (out-Core e) n && all_at n (map (λ x. (x.0, is_scoped functions sources x.1)) (inner (out-Core e)))
unfolding is_scoped
scoped-opens functions sources e n =
    ap (λ t. t n) (fold_out-Core (ℕ → Bool) (scope_step functions sources) e) ∙ rw (names_something-map functions sources n (is_scoped functions sources) (out-Core e), inner-map (is_scoped functions sources) (out-Core e))

pub formed-opens : (e : Core) → is_formed e ≡ has_its_parts (out-Core e) && all_true (map is_formed (parts_in (out-Core e)))
unfolding is_formed
formed-opens e = fold_out-Core Bool formed_step e ∙ rw (has_its_parts-map is_formed (out-Core e), parts_in-map is_formed (out-Core e))

pub names-opens : (s : FunctionSet) (e : Core) → names_only s e ≡ closed_itself s (out-Core e) && all_true (map (names_only s) (parts_in (out-Core e)))
unfolding names_only
names-opens s e = fold_out-Core Bool (closed_step s) e ∙ rw (closed_itself-map s (names_only s) (out-Core e), parts_in-map (names_only s) (out-Core e))

pub judge-opens : (calls : ℕ → ℕ → Bool) (e : Core)
    → judge calls e ≡ record {
      pure = pure_itself calls (out-Core e) && all_pure (map (judge calls) (parts_in (out-Core e)));
      fit = body_passes (λ b. (judge calls b).pure) (out-Core e) && all_fit (map (judge calls) (parts_in (out-Core e)));
    }
unfolding judge
judge-opens calls e = fold_out-Core Judged (judge_step calls) e ∙ rw (pure_itself-map calls (judge calls) (out-Core e), body_passes-map (λ j. j.pure) (judge calls) (out-Core e), parts_in-map (judge calls) (out-Core e))

-- the fact holds of each
abbrev pub Each : (Core → Type 0) → List Core → Type 0
Each P [] = Unit {0}
Each P (e ∷ es) = P e × Each P es

each_known : (P : Core → Type 0) (ps : List ((e : Core) × P e)) → Each P (map (λ p. p.0) ps)
each_known P [] = tt
each_known P (p ∷ ps) = (p.1, each_known P ps)

-- a fact that holds of an expression where it holds of its parts holds of all expressions
pub by_parts : (P : Core → Type 0) → ((e : Core) → Each P (parts_of e) → P e) → (e : Core) → P e
by_parts P step = ind-Core P (λ x y is.
    let known = subst (Each P) (sym (parts_in-map (λ p. p.0) y)) (each_known P (parts_in y)) in
    step (roll-Core x) (subst (λ l. Each P (parts_in l)) (is ∙ sym (out-roll-Core x)) known))
