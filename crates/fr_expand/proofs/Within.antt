-- Core expressions whose numbers name something in scope, whose forms have their parts, and which have few parts and variables.
use Rattle.std.specs.Prelude.{ℕ, ◌≡◌, ◌+◌, ◌*◌, ◌≤◌, ◌&&◌, Bool, true, List, [], ◌∷◌, ◌++◌, map, length, max}
use Rattle.std.proofs.Common.{refl, ap, ◌∙◌, arith}
use Rattle.fr_value.specs.Data.{greatest, total}
use Rattle.fr_value.specs.declared.value.Value.{Value}
use Rattle.fr_core.specs.declared.core_form.Core.{Core, out-Core}
use Rattle.fr_core.specs.declared.core_form.Core.TheOpen.{Core-F}
use Rattle.fr_core.specs.declared.core_form.Core.TheVariants as core
use Rattle.fr_core.specs.declared.core_form.Core.TheVariants.{outs-Lit, outs-Let, outs-If}
use Rattle.fr_core.specs.Shapes.{inner, outer, parts_in, entries, has_its_parts, all_true}
use Rattle.fr_core.specs.WellFormed.{names_something, is_scoped, is_formed, count, longest, widest}
use Rattle.fr_core.proofs.Folds.{count-opens, longest-opens, widest-opens, scoped-opens, formed-opens}
use Rattle.fr_core.proofs.PartLists.{parts-outer, total-body, greatest-body, all_true-body, widest-outer, widest-body, all_at-outer, all_at-body}

-- an expression is so, where there are so many functions, sources and variables: it has at most m expressions, four of them to spare, and its lists and what it binds have at most w entries
pub record Within (functions sources n m w : ℕ) (c : Core) : Type 0 where
  pub scoped : is_scoped functions sources c n ≡ true
  pub formed : is_formed c ≡ true
  pub few : count c + 4 ≤ m
  pub short : longest c ≤ w
  pub narrow : widest c ≤ w

-- so are these, which have as many expressions together
pub record AllWithin (functions sources n m w : ℕ) (cs : List Core) : Type 0 where
  pub scoped : all_true (map (λ c. is_scoped functions sources c n) cs) ≡ true
  pub formed : all_true (map is_formed cs) ≡ true
  pub few : total (map count cs) + 4 * length cs ≤ m
  pub short : greatest (map longest cs) ≤ w
  pub narrow : greatest (map widest cs) ≤ w

pub both_true : (a b : Bool) → a ≡ true → b ≡ true → (a && b) ≡ true
both_true a b h k = rw (h, k) refl

module _ {functions sources n : ℕ} where
  pub more : {c : Core} {m o v w : ℕ} → Within functions sources n m v c → m ≤ o → v ≤ w → Within functions sources n o w c
  more h l k = record { scoped = h.scoped; formed = h.formed; few = omega (arith, h.few, l); short = omega (arith, h.short, k); narrow = omega (arith, h.narrow, k) }

  pub wider : {c : Core} {m v w : ℕ} → Within functions sources n m v c → v ≤ w → Within functions sources n m w c
  wider h k = more h (omega arith) k

  pub none_within : {w : ℕ} → AllWithin functions sources n 0 w []
  none_within = record { scoped = refl; formed = refl; few = omega arith; short = omega arith; narrow = omega arith }

  pub one_more : {c : Core} {cs : List Core} {m o w : ℕ} → Within functions sources n m w c → AllWithin functions sources n o w cs → AllWithin functions sources n (m + o) w (c ∷ cs)
  one_more h k = record {
    scoped = both_true _ _ h.scoped k.scoped;
    formed = both_true _ _ h.formed k.formed;
    few = omega (arith, h.few, k.few);
    short = omega (arith, h.short, k.short);
    narrow = omega (arith, h.narrow, k.narrow);
  }

  -- a form of these parts
  pub parted : {c : Core} {f : Core-F Core} {es : List Core} {m o w : ℕ} → out-Core c ≡ f → inner f ≡ outer es → AllWithin functions sources n m w es → entries f ≤ w
      → names_something functions sources f n ≡ true → has_its_parts f ≡ true → m + 5 ≤ o + 4 * length es → Within functions sources n o w c
  parted {c} {es} x i h e s p l =
      let parts : parts_in (out-Core c) ≡ es = ap parts_in x ∙ ap (map (λ (y : ℕ × Core). y.1)) i ∙ parts-outer es in
      let counted = count-opens c ∙ ap (λ ps. 1 + total (map count ps)) parts in
      let lists = longest-opens c ∙ ap (λ ps. max (entries (out-Core c)) (greatest (map longest ps))) parts ∙ ap (λ y. max (entries y) (greatest (map longest es))) x in
      let binds = widest-opens c ∙ ap (λ y. greatest (map (λ (z : ℕ × Core). z.0 + widest z.1) (inner y))) x ∙ ap (λ ps. greatest (map (λ (z : ℕ × Core). z.0 + widest z.1) ps)) i ∙ widest-outer widest es in
      record {
        scoped = scoped-opens functions sources c n ∙ rw (x, s, i, all_at-outer (is_scoped functions sources) n es) h.scoped;
        formed = formed-opens c ∙ rw (parts, x, p) h.formed;
        few = omega (arith, h.few, l);
        short = omega (arith, h.short, e);
        narrow = omega (arith, h.narrow);
      }

  -- a form of these parts, and of a body that sees k more variables
  pub bodied : {c b : Core} {f : Core-F Core} {es : List Core} {m d o v w : ℕ} (k : ℕ) → out-Core c ≡ f → inner f ≡ outer es ++ (k, b) ∷ [] → AllWithin functions sources n m w es
      → Within functions sources (n + k) d v b → entries f ≤ w → names_something functions sources f n ≡ true → has_its_parts f ≡ true → m + d + 1 ≤ o + 4 * length es → k + v ≤ w
      → Within functions sources n o w c
  bodied {c} {b} {es} k x i h j e s p l q =
      let parts : parts_in (out-Core c) ≡ map (λ (y : ℕ × Core). y.1) (outer es ++ (k, b) ∷ []) = ap parts_in x ∙ ap (map (λ (y : ℕ × Core). y.1)) i in
      let counted = count-opens c ∙ ap (λ ps. 1 + total (map count ps)) parts ∙ ap (λ y. 1 + y) (total-body count es k b) in
      let lists = longest-opens c ∙ ap (λ ps. max (entries (out-Core c)) (greatest (map longest ps))) parts ∙ ap (λ y. max (entries (out-Core c)) y) (greatest-body longest es k b)
      ∙ ap (λ y. max (entries y) (max (greatest (map longest es)) (longest b))) x in
      let binds = widest-opens c ∙ ap (λ y. greatest (map (λ (z : ℕ × Core). z.0 + widest z.1) (inner y))) x ∙ ap (λ ps. greatest (map (λ (z : ℕ × Core). z.0 + widest z.1) ps)) i ∙ widest-body widest es k b in
      record {
        scoped = scoped-opens functions sources c n ∙ rw (x, s, i, all_at-body (is_scoped functions sources) n es k b) (both_true _ _ h.scoped j.scoped);
        formed = formed-opens c ∙ rw (parts, x, p, all_true-body is_formed es k b) (both_true _ _ h.formed j.formed);
        few = omega (arith, h.few, j.few, l);
        short = omega (arith, h.short, j.short, e, q);
        narrow = omega (arith, h.narrow, j.narrow, q);
      }

  pub leaf : {c : Core} {f : Core-F Core} {w : ℕ} → out-Core c ≡ f → inner f ≡ [] → entries f ≡ 0 → names_something functions sources f n ≡ true → has_its_parts f ≡ true
      → Within functions sources n 5 w c
  leaf x i e s p = parted x i none_within (omega (arith, e)) s p (omega arith)

  pub literal_within : (v : Value) (w : ℕ) → Within functions sources n 5 w (core.Lit v)
  literal_within v w = leaf (outs-Lit v) refl refl refl refl

  -- a test
  pub tested : {a b c : Core} {m o d l w : ℕ} → Within functions sources n m w a → Within functions sources n o w b → Within functions sources n d w c → m + o + d ≤ l + 7
      → Within functions sources n l w (core.If a b c)
  tested {a} {b} {c} h k j l = parted (outs-If a b c) refl (one_more h (one_more k (one_more j none_within))) (omega arith) refl refl (omega (arith, l))

  -- one binding alone
  pub let_one : {a b : Core} {m d o v w : ℕ} → Within functions sources n m w a → Within functions sources (n + 1) d v b → m + d ≤ o + 3 → 1 + v ≤ w → Within functions sources n o w (core.Let (a ∷ []) b)
  let_one {a} {b} h k l q = bodied 1 (outs-Let (a ∷ []) b) refl (one_more h none_within) k (omega (arith, q)) refl refl (omega (arith, l)) q
