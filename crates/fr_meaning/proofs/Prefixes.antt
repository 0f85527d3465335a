-- Parts and items that are evaluated before others don't depend on them.
use Rattle.std.proofs.Common.{◌≡◌, ℕ, ◌+◌, List, [], ◌∷◌, ◌++◌, length, refl, arith, Some, None}
use Rattle.std.specs.Option.{option_or}
use Rattle.std.proofs.lemmas.List.{append_assoc, append-nil}
use Rattle.fr_core.specs.declared.core_form.Core.{Core}
use Rattle.fr_core.specs.declared.kept.Kept.{Kept}
use Rattle.fr_core.specs.declared.program.Item.{Item}
use Rattle.fr_core.specs.declared.program.Item.TheVariants as item
use Rattle.fr_meaning.specs.Words.{Seen, Env, First, Done, under}
use Rattle.fr_meaning.specs.Cells.{child}
use Rattle.fr_meaning.specs.Evaluation.{Ev, parts}
use Rattle.fr_meaning.specs.Afresh.{Evaluated, items, join_item}
use Rattle.fr_meaning.specs.Dependence.{parts_followed, bound, followed}

pub first_of_three : (a b c : First) → option_or a (option_or b c) ≡ option_or (option_or a b) c
first_of_three None b c = refl
first_of_three (Some f) b c = refl

pub parts_split : (ev : Ev) (env : Env) (k : Kept) (i : ℕ) (es others : List Core)
    → parts ev env k i (es ++ others) ≡ parts_followed (parts ev env k i es) (parts ev env k (i + length es) others)
parts_split ev env k i [] others =
    let number : i + 0 ≡ i = omega arith in
    let rest = parts ev env k i others in
    let cost : 0 + rest.cost ≡ rest.cost = omega arith in
    rw number (rw cost refl)
parts_split ev env k i (e ∷ es) others =
    let d = ev e env (child k i) in
    let number : i + 1 + length es ≡ i + length (e ∷ es) = omega arith in
    let a = parts ev env k (i + 1) es in
    let b = parts ev env k (i + length (e ∷ es)) others in
    let cost : d.cost + (a.cost + b.cost) ≡ d.cost + a.cost + b.cost = omega arith in
    rw (parts_split ev env k (i + 1) es others, number, cost, first_of_three (under i d.first) a.first b.first) refl

join_followed : (i : ℕ) (shown : List Seen) (d : Done) (a b : Evaluated) → join_item i shown d (followed a b) ≡ followed (join_item i shown d a) b
join_followed i shown d a b =
    let cost : d.cost + (a.cost + b.cost) ≡ d.cost + a.cost + b.cost = omega arith in
    rw (append_assoc shown a.shown b.shown, cost, first_of_three (under i d.first) a.first b.first) refl

pub items_split : (ev : Ev) (env : Env) (k : Kept) (i : ℕ) (is js : List Item)
    → items ev env k i (is ++ js) ≡ followed (items ev env k i is) (items ev (env ++ bound ev env k i is) k (i + length is) js)
items_split ev env k i [] js =
    let number : i + 0 ≡ i = omega arith in
    let rest = items ev env k i js in
    let cost : 0 + rest.cost ≡ rest.cost = omega arith in
    rw (number, append-nil env) (rw cost refl)
items_split ev env k i (item.Define e ∷ is) js =
    let d = ev e env (child k i) in
    let inner = env ++ d.value ∷ [] in
    let vs = bound ev inner k (i + 1) is in
    let number : i + 1 + length is ≡ i + length (item.Define e ∷ is) = omega arith in
    rw (items_split ev inner k (i + 1) is js, append_assoc env (d.value ∷ []) vs, number) (join_followed i [] d (items ev inner k (i + 1) is) (items ev (env ++ d.value ∷ vs) k (i + length (item.Define e ∷ is)) js))
items_split ev env k i (item.Show name e ∷ is) js =
    let d = ev e env (child k i) in
    let vs = bound ev env k (i + 1) is in
    let number : i + 1 + length is ≡ i + length (item.Show name e ∷ is) = omega arith in
    rw (items_split ev env k (i + 1) is js, number) (join_followed i (d.value ∷ []) d (items ev env k (i + 1) is) (items ev (env ++ vs) k (i + length (item.Show name e ∷ is)) js))
