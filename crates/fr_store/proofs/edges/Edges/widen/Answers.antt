use Rattle.std.proofs.Common.{◌≡◌, ℕ, ◌+◌, ◌-◌, ◌*◌, ◌/◌, ◌<◌, vec_len, List, length, inl, inr, refl, sym, ap, ◌∙◌, arith, slice_set, ◌++◌, ◌∷◌, []}
use Rattle.std.specs.Vec.{with_item}
use Rattle.fr_store.specs.declared.edges.Run.{Run}
use Rattle.fr_store.specs.Kept.{owner_at}
use Rattle.fr_store.proofs.Widening.{Grows, grown_edges, grown_widened, grows}
use Rattle.fr_store.proofs.edges.Edges.widen.Goals as goal

pub returns-in_err-resize-clause-sound : goal.returns-in_err-resize-clause-sound
returns-in_err-resize-clause-sound c = let a = c.in_ok-reserve-2.ensures.ok in let b = c.in_err-resize.ensures.full in let d = c.len-before.ensures in let e = c.reserve-2.ensures.len in absurd (omega arith)

pub returns-in_err-resize-clause-err : goal.returns-in_err-resize-clause-err
returns-in_err-resize-clause-err c = let a = c.in_ok-reserve-2.ensures.ok in let b = c.in_err-resize.ensures.full in let d = c.len-before.ensures in let e = c.reserve-2.ensures.len in absurd (omega arith)

in_place : (c : goal.After-self-1) → Grows c.args.self.now (record { runs = with_item c.reserve.new.self c.args.number (record { first = (4 * c.len-before.result); room = (4 * ((c.max-places.result - 1) / 4 + 1)) }); owners = c.resize.new.self; links = c.reserve-3.new.self }) c.args.number (4 * ((c.max-places.result - 1) / 4 + 1))
in_place c =
    let lt : c.args.number < length c.args.self.now.runs.items =
    (let a = c.if-number-len-2.true in let b = c.len-2.ensures in let d = c.reserve.ensures.len in let e = c.args.self.now.runs.ok.0 in omega arith) in
    let small = c.requires.sound.small in
    let was : c.len-before.result ≡ length c.args.self.now.owners.items = c.len-before.ensures ∙ c.args.self.now.owners.ok.0 in
    let now : length c.resize.new.self.items ≡ c.len-before.result + ((c.max-places.result - 1) / 4 + 1) = sym c.resize.new.self.ok.0 ∙ c.in_ok-resize.ensures.len in
    let kept : vec_len c.reserve-2.new.self ≡ c.len-before.result = c.reserve-2.ensures.len ∙ sym c.len-before.ensures in
    let most = c.if-places-first.false in
    grows c.args.self.now _ c.args.number (4 * ((c.max-places.result - 1) / 4 + 1)) (4 * c.len-before.result) (4 * c.len-before.result)
    (inl (lt, ap (λ (rs : List Run). slice_set rs c.args.number (record { first = (4 * c.len-before.result); room = (4 * ((c.max-places.result - 1) / 4 + 1)) })) c.reserve.ensures.items))
    (omega arith) (omega arith) (omega arith)
    (λ k lt small. c.in_ok-resize.ensures.by_index.0 (k / 4) 0 (omega arith) (omega arith) ∙ ap (λ (os : List ℕ). owner_at os k) c.reserve-2.ensures.items)
    (λ k le lt. c.in_ok-resize.ensures.by_index.1 (k / 4) 0 refl (omega arith) (omega arith))
    c.in_ok-reserve-3.ensures.lists c.in_ok-reserve-3.ensures.items (omega arith) (omega arith)

at_the_end : (c : goal.After-push_reserved) → Grows c.args.self.now (record { runs = c.push_reserved.new.self; owners = c.resize.new.self; links = c.reserve-3.new.self }) c.args.number (4 * ((c.max-places.result - 1) / 4 + 1))
at_the_end c =
    let same : c.args.number ≡ length c.args.self.now.runs.items =
    (let a = c.if-number-len-2.false in let b = c.len-2.ensures in let d = c.reserve.ensures.len in let e = c.args.self.now.runs.ok.0 in let f = c.requires.near in omega arith) in
    let small = c.requires.sound.small in
    let was : c.len-before.result ≡ length c.args.self.now.owners.items = c.len-before.ensures ∙ c.args.self.now.owners.ok.0 in
    let now : length c.resize.new.self.items ≡ c.len-before.result + ((c.max-places.result - 1) / 4 + 1) = sym c.resize.new.self.ok.0 ∙ c.in_ok-resize.ensures.len in
    let kept : vec_len c.reserve-2.new.self ≡ c.len-before.result = c.reserve-2.ensures.len ∙ sym c.len-before.ensures in
    let most = c.if-places-first.false in
    grows c.args.self.now _ c.args.number (4 * ((c.max-places.result - 1) / 4 + 1)) (4 * c.len-before.result) (4 * c.len-before.result)
    (inr (same, c.push_reserved.ensures.items ∙ ap (λ (rs : List Run). rs ++ (record { first = (4 * c.len-before.result); room = (4 * ((c.max-places.result - 1) / 4 + 1)) }) ∷ []) c.reserve.ensures.items))
    (omega arith) (omega arith) (omega arith)
    (λ k lt small. c.in_ok-resize.ensures.by_index.0 (k / 4) 0 (omega arith) (omega arith) ∙ ap (λ (os : List ℕ). owner_at os k) c.reserve-2.ensures.items)
    (λ k le lt. c.in_ok-resize.ensures.by_index.1 (k / 4) 0 refl (omega arith) (omega arith))
    c.in_ok-reserve-3.ensures.lists c.in_ok-reserve-3.ensures.items (omega arith) (omega arith)

pub returns-then-number-len-2-clause-sound : goal.returns-then-number-len-2-clause-sound
returns-then-number-len-2-clause-sound c = grown_edges c.args.self.now _ c.args.number (4 * ((c.max-places.result - 1) / 4 + 1)) c.requires.sound (in_place c) c.requires.idle

pub returns-then-number-len-2-clause-ok : goal.returns-then-number-len-2-clause-ok
returns-then-number-len-2-clause-ok c =
    grown_widened c.args.self.now _ c.args.number (4 * ((c.max-places.result - 1) / 4 + 1)) c.requires.sound (in_place c) c.requires.idle c.args.places (omega arith)

pub returns-else-number-len-2-clause-sound : goal.returns-else-number-len-2-clause-sound
returns-else-number-len-2-clause-sound c = grown_edges c.args.self.now _ c.args.number (4 * ((c.max-places.result - 1) / 4 + 1)) c.requires.sound (at_the_end c) c.requires.idle

pub returns-else-number-len-2-clause-ok : goal.returns-else-number-len-2-clause-ok
returns-else-number-len-2-clause-ok c =
    grown_widened c.args.self.now _ c.args.number (4 * ((c.max-places.result - 1) / 4 + 1)) c.requires.sound (at_the_end c) c.requires.idle c.args.places (omega arith)
