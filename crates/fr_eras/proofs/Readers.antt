-- The edges of a node, one after another.
use Rattle.std.proofs.Common.{◌≡◌, ℕ, zero, suc, ◌+◌, ◌<◌, ◌≤◌, List, [], ◌∷◌, length, drop, ◌⊎◌, inl, inr, Option, Some, None, Bool, true, false, cond, nat_eq, ◌||◌, slice_get, refl, sym, ap, ◌∙◌, subst, arith}
use Rattle.std.specs.Option.{option_map}
use Rattle.fr_links.proofs.Has.{by_truth, eq_is, eq_self, or_case}
use Rattle.fr_store.specs.Nodes.{Edge, edge_number, has_reader}

abbrev pub has_number : List Edge → ℕ → Bool
has_number [] n = false
has_number (e ∷ es) n = nat_eq e.number n || has_number es n

-- the edges from the last with a number on
abbrev pub from_last : List Edge → ℕ → List Edge
from_last [] n = []
from_last (e ∷ es) n = cond (has_number es n) (from_last es n) (cond (nat_eq e.number n) (e ∷ es) [])

-- how many edges are left from one on
abbrev pub edges_left : List Edge → Option ℕ → ℕ
edges_left es None = 0
edges_left es (Some n) = length (from_last es n)

or_true : (a b : Bool) → b ≡ true → (a || b) ≡ true
or_true true b e = refl
or_true false b e = e

later : (e : Edge) (es : List Edge) (n : ℕ) → has_number es n ≡ true → from_last (e ∷ es) n ≡ from_last es n
later e es n h = ap (λ (b : Bool). cond b (from_last es n) (cond (nat_eq e.number n) (e ∷ es) [])) h

here : (e : Edge) (es : List Edge) (n : ℕ) → has_number es n ≡ false → e.number ≡ n → from_last (e ∷ es) n ≡ e ∷ es
here e es n last is =
    ap (λ (b : Bool). cond b (from_last es n) (cond (nat_eq e.number n) (e ∷ es) [])) last
    ∙ ap (λ (b : Bool). cond b (e ∷ es) []) (subst (λ (m : ℕ). nat_eq e.number m ≡ true) is (eq_self e.number))

short : (es : List Edge) (n : ℕ) → has_number es n ≡ true → length (from_last es n) ≤ length es
short [] n h = cc
short (e ∷ es) n h = elim (by_truth (has_number es n)) [
  | inl more ↦
      let le : length (from_last es n) ≤ length es = short es n more in
      let same : length (from_last (e ∷ es) n) ≡ length (from_last es n) = ap length (later e es n more) in
      omega arith
  | inr last ↦
      let is : e.number ≡ n = or_case (nat_eq e.number n) (has_number es n) h (λ t. eq_is e.number n t) (λ t. cc) in
      let same : length (from_last (e ∷ es) n) ≡ length (e ∷ es) = ap length (here e es n last is) in
      omega arith
]

-- where a number stands last
record Last (es : List Edge) (n : ℕ) : Type 0 where
  place : ℕ
  edge : Edge
  rest : List Edge
  stands : slice_get es place ≡ Some edge
  is : edge.number ≡ n
  next : slice_get es (place + 1) ≡ slice_get rest 0
  from : from_last es n ≡ edge ∷ rest
  fewer : (m : ℕ) → has_number rest m ≡ true → length (from_last es m) ≤ length rest
  inside : (m : ℕ) → has_number rest m ≡ true → has_number es m ≡ true

last_of : (es : List Edge) (n : ℕ) → has_number es n ≡ true → Last es n
last_of [] n h = cc
last_of (e ∷ es) n h = elim (by_truth (has_number es n)) [
  | inl more ↦
      let r = last_of es n more in
      record {
        place = suc r.place;
        edge = r.edge;
        rest = r.rest;
        stands = r.stands;
        is = r.is;
        next = (let up : suc r.place + 1 ≡ suc (r.place + 1) = omega arith in ap (slice_get (e ∷ es)) up ∙ r.next);
        from = later e es n more ∙ r.from;
        fewer = λ m t. (
            let le : length (from_last es m) ≤ length r.rest = r.fewer m t in
            let same : length (from_last (e ∷ es) m) ≡ length (from_last es m) = ap length (later e es m (r.inside m t)) in
            omega arith
            );
        inside = λ m t. or_true (nat_eq e.number m) (has_number es m) (r.inside m t);
      }
  | inr last ↦
      let is : e.number ≡ n = or_case (nat_eq e.number n) (has_number es n) h (λ t. eq_is e.number n t) (λ t. cc) in
      record {
        place = 0;
        edge = e;
        rest = es;
        stands = refl;
        is = is;
        next = refl;
        from = here e es n last is;
        fewer = λ m t. (
            let le : length (from_last es m) ≤ length es = short es m t in
            let same : length (from_last (e ∷ es) m) ≡ length (from_last es m) = ap length (later e es m t) in
            omega arith
            );
        inside = λ m t. or_true (nat_eq e.number m) (has_number es m) t;
      }
]

number_stands : (es : List Edge) (place : ℕ) (e : Edge) → slice_get es place ≡ Some e → has_number es e.number ≡ true
number_stands [] place e s = cc
number_stands (d ∷ es) zero e s =
    let same : d ≡ e = cc in
    subst (λ (f : Edge). (nat_eq d.number f.number || has_number es f.number) ≡ true) same (or_first (nat_eq d.number d.number) (has_number es d.number) (eq_self d.number))
  where
    or_first : (a b : Bool) → a ≡ true → (a || b) ≡ true
    or_first true b t = refl
    or_first false b t = cc
number_stands (d ∷ es) (suc place) e s = or_true (nat_eq d.number e.number) (has_number es e.number) (number_stands es place e s)

pub edges_less : (es : List Edge) (place : ℕ) (e : Edge) (at : Option ℕ) → slice_get es place ≡ Some e
    → ((place' : ℕ) (e' : Edge) → slice_get es place' ≡ Some e' → e'.number ≡ e.number → at ≡ edge_number es (place' + 1))
    → edges_left es at < edges_left es (Some e.number)
edges_less es place e at s next =
    let l = last_of es e.number (number_stands es place e s) in
    let is : at ≡ option_map (λ f. f.number) (slice_get l.rest 0) =
    next l.place l.edge l.stands l.is ∙ ap (option_map (λ f. f.number)) l.next in
    let now : edges_left es (Some e.number) ≡ length (l.edge ∷ l.rest) = ap length l.from in
    let then : edges_left es (option_map (λ f. f.number) (slice_get l.rest 0)) ≤ length l.rest = after l.rest l.fewer in
    let same : edges_left es at ≡ edges_left es (option_map (λ f. f.number) (slice_get l.rest 0)) = ap (edges_left es) is in
    below (edges_left es at) (edges_left es (Some e.number)) (edges_left es (option_map (λ f. f.number) (slice_get l.rest 0))) (length l.rest) same now then
  where
    below : (p q r n : ℕ) → p ≡ r → q ≡ suc n → r ≤ n → p < q
    below p q r n a b c = omega arith

    after : (rest : List Edge) → ((m : ℕ) → has_number rest m ≡ true → length (from_last es m) ≤ length rest)
        → edges_left es (option_map (λ f. f.number) (slice_get rest 0)) ≤ length rest
    after [] fewer = omega arith
    after (f ∷ rest) fewer = fewer f.number (number_stands (f ∷ rest) 0 f refl)

-- an edge that was answered
pub edge_there : (es : List Edge) (place at : ℕ) → Some at ≡ edge_number es place → (e : Edge) × (slice_get es place ≡ Some e) × (e.number ≡ at)
edge_there es place at h = of (slice_get es place) refl h
  where
    of : (o : Option Edge) → slice_get es place ≡ o → Some at ≡ option_map (λ f. f.number) o → (e : Edge) × (slice_get es place ≡ Some e) × (e.number ≡ at)
    of None s e = cc
    of (Some f) s e = (f, s, cc)

pub dropped : (es : List Edge) (place : ℕ) (e : Edge) → slice_get es place ≡ Some e → drop place es ≡ e ∷ drop (place + 1) es
dropped [] place e s = cc
dropped (d ∷ es) zero e s = let same : d ≡ e = cc in ap (λ (f : Edge). f ∷ es) same
dropped (d ∷ es) (suc place) e s = dropped es place e s ∙ ap (λ (n : ℕ). e ∷ drop n (d ∷ es)) (let up : suc (place + 1) ≡ suc place + 1 = omega arith in up)

pub all_dropped : (es : List Edge) (place : ℕ) → None ≡ edge_number es place → drop place es ≡ []
all_dropped [] zero h = refl
all_dropped [] (suc place) h = refl
all_dropped (d ∷ es) zero h = cc
all_dropped (d ∷ es) (suc place) h = all_dropped es place h

pub first_reader : (e : Edge) (es : List Edge) (b : ℕ) → has_reader (e ∷ es) b ≡ true → (b ≡ e.node) ⊎ (has_reader es b ≡ true)
first_reader e es b h = or_case (nat_eq e.node b) (has_reader es b) h (λ t. inl (sym (eq_is e.node b t))) (λ t. inr t)

pub stands_reader : (es : List Edge) (place : ℕ) (e : Edge) → slice_get es place ≡ Some e → has_reader es e.node ≡ true
stands_reader [] place e s = cc
stands_reader (d ∷ es) zero e s =
    let same : d ≡ e = cc in
    subst (λ (f : Edge). (nat_eq d.node f.node || has_reader es f.node) ≡ true) same (or_first (nat_eq d.node d.node) (has_reader es d.node) (eq_self d.node))
  where
    or_first : (a b : Bool) → a ≡ true → (a || b) ≡ true
    or_first true b t = refl
    or_first false b t = cc
stands_reader (d ∷ es) (suc place) e s = or_true (nat_eq d.node e.node) (has_reader es e.node) (stands_reader es place e s)
