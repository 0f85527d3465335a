-- Texts that are appended piece by piece.
use Rattle.std.specs.Prelude.{ℕ, suc, zero, ◌+◌, ◌<◌, ◌≡◌, List, [], ◌∷◌, ◌++◌, length, map, take, drop, get_or, slice_get, Option, Some, None, Result, Ok, Err, OnOk, OnErr, is_ok, if◌then◌else◌}
use Rattle.std.proofs.Common.{refl, sym, ◌∙◌, ap, subst, arith, add-one}
use Rattle.std.proofs.lemmas.List.{append_assoc, append-nil, take-append-drop}
use Rattle.fr_value.specs.declared.value.Datum.{Datum}
use Rattle.fr_value.specs.declared.value.Value.{Value}
use Rattle.fr_value.specs.declared.value.Value.TheVariants as value
use Rattle.fr_value.specs.Data.{data_of, datum_of, IsRun}
use Rattle.fr_value.specs.Text.{escaped_byte, escaped, spaced, datum_text, behind_texts, behind_data, value_text, text-Int, text-Bool, text-Sym, text-Str, text-Seq, AppendsPart}
use Rattle.std.proofs.lemmas.Option.{slice_get_within}
use Rattle.std.specs.Option.{option_map, option_copied}
use Rattle.std.specs.Borrow.{Bor}
use Rattle.fr_value.proofs.Meet.{same_some}

IsGiven : {A : Type 0} → Option A → Type 0
IsGiven None = ⊥
IsGiven (Some a) = Unit {0}

some_none : {A : Type 0} (a : A) → Some a ≡ None → ⊥
unfolding IsGiven
some_none a h = subst IsGiven h tt

-- a fact holds where a call answers an error
pub on_err : {T E P : Type 0} (r : Result T E) → P → OnErr r P
on_err (Ok x) h = tt
on_err (Err e) h = h

pub on_err_then : {T E P Q : Type 0} (r : Result T E) → (P → Q) → OnErr r P → OnErr r Q
on_err_then (Ok x) f h = tt
on_err_then (Err e) f h = f h

-- a fact of what was appended holds where a call answers no error
pub on_ok_then : {T E : Type 0} (r : Result T E) (new mid more : List ℕ) (P : Type 0) → new ≡ (if is_ok r then mid ++ more else mid) → (new ≡ mid ++ more → P) → OnOk r P
on_ok_then (Ok x) new mid more P h f = f h
on_ok_then (Err e) new mid more P h f = tt

-- a part of the first piece
pub part_first : (old new text more : List ℕ) → AppendsPart old new text → AppendsPart old new (text ++ more)
part_first old new text more h = (h.0, h.1 ++ more, h.2, sym (append_assoc h.0 h.1 more) ∙ ap (λ x. x ++ more) h.3)

-- a part of what comes behind the first piece
pub part_behind : (old mid new text more : List ℕ) → mid ≡ old ++ text → AppendsPart mid new more → AppendsPart old new (text ++ more)
part_behind old mid new text more e h =
    (text ++ h.0, h.1, h.2 ∙ ap (λ x. x ++ h.0) e ∙ append_assoc old text h.0, append_assoc text h.0 h.1 ∙ ap (λ x. text ++ x) h.3)

-- a part of the second of three pieces
pub part_between : (old mid new a b c : List ℕ) → mid ≡ old ++ a → AppendsPart mid new b → AppendsPart old new (a ++ (b ++ c))
part_between old mid new a b c e h = part_behind old mid new a (b ++ c) e (part_first mid new b c h)

-- pieces one behind the other
pub join : (old mid new a b : List ℕ) → mid ≡ old ++ a → new ≡ mid ++ b → new ≡ old ++ (a ++ b)
join old mid new a b h k = k ∙ ap (λ x. x ++ b) h ∙ append_assoc old a b

pub escaped-append : (a b : List ℕ) → escaped (a ++ b) ≡ escaped a ++ escaped b
escaped-append [] b = refl
escaped-append (c ∷ a) b = ap (λ x. escaped_byte c ++ x) (escaped-append a b) ∙ sym (append_assoc (escaped_byte c) (escaped a) (escaped b))

pub behind-append : (a b : List Value) → behind_texts (a ++ b) ≡ behind_texts a ++ behind_texts b
behind-append [] b = refl
behind-append (v ∷ a) b = ap (λ x. 32 ∷ datum_text (datum_of v) ++ x) (behind-append a b) ∙ sym (append_assoc (32 ∷ datum_text (datum_of v)) (behind_texts a) (behind_texts b))

next_taken : {A : Type 0} (xs : List A) (i : ℕ) (d : A) → i < length xs → take (i + 1) xs ≡ take i xs ++ get_or xs i d ∷ []
next_taken [] i d h = absurd (omega (arith, h))
next_taken (y ∷ xs) zero d h = refl
next_taken (y ∷ xs) (suc i) d h =
    let rest : take (i + 1) xs ≡ take i xs ++ get_or xs i d ∷ [] = next_taken xs i d (omega (arith, h)) in
    rw add-one (ap (λ z. y ∷ z) (ap (λ n. take n xs) (sym (add-one i)) ∙ rest))

next_item : (vs : List Value) (i : ℕ) (v : Value) → i < length vs → v ≡ get_or vs i v → take (i + 1) vs ≡ take i vs ++ v ∷ []
next_item vs i v h e = next_taken vs i v h ∙ ap (λ y. take i vs ++ y ∷ []) (sym e)

-- a byte more was appended
pub escaped_next : (old mid new bs : List ℕ) (i : ℕ) → i < length bs → mid ≡ old ++ escaped (take i bs) → new ≡ mid ++ escaped_byte (get_or bs i 0)
    → new ≡ old ++ escaped (take (i + 1) bs)
escaped_next old mid new bs i h m k =
    let b = get_or bs i 0 in
    join old mid new (escaped (take i bs)) (escaped_byte b) m k
    ∙ ap (λ x. old ++ x) (ap (λ x. escaped (take i bs) ++ x) (sym (append-nil (escaped_byte b))) ∙ sym (escaped-append (take i bs) (b ∷ [])) ∙ ap escaped (sym (next_taken bs i 0 h)))

-- the bytes so far are a part of the text
pub escaped_so_far : (old new bs : List ℕ) (i : ℕ) → new ≡ old ++ escaped (take i bs) → AppendsPart old new (escaped bs)
escaped_so_far old new bs i h = (escaped (take i bs), escaped (drop i bs), h, sym (escaped-append (take i bs) (drop i bs)) ∙ ap escaped (take-append-drop i bs))

-- an item's text was appended behind a space
pub behind_next : (old mid space new : List ℕ) (vs : List Value) (i : ℕ) (v : Value) → i < length vs → v ≡ get_or vs i v → mid ≡ old ++ behind_texts (take i vs)
    → space ≡ mid ++ 32 ∷ [] → new ≡ space ++ datum_text (datum_of v) → new ≡ old ++ behind_texts (take (i + 1) vs)
behind_next old mid space new vs i v h e m s k =
    join old mid new (behind_texts (take i vs)) (32 ∷ datum_text (datum_of v)) m (join mid space new (32 ∷ []) (datum_text (datum_of v)) s k)
    ∙ ap (λ x. old ++ x) (ap (λ x. behind_texts (take i vs) ++ 32 ∷ x) (sym (append-nil (datum_text (datum_of v)))) ∙ sym (behind-append (take i vs) (v ∷ [])) ∙ ap behind_texts (sym (next_item vs i v h e)))

-- the items so far are a part of the text
pub behind_so_far : (old new : List ℕ) (vs : List Value) (i : ℕ) → new ≡ old ++ behind_texts (take i vs) → AppendsPart old new (behind_texts vs)
behind_so_far old new vs i h = (behind_texts (take i vs), behind_texts (drop i vs), h, sym (behind-append (take i vs) (drop i vs)) ∙ ap behind_texts (take-append-drop i vs))

-- the items so far, and a part of the next
pub behind_part : (old mid space new : List ℕ) (vs : List Value) (i : ℕ) (v : Value) → i < length vs → v ≡ get_or vs i v → mid ≡ old ++ behind_texts (take i vs)
    → space ≡ mid ++ 32 ∷ [] → AppendsPart space new (datum_text (datum_of v)) → AppendsPart old new (behind_texts vs)
behind_part old mid space new vs i v h e m s k =
    let item : AppendsPart mid new (32 ∷ datum_text (datum_of v)) = part_behind mid space new (32 ∷ []) (datum_text (datum_of v)) s k in
    let next : AppendsPart mid new (behind_texts (v ∷ [])) = subst (λ x. AppendsPart mid new (32 ∷ x)) (sym (append-nil (datum_text (datum_of v)))) item in
    let taken : AppendsPart old new (behind_texts (take (i + 1) vs)) =
    subst (AppendsPart old new) (sym (behind-append (take i vs) (v ∷ [])) ∙ ap behind_texts (sym (next_item vs i v h e))) (part_behind old mid new (behind_texts (take i vs)) (behind_texts (v ∷ [])) m next) in
    subst (AppendsPart old new) (sym (behind-append (take (i + 1) vs) (drop (i + 1) vs)) ∙ ap behind_texts (take-append-drop (i + 1) vs))
    (part_first old new (behind_texts (take (i + 1) vs)) (behind_texts (drop (i + 1) vs)) taken)

-- a value's text goes by its form
pub text_of : (v : Value) → datum_text (datum_of v) ≡ value_text v
text_of (value.Int n) = text-Int n
text_of (value.Bool b) = text-Bool b
text_of (value.Sym s) = text-Sym s
text_of (value.Str s) = text-Str s
text_of (value.List ds) = text-Seq ds

-- the texts of data put together
pub behind_data-append : (a b : List Datum) → behind_data (a ++ b) ≡ behind_data a ++ behind_data b
behind_data-append [] b = refl
behind_data-append (d ∷ a) b = ap (λ x. 32 ∷ datum_text d ++ x) (behind_data-append a b) ∙ sym (append_assoc (32 ∷ datum_text d) (behind_data a) (behind_data b))

-- what was appended and what is left are the texts of all items behind the first
abbrev pub Walk : List ℕ → List ℕ → List Datum → ℕ → Type 0
Walk old mid ds i = (done : List ℕ) × (mid ≡ old ++ done) × (done ++ behind_data (drop i ds) ≡ behind_data (drop 1 ds))

run_text : (ds : List Datum) (i : ℕ) (v : Value) (vs : List Value) → IsRun ds i v vs → behind_data (drop i ds) ≡ behind_texts (v ∷ vs) ++ behind_data (drop (i + 1 + length vs) ds)
run_text ds i v vs r = ap behind_data r ∙ behind_data-append (data_of (v ∷ vs)) (drop (i + 1 + length vs) ds)

pub walk_next : (old mid new : List ℕ) (ds : List Datum) (i n : ℕ) (v : Value) (vs : List Value) → Walk old mid ds i → IsRun ds i v vs → new ≡ mid ++ behind_texts (v ∷ vs) → n ≡ i + 1 + length vs → Walk old new ds n
walk_next old mid new ds i n v vs w r h k =
    let left : (w.0 ++ behind_texts (v ∷ vs)) ++ behind_data (drop (i + 1 + length vs) ds) ≡ behind_data (drop 1 ds) =
    append_assoc w.0 (behind_texts (v ∷ vs)) (behind_data (drop (i + 1 + length vs) ds)) ∙ ap (λ x. w.0 ++ x) (sym (run_text ds i v vs r)) ∙ w.2 in
    subst (Walk old new ds) (sym k) (w.0 ++ behind_texts (v ∷ vs), join old mid new w.0 (behind_texts (v ∷ vs)) w.1 h, left)

pub walk_part : (old mid new : List ℕ) (ds : List Datum) (i : ℕ) (v : Value) (vs : List Value) → Walk old mid ds i → IsRun ds i v vs → AppendsPart mid new (behind_texts (v ∷ vs)) → AppendsPart old new (behind_data (drop 1 ds))
walk_part old mid new ds i v vs w r h =
    let rest = behind_data (drop (i + 1 + length vs) ds) in
    subst (AppendsPart old new) (ap (λ x. w.0 ++ x) (sym (run_text ds i v vs r)) ∙ w.2) (part_between old mid new w.0 (behind_texts (v ∷ vs)) rest w.1 h)

-- the first item, and the others
pub first_is : (ds : List Datum) (d : Datum) → Some d ≡ slice_get ds 0 → ds ≡ d ∷ drop 1 ds
first_is [] d h = absurd (omega (arith, slice_get_within [] 0 d (sym h)))
first_is (x ∷ xs) d h = ap (λ y. y ∷ xs) (sym (same_some d x h))

pub none_is : (ds : List Datum) → None ≡ slice_get ds 0 → ds ≡ []
none_is [] h = refl
none_is (x ∷ xs) h = absurd (some_none x (sym h))

pub found : (o : Option (Bor Value)) (ds : List Datum) (b : Bor Value) → o ≡ Some b → option_map datum_of (option_copied o) ≡ slice_get ds 0 → Some (datum_of b.now) ≡ slice_get ds 0
found o ds b e h = ap (λ x. option_map datum_of (option_copied x)) (sym e) ∙ h

-- a list's text in whole
pub list_whole : (old mid first behind new : List ℕ) (ds tail : List Datum) (d : Datum) → mid ≡ old ++ 40 ∷ [] → ds ≡ d ∷ tail → first ≡ mid ++ datum_text d → behind ≡ first ++ behind_data tail → new ≡ behind ++ 41 ∷ []
    → new ≡ old ++ (40 ∷ spaced (map datum_text ds) ++ 41 ∷ [])
list_whole old mid first behind new ds tail d e s f h k =
    let item = datum_text d in
    join old behind new (40 ∷ (item ++ behind_data tail)) (41 ∷ []) (join old first behind (40 ∷ item) (behind_data tail) (join old mid first (40 ∷ []) item e f) h) k
    ∙ ap (λ xs. old ++ (40 ∷ spaced (map datum_text xs) ++ 41 ∷ [])) (sym s)

pub list_none : (old mid new : List ℕ) (ds : List Datum) → mid ≡ old ++ 40 ∷ [] → ds ≡ [] → new ≡ mid ++ 41 ∷ [] → new ≡ old ++ (40 ∷ spaced (map datum_text ds) ++ 41 ∷ [])
list_none old mid new ds e s k = join old mid new (40 ∷ []) (41 ∷ []) e k ∙ ap (λ xs. old ++ (40 ∷ spaced (map datum_text xs) ++ 41 ∷ [])) (sym s)

-- a list's text up to a part of its first item
pub list_first : (old mid new : List ℕ) (ds tail : List Datum) (d : Datum) → mid ≡ old ++ 40 ∷ [] → ds ≡ d ∷ tail → AppendsPart mid new (datum_text d)
    → AppendsPart old new (40 ∷ spaced (map datum_text ds) ++ 41 ∷ [])
list_first old mid new ds tail d e s h =
    let item = datum_text d in
    let all = part_between old mid new (40 ∷ []) item (behind_data tail ++ 41 ∷ []) e h in
    subst (λ xs. AppendsPart old new (40 ∷ spaced (map datum_text xs) ++ 41 ∷ [])) (sym s)
    (subst (λ x. AppendsPart old new (40 ∷ x)) (sym (append_assoc item (behind_data tail) (41 ∷ []))) all)

-- a list's text up to a part of its other items
pub list_others : (old mid first new : List ℕ) (ds tail : List Datum) (d : Datum) → mid ≡ old ++ 40 ∷ [] → ds ≡ d ∷ tail → first ≡ mid ++ datum_text d
    → AppendsPart first new (behind_data tail) → AppendsPart old new (40 ∷ spaced (map datum_text ds) ++ 41 ∷ [])
list_others old mid first new ds tail d e s f h =
    let item = datum_text d in
    let all = part_between old first new (40 ∷ item) (behind_data tail) (41 ∷ []) (join old mid first (40 ∷ []) item e f) h in
    subst (λ xs. AppendsPart old new (40 ∷ spaced (map datum_text xs) ++ 41 ∷ [])) (sym s)
    (subst (λ x. AppendsPart old new (40 ∷ x)) (sym (append_assoc item (behind_data tail) (41 ∷ []))) all)

-- the first of some values, and a part of the others
pub run_first : (old mid new : List ℕ) (v : Value) (vs : List Value) → mid ≡ old ++ 32 ∷ [] → AppendsPart mid new (datum_text (datum_of v)) → AppendsPart old new (behind_texts (v ∷ vs))
run_first old mid new v vs e h = part_between old mid new (32 ∷ []) (datum_text (datum_of v)) (behind_texts vs) e h

pub run_others : (old mid first new : List ℕ) (v : Value) (vs : List Value) → mid ≡ old ++ 32 ∷ [] → first ≡ mid ++ datum_text (datum_of v) → AppendsPart first new (behind_texts vs) → AppendsPart old new (behind_texts (v ∷ vs))
run_others old mid first new v vs e f h = part_behind old first new (32 ∷ datum_text (datum_of v)) (behind_texts vs) (join old mid first (32 ∷ []) (datum_text (datum_of v)) e f) h

pub string_text : (v : Value) (s text bytes : List ℕ) → v ≡ value.Str s → text ≡ s → bytes ≡ text → 34 ∷ escaped bytes ++ 34 ∷ [] ≡ datum_text (datum_of v)
string_text v s text bytes e h k = ap (λ x. 34 ∷ escaped x ++ 34 ∷ []) (k ∙ h) ∙ sym (text-Str s) ∙ ap (λ x. datum_text (datum_of x)) (sym e)
