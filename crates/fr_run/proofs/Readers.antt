-- What a reader's turn says of a script that it was fed as a whole.
use Rattle.std.proofs.Common.{◌≡◌, ◌∙◌, ℕ, ◌+◌, ◌<◌, ◌≤◌, Bool, true, false, List, [], ◌∷◌, ◌++◌, length, drop, take, Some, None, refl, sym, ap, subst, arith}
use Rattle.std.proofs.lemmas.List.{append-nil, drop_all, take_all, length-take, take-append-drop}
use Rattle.fr_core.specs.declared.inputs.Inputs.{Inputs}
use Rattle.fr_script.specs.declared.reader.ScriptReader.{ScriptReader}
use Rattle.fr_script.specs.declared.turn.LineKind.{LineKind}
use Rattle.fr_script.specs.Limits.{script_limit}
use Rattle.fr_script.specs.Sources.{Named}
use Rattle.fr_script.specs.Instants.{whole, bad_line}
use Rattle.fr_script.specs.Stands.{Stands, MayFollow, is_told, IsNext, IsAll, IsBad}
use Rattle.fr_script.proofs.Limits.{good_is_short}
use Rattle.fr_show.specs.declared.stop.Stop.TheVariants as stop
use Rattle.fr_show.specs.Output.{script_end}
use Rattle.fr_run.specs.Scripts.{IsFed, ahead, Gives, EndsAt}

-- a reader that gave an instant stands behind it
pub gives_instant : (r q : ScriptReader) (i : Inputs) → is_told q ≡ is_told r
    → ((ss : List Named) (fed : List ℕ) (given : ℕ) → Stands r ss fed given → IsNext i ss fed (is_told r) given × Stands q ss fed (given + 1))
    → (ss : List Named) (script : List ℕ) (given : ℕ) → IsFed r ss script given → Gives (Some i) q ss script given
gives_instant r q i told turn ss script given h =
    let t = turn ss h.fed given h.stands in (
      subst (λ (b : List ℕ). ahead ss b given ≡ i ∷ ahead ss b (given + 1)) (sym h.parts) (t.0.whatever h.behind true h.follows),
      record {
        fed = h.fed;
        behind = h.behind;
        parts = h.parts;
        stands = t.1;
        follows = subst (λ (b : Bool). MayFollow b h.behind true) (sym told) h.follows;
        enough = λ e. h.enough (sym told ∙ e);
      },
    )

none_ahead : (ss : List Named) (script : List ℕ) (given : ℕ) → length (whole ss script true) ≡ given → ahead ss script given ≡ []
none_ahead ss script given h = drop_all given (whole ss script true) (omega (arith, h))

-- the whole was fed
fed_all : (script fed behind : List ℕ) → script ≡ fed ++ behind → behind ≡ [] → fed ≡ script
fed_all script fed behind h e = sym (h ∙ ap (λ (b : List ℕ). fed ++ b) e ∙ append-nil fed)

-- all was fed, and the end was told
ends_told : (told : Bool) (fed behind : List ℕ) (ss : List Named) (script : List ℕ) (given : ℕ) → script ≡ fed ++ behind → MayFollow told behind true
    → told ≡ true → IsAll ss fed told given → (ahead ss script given ≡ []) × (bad_line ss script true ≡ None)
ends_told true fed behind ss script given parts follows e is =
    let same = fed_all script fed behind parts follows.0 in (
      none_ahead ss script given (subst (λ (b : List ℕ). length (whole ss b true) ≡ given) same is.all),
      subst (λ (b : List ℕ). bad_line ss b true ≡ None) same is.good,
    )
ends_told false fed behind ss script given parts follows e is = cc

-- the end, where it was told
pub gives_end : (r q : ScriptReader)
    → ((ss : List Named) (fed : List ℕ) (given : ℕ) → Stands r ss fed given → ((is_told r ≡ true) × IsAll ss fed (is_told r) given) × Stands q ss fed given)
    → (ss : List Named) (script : List ℕ) (given : ℕ) → IsFed r ss script given → Gives None q ss script given
gives_end r q turn ss script given h =
    let t = turn ss h.fed given h.stands in
    ends_told (is_told r) h.fed h.behind ss script given h.parts h.follows t.0.0 t.0.1

-- a reader that was fed enough never wants more
pub gives_more : (r q : ScriptReader)
    → ((ss : List Named) (fed : List ℕ) (given : ℕ) → Stands r ss fed given → ((is_told r ≡ false) × IsAll ss fed (is_told r) given) × Stands q ss fed given)
    → (ss : List Named) (script : List ℕ) (given : ℕ) → IsFed r ss script given → Gives None q ss script given
gives_more r q turn ss script given h =
    let t = turn ss h.fed given h.stands in
    absurd (omega (arith, good_is_short ss h.fed (is_told r) t.0.1.good, h.enough t.0.0))

-- the bad line ends the script behind its whole instants
pub ends_bad : (r q : ScriptReader) (line : ℕ) (kind : LineKind)
    → ((ss : List Named) (fed : List ℕ) (given : ℕ) → Stands r ss fed given → IsBad (line, kind) ss fed (is_told r) given × Stands q ss fed given)
    → (ss : List Named) (script : List ℕ) (given : ℕ) → IsFed r ss script given → EndsAt (stop.Script line kind) ss script given
ends_bad r q line kind turn ss script given h =
    let t = turn ss h.fed given h.stands in
    let w = t.0.whatever h.behind true h.follows in (
      none_ahead ss script given (subst (λ (b : List ℕ). length (whole ss b true) ≡ given) (sym h.parts) w.0),
      ap script_end (subst (λ (b : List ℕ). bad_line ss b true ≡ Some (line, kind)) (sym h.parts) w.1),
    )

-- a reader of all bytes of a script, whose end was told
pub fed_whole : (r : ScriptReader) (ss : List Named) (bytes file : List ℕ) (limit : ℕ) → Stands r ss bytes 0 → is_told r ≡ true
    → length bytes ≤ limit → bytes ≡ take (limit + 1) file → IsFed r ss file 0
fed_whole r ss bytes file limit stands told short is =
    let whole_file : bytes ≡ file = is ∙ take_all (limit + 1) file (omega (arith, length-take (limit + 1) file, ap length is)) in
    record {
      fed = bytes;
      behind = [];
      parts = sym (append-nil bytes ∙ whole_file);
      stands = stands;
      follows = subst (λ (b : Bool). MayFollow b [] true) (sym told) (refl, refl);
      enough = λ e. let f : true ≡ false = sym told ∙ e in cc;
    }

-- a reader of more bytes than a script may have
pub fed_front : (r : ScriptReader) (ss : List Named) (bytes file : List ℕ) (limit : ℕ) → Stands r ss bytes 0 → is_told r ≡ false
    → limit < length bytes → script_limit ≤ limit → bytes ≡ take (limit + 1) file → IsFed r ss file 0
fed_front r ss bytes file limit stands told long most is =
    record {
      fed = bytes;
      behind = drop (limit + 1) file;
      parts = sym (ap (λ (b : List ℕ). b ++ drop (limit + 1) file) is ∙ take-append-drop (limit + 1) file);
      stands = stands;
      follows = subst (λ (b : Bool). MayFollow b (drop (limit + 1) file) true) (sym told) tt;
      enough = λ e. omega arith;
    }

-- these bytes themselves, which are more than a script may have
pub fed_itself : (r : ScriptReader) (ss : List Named) (bytes : List ℕ) → Stands r ss bytes 0 → is_told r ≡ false → script_limit < length bytes → IsFed r ss bytes 0
fed_itself r ss bytes stands told long = record {
  fed = bytes;
  behind = [];
  parts = sym (append-nil bytes);
  stands = stands;
  follows = subst (λ (b : Bool). MayFollow b [] true) (sym told) tt;
  enough = λ e. long;
}

-- a good script was read whole
pub good_whole : (ss : List Named) (file : List ℕ) → bad_line ss file true ≡ None → take 1099511627777 file ≡ file
good_whole ss file good = let short = good_is_short ss file true good in take_all 1099511627777 file (omega (arith, short))
