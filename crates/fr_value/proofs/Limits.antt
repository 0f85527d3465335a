-- The limits as tests and as facts.
use Rattle.std.specs.Prelude.{ℕ, ◌≤◌, ◌≡◌, true, false, List, length}
use Rattle.std.specs.Bool.{Decides}
use Rattle.std.proofs.lemmas.Bool.{leb-true, le-leb, false_from_ne_true}
use Rattle.std.proofs.lemmas.Bool.Decides.{Decides-and}
use Rattle.fr_value.specs.declared.value.Datum.{Datum}
use Rattle.fr_value.specs.Bytes.{is_short}
use Rattle.fr_value.specs.Data.{AreFew, few, data_size, data_depth}
use Rattle.fr_value.specs.Limits.{most_bytes, most_size, most_depth}

pub short-Decides : (s : List ℕ) → Decides (is_short s) (length s ≤ most_bytes)
short-Decides s = (leb-true (length s) most_bytes, le-leb (length s) most_bytes)

pub few-Decides : (ds : List Datum) → Decides (few ds) (AreFew ds)
few-Decides ds = Decides-and _ _ (leb-true (data_size ds) most_size, le-leb (data_size ds) most_size) (leb-true (data_depth ds) most_depth, le-leb (data_depth ds) most_depth)

pub few_passes : (ds : List Datum) → AreFew ds → few ds ≡ true
few_passes ds = (few-Decides ds).1

pub few_fails : (ds : List Datum) → (AreFew ds → ⊥) → few ds ≡ false
few_fails ds n = false_from_ne_true (few ds) (λ e. n ((few-Decides ds).0 e))
