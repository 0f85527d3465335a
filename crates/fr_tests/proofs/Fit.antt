-- What expansion makes is fit.
use Rattle.std.proofs.Common.{◌≡◌, List, Option, Some, None, Result, Ok, Err}
use Rattle.fr_value.specs.declared.value.Datum.{Datum}
use Rattle.fr_core.specs.declared.program.Program.{Program}
use Rattle.fr_core.specs.Classes.{IsFit}
use Rattle.fr_expand.specs.declared.refusal.Refusal.{Refusal}
use Rattle.fr_expand.specs.Expansion.{IsExpansion, IsExpansionAfter}
use Rattle.fr_expand.specs.Passes.{first_refusal}

fit_after : (o : Option Refusal) (ds : List Datum) (p : Program) → IsExpansionAfter o ds (Ok p) → IsFit p
fit_after None ds p h = h.1
fit_after (Some r) ds p h = clash r p h
  where
    clash : {A : Type 0} (r : Refusal) (p : Program) → Path (Result Program Refusal) (Ok p) (Err r) → A
    clash r p e = cc

pub expanded_fit : (ds : List Datum) (p : Program) → IsExpansion ds (Ok p) → IsFit p
expanded_fit ds p h = fit_after (first_refusal ds) ds p h
