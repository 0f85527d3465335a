-- Kept trees, as code has them.
use Rattle.std.specs.Prelude.{Option, unwrap_or}
use Rattle.std.specs.Option.{option_copied}
use denote.Ref.{Bor}
use Rattle.fr_core.specs.declared.kept.Kept.{Kept}
use Rattle.fr_core.specs.declared.kept.Kept.TheOpen.{Kept-F}
use Rattle.fr_core.specs.declared.kept.Kept.TheVariants as kept
use Rattle.fr_afresh.specs.declared.trees.Opened.{Opened}
use Rattle.fr_afresh.specs.declared.trees.Opened.TheVariants as opened

-- where there is no tree, nothing was kept
abbrev pub tree : Option (Bor Kept) → Kept
tree k = unwrap_or (option_copied k) kept.Nothing

-- a tree that is opened by one level
abbrev pub shape_of : Opened → Kept-F Kept
shape_of opened.Nothing = Kept-F.Nothing
shape_of (opened.Group ks) = Kept-F.Group ks.now
shape_of (opened.Datum v k) = Kept-F.Datum v.now k.now
shape_of (opened.Payload o k) = Kept-F.Payload o.now k.now
shape_of (opened.Switch key k) = Kept-F.Switch key.now k.now
