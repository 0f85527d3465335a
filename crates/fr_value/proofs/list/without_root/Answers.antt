use Rattle.std.proofs.Common.{◌++◌, sym, ap, ◌∙◌}
use Rattle.fr_value.specs.Data.{data_of, tree_data, kids_data}
use Rattle.fr_value.proofs.Measured.{few_second}
use Rattle.fr_value.proofs.list.without_root.Goals as goal

pub block_of-requires : goal.block_of-requires
block_of-requires c = rw (c.new.ensures.items, c.in_ok-clone-in-Two.ensures.cases, c.in_ok-share-in-Two.ensures)
    (few_second c.args.tree.now.1 (data_of c.tree.inside.chunk.items) (tree_data c.in-Two.a.value) (tree_data c.in-Two.b.value) c.args.rest.now
    (sym (ap (λ t. t.1) c.tree.view_is) ∙ ap (λ k. data_of c.tree.inside.chunk.items ++ kids_data k) c.in-Two.is) c.requires)
