use Rattle.fr_value.specs.Data.{datum_of, data_of, kids_data, more_data}
use Rattle.fr_value.proofs.Measured.{few_parts, few_behind, few_regroup}
use Rattle.fr_value.proofs.list.row_of.Goals as goal

pub front_of-requires : goal.front_of-requires
front_of-requires c = (few_parts (data_of c.args.chunk.items) (more_data c.args.more) (few_behind _ _ c.requires)).1

pub tree_of-requires : goal.tree_of-requires
tree_of-requires c = few_regroup (datum_of c.args.item) (data_of c.args.chunk.items) (kids_data c.in_ok-kids.kids) c.in_ok-kids.rest (more_data c.args.more) c.in_ok-kids.ensures c.requires
