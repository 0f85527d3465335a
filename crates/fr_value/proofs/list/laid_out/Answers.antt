use Rattle.std.proofs.Common.{◌++◌, ◌∷◌}
use Rattle.fr_value.specs.Data.{datum_of, data_of, more_data}
use Rattle.fr_value.proofs.Items.{few_end, cut}
use Rattle.fr_value.proofs.list.laid_out.Goals as goal

pub row_of-requires : goal.row_of-requires
row_of-requires c =
    let parts = cut c.loop-items.items.items c.split_off.new.self.items c.in_ok-chunk.chunk.items c.pop.new.self.items _ c.in-Some.item (more_data c.loop-items.more) (data_of c.args.items.items ++ more_data c.args.more)
    c.in_ok-chunk.ensures.items c.in_ok-chunk.ensures.tail c.in-Some.ensures.items c.loop-items.invariant in
    few_end (data_of c.pop.new.self.items) (datum_of c.in-Some.item ∷ (data_of c.in_ok-chunk.chunk.items ++ more_data c.loop-items.more)) _ parts c.requires

pub loop-items-preserved : goal.loop-items-preserved
loop-items-preserved c = rw c.in_ok-more-in-Some.ensures
    (cut c.loop-items.items.items c.split_off.new.self.items c.in_ok-chunk.chunk.items c.pop.new.self.items _ c.in-Some.item (more_data c.loop-items.more) (data_of c.args.items.items ++ more_data c.args.more)
    c.in_ok-chunk.ensures.items c.in_ok-chunk.ensures.tail c.in-Some.ensures.items c.loop-items.invariant)
