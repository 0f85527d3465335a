use Rattle.std.proofs.Common.{rules, leb}
use Rattle.std.proofs.lemmas.List.Sorted.{IsPartitionPoint-from_clause, IsPartitionedBy-leb}
use Rattle.fr_core.proofs.Halved.{sources_rise, parted_place}
use Rattle.fr_core.proofs.inputs.place_of.Goals as goal

pub returns : goal.returns
returns c =
    let parted = IsPartitionedBy-leb (λ e. e.source.0) c.args.entries.now c.args.source.0 (sources_rise c.args.entries.now c.requires) in
    parted_place c.args.source c.args.entries.now c.partition_point.result c.partition_point.ensures.bound
    (IsPartitionPoint-from_clause (λ e. leb e.source.0 c.args.source.0) c.args.entries.now c.partition_point.result c.partition_point.ensures.partitioned parted (λ a r f' k. search rules))
