use Rattle.std.proofs.Common.{leb, rules}
use Rattle.std.proofs.lemmas.List.Sorted.{IsPartitionedBy-leb, IsPartitionPoint-from_clause}
use Rattle.table.specs.declared.place.Place.{Place}
use Rattle.table.proofs.Searches.{ascending_rows, ranked_at}
use Rattle.table.proofs.search.rank.Goals as goal

pub returns-in-None : goal.returns-in-None
returns-in-None c =
    let ps = c.args.places.now in
    let n = c.args.number in
    ranked_at ps n c.partition_point.result c.partition_point.ensures.bound
    (IsPartitionPoint-from_clause (λ (p : Place). leb p.number n) ps c.partition_point.result c.partition_point.ensures.partitioned
    (IsPartitionedBy-leb (λ (p : Place). p.number) ps n (ascending_rows ps c.requires)) (λ a r f' k. search rules))
