use Rattle.std.proofs.Common.{rules, nat_le}
use Rattle.std.proofs.lemmas.List.Sorted.{IsPartitionPoint-from_clause, IsPartitionedBy-leb}
use Rattle.xk_collections.proofs.RisingListLemmas.{place_above_is, rising_non_decreasing}
use Rattle.xk_scheduler.proofs.chooser.up_to.Goals as goal

pub returns-clause-place : goal.returns-clause-place
returns-clause-place c =
    place_above_is c.args.taken c.args.enabled.now c.partition_point.result c.partition_point.ensures.bound
    (IsPartitionPoint-from_clause (λ y. nat_le y c.args.taken) c.args.enabled.now c.partition_point.result c.partition_point.ensures.partitioned
    (IsPartitionedBy-leb (λ y. y) c.args.enabled.now c.args.taken (rising_non_decreasing c.args.enabled.now c.requires.rising))
    (λ a r f' k. search rules))
