-- `open_sets::run::place` meets its contract.
use Rattle.std.proofs.Common.{rules, ◌≡◌, length}
use Rattle.std.proofs.lemmas.List.Sorted.{IsPartitionPoint-from_clause}
use Rattle.open_sets.proofs.RunReads.{parted, first_place, goes_on}
use Rattle.open_sets.proofs.run.place.Goals as goal

pub returns : goal.returns
returns c =
    let s = c.args.store.now in
    let past = c.args.past in
    let p = c.args.p in
    let byte = c.type_inv.store in
    let count = c.entry_count.ensures in
    let front = c.as_chunks.ensures.front in
    let many : length c.as_chunks.result.0.now ≡ c.entry_count.result = search rules in
    let found = c.partition_point-q.ensures in
    first_place s byte past p c.requires _ count.0 count.1 _ front many _ found.bound
    (λ o. IsPartitionPoint-from_clause (goes_on past p s) _ _ found.partitioned (parted s byte past p c.requires _ count.0 count.1 _ front many o) (λ a r q k. search rules))
