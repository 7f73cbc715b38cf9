-- The loop of `moving::by_name::count_moved_by_name`.
use Rattle.layout.specs.Keeps.{kept_in}
use Rattle.moving.proofs.ListLaws.{Counting}
use Rattle.spec.specs.Calls.{at_name}
use Rattle.moving.proofs.by_name.count_moved_by_name.Given as goal

abbrev pub invariant-loop-e : goal.invariant-loop-e
invariant-loop-e l = Counting (kept_in l.store) (at_name l.name.name.0) l.new l.e l.count
