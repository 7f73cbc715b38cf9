-- `rows::source_map::expr_points` meets its contract.
use borrow.Author.Rules.{rules}
use Rattle.spec.specs.Module.{same_pointer}
use Rattle.module.specs.Ids.{pointer_of}
use Rattle.rows.proofs.SourceMapLaws.{expr_pointed}
use Rattle.rows.proofs.source_map.expr_points.Goals as goal

pub returns-in-Some : goal.returns-in-Some
unfolding same_pointer pointer_of
returns-in-Some c = expr_pointed _ _ _ _ c.row_pointer.ensures _ _ c.in-Some.is (search rules)
