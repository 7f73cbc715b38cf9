-- `scopes::enters::enter_fields` meets its contract.
use Rattle.layout.specs.Exprs.{pattern}
use Rattle.rows.specs.Decoded.{pattern_with}
use Rattle.scopes.proofs.EnterLaws.{enters_none}
use Rattle.scopes.specs.Entering.{entered}
use Rattle.spec.specs.Scopes.{field_names, pat_fields}
use mathlib.Core.Logic.{inl, inr}
use Rattle.scopes.proofs.enters.enter_fields.Goals as goal

pub returns-in-Absent : goal.returns-in-Absent
unfolding pattern_with pat_fields field_names
returns-in-Absent c = rw c.in-Absent.is (enters_none _ _)

pub returns-in-Closed : goal.returns-in-Closed
unfolding pattern_with pattern pat_fields entered
returns-in-Closed c = elim c.in-Closed.is [ inl e ↦ rw e c.enter_items.ensures | inr e ↦ rw e c.enter_items.ensures ]
