-- The loop of `scopes::enters::enter_items`.
use Rattle.layout.specs.States.{module_in}
use Rattle.rows.specs.Readers.{items_at_expr}
use Rattle.scopes.specs.Entering.{entered, Enters}
use lib.ListN.{take}
use Rattle.scopes.proofs.enters.enter_items.Given as goal

abbrev pub invariant-loop-i : goal.invariant-loop-i
invariant-loop-i l = Enters l.n (entered l.names (module_in l.initial.store) (take l.i (items_at_expr l.initial.store l.e.0))) l.initial.store l.next l.store
