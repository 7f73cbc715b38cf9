-- The loop of `keys::ast_utils::flatten_paren`.
use Prim.Native.Nat.{◌-◌}
use Rattle.keys.proofs.ParenLaws.{Flattening}
use Rattle.layout.specs.Nodes.{nodes_of}
use Rattle.keys.proofs.ast_utils.flatten_paren.Given as goal

abbrev pub invariant-loop : goal.invariant-loop
invariant-loop l = Flattening (nodes_of l.store) l.initial.cur l.cur (256 - l.counter)
