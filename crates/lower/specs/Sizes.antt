-- What the steps of lowering may take, in nodes of the sheet.
use Rattle.std.specs.Prelude.{List, ℕ, ◌-◌, eqb, if◌then◌else◌}
use Rattle.std.proofs.Math.Option.{Option, none, some}
use Rattle.spec.specs.Basics.{NodeId}
use Rattle.spec.specs.Sheet.{Node}
use Rattle.spec.specs.Keys.{kind}
use Rattle.spec.proofs.general.Sums.{sum_by}
use Rattle.spec.proofs.tree.TreeRoom.{size}

-- the nodes of a node's subtree
unfoldable pub sized : List Node → NodeId → ℕ
sized nodes n = size nodes 256 n

-- those below it
unfoldable pub below : NodeId → List Node → ℕ
below n nodes = sized nodes n - 1

-- of several nodes
unfoldable pub sizes : List Node → List NodeId → ℕ
sizes nodes ns = sum_by (sized nodes) ns

unfoldable pub place : List Node → Option NodeId → ℕ
place nodes none = 0
place nodes (some n) = sized nodes n

-- What lowering takes beside one expression: a Str takes only one expression for its own node, so that it may also be a
-- key.
unfoldable pub heft : Option NodeId → List Node → ℕ
heft none nodes = 0
heft (some n) nodes = if eqb (kind nodes n) 6 then below n nodes else sized nodes n
