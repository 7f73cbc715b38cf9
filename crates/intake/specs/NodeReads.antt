-- A word of a node's row.
use Rattle.std.specs.Prelude.{List, ℕ, ◌+◌, ◌*◌, length, ltb, if◌then◌else◌}
use Rattle.words.specs.Words.{word}
use Rattle.spec.specs.Basics.{NodeId}
use Rattle.layout.specs.Layout.{node_row, nodes_at}
use Rattle.layout.specs.Nodes.{nodes_of}

-- the word at a place in the row of a node; 0 where there is no such node
unfoldable pub node_word : List ℕ → NodeId → ℕ → ℕ
node_word s n place = if ltb n (length (nodes_of s)) then word s (nodes_at + node_row * n + place) else 0
