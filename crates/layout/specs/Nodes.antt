-- The nodes of the sheet.
use Rattle.std.specs.Prelude.{List, ℕ, ◌+◌, ◌*◌}
use Rattle.std.proofs.Math.Option.{Option}
use Rattle.words.specs.Words.{word}
use Rattle.spec.specs.Basics.{NodeId}
use Rattle.spec.specs.Sheet.{Node}
use Rattle.layout.specs.Layout.{node_limit, kid_limit, node_row, node_count, nodes_at, kids_at}
use Rattle.layout.specs.Rows.{cap, rows_to, rows_from, marked}
use Rattle.layout.specs.Texts.{text_in}

unfoldable pub kid_in : List ℕ → ℕ → Option NodeId
kid_in s j = marked (word s (kids_at + 4 * j))

-- no list reaches past the places for kids
unfoldable pub first_kid : List ℕ → ℕ → ℕ
first_kid s i = cap (word s (nodes_at + node_row * i)) kid_limit

unfoldable pub node_in : List ℕ → ℕ → Node
node_in s i =
    record {
      kind = word s (nodes_at + node_row * i + 4);
      from = word s (nodes_at + node_row * i + 8);
      to = word s (nodes_at + node_row * i + 12);
      flag = word s (nodes_at + node_row * i + 16);
      kids = rows_from (kid_in s) (first_kid s i) (first_kid s (i + 1));
      text = text_in s (word s (nodes_at + node_row * i + 20));
    }

unfoldable pub nodes_of : List ℕ → List Node
nodes_of s = rows_to (node_in s) (cap (word s node_count) node_limit)
