-- What lowering takes of a store's room. A store has room for so much of everything for each of 4096 nodes.
use Rattle.std.specs.Prelude.{Bool, ◌&&◌, ℕ, ◌+◌, ◌*◌, length, leb}
use Rattle.store.specs.Work.{Work}

pub data Resource : Type 0 where
  exprs items names diagnostics sets entries : Resource

-- How much is in use. A set that is open and each of its entries will be an expression and an item when the set is
-- finished, and are counted as such from the beginning.
unfoldable pub level : Resource → Work → ℕ
level exprs w = length w.lowered.exprs + (length w.lowered.sets + length w.lowered.entries)
level items w = w.used + length w.waiting + (length w.lowered.sets + length w.lowered.entries)
level names w = length w.lowered.names
level diagnostics w = length w.lowered.diagnostics + length w.lowered.lost
level sets w = length w.lowered.sets
level entries w = length w.lowered.entries

-- what there is for each node
unfoldable pub per_node : Resource → ℕ
per_node exprs = 4
per_node items = 4
per_node names = 1
per_node diagnostics = 8
per_node sets = 1
per_node entries = 1

-- ---- prices: what a step may take beside what is there for the nodes below it
abbrev pub Price : Type 0
Price = Resource → ℕ

unfoldable pub price : ℕ → ℕ → ℕ → ℕ → ℕ → ℕ → Price
price e i n d s m exprs = e
price e i n d s m items = i
price e i n d s m names = n
price e i n d s m diagnostics = d
price e i n d s m sets = s
price e i n d s m entries = m

unfoldable pub nothing : Price
nothing = price 0 0 0 0 0 0

infixl 6 ◌⊕◌
unfoldable pub ◌⊕◌ : Price → Price → Price
◌⊕◌ a b k = a k + b k

-- so many nodes and another price are enough for a price
unfoldable pub covers : ℕ → Price → Price → Bool
covers j own other =
    leb (own exprs) (4 * j + other exprs) && leb (own items) (4 * j + other items) && leb (own names) (1 * j + other names)
    && leb (own diagnostics) (8 * j + other diagnostics) && leb (own sets) (1 * j + other sets) && leb (own entries) (1 * j + other entries)

unfoldable pub one_expr : Price
one_expr = price 1 0 0 0 0 0

unfoldable pub one_item : Price
one_item = price 0 1 0 0 0 0

unfoldable pub one_name : Price
one_name = price 0 0 1 0 0 0

unfoldable pub one_duplicate : Price
one_duplicate = price 0 0 0 2 0 0

unfoldable pub one_set : Price
one_set = price 1 1 0 0 1 0

unfoldable pub one_entry : Price
one_entry = price 1 1 0 0 0 1

-- an expression's own node: four expressions, and a set that is opened
unfoldable pub own_node : Price
own_node = price 4 1 0 0 1 0
