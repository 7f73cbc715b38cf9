-- The layout of a store (docs/STORE.md) in numbers, for the specs and the proofs; src/tables.rt has them for the code,
-- and nobody else does. A number is a word of four bytes; offsets and lengths are in bytes, limits in rows.
use Rattle.std.specs.Prelude.{ℕ, ◌+◌, ◌-◌, ◌*◌, ◌≤◌, List, length}

-- the mark for what is absent, and the number of the empty text
abbrev pub absent : ℕ
absent = 4294967295

-- ---- limits
abbrev pub expr_limit : ℕ
expr_limit = 16384

abbrev pub item_limit : ℕ
item_limit = 32768

abbrev pub name_limit : ℕ
name_limit = 4096

abbrev pub diagnostic_limit : ℕ
diagnostic_limit = 32768

abbrev pub scope_limit : ℕ
scope_limit = 4096

abbrev pub reference_limit : ℕ
reference_limit = 16384

abbrev pub waiting_limit : ℕ
waiting_limit = 16384

abbrev pub set_limit : ℕ
set_limit = 4096

abbrev pub entry_limit : ℕ
entry_limit = 4096

abbrev pub node_limit : ℕ
node_limit = 4096

abbrev pub kid_limit : ℕ
kid_limit = 16384

-- in bytes, with the length before each text
abbrev pub text_limit : ℕ
text_limit = 786432

-- the change room (document 01's term; docs/RULES.md, "The change room")
abbrev pub room_limit : ℕ
room_limit = 8192

-- the most bytes of texts that a load leaves in use: a changed text takes at most five for each byte of the room
abbrev pub loaded_text_limit : ℕ
loaded_text_limit = text_limit - 5 * room_limit

-- the most bytes of texts that a sheet brings in
abbrev pub sheet_text_limit : ℕ
sheet_text_limit = 524288

-- ---- rows
-- first item, sort, a, b, c
abbrev pub expr_row : ℕ
expr_row = 20

-- kind, from, to
abbrev pub pointer_row : ℕ
pointer_row = 12

-- tag, a, b
abbrev pub item_row : ℕ
item_row = 12

-- text, kind
abbrev pub name_row : ℕ
name_row = 8

-- key, first pointer, second pointer
abbrev pub diagnostic_row : ℕ
diagnostic_row = 28

-- scope or 0, answer
abbrev pub use_row : ℕ
use_row = 8

-- first entered name, parent or 0, With or 0
abbrev pub scope_row : ℕ
scope_row = 12

-- pointer, kind of names
abbrev pub set_row : ℕ
set_row = 16

-- tag, set, key, name, nested set, value's sort, value; one word is free
abbrev pub entry_row : ℕ
entry_row = 32

-- first kid, kind, from, to, flag, text
abbrev pub node_row : ℕ
node_row = 24

-- ---- the header: counts, and single numbers
abbrev pub expr_count : ℕ
expr_count = 0

abbrev pub name_count : ℕ
name_count = 4

abbrev pub diagnostic_count : ℕ
diagnostic_count = 8

abbrev pub lost_count : ℕ
lost_count = 12

abbrev pub entry_place : ℕ
entry_place = 16

abbrev pub scope_count : ℕ
scope_count = 20

abbrev pub spent_place : ℕ
spent_place = 24

-- how many bytes of texts are in use
abbrev pub texts_place : ℕ
texts_place = 28

abbrev pub waiting_count : ℕ
waiting_count = 32

abbrev pub set_count : ℕ
set_count = 36

abbrev pub entry_count : ℕ
entry_count = 40

-- ---- the tables: each begins where the one before it ends
-- the module
-- one row more than there can be expressions, for the end of the last one's items
abbrev pub exprs_at : ℕ
exprs_at = 64

abbrev pub expr_pointers_at : ℕ
expr_pointers_at = exprs_at + expr_row * (expr_limit + 1)

abbrev pub items_at : ℕ
items_at = expr_pointers_at + pointer_row * expr_limit

abbrev pub names_at : ℕ
names_at = items_at + item_row * item_limit

abbrev pub name_pointers_at : ℕ
name_pointers_at = names_at + name_row * name_limit

abbrev pub diagnostics_at : ℕ
diagnostics_at = name_pointers_at + pointer_row * name_limit

-- the lost list (document 01's term): pointers
abbrev pub lost_at : ℕ
lost_at = diagnostics_at + diagnostic_row * diagnostic_limit

-- what is kept of scopes and answers
-- by the expression's number
abbrev pub uses_at : ℕ
uses_at = lost_at + pointer_row * diagnostic_limit

-- one row more, for the end of the last one's names
abbrev pub scopes_at : ℕ
scopes_at = uses_at + use_row * expr_limit

abbrev pub entered_at : ℕ
entered_at = scopes_at + scope_row * (scope_limit + 1)

-- by the name's number: its first reference; one more, for the end of the last one's
abbrev pub firsts_at : ℕ
firsts_at = entered_at + 4 * name_limit

abbrev pub references_at : ℕ
references_at = firsts_at + 4 * (name_limit + 1)

-- room for the work of a load
-- items that wait for their expression
abbrev pub waiting_at : ℕ
waiting_at = references_at + 4 * reference_limit

-- the same bytes once nothing waits, while kept references are listed: of each expression the next Reference that means
-- the same name, and of each name its first
abbrev pub nexts_at : ℕ
nexts_at = waiting_at

abbrev pub heads_at : ℕ
heads_at = nexts_at + 4 * expr_limit

abbrev pub sets_at : ℕ
sets_at = waiting_at + item_row * waiting_limit

abbrev pub entries_at : ℕ
entries_at = sets_at + set_row * set_limit

-- entries in the order of their sets and keys, a word each
abbrev pub run_at : ℕ
run_at = entries_at + entry_row * entry_limit

-- what a load brings in first and then only reads: the count of nodes, the nodes, their kids, the texts
abbrev pub sheet_at : ℕ
sheet_at = run_at + 4 * entry_limit

abbrev pub node_count : ℕ
node_count = sheet_at

-- one row more, for the end of the last one's kids
abbrev pub nodes_at : ℕ
nodes_at = sheet_at + 4

abbrev pub kids_at : ℕ
kids_at = nodes_at + node_row * (node_limit + 1)

abbrev pub texts_at : ℕ
texts_at = kids_at + 4 * kid_limit

abbrev pub store_bytes : ℕ
store_bytes = texts_at + text_limit

-- a store that is long enough. The contracts of readers and writers ask for it. Tried as the invariant of a type: for
-- writers it would have to say whose bytes it holds, a clause for a clause; one for readers alone would be made anew
-- at each call of them in a writer, `expr_count(&Store::of(store))`, and there are about as many as the clauses that it
-- takes away (docs/DESIGN-PASS.md, point 5). An array of this length would ask more of callers: a store may be longer.
abbrev pub Long : List ℕ → Type 0
Long s = store_bytes ≤ length s
