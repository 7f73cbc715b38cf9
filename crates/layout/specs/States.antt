-- What the bytes of a store say of a module, and of the work of lowering it. Counts are taken as at most their limits
-- and rows read whatever they hold, so that every list of bytes says something.
use Rattle.std.specs.Prelude.{List, ℕ, ◌+◌, ◌*◌, eqb, if◌then◌else◌}
use Rattle.std.proofs.Math.Option.{Option, none, some}
use Rattle.words.specs.Words.{word}
use Rattle.spec.specs.Basics.{ExprId, NameId}
use Rattle.spec.specs.Module.{Pointer, BindingValue, expr, inherit, inherit_from, Made, Name, DuplicateKey, Module}
use Rattle.spec.specs.State.{MergingSet, MergingEntry, static, source, dynamic, State, state}
use Rattle.spec.specs.Lower.{module_of}
use Rattle.module.specs.Kinds.{name_kind_of}
use Rattle.layout.specs.Layout.{expr_limit, name_limit, diagnostic_limit, waiting_limit, set_limit, entry_limit, pointer_row, item_row, name_row, diagnostic_row, set_row, entry_row, expr_count, name_count, diagnostic_count, lost_count, entry_place, waiting_count, set_count, entry_count, names_at, name_pointers_at, diagnostics_at, lost_at, waiting_at, sets_at, entries_at, run_at}
use Rattle.layout.specs.Rows.{cap, rows_to, marked}
use Rattle.layout.specs.Texts.{text_in}
use Rattle.layout.specs.Exprs.{Item, item_at, pointer_at, first_item, made_in}

-- ---- names, diagnostics, the lost list
unfoldable pub name_in : List ℕ → NameId → Name
name_in s x =
    record {
      text = text_in s (word s (names_at + name_row * x));
      kind = name_kind_of (word s (names_at + name_row * x + 4));
      pointer = pointer_at s (name_pointers_at + pointer_row * x);
    }

unfoldable pub diagnostic_in : List ℕ → ℕ → DuplicateKey
diagnostic_in s i =
    record {
      key = text_in s (word s (diagnostics_at + diagnostic_row * i));
      first = pointer_at s (diagnostics_at + diagnostic_row * i + 4);
      second = pointer_at s (diagnostics_at + diagnostic_row * i + 16);
    }

-- ---- sets that are being merged
unfoldable pub set_in : List ℕ → ℕ → MergingSet
set_in s i = record { pointer = pointer_at s (sets_at + set_row * i); name_kind = name_kind_of (word s (sets_at + set_row * i + 12)) }

-- sort 0 is no value
unfoldable pub value_of : ℕ → ExprId → Option BindingValue
value_of sort e =
    if eqb sort 0 then none
    else if eqb sort 1 then some (expr e)
    else if eqb sort 2 then some (inherit e)
    else some (inherit_from e)

unfoldable pub entry_of : List ℕ → ℕ → ℕ → ℕ → ℕ → ℕ → ℕ → ℕ → MergingEntry
entry_of s tag set a b nested sort e =
    if eqb tag 0 then static set (text_in s a) b (marked nested) (value_of sort e)
    else if eqb tag 1 then source set a
    else dynamic set a b

unfoldable pub entry_in : List ℕ → ℕ → MergingEntry
entry_in s i =
    let at = entries_at + entry_row * i in
    entry_of s (word s at) (word s (at + 4)) (word s (at + 8)) (word s (at + 12)) (word s (at + 16)) (word s (at + 20)) (word s (at + 24))

-- ---- all of it
unfoldable pub exprs_of : List ℕ → List Made
exprs_of s = rows_to (made_in s) (cap (word s expr_count) expr_limit)

unfoldable pub names_of : List ℕ → List Name
names_of s = rows_to (name_in s) (cap (word s name_count) name_limit)

unfoldable pub diagnostics_of : List ℕ → List DuplicateKey
diagnostics_of s = rows_to (diagnostic_in s) (cap (word s diagnostic_count) diagnostic_limit)

unfoldable pub lost_of : List ℕ → List Pointer
lost_of s = rows_to (λ i. pointer_at s (lost_at + pointer_row * i)) (cap (word s lost_count) diagnostic_limit)

unfoldable pub sets_of : List ℕ → List MergingSet
sets_of s = rows_to (set_in s) (cap (word s set_count) set_limit)

unfoldable pub entries_of : List ℕ → List MergingEntry
entries_of s = rows_to (entry_in s) (cap (word s entry_count) entry_limit)

unfoldable pub state_of : List ℕ → State
state_of s = state (exprs_of s) (names_of s) (diagnostics_of s) (lost_of s) (sets_of s) (entries_of s)

unfoldable pub module_in : List ℕ → Module
module_in s = module_of (word s entry_place) (state_of s)

-- the items that wait for their expression
unfoldable pub waiting_of : List ℕ → List Item
waiting_of s = rows_to (λ i. item_at s (waiting_at + item_row * i)) (cap (word s waiting_count) waiting_limit)

-- how many items are in use: where those of the next expression will begin
unfoldable pub used_of : List ℕ → ℕ
used_of s = first_item s (cap (word s expr_count) expr_limit)

-- the numbers of the entries, in the order of their sets and keys
unfoldable pub order_of : List ℕ → List ℕ
order_of s = rows_to (λ i. word s (run_at + 4 * i)) (cap (word s entry_count) entry_limit)
