-- What is read of a module in a store, and what a number out of range gives.
use Rattle.std.specs.Prelude.{◌≡◌, List, [], ℕ, ◌+◌, ◌*◌, ◌≤◌, ◌<◌, length, get_or, ltb, if◌then◌else◌}
use Rattle.std.proofs.Math.Option.{Option, none, some}
use Rattle.spec.specs.Basics.{Text, ExprId}
use Rattle.spec.specs.Module.{Pointer, DuplicateKey, Module}
use Rattle.module.specs.Ids.{pointer_of}
use Rattle.rows.specs.declared.read_exprs.Items.{Items}
use Rattle.rows.specs.declared.read_diagnostics.Diagnostic.{Diagnostic}
use Rattle.words.specs.Words.{word}
use Rattle.layout.specs.Layout.{item_limit, expr_limit, expr_count, exprs_at, expr_row}
use Rattle.layout.specs.Rows.{cap, rows_to}
use Rattle.layout.specs.Exprs.{Item, child, item_in, items_of, sort_of}
use Rattle.layout.specs.States.{exprs_of}
use Rattle.module.specs.declared.pointer.Pointer as rust_pointer
use Rattle.std.specs.Prelude as rust

-- ---- expressions; those out of range are the definitions' `expr_at` and `made_at`
-- the items of an expression, and none out of range
unfoldable pub items_at_expr : List ℕ → ExprId → List Item
items_at_expr s e = if ltb e (length (exprs_of s)) then items_of s e else []

unfoldable pub item_at_expr : List ℕ → ExprId → ℕ → Item
item_at_expr s e i = get_or (items_at_expr s e) i (child 0)

unfoldable pub maybe_pointer_of : rust.Option rust_pointer.Pointer → Option Pointer
maybe_pointer_of (rust.Some p) = some (pointer_of p)
maybe_pointer_of rust.None = none

-- the items of e are those in the table from `first` on, `count` of them
pub record Covers (s : List ℕ) (e : ExprId) (x : Items) : Type 0 where
  pub few : x.first + x.count ≤ item_limit
  pub same : items_at_expr s e ≡ rows_to (λ k. item_in s (x.first + k)) x.count

-- e is no Reference, or none that is in use
pub record NoReference (s : List ℕ) (e : ExprId) : Type 0 where
  pub other : e < cap (word s expr_count) expr_limit → sort_of s e ≡ 21 → ⊥

-- e is a Reference, whose text stands at this place
pub record ReferenceAt (s : List ℕ) (e : ExprId) (at : ℕ) : Type 0 where
  pub used : e < cap (word s expr_count) expr_limit
  pub sort : sort_of s e ≡ 21
  pub place : at ≡ exprs_at + expr_row * e + 8

-- ---- diagnostics and the lost list
unfoldable pub nowhere : Pointer
nowhere = record { kind = 0; from = 0; to = 0 }

-- a diagnostic as it is read; its text by its number
unfoldable pub diagnostic_with : (ℕ → Text) → Diagnostic → DuplicateKey
diagnostic_with texts d = record { key = texts d.key.0; first = pointer_of d.first; second = pointer_of d.second }

unfoldable pub diagnostic_at : Module → ℕ → DuplicateKey
diagnostic_at m i = get_or m.diagnostics i (record { key = []; first = nowhere; second = nowhere })

unfoldable pub lost_pointer_at : Module → ℕ → Pointer
lost_pointer_at m i = get_or m.lost i nowhere
