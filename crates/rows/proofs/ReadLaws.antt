-- What is read from rows. Assumes nothing.
use mathlib.Core.Path.{◌≡◌}
use mathlib.Core.Bool.{false}
use mathlib.Core.List.{List, []}
use mathlib.Core.Option.{Option, none, some}
use Prim.Native.Nat.{ℕ, zero, suc, ◌+◌, ◌-◌, ◌*◌, ◌≤◌, ◌<◌}
use native.Mathlib.Omega.{arith}
use lib.ListN.{length, get_or}
use lib.Dec.{eqb}
use lib.IntN.{ℤ}
use lib.Ieee.{Float}
use borrow.Author.Tests.{ne_eqb, le-leb, lt-leb, lt-ltb, le-ltb}
use mir.Syntax.{w64}
use mir.Val.{to_z, of_z}
use Rattle.words.specs.Words.{word}
use Rattle.spec.specs.Module as spec
use Rattle.spec.specs.Scopes.{made_at, expr_at, name_at}
use Rattle.spec.specs.Lower.{module_of}
use Rattle.module.specs.Literals.{float_bits, nat_of, literal_of, Valid, Unsigned, NotNegative}
use Rattle.module.specs.declared.literal.Literal.TheVariants as code
use Rattle.module.specs.declared.ids.ExprId.{ExprId}
use Rattle.module.specs.declared.expr.Expr.{Expr}
use Rattle.module.specs.declared.expr.Expr.TheVariants as expr
use Rattle.module.specs.declared.expr.Item.TheVariants as item
use Rattle.module.specs.Ids.{pointer_of}
use Rattle.module.specs.Kinds.{kind_of, kind_of_number, name_kind_of}
use Rattle.module.specs.declared.pointer.Pointer as code_pointer
use Rattle.module.specs.declared.kinds.NameKind.{NameKind}
use Rattle.module.proofs.LiteralLaws.{integer_back}
use Rattle.rows.specs.declared.row.Row.{Row}
use Rattle.rows.specs.declared.row.ItemRow.{ItemRow}
use Rattle.rows.specs.declared.read_exprs.Items.{Items}
use Rattle.layout.specs.Exprs.{Item, child, expr_of, item_of, item_at, item_in, items_of, first_item, sort_of, pointer_at, pointer_or, made_in, wide, float_or, integer_or}
use Rattle.layout.specs.Layout.{absent, expr_limit, item_limit, name_limit, diagnostic_limit, expr_row, pointer_row, item_row, name_row, diagnostic_row, expr_count, name_count, diagnostic_count, lost_count, exprs_at, expr_pointers_at, items_at, names_at, name_pointers_at, diagnostics_at, lost_at}
use Rattle.layout.specs.Rows.{cap, rows_to, rows_from}
use Rattle.layout.specs.Texts.{text_in}
use Rattle.layout.specs.States.{name_in, diagnostic_in, exprs_of, names_of, diagnostics_of, lost_of, state_of, module_in}
use Rattle.rows.specs.Readers.{items_at_expr, item_at_expr, Covers, nowhere, diagnostic_at, lost_pointer_at}
use Rattle.rows.specs.Decoded.{expr_with, item_with, ValidExpr, Reads, ReadsItem}
use Rattle.layout.proofs.RowLaws.{length_rows, get_d_rows, get_d_past, cap_lim}
use Rattle.layout.proofs.Frames.{text_absent}

-- ---- rows
pub missing_read : (r : Row) → r.sort ≤ 1 → Reads r expr.Missing
unfolding expr_of expr_with ValidExpr
missing_read r h = record { valid = tt; same = λ s is. rw (le-leb r.sort 1 h) }

module _ (r : Row) where
  pub float_read : (x : Float) → r.sort ≡ 4 → float_bits x ≡ wide r.a r.b → float_bits x ≤ 9218868437227405312 → Reads r (expr.Literal (code.Float x))
  unfolding expr_of expr_with literal_of float_or ValidExpr Valid Unsigned
  float_read x sort e h = record { valid = h; same = λ s is. rw (sort, ← e, le-leb (float_bits x) 9218868437227405312 h) }

  pub float_unread : r.sort ≡ 4 → 9218868437227405312 < wide r.a r.b → Reads r expr.Missing
  unfolding expr_of expr_with float_or ValidExpr
  float_unread sort h = record { valid = tt; same = λ s is. rw (sort, lt-leb (wide r.a r.b) 9218868437227405312 h) }

  -- the code has the integer by its bits
  pub integer_read : (n : ℤ) → r.sort ≡ 5 → nat_of n ≡ wide r.a r.b → nat_of n ≤ 9223372036854775807 → NotNegative n → Reads r (expr.Literal (code.Integer (to_z w64 (of_z w64 n))))
  unfolding expr_of expr_with literal_of integer_or ValidExpr Valid
  integer_read n sort e h p = rw (integer_back n p) (record { valid = p; same = λ s is. rw (sort, ← e, le-leb (nat_of n) 9223372036854775807 h) })

  pub integer_unread : r.sort ≡ 5 → 9223372036854775807 < wide r.a r.b → Reads r expr.Missing
  unfolding expr_of expr_with integer_or ValidExpr
  integer_unread sort h = record { valid = tt; same = λ s is. rw (sort, lt-leb (wide r.a r.b) 9223372036854775807 h) }

-- ---- the arm that takes the rest
-- n is none of the m numbers from k on, as the code's match says it
abbrev None : ℕ → ℕ → ℕ → Type 0
None n k zero = Unit {0}
None n k (suc m) = None n k m × (n ≡ k + m → ⊥)

none_above : (n k m : ℕ) → None n k m → k ≤ n → k + m ≤ n
none_above n k zero x h = omega arith
none_above n k (suc m) x h = let a = none_above n k m x.0 h in let b = x.1 in omega arith

-- the last sort is that of every number from 28 on
pub last_read : (r : Row) → None r.sort 2 26 → 2 ≤ r.sort → Reads r expr.PathInterpolation
unfolding expr_of expr_with ValidExpr
last_read r x l =
    let h : 28 ≤ r.sort = none_above r.sort 2 26 x l in
    let no : (k : ℕ) → k < 28 → eqb r.sort k ≡ false = λ k l. ne_eqb r.sort k (λ e. omega arith) in
    record {
      valid = tt;
      same = λ s is.
          rw (
            lt-leb r.sort 1 (omega arith),
            no 2 (omega arith),
            no 3 (omega arith),
            no 4 (omega arith),
            no 5 (omega arith),
            no 6 (omega arith),
            no 7 (omega arith),
            no 8 (omega arith),
            no 9 (omega arith),
            no 10 (omega arith),
            no 11 (omega arith),
            no 12 (omega arith),
            no 13 (omega arith),
            no 14 (omega arith),
            no 15 (omega arith),
            no 16 (omega arith),
            no 17 (omega arith),
            no 18 (omega arith),
            no 19 (omega arith),
            no 20 (omega arith),
            no 21 (omega arith),
            no 22 (omega arith),
            no 23 (omega arith),
            no 24 (omega arith),
            no 25 (omega arith),
            no 26 (omega arith),
            no 27 (omega arith),
          );
    }

pub last_item_read : (r : ItemRow) (k v : ExprId) → k.0 ≡ r.a → v.0 ≡ r.b → None r.tag 0 9 → ReadsItem r (item.Dynamic k v)
unfolding item_of item_with
last_item_read r k v a b x =
    let h : 9 ≤ r.tag = none_above r.tag 0 9 x (omega arith) in
    let no : (k : ℕ) → k < 9 → eqb r.tag k ≡ false = λ k l. ne_eqb r.tag k (λ e. omega arith) in
    record {
      same = λ s.
          rw (
            no 0 (omega arith),
            no 1 (omega arith),
            no 2 (omega arith),
            no 3 (omega arith),
            no 4 (omega arith),
            no 5 (omega arith),
            no 6 (omega arith),
            no 7 (omega arith),
            no 8 (omega arith),
            a,
            b,
          );
    }

counted : {A : Type 0} (f : ℕ → A) (s : List ℕ) (at limit n r : ℕ) → n ≡ word s at → (r ≡ cap n limit) × (r ≤ limit) → (r ≡ length (rows_to f (cap (word s at) limit))) × (r ≤ limit)
counted f s at limit n r e h = (rw (length_rows f (cap (word s at) limit), ← e) h.0, h.1)

module _ (s : List ℕ) (n r : ℕ) where
  pub exprs_counted : n ≡ word s expr_count → (r ≡ cap n expr_limit) × (r ≤ expr_limit) → (r ≡ length (exprs_of s)) × (r ≤ expr_limit)
  unfolding exprs_of
  exprs_counted e h = counted (made_in s) s expr_count expr_limit n r e h

  pub names_counted : n ≡ word s name_count → (r ≡ cap n name_limit) × (r ≤ name_limit) → (r ≡ length (names_of s)) × (r ≤ name_limit)
  unfolding names_of
  names_counted e h = counted (name_in s) s name_count name_limit n r e h

  pub diagnostics_counted : n ≡ word s diagnostic_count → (r ≡ cap n diagnostic_limit) × (r ≤ diagnostic_limit) → (r ≡ length (diagnostics_of s)) × (r ≤ diagnostic_limit)
  unfolding diagnostics_of
  diagnostics_counted e h = counted (diagnostic_in s) s diagnostic_count diagnostic_limit n r e h

  pub lost_counted : n ≡ word s lost_count → (r ≡ cap n diagnostic_limit) × (r ≤ diagnostic_limit) → (r ≡ length (lost_of s)) × (r ≤ diagnostic_limit)
  unfolding lost_of
  lost_counted e h = counted (λ i. pointer_at s (lost_at + pointer_row * i)) s lost_count diagnostic_limit n r e h

-- ---- a row of a table, by its number: what is there, and the default out of range
module _ {A : Type 0} (f : ℕ → A) (c n i : ℕ) (d : A) (size : n ≡ length (rows_to f c)) where
  got : i < n → get_or (rows_to f c) i d ≡ f i
  got h = get_d_rows f c i d (omega (arith, length_rows f c))

  lacked : n ≤ i → get_or (rows_to f c) i d ≡ d
  lacked h = get_d_past f c i d (omega (arith, length_rows f c))

-- ---- expressions
module _ (s : List ℕ) (e v : ℕ) (at : v ≡ word s (exprs_at + expr_row * e + 4)) where
  pub row_unpointed : v ≡ 0 → none ≡ (made_in s e).pointer
  unfolding made_in sort_of pointer_or
  row_unpointed z = rw (← at, z)

  pub row_pointed : (p : code_pointer.Pointer) → (v ≡ 0 → ⊥) → pointer_of p ≡ pointer_at s (expr_pointers_at + pointer_row * e) → some (pointer_of p) ≡ (made_in s e).pointer
  unfolding made_in sort_of pointer_or
  row_pointed p z x = rw (x, ← at, ne_eqb v 0 z)

module _ (s : List ℕ) (n e : ℕ) (size : n ≡ length (exprs_of s)) where
  made_in_lem : e < n → made_at (module_in s) e ≡ made_in s e
  unfolding module_in module_of state_of exprs_of made_at
  made_in_lem h = got (made_in s) (cap (word s expr_count) expr_limit) n e (record { expr = spec.missing; pointer = none }) size h

  made_out : n ≤ e → made_at (module_in s) e ≡ record { expr = spec.missing; pointer = none }
  unfolding module_in module_of state_of exprs_of made_at
  made_out h = lacked (made_in s) (cap (word s expr_count) expr_limit) n e (record { expr = spec.missing; pointer = none }) size h

  items_in_lem : e < n → items_at_expr s e ≡ items_of s e
  unfolding items_at_expr
  items_in_lem h = rw (lt-ltb e (length (exprs_of s)) (omega arith))

  items_out : n ≤ e → items_at_expr s e ≡ []
  unfolding items_at_expr
  items_out h = rw (le-ltb e (length (exprs_of s)) (omega arith))

  pub expr_in : (r : Row) (x : Expr) → e < n → r.sort ≡ word s (exprs_at + expr_row * e + 4) → r.a ≡ word s (exprs_at + expr_row * e + 8) → r.b ≡ word s (exprs_at + expr_row * e + 12) → r.c ≡ word s (exprs_at + expr_row * e + 16)
      → Reads r x → (expr_with (text_in s) x (items_at_expr s e) ≡ expr_at (module_in s) e) × ValidExpr x
  unfolding expr_at made_in sort_of
  expr_in r x h k a b c read = (rw (expr_at, made_in_lem h, items_in_lem h, read.same s (items_of s e), k, a, b, c), read.valid)

  pub expr_out : n ≤ e → (expr_with (text_in s) expr.Missing (items_at_expr s e) ≡ expr_at (module_in s) e) × ValidExpr expr.Missing
  unfolding expr_at expr_with ValidExpr
  expr_out h = (rw (expr_at, made_out h), tt)

  pub pointer_out : n ≤ e → none ≡ (made_at (module_in s) e).pointer
  pointer_out h = rw (made_out h)

  pub pointer_in : (q : Option spec.Pointer) → e < n → q ≡ (made_in s e).pointer → q ≡ (made_at (module_in s) e).pointer
  pointer_in q h x = rw (made_in_lem h, x)

  pub items_none : n ≤ e → Covers s e (record { first = 0; count = 0 })
  unfolding rows_to
  items_none h = record { few = omega arith; same = items_out h }

  module _ (u v first end : ℕ) (h : e < n) (a : u ≡ word s (exprs_at + expr_row * e)) (b : v ≡ word s (exprs_at + expr_row * e + 20)) (c : first ≡ cap u item_limit) (d : end ≡ cap v item_limit) where
    items_are : items_at_expr s e ≡ rows_to (λ k. item_in s (first + k)) (end - first)
    unfolding items_of rows_from first_item
    items_are =
        let p : exprs_at + expr_row * (e + 1) ≡ exprs_at + expr_row * e + 20 = omega arith in
        rw (items_in_lem h, p, ← b, ← d, ← a, ← c)

    pub items_some : Covers s e (record { first = first; count = end - first })
    items_some = record { few = omega (arith, cap_lim u item_limit, cap_lim v item_limit); same = items_are }

pub covers_count : (s : List ℕ) (e : ℕ) (x : Items) → Covers s e x → (x.count ≡ length (items_at_expr s e)) × (x.count ≤ item_limit)
covers_count s e x h = (rw (h.same, length_rows (λ k. item_in s (x.first + k)) x.count), omega (arith, h.few))

module _ (s : List ℕ) (e i : ℕ) (x : Items) (covers : Covers s e x) where
  pub item_in_lem : (y : Item) → i < x.count → y ≡ item_at s (items_at + item_row * (x.first + i)) → y ≡ item_at_expr s e i
  unfolding item_at_expr item_in
  item_in_lem y h a = rw (covers.same, get_d_rows (λ k. item_in s (x.first + k)) x.count i (child 0) h, a)

  pub item_out : x.count ≤ i → child 0 ≡ item_at_expr s e i
  unfolding item_at_expr
  item_out h = rw (covers.same, get_d_past (λ k. item_in s (x.first + k)) x.count i (child 0) h)

-- ---- names
module _ (s : List ℕ) (n x : ℕ) (size : n ≡ length (names_of s)) where
  name_in_lem : x < n → name_at (module_in s) x ≡ name_in s x
  unfolding module_in module_of state_of names_of name_at
  name_in_lem h = got (name_in s) (cap (word s name_count) name_limit) n x (record { text = []; kind = spec.PlainAttrset; pointer = record { kind = 0; from = 0; to = 0 } }) size h

  pub name_out : n ≤ x → name_at (module_in s) x ≡ record { text = []; kind = spec.PlainAttrset; pointer = record { kind = 0; from = 0; to = 0 } }
  unfolding module_in module_of state_of names_of name_at
  name_out h = lacked (name_in s) (cap (word s name_count) name_limit) n x (record { text = []; kind = spec.PlainAttrset; pointer = record { kind = 0; from = 0; to = 0 } }) size h

  pub name_text_in : (t : ℕ) → x < n → t ≡ word s (names_at + name_row * x) → text_in s t ≡ (name_at (module_in s) x).text
  unfolding name_in
  name_text_in t h a = rw (name_in_lem h, a)

  pub name_text_out : n ≤ x → text_in s absent ≡ (name_at (module_in s) x).text
  name_text_out h = rw (name_out h, text_absent s)

  pub name_kind_in : (v : ℕ) (k : NameKind) → x < n → v ≡ word s (names_at + name_row * x + 4) → k ≡ kind_of_number v → kind_of k ≡ (name_at (module_in s) x).kind
  unfolding name_in name_kind_of
  name_kind_in v k h a b = rw (name_in_lem h, b, a)

  pub name_pointer_in : (p : spec.Pointer) → x < n → p ≡ pointer_at s (name_pointers_at + pointer_row * x) → p ≡ (name_at (module_in s) x).pointer
  unfolding name_in
  name_pointer_in p h a = rw (name_in_lem h, a)

-- ---- diagnostics and the lost list
module _ (s : List ℕ) (n i : ℕ) where
  module _ (size : n ≡ length (diagnostics_of s)) where
    diagnostic_in_lem : i < n → diagnostic_at (module_in s) i ≡ diagnostic_in s i
    unfolding module_in module_of state_of diagnostics_of diagnostic_at
    diagnostic_in_lem h = got (diagnostic_in s) (cap (word s diagnostic_count) diagnostic_limit) n i (record { key = []; first = nowhere; second = nowhere }) size h

    diagnostic_out : n ≤ i → diagnostic_at (module_in s) i ≡ record { key = []; first = nowhere; second = nowhere }
    unfolding module_in module_of state_of diagnostics_of diagnostic_at
    diagnostic_out h = lacked (diagnostic_in s) (cap (word s diagnostic_count) diagnostic_limit) n i (record { key = []; first = nowhere; second = nowhere }) size h

    pub diagnostic_read : (t : ℕ) (p q : spec.Pointer) → i < n → t ≡ word s (diagnostics_at + diagnostic_row * i) → p ≡ pointer_at s (diagnostics_at + diagnostic_row * i + 4) → q ≡ pointer_at s (diagnostics_at + diagnostic_row * i + 16)
        → record { key = text_in s t; first = p; second = q } ≡ diagnostic_at (module_in s) i
    unfolding diagnostic_in
    diagnostic_read t p q h a b c = rw (diagnostic_in_lem h, a, b, c)

    pub diagnostic_unread : n ≤ i → record { key = text_in s absent; first = nowhere; second = nowhere } ≡ diagnostic_at (module_in s) i
    diagnostic_unread h = rw (diagnostic_out h, text_absent s)

  module _ (size : n ≡ length (lost_of s)) where
    pub lost_in : (p : spec.Pointer) → i < n → p ≡ pointer_at s (lost_at + pointer_row * i) → p ≡ lost_pointer_at (module_in s) i
    unfolding module_in module_of state_of lost_of lost_pointer_at
    lost_in p h a = rw (got (λ k. pointer_at s (lost_at + pointer_row * k)) (cap (word s lost_count) diagnostic_limit) n i nowhere size h, a)

    pub lost_out : n ≤ i → nowhere ≡ lost_pointer_at (module_in s) i
    unfolding module_in module_of state_of lost_of lost_pointer_at
    lost_out h = rw (lacked (λ k. pointer_at s (lost_at + pointer_row * k)) (cap (word s lost_count) diagnostic_limit) n i nowhere size h)
