-- Expressions: a row says what it is, and its lists lie in the items from its own first one to the next row's.
use Rattle.std.specs.Prelude.{Bool, true, false, List, [], ◌∷◌, ℕ, ◌+◌, ◌*◌, eqb, leb, if◌then◌else◌}
use Rattle.std.proofs.Math.Option.{Option, none, some}
use Rattle.words.specs.Words.{word}
use Rattle.spec.specs.Basics.{Text, ExprId, NameId}
use Rattle.spec.specs.Module.{Pointer, float, integer, string, path, uri, InterpolPart, literal_part, interpol, BindingValue, expr, inherit, inherit_from, Bindings, Pat, Expr, missing, apply, if_then_else, literal, lambda, let_in, list, bin_op, attr_set, unary_op, reference, select, has_attr, with_in, assert_in, string_interpolation, path_interpolation, Made}
use Rattle.layout.specs.Layout.{item_limit, expr_row, pointer_row, item_row, exprs_at, expr_pointers_at, items_at}
use Rattle.layout.specs.Rows.{cap, rows_from}
use Rattle.layout.specs.Texts.{text_in}

-- ---- items
pub data Item : Type 0 where
  -- an item of a list, an attribute of a path, an interpolated part, a source of an inherit
  child : ExprId → Item
  -- a literal part
  text : Text → Item
  field : Option NameId → Option ExprId → Item
  static : NameId → BindingValue → Item
  dynamic : ExprId → ExprId → Item

unfoldable pub item_of : List ℕ → ℕ → ℕ → ℕ → Item
item_of s tag a b =
    if eqb tag 0 then child a
    else if eqb tag 1 then text (text_in s a)
    else if eqb tag 2 then field none none
    else if eqb tag 3 then field (some a) none
    else if eqb tag 4 then field none (some b)
    else if eqb tag 5 then field (some a) (some b)
    else if eqb tag 6 then static a (expr b)
    else if eqb tag 7 then static a (inherit b)
    else if eqb tag 8 then static a (inherit_from b)
    else dynamic a b

-- the item whose row is at `at`
unfoldable pub item_at : List ℕ → ℕ → Item
item_at s at = item_of s (word s at) (word s (at + 4)) (word s (at + 8))

unfoldable pub item_in : List ℕ → ℕ → Item
item_in s j = item_at s (items_at + item_row * j)

-- ---- what lists are made of items; those that do not fit are passed over
unfoldable pub children : List Item → List ExprId
children [] = []
children (child e ∷ is) = e ∷ children is
children (text t ∷ is) = children is
children (field x d ∷ is) = children is
children (static x v ∷ is) = children is
children (dynamic k v ∷ is) = children is

unfoldable pub parts : List Item → List InterpolPart
parts [] = []
parts (child e ∷ is) = interpol e ∷ parts is
parts (text t ∷ is) = literal_part t ∷ parts is
parts (field x d ∷ is) = parts is
parts (static x v ∷ is) = parts is
parts (dynamic k v ∷ is) = parts is

unfoldable pub fields : List Item → List (Option NameId × Option ExprId)
fields [] = []
fields (child e ∷ is) = fields is
fields (text t ∷ is) = fields is
fields (field x d ∷ is) = (x, d) ∷ fields is
fields (static x v ∷ is) = fields is
fields (dynamic k v ∷ is) = fields is

unfoldable pub statics : List Item → List (NameId × BindingValue)
statics [] = []
statics (child e ∷ is) = statics is
statics (text t ∷ is) = statics is
statics (field x d ∷ is) = statics is
statics (static x v ∷ is) = (x, v) ∷ statics is
statics (dynamic k v ∷ is) = statics is

unfoldable pub dynamics : List Item → List (ExprId × ExprId)
dynamics [] = []
dynamics (child e ∷ is) = dynamics is
dynamics (text t ∷ is) = dynamics is
dynamics (field x d ∷ is) = dynamics is
dynamics (static x v ∷ is) = dynamics is
dynamics (dynamic k v ∷ is) = (k, v) ∷ dynamics is

unfoldable pub bindings : List Item → Bindings
bindings is = record { statics = statics is; inherit_froms = children is; dynamics = dynamics is }

unfoldable pub pattern : Bool → List Item → Option Pat
pattern ellipsis is = some (record { fields = fields is; ellipsis = ellipsis })

-- ---- expressions, by the sort of the row
-- two words, the higher first
unfoldable pub wide : ℕ → ℕ → ℕ
wide hi lo = hi * 4294967296 + lo

-- a float or an integer that the code can't hold reads as Missing
unfoldable pub float_or : ℕ → Expr
float_or bits = if leb bits 9218868437227405312 then literal (float bits) else missing

unfoldable pub integer_or : ℕ → Expr
integer_or n = if leb n 9223372036854775807 then literal (integer n) else missing

unfoldable pub expr_of : List ℕ → ℕ → ℕ → ℕ → ℕ → List Item → Expr
expr_of s sort a b c is =
    if leb sort 1 then missing
    else if eqb sort 2 then apply a b
    else if eqb sort 3 then if_then_else a b c
    else if eqb sort 4 then float_or (wide a b)
    else if eqb sort 5 then integer_or (wide a b)
    else if eqb sort 6 then literal (string (text_in s a))
    else if eqb sort 7 then literal (path (text_in s a))
    else if eqb sort 8 then literal uri
    else if eqb sort 9 then lambda none none a
    else if eqb sort 10 then lambda (some b) none a
    else if eqb sort 11 then lambda none (pattern false is) a
    else if eqb sort 12 then lambda (some b) (pattern false is) a
    else if eqb sort 13 then lambda none (pattern true is) a
    else if eqb sort 14 then lambda (some b) (pattern true is) a
    else if eqb sort 15 then let_in (bindings is) a
    else if eqb sort 16 then list (children is)
    else if eqb sort 17 then bin_op a b c
    else if eqb sort 18 then attr_set false (bindings is)
    else if eqb sort 19 then attr_set true (bindings is)
    else if eqb sort 20 then unary_op a b
    else if eqb sort 21 then reference (text_in s a)
    else if eqb sort 22 then select a (children is) none
    else if eqb sort 23 then select a (children is) (some b)
    else if eqb sort 24 then has_attr a (children is)
    else if eqb sort 25 then with_in a b
    else if eqb sort 26 then assert_in a b
    else if eqb sort 27 then string_interpolation (parts is)
    else path_interpolation (parts is)

-- ---- pointers
unfoldable pub pointer_at : List ℕ → ℕ → Pointer
pointer_at s at = record { kind = word s at; from = word s (at + 4); to = word s (at + 8) }

-- sort 0 is Missing without a pointer
unfoldable pub pointer_or : ℕ → Pointer → Option Pointer
pointer_or sort p = if eqb sort 0 then none else some p

-- ---- the row with the number e
unfoldable pub first_item : List ℕ → ExprId → ℕ
first_item s e = word s (exprs_at + expr_row * e)

unfoldable pub items_of : List ℕ → ExprId → List Item
items_of s e = rows_from (item_in s) (cap (first_item s e) item_limit) (cap (first_item s (e + 1)) item_limit)

unfoldable pub sort_of : List ℕ → ExprId → ℕ
sort_of s e = word s (exprs_at + expr_row * e + 4)

unfoldable pub made_in : List ℕ → ExprId → Made
made_in s e =
    record {
      expr = expr_of s (sort_of s e) (word s (exprs_at + expr_row * e + 8)) (word s (exprs_at + expr_row * e + 12)) (word s (exprs_at + expr_row * e + 16)) (items_of s e);
      pointer = pointer_or (sort_of s e) (pointer_at s (expr_pointers_at + pointer_row * e));
    }
