-- How the code's expressions and items lie in rows: sorts, and when a row says what an expression is.
use Rattle.std.specs.Prelude.{◌≡◌, Bool, true, false, ◌||◌, List, ℕ, eqb, leb, if◌then◌else◌}
use Rattle.std.proofs.Math.Option.{none, some}
use Rattle.spec.specs.Module.{Pointer, Made, missing}
use Rattle.module.specs.declared.expr.Expr.{Expr}
use Rattle.module.specs.declared.expr.Expr.TheVariants.{Missing, Apply, IfThenElse, Literal, Lambda, LetIn, List as ListOf, BinOp, AttrSet, UnaryOp, Reference, Select, HasAttr, With, Assert, StringInterpolation, PathInterpolation}
use Rattle.module.specs.declared.expr.Pattern.{Pattern}
use Rattle.module.specs.declared.expr.Pattern.TheVariants.{Absent, Closed, Ellipsis}
use Rattle.module.specs.declared.literal.Literal as code_literal
use Rattle.module.specs.declared.literal.Literal.TheVariants as literals
use Rattle.rows.specs.declared.row.Row.{Row}
use Rattle.rows.specs.declared.row.ItemRow.{ItemRow}
use Rattle.rows.specs.Decoded.{expr_with}
use Rattle.layout.specs.Texts.{text_in}
use Rattle.layout.specs.Exprs as rows
use Rattle.soundness.specs.Coded.{fields_coded, part_coded}
use Rattle.module.specs.declared.ids.ExprId as rust_expr_id
use Rattle.module.specs.declared.ids.NameId as rust_name_id
use Rattle.std.specs.Prelude as rust

-- ---- sorts
unfoldable pub literal_sort : code_literal.Literal → ℕ
literal_sort (literals.Float x) = 4
literal_sort (literals.Integer n) = 5
literal_sort (literals.Text t) = 6
literal_sort (literals.Path t) = 7
literal_sort literals.Uri = 8

unfoldable pub lambda_sort : rust.Option rust_name_id.NameId → Pattern → ℕ
lambda_sort rust.None Absent = 9
lambda_sort (rust.Some x) Absent = 10
lambda_sort rust.None Closed = 11
lambda_sort (rust.Some x) Closed = 12
lambda_sort rust.None Ellipsis = 13
lambda_sort (rust.Some x) Ellipsis = 14

unfoldable pub select_sort : rust.Option rust_expr_id.ExprId → ℕ
select_sort rust.None = 22
select_sort (rust.Some d) = 23

-- the sort of an expression with a pointer
unfoldable pub sort_for : Expr → ℕ
sort_for Missing = 1
sort_for (Apply f a) = 2
sort_for (IfThenElse c t e) = 3
sort_for (Literal l) = literal_sort l
sort_for (Lambda x p b) = lambda_sort x p
sort_for (LetIn b) = 15
sort_for ListOf = 16
sort_for (BinOp l r op) = 17
sort_for (AttrSet r) = if r then 19 else 18
sort_for (UnaryOp op e) = 20
sort_for (Reference t) = 21
sort_for (Select s d) = select_sort d
sort_for (HasAttr s) = 24
sort_for (With e b) = 25
sort_for (Assert c b) = 26
sort_for StringInterpolation = 27
sort_for PathInterpolation = 28

-- whether a row of the sort has a text
unfoldable pub has_text : ℕ → Bool
has_text sort = eqb sort 6 || (eqb sort 7 || eqb sort 21)

-- a float and an integer in their ranges; a sort that there is
unfoldable pub ranged : ℕ → ℕ → ℕ → Bool
ranged sort a b =
    if eqb sort 4 then leb (rows.wide a b) 9218868437227405312
    else if eqb sort 5 then leb (rows.wide a b) 9223372036854775807
    else leb sort 28

-- the row says what the expression is, in any store and with any items; sort 0 is for a Missing without a pointer
pub record Says (r : Row) (e : Expr) : Type 0 where
  pub pointed : eqb r.sort 0 ≡ false
  pub same : (s : List ℕ) (is : List rows.Item) → rows.expr_of s r.sort r.a r.b r.c is ≡ expr_with (text_in s) e is
  pub sort_is : r.sort ≡ sort_for e
  pub in_range : ranged r.sort r.a r.b ≡ true

-- ---- texts within the bytes in use
-- a row that says the same in the store s, its text within the bytes in use
pub record HeldRow (x : Row) (s : List ℕ) (r : Row) : Type 0 where
  pub sort_same : r.sort ≡ x.sort
  pub same : (is : List rows.Item) → rows.expr_of s r.sort r.a r.b r.c is ≡ rows.expr_of s x.sort x.a x.b x.c is
  pub coded : ranged x.sort x.a x.b ≡ true → fields_coded s r.sort r.a r.b ≡ true

pub record HeldItem (x : ItemRow) (s : List ℕ) (r : ItemRow) : Type 0 where
  pub tag_same : r.tag ≡ x.tag
  pub same : rows.item_of s r.tag r.a r.b ≡ rows.item_of s x.tag x.a x.b
  pub coded : part_coded s r.tag r.a ≡ true

-- ---- expressions as they are made
unfoldable pub row_made : List ℕ → Row → Pointer → List rows.Item → Made
row_made s r p is = record { expr = rows.expr_of s r.sort r.a r.b r.c is; pointer = rows.pointer_or r.sort p }

unfoldable pub expr_made : List ℕ → Expr → Pointer → List rows.Item → Made
expr_made s e p is = record { expr = expr_with (text_in s) e is; pointer = some p }

-- "Missing without a pointer"
unfoldable pub hole_made : List rows.Item → Made
hole_made is = record { expr = missing; pointer = none }
