-- What the code's expressions and items are in the definitions, and when one is what a row says.
use Rattle.std.specs.Prelude.{◌≡◌, true, false, List, ℕ, leb}
use Rattle.std.proofs.Math.Option.{Option, none}
use Rattle.spec.specs.Basics.{Text}
use Rattle.spec.specs.Module.{missing, apply, if_then_else, literal, lambda, let_in, list, bin_op, attr_set, unary_op, reference, select, has_attr, with_in, assert_in, string_interpolation, path_interpolation, Pat}
use Rattle.spec.specs.Module as spec
use Rattle.module.specs.declared.expr.Expr.{Expr}
use Rattle.module.specs.declared.expr.Expr.TheVariants.{Missing, Apply, IfThenElse, Literal, Lambda, LetIn, List as ListOf, BinOp, AttrSet, UnaryOp, Reference, Select, HasAttr, With, Assert, StringInterpolation, PathInterpolation}
use Rattle.module.specs.declared.expr.Pattern.{Pattern}
use Rattle.module.specs.declared.expr.Pattern.TheVariants.{Absent, Closed, Ellipsis}
use Rattle.module.specs.declared.expr.Item.{Item}
use Rattle.module.specs.declared.expr.Item.TheVariants.{Child, Text as TextPart, Field, Static, Dynamic}
use Rattle.module.specs.Ids.{expr_of, name_of, binding_of}
use Rattle.module.specs.Literals.{literal_of, Valid}
use Rattle.rows.specs.declared.row.Row.{Row}
use Rattle.rows.specs.declared.row.ItemRow.{ItemRow}
use Rattle.layout.specs.Texts.{text_in}
use Rattle.layout.specs.Exprs as rows

-- a pattern with the fields that are among the items
unfoldable pub pattern_with : Pattern → List rows.Item → Option Pat
pattern_with Absent is = none
pattern_with Closed is = rows.pattern false is
pattern_with Ellipsis is = rows.pattern true is

-- an expression with its items; texts by their numbers
unfoldable pub expr_with : (ℕ → Text) → Expr → List rows.Item → spec.Expr
expr_with texts Missing is = missing
expr_with texts (Apply f a) is = apply f.0 a.0
expr_with texts (IfThenElse c t e) is = if_then_else c.0 t.0 e.0
expr_with texts (Literal l) is = literal (literal_of texts l)
expr_with texts (Lambda x p b) is = lambda (name_of x) (pattern_with p is) b.0
expr_with texts (LetIn b) is = let_in (rows.bindings is) b.0
expr_with texts ListOf is = list (rows.children is)
expr_with texts (BinOp l r op) is = bin_op l.0 r.0 op
expr_with texts (AttrSet r) is = attr_set r (rows.bindings is)
expr_with texts (UnaryOp op e) is = unary_op op e.0
expr_with texts (Reference t) is = reference (texts t.0)
expr_with texts (Select s d) is = select s.0 (rows.children is) (expr_of d)
expr_with texts (HasAttr s) is = has_attr s.0 (rows.children is)
expr_with texts (With e b) is = with_in e.0 b.0
expr_with texts (Assert c b) is = assert_in c.0 b.0
expr_with texts StringInterpolation is = string_interpolation (rows.parts is)
expr_with texts PathInterpolation is = path_interpolation (rows.parts is)

unfoldable pub item_with : (ℕ → Text) → Item → rows.Item
item_with texts (Child e) = rows.child e.0
item_with texts (TextPart t) = rows.text (texts t.0)
item_with texts (Field x d) = rows.field (name_of x) (expr_of d)
item_with texts (Static x v) = rows.static x.0 (binding_of v)
item_with texts (Dynamic k v) = rows.dynamic k.0 v.0

-- a float is no NaN, and an integer not negative
unfoldable pub ValidExpr : Expr → Type 0
ValidExpr Missing = Unit {0}
ValidExpr (Apply f a) = Unit {0}
ValidExpr (IfThenElse c t e) = Unit {0}
ValidExpr (Literal l) = Valid l
ValidExpr (Lambda x p b) = Unit {0}
ValidExpr (LetIn b) = Unit {0}
ValidExpr ListOf = Unit {0}
ValidExpr (BinOp l r op) = Unit {0}
ValidExpr (AttrSet r) = Unit {0}
ValidExpr (UnaryOp op e) = Unit {0}
ValidExpr (Reference t) = Unit {0}
ValidExpr (Select s d) = Unit {0}
ValidExpr (HasAttr s) = Unit {0}
ValidExpr (With e b) = Unit {0}
ValidExpr (Assert c b) = Unit {0}
ValidExpr StringInterpolation = Unit {0}
ValidExpr PathInterpolation = Unit {0}

-- the expression is what the row says, in any store and with any items
pub record Reads (r : Row) (e : Expr) : Type 0 where
  pub valid : ValidExpr e
  pub same : (s : List ℕ) (is : List rows.Item) → expr_with (text_in s) e is ≡ rows.expr_of s r.sort r.a r.b r.c is

pub record ReadsItem (r : ItemRow) (i : Item) : Type 0 where
  pub same : (s : List ℕ) → item_with (text_in s) i ≡ rows.item_of s r.tag r.a r.b

-- the row says what the item is, in any store
pub record SaysItem (r : ItemRow) (i : Item) : Type 0 where
  pub same : (s : List ℕ) → rows.item_of s r.tag r.a r.b ≡ item_with (text_in s) i
  pub in_range : leb r.tag 9 ≡ true
