-- The contracts of lowering: the definitions at a depth, and which items wait.
use Rattle.std.specs.Prelude.{◌≡◌, List, [], ◌∷◌, ℕ, eqb, if◌then◌else◌}
use Rattle.std.proofs.Math.Option.{Option, some}
use Rattle.spec.specs.Basics.{Text, NodeId, ExprId, NameId}
use Rattle.spec.specs.Sheet.{Node}
use Rattle.spec.specs.Module.{Pointer, InterpolPart, literal_part, interpol, Expr, apply, with_in, assert_in}
use Rattle.spec.specs.Steps.{◌>>=◌}
use Rattle.spec.specs.State.{SetId, Low, inner}
use Rattle.spec.specs.Merge.{new_nested, finish_expr, merge_nested_attr_value}
use Rattle.spec.specs.Lower.{lower_expr, merge_bindings}
use Rattle.layout.specs.Exprs.{Item, child, text, field}
use Rattle.module.specs.declared.expr.Expr as code
use Rattle.rows.specs.Decoded.{expr_with, ValidExpr}
use Rattle.merge.specs.Room.{one_expr, own_node}
use Rattle.merge.specs.Lowers.{Lowering}
use Rattle.lower.specs.Sizes.{below, heft}

-- ---- the definitions, with so many levels left
abbrev pub lower_at : ℕ → List Node → NodeId → Low ExprId
lower_at depth nodes = λ m. lower_expr nodes depth m

abbrev pub merge_at : ℕ → List Node → SetId → NodeId → Low (Unit {0})
merge_at depth nodes = λ s m. merge_bindings nodes depth s m

-- Lowering a node: in all for its own node and those below it, or, what is less for a Str, for those below it and one
-- expression.
pub record LowersNode (depth : ℕ) (n : NodeId) (s : List ℕ) (r : ExprId) (t : List ℕ) : Type 0 where
  pub whole : Lowering 0 (below n) own_node (λ nodes. lower_expr nodes depth n) s r t
  pub tight : Lowering 0 (heft (some n)) one_expr (λ nodes. lower_expr nodes depth n) s r t

-- the expression of two operands, by the kind of its node
unfoldable pub form_of : ℕ → ExprId → ExprId → Expr
form_of k a b = if eqb k 1 then apply a b else if eqb k 4 then with_in a b else assert_in a b

-- ---- items that wait
unfoldable pub part_item : InterpolPart → Item
part_item (literal_part t) = text t
part_item (interpol e) = child e

unfoldable pub field_item : Option NameId × Option ExprId → Item
field_item x = field x.0 x.1

-- a code's form of two operands
pub record IsForm (kind : ℕ) (a b : ExprId) (r : code.Expr) : Type 0 where
  pub same : (texts : ℕ → Text) (is : List Item) → expr_with texts r is ≡ form_of kind a b
  pub valid : ValidExpr r

unfoldable pub one : {A : Type 0} → (A → Item) → A → List Item
one f a = f a ∷ []

-- the nested set of a key that is not static, built at once: what merge_nested_attr_value does with it
abbrev pub nested_expr : List Node → (NodeId → Low ExprId) → (SetId → NodeId → Low (Unit {0})) → Pointer → NodeId → List NodeId → Option NodeId → Low ExprId
nested_expr nodes lower merge p n more value = inner (new_nested p >>= λ t. merge_nested_attr_value nodes lower merge t n more value >>= λ _. finish_expr t)
