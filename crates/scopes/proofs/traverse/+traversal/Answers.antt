-- The functions of the cycle `+traversal` meet their contracts.
use Rattle.layout.specs.Exprs.{pattern}
use Rattle.rows.specs.Decoded.{pattern_with}
use Rattle.scopes.proofs.FormLaws.{missing_arm, apply_arm, cond_arm, literal_arm, lambda_arm, let_arm, list_arm, binop_arm, set_arm, unary_arm, reference_arm, select_arm, has_arm, with_arm, assert_arm, string_arm, path_arm}
use Rattle.scopes.proofs.PickLaws.{items_start, items_turn}
use Rattle.scopes.proofs.Steps.{child_walked, child_left, follows_then, follows_none}
use Rattle.scopes.proofs.TraverseLaws.{bindings_walked, lambda_walked, path_walked}
use Rattle.scopes.specs.Picking.{picked, picks_of}
use mathlib.Core.Logic.{inl, inr}
use Rattle.module.specs.Ids.{expr_of}
use Rattle.spec.specs.Scopes.{one_or_none, field_defaults, pat_fields}
use Rattle.scopes.proofs.traverse.+traversal.Goals as goal

-- ---- child

pub child-returns-then-c-e : goal.child-returns-then-c-e
child-returns-then-c-e t c = child_walked c.if-c-e.true c.traverse_expr.ensures

pub child-returns-else-c-e : goal.child-returns-else-c-e
child-returns-else-c-e t c = child_left _ c.if-c-e.false

-- ---- child_if_any

pub child_if_any-returns-in-Some : goal.child_if_any-returns-in-Some
unfolding one_or_none expr_of
child_if_any-returns-in-Some t c = rw c.in-Some.is c.child.ensures

pub child_if_any-returns-in_default : goal.child_if_any-returns-in_default
unfolding one_or_none expr_of
child_if_any-returns-in_default t c = rw c.in_default.is (follows_none _)

-- ---- pair

pub pair-returns : goal.pair-returns
pair-returns t c = follows_then c.child.ensures c.child-2.ensures

-- ---- traverse_bindings

pub traverse_bindings-returns : goal.traverse_bindings-returns
traverse_bindings-returns t c = bindings_walked _ c.walk_items.ensures c.open_for_bindings-inside.ensures c.walk_items-2.ensures c.walk_items-3.ensures c.walk_items-4.ensures

-- ---- traverse_expr

pub traverse_expr-returns-in-Missing : goal.traverse_expr-returns-in-Missing
traverse_expr-returns-in-Missing t c =
    elim c.in-Missing.is [
      | inl e ↦ missing_arm _ _ c.place_expr.ensures c.read_expr.ensures.0 e
      | inr o ↦ elim o [ inl e ↦ literal_arm _ _ c.place_expr.ensures c.read_expr.ensures.0 e.1 | inr e ↦ reference_arm _ _ c.place_expr.ensures c.read_expr.ensures.0 e.1 ]
    ]

pub traverse_expr-returns-in-List : goal.traverse_expr-returns-in-List
traverse_expr-returns-in-List t c =
    elim c.in-List.is [
      | inl e ↦ list_arm _ _ c.place_expr.ensures c.read_expr.ensures.0 e c.walk_items.ensures
      | inr o ↦ elim o [ inl e ↦ string_arm _ _ c.place_expr.ensures c.read_expr.ensures.0 e c.walk_items.ensures | inr e ↦ path_arm _ _ c.place_expr.ensures c.read_expr.ensures.0 e c.walk_items.ensures ]
    ]

pub traverse_expr-returns-in-Apply : goal.traverse_expr-returns-in-Apply
traverse_expr-returns-in-Apply t c = apply_arm _ _ c.place_expr.ensures c.read_expr.ensures.0 c.in-Apply.is c.pair.ensures

pub traverse_expr-returns-in-IfThenElse : goal.traverse_expr-returns-in-IfThenElse
traverse_expr-returns-in-IfThenElse t c = cond_arm _ _ c.place_expr.ensures c.read_expr.ensures.0 c.in-IfThenElse.is c.child.ensures c.pair-in-IfThenElse.ensures

pub traverse_expr-returns-in-Lambda : goal.traverse_expr-returns-in-Lambda
traverse_expr-returns-in-Lambda t c = lambda_arm _ _ c.place_expr.ensures c.read_expr.ensures.0 c.in-Lambda.is c.traverse_lambda.ensures

pub traverse_expr-returns-in-LetIn : goal.traverse_expr-returns-in-LetIn
traverse_expr-returns-in-LetIn t c = let_arm _ _ c.place_expr.ensures c.read_expr.ensures.0 c.in-LetIn.is c.traverse_bindings-inside.ensures c.child-in-LetIn.ensures

pub traverse_expr-returns-in-BinOp : goal.traverse_expr-returns-in-BinOp
traverse_expr-returns-in-BinOp t c = binop_arm _ _ c.place_expr.ensures c.read_expr.ensures.0 c.in-BinOp.is c.pair-in-BinOp.ensures

pub traverse_expr-returns-in-AttrSet : goal.traverse_expr-returns-in-AttrSet
traverse_expr-returns-in-AttrSet t c = set_arm _ _ c.place_expr.ensures c.read_expr.ensures.0 c.in-AttrSet.is c.traverse_bindings.ensures

pub traverse_expr-returns-in-UnaryOp : goal.traverse_expr-returns-in-UnaryOp
traverse_expr-returns-in-UnaryOp t c = unary_arm _ _ c.place_expr.ensures c.read_expr.ensures.0 c.in-UnaryOp.is c.child-in-UnaryOp.ensures

pub traverse_expr-returns-in-Select : goal.traverse_expr-returns-in-Select
traverse_expr-returns-in-Select t c = select_arm _ _ c.place_expr.ensures c.read_expr.ensures.0 c.in-Select.is c.walk_path.ensures

pub traverse_expr-returns-in-HasAttr : goal.traverse_expr-returns-in-HasAttr
traverse_expr-returns-in-HasAttr t c = has_arm _ _ c.place_expr.ensures c.read_expr.ensures.0 c.in-HasAttr.is c.walk_path-in-HasAttr.ensures

pub traverse_expr-returns-in-With : goal.traverse_expr-returns-in-With
traverse_expr-returns-in-With t c = with_arm _ _ c.place_expr.ensures c.read_expr.ensures.0 c.in-With.is c.child-in-With.ensures c.open_with-inside.ensures c.child-in-With-2.ensures

pub traverse_expr-returns-in-Assert : goal.traverse_expr-returns-in-Assert
traverse_expr-returns-in-Assert t c = assert_arm _ _ c.place_expr.ensures c.read_expr.ensures.0 c.in-Assert.is c.pair-in-Assert.ensures

-- ---- traverse_lambda

pub traverse_lambda-returns : goal.traverse_lambda-returns
traverse_lambda-returns t c = lambda_walked _ _ _ c.open_for_lambda-inside.ensures c.walk_defaults.ensures c.child.ensures

-- ---- walk_defaults

pub walk_defaults-returns-in-Absent : goal.walk_defaults-returns-in-Absent
unfolding pattern_with pat_fields field_defaults
walk_defaults-returns-in-Absent t c = rw c.in-Absent.is (follows_none _)

pub walk_defaults-returns-in-Closed : goal.walk_defaults-returns-in-Closed
unfolding pattern_with pattern pat_fields picked
walk_defaults-returns-in-Closed t c = elim c.in-Closed.is [ inl e ↦ rw e c.walk_items.ensures | inr e ↦ rw e c.walk_items.ensures ]

-- ---- walk_items

pub walk_items-loop-i-init : goal.walk_items-loop-i-init
walk_items-loop-i-init t c = items_start _ _ _ _

pub walk_items-loop-i-preserved : goal.walk_items-loop-i-preserved
unfolding picks_of
walk_items-loop-i-preserved t c =
    items_turn _ c.item_count-i-end.ensures.0 c.loop-i.invariant _ c.loop-i-test.true
    c.pick_item-first.ensures
    (follows_then c.child_if_any.ensures c.child_if_any-in-loop-i.ensures)

-- ---- walk_path

pub walk_path-returns : goal.walk_path-returns
walk_path-returns t c = path_walked _ _ c.child.ensures c.walk_items.ensures c.child_if_any.ensures
