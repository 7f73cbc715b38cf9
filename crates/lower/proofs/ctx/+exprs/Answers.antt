-- The functions of the cycle `+exprs` meet their contracts.
use Rattle.lower.proofs.ChildLaws.{one_child, two_children, two_places, three_children}
use Rattle.lower.proofs.BindingLaws.{let_lowers, set_lowers}
use Rattle.lower.proofs.ExprLaws.{binop_missing, binop_lowers, cond_lowers, opt_node, opt_absent, pair_lowers, there_node, there_absent, unop_missing, unop_lowers}
use Rattle.lower.proofs.InnerLaws.{desugar_lowers, nest_lowers}
use Rattle.lower.proofs.KindLaws.{too_deep, none_arm, pair_arm, cond_arm, select_arm, has_arm, string_arm, path_arm, literal_arm, uri_arm, lambda_arm, let_arm, list_arm, binop_arm, inside_arm, set_arm, unop_arm, ident_arm, missing_arm}
use Rattle.lower.proofs.LambdaLaws.{field_lowers, lambda_lowers}
use Rattle.lower.proofs.LeafLaws.{ident_lowers, name_lowers}
use Rattle.lower.proofs.ListedLaws.{attr_dynamic, attr_string, attr_ident, select_lowers, has_lowers, part_text, part_expr, path_parts, path_literal, string_literal, string_parts}
use Rattle.lower.proofs.LoopLaws.{attrpath_absent, attrpath_start, attrpath_end, attr_waits, entries_start, fields_absent, fields_start, fields_end, inherits_end, list_start, list_taken, item_waits, parts_start}
use Rattle.lower.proofs.Loops.{gathering_turn, gathering_skip, gathering_end, merging_turn, merging_skip, merging_end}
use Rattle.lower.proofs.MergeLaws.{entry_inherit, entry_attrpath, inherit_static, inherit_dynamic, bindings_none, bindings_there, keyed_merged, keyed_other, value_static, value_dynamic, nested_last, nested_before, dynamic_pushed, attrpath_none, attrpath_there, source_there, source_none, step_static, step_dynamic}
use Rattle.lower.proofs.ReadLaws.{in_first}
use Rattle.lower.specs.Reads.{NextIn}
use mathlib.Core.Path.{◌∙◌, refl, ap}
use native.Mathlib.Omega.{arith}
use Rattle.intake.proofs.KindLaws.{of_kind, if_kind, if_other}
use Rattle.module.specs.SyntaxKinds.{number_of_syntax}
use Rattle.module.specs.declared.syntax_kind.SyntaxKind.TheVariants as code_kind
use Rattle.std.specs.Prelude.{Some}
use Rattle.lower.proofs.ctx.+exprs.Goals.{attrs-in-Some-kid, attrs-in_default-kid, entries-in-Some, entries-in_default, fields-in-Some-kid, fields-in_default-kid, inherit-in-Some, inherit-in_default, list-in-Some, list-in_default, parts-in-Some, parts-in_default}
use Rattle.lower.proofs.ctx.+exprs.Goals as goal

-- ---- attr

pub attr-returns-then-eq : goal.attr-returns-then-eq
unfolding number_of_syntax
attr-returns-then-eq t c = attr_dynamic _ _ _ refl _ (if_kind c.syntax_kind-kind.ensures code_kind.Dynamic c.eq.ensures c.if-eq.true) c.kid-place.ensures c.opt.ensures

pub attr-returns-then-eq-2 : goal.attr-returns-then-eq-2
unfolding number_of_syntax
attr-returns-then-eq-2 t c = attr_string _ _ _ refl (if_other c.syntax_kind-kind.ensures code_kind.Dynamic c.eq.ensures c.if-eq.false) (if_kind c.syntax_kind-kind.ensures code_kind.Str c.eq-else-eq.ensures c.if-eq-2.true) c.str.ensures

pub attr-returns-else-eq-2 : goal.attr-returns-else-eq-2
unfolding number_of_syntax
attr-returns-else-eq-2 t c = attr_ident _ _ _ refl (if_other c.syntax_kind-kind.ensures code_kind.Dynamic c.eq.ensures c.if-eq.false) (if_other c.syntax_kind-kind.ensures code_kind.Str c.eq-else-eq.ensures c.if-eq-2.false) c.attr_name.ensures

-- ---- attrs

pub attrs-returns-in_default : goal.attrs-returns-in_default
attrs-returns-in_default t c = attrpath_absent _ _ c.in_default.is

pub attrs-loop-i-init : goal.attrs-loop-i-init
attrs-loop-i-init t c = attrpath_start _ _ _

pub attrs-loop-i-preserved : goal.attrs-loop-i-preserved
attrs-loop-i-preserved t c =
    elim c.match-kid.branch [
      | attrs-in-Some-kid w ↦ rw w.store-is (gathering_turn c.loop-i.invariant c.kid_count-i-end.ensures c.loop-i-test.true c.kid.ensures w.in-Some-kid.is (attr_waits _ _ _ w.attr-e.ensures w.push_item.ensures))
      | attrs-in_default-kid w ↦ rw w.store-is (gathering_skip c.loop-i.invariant c.kid_count-i-end.ensures c.loop-i-test.true c.kid.ensures w.in_default-kid.is)
    ]

pub attrs-returns : goal.attrs-returns
attrs-returns t c = attrpath_end _ _ c.in-Some.is (gathering_end c.loop-i.invariant c.kid_count-i-end.ensures c.loop-i-test.false)

-- ---- binds

pub binds-returns : goal.binds-returns
binds-returns t c = desugar_lowers _ _ _ _ c.opened_now-around.ensures.0 c.opened_now-around.ensures.1 c.node_pointer-p.ensures c.open_set-s.ensures.0 c.entries.ensures c.finish_set.ensures c.cut.ensures

-- ---- binop

pub binop-returns-then-op-eq0 : goal.binop-returns-then-op-eq0
binop-returns-then-op-eq0 t c = binop_missing _ _ _ (two_children _ _ c.kid-first.ensures c.kid-second.ensures c.node_pointer-p.ensures) _ _ c.node_flag-op.ensures c.opt-lhs.ensures c.if-op-eq0.true c.alloc_missing.ensures

pub binop-returns : goal.binop-returns
binop-returns t c = binop_lowers _ _ _ (two_children _ _ c.kid-first.ensures c.kid-second.ensures c.node_pointer-p.ensures) _ _ _ c.node_flag-op.ensures c.opt-lhs.ensures c.if-op-eq0.false c.opt-rhs.ensures c.alloc_lone.ensures

-- ---- cond

pub cond-returns : goal.cond-returns
cond-returns t c = cond_lowers _ _ _ (three_children _ _ c.kid-first.ensures c.kid-second.ensures c.kid-third.ensures c.node_pointer-p.ensures) _ _ _ c.opt-cond.ensures c.opt-then_body.ensures c.opt-else_body.ensures c.alloc_lone.ensures

-- ---- entries

pub entries-loop-i-init : goal.entries-loop-i-init
entries-loop-i-init t c = entries_start _ _ _ _ _ c.first_entry-i.ensures

pub entries-loop-i-preserved : goal.entries-loop-i-preserved
entries-loop-i-preserved t c =
    elim c.match-kid.branch [
      | entries-in-Some w ↦ rw w.store-is (merging_turn c.loop-i.invariant c.kid_count-i-end.ensures c.loop-i-test.true c.kid.ensures w.in-Some.is w.entry.ensures)
      | entries-in_default w ↦ rw w.store-is (merging_skip c.loop-i.invariant c.kid_count-i-end.ensures c.loop-i-test.true c.kid.ensures w.in_default.is)
    ]

pub entries-returns : goal.entries-returns
entries-returns t c = merging_end c.loop-i.invariant c.kid_count-i-end.ensures c.loop-i-test.false

-- ---- entry

pub entry-returns-then-eq : goal.entry-returns-then-eq
unfolding number_of_syntax
entry-returns-then-eq t c = entry_inherit _ _ _ _ refl (if_kind c.syntax_kind.ensures code_kind.Inherit c.eq.ensures c.if-eq.true) c.inherit.ensures

pub entry-returns-else-eq : goal.entry-returns-else-eq
unfolding number_of_syntax
entry-returns-else-eq t c = entry_attrpath _ _ _ _ refl (if_other c.syntax_kind.ensures code_kind.Inherit c.eq.ensures c.if-eq.false) c.put.ensures

-- ---- expr

pub expr-returns-then-depth-eq0 : goal.expr-returns-then-depth-eq0
expr-returns-then-depth-eq0 t c = too_deep _ _ c.if-depth-eq0.true c.alloc_missing.ensures

pub expr-returns-in_default : goal.expr-returns-in_default
expr-returns-in_default t c = none_arm _ _ c.if-depth-eq0.false c.syntax_kind.ensures c.in_default.is c.missing_node.ensures

pub expr-let_in-requires : goal.expr-let_in-requires
unfolding number_of_syntax
expr-let_in-requires t c = (omega (arith, c.decreases), (omega (arith, c.requires), of_kind c.syntax_kind.ensures code_kind.LetIn (c.in-Some.is ∙ ap Some c.in-LetIn.is)))

pub expr-returns-in-Apply : goal.expr-returns-in-Apply
expr-returns-in-Apply t c = pair_arm _ _ c.if-depth-eq0.false c.syntax_kind.ensures _ c.in-Some.is c.in-Apply.is c.pair.ensures

pub expr-returns-in-IfElse : goal.expr-returns-in-IfElse
expr-returns-in-IfElse t c = cond_arm _ _ c.if-depth-eq0.false c.syntax_kind.ensures _ c.in-Some.is c.in-IfElse.is c.cond.ensures

pub expr-returns-in-Select : goal.expr-returns-in-Select
expr-returns-in-Select t c = select_arm _ _ c.if-depth-eq0.false c.syntax_kind.ensures _ c.in-Some.is c.in-Select.is c.get.ensures

pub expr-returns-in-HasAttr : goal.expr-returns-in-HasAttr
expr-returns-in-HasAttr t c = has_arm _ _ c.if-depth-eq0.false c.syntax_kind.ensures _ c.in-Some.is c.in-HasAttr.is c.has.ensures

pub expr-returns-in-Str : goal.expr-returns-in-Str
expr-returns-in-Str t c = string_arm _ _ c.if-depth-eq0.false c.syntax_kind.ensures _ c.in-Some.is c.in-Str.is c.str.ensures

pub expr-returns-in-Path : goal.expr-returns-in-Path
expr-returns-in-Path t c = path_arm _ _ c.if-depth-eq0.false c.syntax_kind.ensures _ c.in-Some.is c.in-Path.is c.path.ensures

pub expr-returns-in-Float : goal.expr-returns-in-Float
expr-returns-in-Float t c = literal_arm _ _ c.if-depth-eq0.false c.syntax_kind.ensures _ c.in-Some.is c.in-Float.is c.literal.ensures

pub expr-returns-in-Uri : goal.expr-returns-in-Uri
expr-returns-in-Uri t c = uri_arm _ _ c.if-depth-eq0.false c.syntax_kind.ensures _ c.in-Some.is c.in-Uri.is c.uri.ensures

pub expr-returns-in-Lambda : goal.expr-returns-in-Lambda
expr-returns-in-Lambda t c = lambda_arm _ _ c.if-depth-eq0.false c.syntax_kind.ensures _ c.in-Some.is c.in-Lambda.is c.lambda.ensures

pub expr-returns-in-LetIn : goal.expr-returns-in-LetIn
expr-returns-in-LetIn t c = let_arm _ _ c.if-depth-eq0.false c.syntax_kind.ensures _ c.in-Some.is c.in-LetIn.is c.let_in.ensures

pub expr-returns-in-List : goal.expr-returns-in-List
expr-returns-in-List t c = list_arm _ _ c.if-depth-eq0.false c.syntax_kind.ensures _ c.in-Some.is c.in-List.is c.list.ensures

pub expr-returns-in-BinOp : goal.expr-returns-in-BinOp
expr-returns-in-BinOp t c = binop_arm _ _ c.if-depth-eq0.false c.syntax_kind.ensures _ c.in-Some.is c.in-BinOp.is c.binop.ensures

pub expr-returns-in-AttrSet : goal.expr-returns-in-AttrSet
expr-returns-in-AttrSet t c = set_arm _ _ c.if-depth-eq0.false c.syntax_kind.ensures _ c.in-Some.is c.in-AttrSet.is c.set.ensures

pub expr-returns-in-UnaryOp : goal.expr-returns-in-UnaryOp
expr-returns-in-UnaryOp t c = unop_arm _ _ c.if-depth-eq0.false c.syntax_kind.ensures _ c.in-Some.is c.in-UnaryOp.is c.unop.ensures

pub expr-returns-in-Ident : goal.expr-returns-in-Ident
expr-returns-in-Ident t c = ident_arm _ _ c.if-depth-eq0.false c.syntax_kind.ensures _ c.in-Some.is c.in-Ident.is (ident_lowers _ _ c.ident.ensures)

pub expr-returns-in-Paren : goal.expr-returns-in-Paren
expr-returns-in-Paren t c = inside_arm _ _ c.if-depth-eq0.false c.syntax_kind.ensures _ c.in-Some.is _ c.in-Paren.is c.kid-place.ensures c.opt.ensures

pub expr-returns-in_default-kind : goal.expr-returns-in_default-kind
expr-returns-in_default-kind t c =
    let o = c.in_default-kind in
    missing_arm _ _ c.if-depth-eq0.false c.syntax_kind.ensures _ c.in-Some.is
    (o.not-Apply, o.not-IfElse, o.not-Select, o.not-With, o.not-HasAttr, o.not-Str, o.not-Path, o.not-Float, o.not-Integer, o.not-Uri, o.not-Lambda, o.not-LetIn, o.not-List, o.not-BinOp, o.not-Paren, o.not-AttrSet, o.not-UnaryOp, o.not-Ident, o.not-Assert, o.not-Root)
    c.missing_node-in_default-kind.ensures

-- ---- field

pub field-returns : goal.field-returns
field-returns t c = field_lowers _ _ _ _ _ (two_places _ _ c.kid-first.ensures c.kid-second.ensures) (name_lowers _ _ _ c.lower_name-x.ensures) c.there-e.ensures c.push_item.ensures

-- ---- fields

pub fields-returns-in_default : goal.fields-returns-in_default
fields-returns-in_default t c = fields_absent _ _ c.in_default.is

pub fields-loop-i-init : goal.fields-loop-i-init
fields-loop-i-init t c = fields_start _ _ _

pub fields-loop-i-preserved : goal.fields-loop-i-preserved
fields-loop-i-preserved t c =
    elim c.match-kid.branch [
      | fields-in-Some-kid w ↦ rw w.store-is (gathering_turn c.loop-i.invariant c.kid_count-i-end.ensures c.loop-i-test.true c.kid.ensures w.in-Some-kid.is w.field.ensures)
      | fields-in_default-kid w ↦ rw w.store-is (gathering_skip c.loop-i.invariant c.kid_count-i-end.ensures c.loop-i-test.true c.kid.ensures w.in_default-kid.is)
    ]

pub fields-returns : goal.fields-returns
fields-returns t c = fields_end _ _ c.in-Some.is (gathering_end c.loop-i.invariant c.kid_count-i-end.ensures c.loop-i-test.false)

-- ---- get

pub get-returns : goal.get-returns
get-returns t c = select_lowers _ _ _ _ c.waiting_count-base.ensures (three_children _ _ c.kid-first.ensures c.kid-second.ensures c.kid-third.ensures c.node_pointer-p.ensures) _ c.opt-set.ensures c.attrs.ensures _ c.there-default_expr.ensures c.alloc_expr.ensures

-- ---- has

pub has-returns : goal.has-returns
has-returns t c = has_lowers _ _ _ _ c.waiting_count-base.ensures (two_children _ _ c.kid-first.ensures c.kid-second.ensures c.node_pointer-p.ensures) _ c.opt-set.ensures c.attrs.ensures c.alloc_expr.ensures

-- ---- heir

pub heir-returns-in-Static : goal.heir-returns-in-Static
heir-returns-in-Static t c = inherit_static _ _ _ _ c.attr_kind.ensures _ _ _ _ c.node_pointer-p.ensures c.in-Static.is c.inherit_value-v.ensures c.merge_static_value.ensures

pub heir-returns-in-Dynamic : goal.heir-returns-in-Dynamic
heir-returns-in-Dynamic t c = inherit_dynamic _ _ _ _ c.attr_kind.ensures _ _ c.in-Dynamic.is c.push.ensures

-- ---- inherit

pub inherit-loop-i-preserved : goal.inherit-loop-i-preserved
inherit-loop-i-preserved t c =
    elim c.match-kid.branch [
      | inherit-in-Some w ↦ rw w.store-is (merging_turn c.loop-i.invariant c.kid_count-i-end.ensures c.loop-i-test.true c.kid.ensures w.in-Some.is w.heir.ensures)
      | inherit-in_default w ↦ rw w.store-is (merging_skip c.loop-i.invariant c.kid_count-i-end.ensures c.loop-i-test.true c.kid.ensures w.in_default.is)
    ]

pub inherit-returns : goal.inherit-returns
inherit-returns t c = inherits_end _ _ _ _ _ c.kid-place.ensures c.src-from_set.ensures c.loop-i.invariant c.kid_count-i-end.ensures c.loop-i-test.false

-- ---- join

pub join-returns-then-depth-eq0 : goal.join-returns-then-depth-eq0
join-returns-then-depth-eq0 t c = bindings_none _ _ _ c.if-depth-eq0.true

pub join-returns : goal.join-returns
join-returns t c = bindings_there _ _ _ c.if-depth-eq0.false c.entries.ensures

-- ---- keyed

pub keyed-returns-in-Some : goal.keyed-returns-in-Some
keyed-returns-in-Some t c = keyed_merged _ _ _ _ _ _ _ _ c.into_set.ensures c.in-Some.is c.join.ensures

pub keyed-returns-in-None : goal.keyed-returns-in-None
keyed-returns-in-None t c = keyed_other _ _ _ _ _ _ _ _ c.into_set.ensures c.in-None.is c.node_pointer-p.ensures c.opt-e.ensures c.merge_static_value.ensures

-- ---- lambda

pub lambda-returns : goal.lambda-returns
lambda-returns t c = lambda_lowers _ _ _ _ _ _ _ c.waiting_count-base.ensures (two_children _ _ c.kid-first.ensures c.kid-second.ensures c.node_pointer-p.ensures) c.param_of-ident.ensures (name_lowers _ _ _ c.lower_name-name.ensures) c.fields.ensures c.opt-body.ensures c.alloc_expr.ensures

-- ---- last

pub last-returns-in-Static : goal.last-returns-in-Static
last-returns-in-Static t c = value_static _ _ _ _ c.attr_kind.ensures _ _ c.in-Static.is c.keyed.ensures

pub last-returns-in-Dynamic : goal.last-returns-in-Dynamic
last-returns-in-Dynamic t c = value_dynamic _ _ _ _ c.attr_kind.ensures _ _ c.in-Dynamic.is c.push.ensures

-- ---- let_in

pub let_in-returns : goal.let_in-returns
let_in-returns t c = let_lowers _ _ _ _ _ c.requires.1 c.waiting_count-base.ensures (one_child _ _ c.kid-first.ensures c.node_pointer-p.ensures) c.binds.ensures c.opt-body.ensures c.alloc_expr.ensures

-- ---- list

pub list-loop-i-init : goal.list-loop-i-init
list-loop-i-init t c = list_start _ _ _

pub list-loop-i-preserved : goal.list-loop-i-preserved
list-loop-i-preserved t c =
    elim c.match-kid.branch [
      | list-in-Some w ↦ rw w.store-is (gathering_turn c.loop-i.invariant c.kid_count-i-end.ensures c.loop-i-test.true c.kid.ensures w.in-Some.is (item_waits _ _ _ w.expr-e.ensures w.push_item.ensures))
      | list-in_default w ↦ rw w.store-is (gathering_skip c.loop-i.invariant c.kid_count-i-end.ensures c.loop-i-test.true c.kid.ensures w.in_default.is)
    ]

pub list-returns : goal.list-returns
list-returns t c = list_taken _ _ _ c.waiting_count-base.ensures c.node_pointer-p.ensures (gathering_end c.loop-i.invariant c.kid_count-i-end.ensures c.loop-i-test.false) c.alloc_expr.ensures

-- ---- nest

pub nest-returns : goal.nest-returns
nest-returns t c = nest_lowers _ _ _ _ _ c.opened_now-around.ensures.0 c.opened_now-around.ensures.1 c.open_set-t.ensures.0 c.nested.ensures c.finish_nested-e.ensures c.cut.ensures

-- ---- nested

pub nested-step-requires : goal.nested-step-requires
nested-step-requires t c = let f = in_first _ _ _ c.next.ensures _ _ c.in-Some.is in (omega (arith, c.decreases, f.onward, f.inside), omega (arith, c.requires))

pub nested-returns-in-None : goal.nested-returns-in-None
unfolding NextIn
nested-returns-in-None t c = nested_last _ _ _ _ _ (rw c.in-None.is at c.next.ensures) c.last.ensures

pub nested-returns-in-Some : goal.nested-returns-in-Some
unfolding NextIn
nested-returns-in-Some t c = nested_before _ _ _ _ _ (rw c.in-Some.is at c.next.ensures) c.step.ensures

-- ---- opt

pub opt-returns-in-Some : goal.opt-returns-in-Some
opt-returns-in-Some t c = opt_node _ _ c.in-Some.is c.expr.ensures

pub opt-returns-in-None : goal.opt-returns-in-None
opt-returns-in-None t c = opt_absent _ c.in-None.is c.alloc_missing.ensures

-- ---- pair

pub pair-returns : goal.pair-returns
pair-returns t c = pair_lowers _ _ _ (two_children _ _ c.kid-first.ensures c.kid-second.ensures c.node_pointer-p.ensures) _ _ c.opt-a.ensures c.opt-b.ensures c.pair_form.ensures c.alloc_lone.ensures

-- ---- part

pub part-returns-then-eq : goal.part-returns-then-eq
unfolding number_of_syntax
part-returns-then-eq t c = part_text _ _ _ refl _ (if_kind c.syntax_kind.ensures code_kind.LiteralPart c.eq.ensures c.if-eq.true) c.node_text-t.ensures c.push_item.ensures

pub part-returns : goal.part-returns
unfolding number_of_syntax
part-returns t c = part_expr _ _ _ refl _ _ (if_other c.syntax_kind.ensures code_kind.LiteralPart c.eq.ensures c.if-eq.false) c.kid-place.ensures c.opt-e.ensures c.push_item-2.ensures

-- ---- parts

pub parts-loop-i-init : goal.parts-loop-i-init
parts-loop-i-init t c = parts_start _ _ _

pub parts-loop-i-preserved : goal.parts-loop-i-preserved
parts-loop-i-preserved t c =
    elim c.match-kid.branch [
      | parts-in-Some w ↦ rw w.store-is (gathering_turn c.loop-i.invariant c.kid_count-i-end.ensures c.loop-i-test.true c.kid.ensures w.in-Some.is w.part.ensures)
      | parts-in_default w ↦ rw w.store-is (gathering_skip c.loop-i.invariant c.kid_count-i-end.ensures c.loop-i-test.true c.kid.ensures w.in_default.is)
    ]

pub parts-returns : goal.parts-returns
parts-returns t c = gathering_end c.loop-i.invariant c.kid_count-i-end.ensures c.loop-i-test.false

-- ---- path

pub path-returns-then-has_interpolation : goal.path-returns-then-has_interpolation
path-returns-then-has_interpolation t c = path_parts _ _ _ c.node_pointer-p.ensures _ c.has_interpolation.ensures _ c.waiting_count-base.ensures c.if-has_interpolation.true c.parts.ensures c.alloc_expr.ensures

pub path-returns : goal.path-returns
path-returns t c = path_literal _ _ _ c.node_pointer-p.ensures _ c.has_interpolation.ensures _ c.if-has_interpolation.false c.node_text-t.ensures c.alloc_lone.ensures

-- ---- push

pub push-returns : goal.push-returns
push-returns t c = dynamic_pushed _ _ _ _ c.opt-k.ensures c.opt-v.ensures c.add_dynamic.ensures

-- ---- put

pub put-returns-in-None : goal.put-returns-in-None
unfolding NextIn
put-returns-in-None t c = attrpath_none _ _ _ _ (two_places _ _ c.kid-first.ensures c.kid-second.ensures) (rw c.in-None.is at c.next.ensures) c.push.ensures

pub put-returns-in-Some : goal.put-returns-in-Some
unfolding NextIn
put-returns-in-Some t c = attrpath_there _ _ _ _ (two_places _ _ c.kid-first.ensures c.kid-second.ensures) (rw c.in-Some.is at c.next.ensures) c.nested.ensures

-- ---- set

pub set-returns : goal.set-returns
set-returns t c = set_lowers _ _ _ _ _ _ c.waiting_count-base.ensures c.node_pointer-p.ensures c.name_kind_of_set-kind.ensures c.node_flag-is_rec.ensures c.binds.ensures c.alloc_expr.ensures

-- ---- src

pub src-returns-in_err-place : goal.src-returns-in_err-place
src-returns-in_err-place t c = rw c.from_residual.ensures (source_none _ _ _ c.in_err-place.was)

pub src-returns : goal.src-returns
src-returns t c = source_there _ _ _ _ _ _ c.in_ok-place.was c.kid-inner.ensures c.opt-e.ensures c.add_source.ensures

-- ---- step

pub step-returns-in-Static : goal.step-returns-in-Static
step-returns-in-Static t c = step_static _ _ _ _ c.attr_kind.ensures _ c.node_pointer-p.ensures _ _ _ _ c.in-Static.is c.get_or_create_nested_static-t.ensures c.nested.ensures

pub step-returns-in-Dynamic : goal.step-returns-in-Dynamic
step-returns-in-Dynamic t c = step_dynamic _ _ _ _ c.attr_kind.ensures _ c.node_pointer-p.ensures _ _ _ _ c.in-Dynamic.is c.nest-e.ensures c.opt-made.ensures c.add_dynamic.ensures

-- ---- str

pub str-returns-in-Some : goal.str-returns-in-Some
str-returns-in-Some t c = string_literal _ _ _ c.node_pointer-p.ensures _ c.get_str_literal.ensures _ c.in-Some.is c.alloc_lone.ensures

pub str-returns-in-None : goal.str-returns-in-None
str-returns-in-None t c = string_parts _ _ _ c.node_pointer-p.ensures _ c.get_str_literal.ensures _ c.waiting_count-base.ensures c.in-None.is c.parts.ensures c.alloc_expr.ensures

-- ---- there

pub there-returns-in_err-n : goal.there-returns-in_err-n
there-returns-in_err-n t c = rw c.from_residual.ensures (there_absent _ _ c.in_err-n.was)

pub there-returns : goal.there-returns
there-returns t c = there_node _ _ _ c.in_ok-n.was c.expr.ensures

-- ---- unop

pub unop-returns-then-op-eq0 : goal.unop-returns-then-op-eq0
unop-returns-then-op-eq0 t c = unop_missing _ _ _ c.node_flag-op.ensures c.if-op-eq0.true c.alloc_missing.ensures

pub unop-returns : goal.unop-returns
unop-returns t c = unop_lowers _ _ _ (one_child _ _ c.kid-first.ensures c.node_pointer-p.ensures) _ _ c.node_flag-op.ensures c.if-op-eq0.false c.opt-e.ensures c.alloc_lone.ensures
