use Rattle.spec.specs.Basics.{bytes}
use Rattle.spec.specs.Sheet.{wrong_range, wrong_flag}
use Rattle.module.specs.SyntaxKinds.{number_of_syntax}
use Rattle.sheet.specs.Kids.{kids_of}
use Rattle.sheet.specs.Lines.{span_of}
use Rattle.sheet.specs.Texts.{decoded}
use Rattle.sheet.proofs.Exits.{same_error}
use Rattle.sheet.proofs.NodeLaws.{number_inside, kind_inside, node_kind, node_from, node_to, node_flag, node_kids, node_text, node_read}
use Rattle.sheet.proofs.position.Position.node.Goals as goal

pub returns-in_err-kind-clause-result_value : goal.returns-in_err-kind-clause-result_value
returns-in_err-kind-clause-result_value c = rw (same_error _ _ c.from_residual.ensures.1) (node_kind c.args.nodes c.args.i c.args.s.now c.args.self.at _ _ c.in_err-kind.ensures)

pub number-requires : goal.number-requires
number-requires c = kind_inside c.args.i c.args.s.now c.args.self.at _ _ c.in_ok-kind.ensures

pub returns-in_err-from-clause-result_value : goal.returns-in_err-from-clause-result_value
returns-in_err-from-clause-result_value c = rw (same_error _ _ c.from_residual-in_err-from.ensures.1) (node_from c.args.nodes c.args.i c.args.s.now c.args.self.at (number_of_syntax c.in_ok-kind.kind) c.in_ok-kind.second.at c.in_ok-kind.ensures _ _ c.in_err-from.ensures)

pub number-requires-2 : goal.number-requires-2
number-requires-2 c = number_inside (bytes "from=") wrong_range 0 4294967295 c.args.s.now c.in_ok-kind.second.at _ _ c.in_ok-from.ensures

pub returns-in_err-to-clause-result_value : goal.returns-in_err-to-clause-result_value
returns-in_err-to-clause-result_value c = rw (same_error _ _ c.from_residual-in_err-to.ensures.1) (node_to c.args.nodes c.args.i c.args.s.now c.args.self.at (number_of_syntax c.in_ok-kind.kind) c.in_ok-kind.second.at c.in_ok-kind.ensures c.in_ok-from.from c.in_ok-from.third.at c.in_ok-from.ensures _ _ c.in_err-to.ensures)

pub number-requires-3 : goal.number-requires-3
number-requires-3 c = number_inside (bytes "to=") wrong_range c.in_ok-from.from 4294967295 c.args.s.now c.in_ok-from.third.at _ _ c.in_ok-to.ensures

pub returns-in_err-flag-clause-result_value : goal.returns-in_err-flag-clause-result_value
returns-in_err-flag-clause-result_value c = rw (same_error _ _ c.from_residual-in_err-flag.ensures.1) (node_flag c.args.nodes c.args.i c.args.s.now c.args.self.at (number_of_syntax c.in_ok-kind.kind) c.in_ok-kind.second.at c.in_ok-kind.ensures c.in_ok-from.from c.in_ok-from.third.at c.in_ok-from.ensures c.in_ok-to.to c.in_ok-to.fourth.at c.in_ok-to.ensures c.flags_of.result c.flags_of.ensures _ _ c.in_err-flag.ensures)

pub kids-requires : goal.kids-requires
kids-requires c = number_inside (bytes "flag=") wrong_flag 0 c.flags_of.result c.args.s.now c.in_ok-to.fourth.at _ _ c.in_ok-flag.ensures

pub returns-in_err-kids-clause-result_value : goal.returns-in_err-kids-clause-result_value
returns-in_err-kids-clause-result_value c = rw (same_error _ _ c.from_residual-in_err-kids.ensures.1) (node_kids c.args.nodes c.args.i c.args.s.now c.args.self.at (number_of_syntax c.in_ok-kind.kind) c.in_ok-kind.second.at c.in_ok-kind.ensures c.in_ok-from.from c.in_ok-from.third.at c.in_ok-from.ensures c.in_ok-to.to c.in_ok-to.fourth.at c.in_ok-to.ensures c.flags_of.result c.flags_of.ensures c.in_ok-flag.flag c.in_ok-flag.fifth.at c.in_ok-flag.ensures _ _ c.in_err-kids.ensures.result_value)

pub returns-in_err-text-clause-result_value : goal.returns-in_err-text-clause-result_value
returns-in_err-text-clause-result_value c = rw (same_error _ _ c.from_residual-in_err-text.ensures.1) (node_text c.args.nodes c.args.i c.args.s.now c.args.self.at (number_of_syntax c.in_ok-kind.kind) c.in_ok-kind.second.at c.in_ok-kind.ensures c.in_ok-from.from c.in_ok-from.third.at c.in_ok-from.ensures c.in_ok-to.to c.in_ok-to.fourth.at c.in_ok-to.ensures c.flags_of.result c.flags_of.ensures c.in_ok-flag.flag c.in_ok-flag.fifth.at c.in_ok-flag.ensures (kids_of (span_of c.args.s.now c.in_ok-kids.kids)) c.after.result.at (rw (c.after.ensures) c.in_ok-kids.ensures.result_value) _ _ (rw c.text_rule_of.ensures at c.in_err-text.ensures.result_value))

pub returns-clause-result_value : goal.returns-clause-result_value
returns-clause-result_value c = node_read c.args.nodes c.args.i c.args.s.now c.args.self.at (number_of_syntax c.in_ok-kind.kind) c.in_ok-kind.second.at c.in_ok-kind.ensures c.in_ok-from.from c.in_ok-from.third.at c.in_ok-from.ensures c.in_ok-to.to c.in_ok-to.fourth.at c.in_ok-to.ensures c.flags_of.result c.flags_of.ensures c.in_ok-flag.flag c.in_ok-flag.fifth.at c.in_ok-flag.ensures (kids_of (span_of c.args.s.now c.in_ok-kids.kids)) c.after.result.at (rw (c.after.ensures) c.in_ok-kids.ensures.result_value) (decoded (span_of c.args.s.now c.in_ok-text.text)) c.after-2.result.at (rw (c.after-2.ensures) (rw c.text_rule_of.ensures at c.in_ok-text.ensures.result_value))
