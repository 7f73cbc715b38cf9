use Rattle.std.proofs.Common.{arith, ◌∙◌, ap, refl}
use Rattle.std.proofs.lemmas.Result.{err_from_is_err_and}
use Rattle.spec.specs.Basics.{bytes}
use Rattle.spec.specs.Sheet.{wrong_count}
use Rattle.sheet.specs.Faults.{fault_of}
use Rattle.sheet.specs.Sheets.{numbered}
use Rattle.sheet.proofs.NodeLaws.{number_inside}
use Rattle.sheet.proofs.SheetLaws.{sheet_long, sheet_count, sheet_node, sheet_more, sheet_whole, numbered_is}
use Rattle.sheet.proofs.sheets.read_sheet.Goals as goal

pub returns-then-s-gt-SHEET_BYTES : goal.returns-then-s-gt-SHEET_BYTES
returns-then-s-gt-SHEET_BYTES c = sheet_long c.args.s.now c.if-s-gt-SHEET_BYTES.true

pub returns-in_err-nodes : goal.returns-in_err-nodes
returns-in_err-nodes c =
    let p = err_from_is_err_and c.from_residual.result c.from_residual.ensures.1 in
    ap numbered p.1 ∙ numbered_is p.0 _ _ _ p.2
    (sheet_count c.args.s.now (omega arith) c.first.result c.first.ensures (fault_of c.in_err-nodes.field-0.0.why) c.in_err-nodes.field-0.0.at _ c.in_err-nodes.ensures refl)

pub nodes-requires : goal.nodes-requires
nodes-requires c = number_inside (bytes "nodes=") wrong_count 1 4096 c.args.s.now c.first.result.at _ _ c.in_ok-nodes.ensures

pub returns-in_err-last : goal.returns-in_err-last
returns-in_err-last c =
    let p = err_from_is_err_and c.from_residual-in_err-last.result c.from_residual-in_err-last.ensures.1 in
    ap numbered p.1 ∙ numbered_is p.0 _ _ _ p.2
    (sheet_node c.args.s.now (omega arith) c.first.result c.first.ensures c.in_ok-nodes.nodes c.in_ok-nodes.first c.in_ok-nodes.ensures
    (fault_of c.in_err-last.field-0.0.why) c.in_err-last.field-0.0.at _ c.in_err-last.ensures refl)

pub returns-then-last-s : goal.returns-then-last-s
returns-then-last-s c =
    sheet_more c.args.s.now (omega arith) c.first.result c.first.ensures c.in_ok-nodes.nodes c.in_ok-nodes.first c.in_ok-nodes.ensures c.in_ok-last.last c.in_ok-last.ensures c.if-last-s.true

pub returns : goal.returns
returns c =
    sheet_whole c.args.s.now (omega arith) c.first.result c.first.ensures c.in_ok-nodes.nodes c.in_ok-nodes.first c.in_ok-nodes.ensures c.in_ok-last.last c.in_ok-last.ensures c.if-last-s.false
