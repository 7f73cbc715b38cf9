-- What the answer about a node says.
use Rattle.std.specs.Prelude.{Result, Ok, Err, List, ◌≡◌, ℕ, ◌+◌}
use Rattle.spec.specs.Kinds.{kind_of}
use Rattle.spec.specs.Sheet as spec
use Rattle.spec.specs.Sheet.{Got, got, bad, kid_list, all_below, hex, text_fits}
use Rattle.module.specs.SyntaxKinds.{number_of_syntax}
use Rattle.module.specs.declared.syntax_kind.SyntaxKind.{SyntaxKind}
use Rattle.sheet.specs.Faults.{fault_of}
use Rattle.sheet.specs.Lines.{span_of}
use Rattle.sheet.specs.Kids.{kids_of}
use Rattle.sheet.specs.Texts.{decoded}
use Rattle.sheet.specs.Verdicts.{Formed}
use Rattle.sheet.specs.declared.nodes.Node.{Node}
use Rattle.sheet.specs.declared.faults.Refused.{Refused}
use Rattle.sheet.specs.declared.position.Position.{Position}

-- the kind of a node by its number
abbrev pub got_kind : Result (SyntaxKind × Position) Refused → Got ℕ
got_kind (Ok p) = got (number_of_syntax p.0) p.1.at
got_kind (Err r) = bad (fault_of r.why) r.at

-- the node that the kind, the numbers and the spans stand for, over the sheet
abbrev pub node_of : List ℕ → Node → spec.Node
node_of s n = record {
  kind = number_of_syntax n.kind;
  from = n.from;
  to = n.to;
  flag = n.flag;
  kids = kids_of (span_of s n.kids);
  text = decoded (span_of s n.text);
}

abbrev pub got_node : List ℕ → Result Node Refused → Got spec.Node
got_node s (Ok n) = got (node_of s n) n.next.at
got_node s (Err r) = bad (fault_of r.why) r.at

-- what is known of the spans of a node, for those who go through its kids and copy its text
pub record FormedSpans (s : List ℕ) (nodes : ℕ) (n : Node) : Type 0 where
  pub kids : Formed kid_list kids_of (all_below nodes) s n.kids
  pub text : Formed hex decoded (text_fits (kind_of (number_of_syntax n.kind)).text n.flag) s n.text
  pub next : n.next.at ≡ n.text.end + 1

abbrev pub FormedNode : List ℕ → ℕ → Result Node Refused → Type 0
FormedNode s nodes (Ok n) = FormedSpans s nodes n
FormedNode s nodes (Err r) = Unit
