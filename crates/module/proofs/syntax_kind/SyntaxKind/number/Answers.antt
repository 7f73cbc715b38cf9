-- `module::syntax_kind::SyntaxKind::number` meets its contract.
use Rattle.module.proofs.SyntaxKindLaws.{syntax_tag}
use Rattle.module.proofs.syntax_kind.SyntaxKind.number.Goals as goal

pub returns : goal.returns
returns c = syntax_tag c.args.self
