-- `module::kinds::NameKind::number` meets its contract.
use Rattle.module.proofs.KindLaws.{kind_tag}
use Rattle.module.proofs.kinds.NameKind.number.Goals as goal

pub returns : goal.returns
returns c = kind_tag c.args.self
