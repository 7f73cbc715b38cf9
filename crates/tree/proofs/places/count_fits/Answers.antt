-- `tree::places::count_fits` meets its contract.
use mathlib.Core.Path.{sym, ap, ◌∙◌}
use Rattle.spec.specs.Tree.{count_fits}
use Rattle.module.proofs.SyntaxKindLaws.{syntax_told}
use Rattle.sheet.proofs.KindLaws.{no_kind}
use Rattle.tree.proofs.PlaceLaws.{count_bare}
use Rattle.tree.proofs.places.count_fits.Goals as goal

pub returns-in-Some : goal.returns-in-Some
returns-in-Some c = c.fit.ensures ∙ ap (λ n. count_fits n c.args.kids) (syntax_told _ _ (sym c.in-Some.ensures))

pub returns-in-None : goal.returns-in-None
returns-in-None c = count_bare _ c.args.kids (no_kind _ _ c.of.ensures c.in-None.is)
