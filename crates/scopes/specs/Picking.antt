-- What an expression's items hand on to a walk, by the pass over them.
use Rattle.std.specs.Prelude.{List, ◌++◌}
use Rattle.spec.specs.Basics.{ExprId}
use Rattle.spec.specs.Scopes.{one_or_none, field_defaults, inherited, plain_values, keys_and_values}
use Rattle.module.specs.declared.ids.ExprId as rust_expr_id
use Rattle.module.specs.Ids.{expr_of}
use Rattle.layout.specs.Exprs.{Item, children, fields, statics, dynamics}
use Rattle.scopes.specs.declared.picks.Pass.{Pass}
use Rattle.scopes.specs.declared.picks.Pass.TheVariants.{Children, Defaults, Inherited, Values, Dynamics}
use Rattle.std.specs.Prelude as rust

-- the expressions that one item hands on
unfoldable pub picks_of : rust.Option rust_expr_id.ExprId × rust.Option rust_expr_id.ExprId → List ExprId
picks_of (a, b) = one_or_none (expr_of a) ++ one_or_none (expr_of b)

unfoldable pub picked : Pass → List Item → List ExprId
picked Children is = children is
picked Defaults is = field_defaults (fields is)
picked Inherited is = inherited (statics is)
picked Values is = plain_values (statics is)
picked Dynamics is = keys_and_values (dynamics is)
