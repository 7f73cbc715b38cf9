-- The innermost definition, as the search gives it.
use Rattle.std.proofs.Math.Option.{Option, none, some}
use Rattle.spec.specs.Basics.{NameId, ScopeId}
use Rattle.module.specs.declared.ids.ScopeId as rust_scope_id
use Rattle.module.specs.declared.ids.NameId as rust_name_id
use Rattle.std.specs.Prelude as rust

unfoldable pub found_of : rust.Option (rust_scope_id.ScopeId × rust_name_id.NameId) → Option (ScopeId × NameId)
found_of (rust.Some (s, x)) = some (s.0, x.0)
found_of rust.None = none
