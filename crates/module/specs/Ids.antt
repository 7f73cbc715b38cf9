-- Numbers, what may be absent, values of bindings and pointers: what each is in the definitions, where the sorts of
-- numbers are one.
use Rattle.std.proofs.Math.Option.{Option, none, some}
use Rattle.spec.specs.Basics as spec
use Rattle.spec.specs.Module as spec_module
use Rattle.module.specs.declared.ids.BindingValue.{BindingValue}
use Rattle.module.specs.declared.ids.BindingValue.TheVariants.{Expr, Inherit, InheritFrom}
use Rattle.module.specs.declared.pointer.Pointer.{Pointer}
use Rattle.module.specs.declared.ids.NodeId as rust_node_id
use Rattle.module.specs.declared.ids.ExprId as rust_expr_id
use Rattle.module.specs.declared.ids.NameId as rust_name_id
use Rattle.module.specs.declared.ids.ScopeId as rust_scope_id
use Rattle.std.specs.Prelude as rust

unfoldable pub node_of : rust.Option rust_node_id.NodeId → Option spec.NodeId
node_of (rust.Some n) = some n.0
node_of rust.None = none

unfoldable pub expr_of : rust.Option rust_expr_id.ExprId → Option spec.ExprId
expr_of (rust.Some e) = some e.0
expr_of rust.None = none

unfoldable pub name_of : rust.Option rust_name_id.NameId → Option spec.NameId
name_of (rust.Some x) = some x.0
name_of rust.None = none

unfoldable pub scope_of : rust.Option rust_scope_id.ScopeId → Option spec.ScopeId
scope_of (rust.Some s) = some s.0
scope_of rust.None = none

unfoldable pub binding_of : BindingValue → spec_module.BindingValue
binding_of (Expr e) = spec_module.expr e.0
binding_of (Inherit e) = spec_module.inherit e.0
binding_of (InheritFrom e) = spec_module.inherit_from e.0

unfoldable pub pointer_of : Pointer → spec_module.Pointer
pointer_of p = record { kind = p.kind; from = p.from; to = p.to }
