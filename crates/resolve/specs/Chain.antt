-- The chain of a scope, one scope after the other.
use Rattle.std.specs.Prelude.{List, ◌∷◌, if◌then◌else◌}
use Rattle.spec.specs.Basics.{ScopeId}
use Rattle.spec.specs.Answer.{chain_to, scope_at}
use Rattle.layout.specs.Keeps.{scopes_in}
use Rattle.resolve.specs.declared.chain.ScopeChain.{ScopeChain}

-- the scopes around the one that came last, or around the first
unfoldable pub scopes_around : ScopeChain → List ScopeId
scopes_around c = chain_to (scopes_in c.store.now).scopes c.left (scope_at (scopes_in c.store.now).scopes c.at.0).parent

-- the scopes that are still to come
unfoldable pub scopes_left : ScopeChain → List ScopeId
scopes_left c = if c.begun then scopes_around c else c.at.0 ∷ scopes_around c
