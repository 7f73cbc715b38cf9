-- docs/RULES.md, "What may move": which answers differ from one moment to another, and which a text that is set at a place
-- may leave another.
use Rattle.std.specs.Prelude.{Bool, true, false, ◌||◌, ◌&&◌, not, List, [], ◌∷◌, ℕ, suc, eqb}
use Rattle.std.proofs.Math.Option.{Option, none, some}
use Rattle.words.specs.Equality.{equalb}
use Rattle.spec.specs.Basics.{Text, ExprId, ScopeId}
use Rattle.spec.specs.Module.{Module}
use Rattle.spec.specs.Scopes.{Scopes, expr_at, is_in, holder}
use Rattle.spec.specs.Answer.{Answer, unresolved, definition, builtin, withs, chain, reference_text, scope_of_expr}
use Rattle.spec.specs.Calls.{Place, at_name, at_reference, text_at}

-- ---- answers that differ
-- "An answer moves if a call leaves its 0–3, name, index or With list different": these as numbers; what is no Reference
-- has none
unfoldable pub numbers_of : Option Answer → List ℕ
numbers_of none = []
numbers_of (some unresolved) = 0 ∷ []
numbers_of (some (definition x)) = 1 ∷ x ∷ []
numbers_of (some (builtin i)) = 2 ∷ i ∷ []
numbers_of (some (withs es)) = 3 ∷ es

unfoldable pub same_answer : Option Answer → Option Answer → Bool
same_answer a b = equalb (numbers_of a) (numbers_of b)

unfoldable pub cons_if : Bool → ExprId → List ExprId → List ExprId
cons_if true e es = e ∷ es
cons_if false e es = es

-- of the expressions e, e + 1, .., as many as there are items in a list, those that pass, ascending
unfoldable pub passing : {A : Type 0} → (ExprId → Bool) → ExprId → List A → List ExprId
passing p e [] = []
passing p e (d ∷ ds) = cons_if (p e) e (passing p (suc e) ds)

-- "exactly those whose answer differs, ascending"
unfoldable pub differing : Module → (ExprId → Option Answer) → (ExprId → Option Answer) → List ExprId
differing m before after = passing (λ e. not (same_answer (before e) (after e))) 0 m.exprs

-- ---- answers that may differ
unfoldable pub bears : Text → Option Text → Bool
bears t none = false
bears t (some u) = equalb t u

-- "whose scope is the name's scope or inside it": the name's scope is in the chain of the Reference's; "a name held by
-- no scope moves none"
unfoldable pub within : Scopes → Option ScopeId → Option ScopeId → Bool
within w none s = false
within w (some held) none = false
within w (some held) (some s) = is_in held (chain w.scopes s)

-- whether the text t, set at a place, may leave an expression another answer
unfoldable pub may_move : Module → Scopes → Place → Text → ExprId → Bool
-- "A changed reference moves its own answer only."
may_move m w (at_reference n) t e = eqb e n
-- "A changed name moves only references that bear its old or new text and whose scope is the name's scope or inside it"
may_move m w (at_name x) t e =
    (bears (text_at m (at_name x)) (reference_text (expr_at m e)) || bears t (reference_text (expr_at m e)))
    && within w (holder w x) (scope_of_expr w e)
