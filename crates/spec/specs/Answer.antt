-- docs/RULES.md, "Scopes and answers" ("Answers", "Kept answers and references"): what a name means where it is used,
-- written from the Nix Reference Manual. This page is what demand 2 is proved against.
use Rattle.std.specs.Prelude.{Bool, false, List, [], ◌∷◌, ◌++◌, ℕ, zero, suc, get_or, eqb, if◌then◌else◌}
use Rattle.std.proofs.Math.Option.{Option, none, some}
use Rattle.words.specs.Equality.{equalb}
use Rattle.spec.specs.Basics.{Text, ExprId, NameId, ScopeId, bytes, maybe}
use Rattle.spec.specs.Module.{Expr, missing, apply, if_then_else, literal, lambda, let_in, list, bin_op, attr_set, unary_op, reference, select, has_attr, with_in, assert_in, string_interpolation, path_interpolation, Made, Module}
use Rattle.spec.specs.Scopes.{ScopeKind, definitions, with_expr, Scope, Scopes, expr_at, name_at}

-- Document 01's answers 0 to 3 (docs/RULES.md, "Answers").
pub data Answer : Type 0 where
  unresolved : Answer
  definition : NameId → Answer
  -- the index among the built-in names
  builtin : ℕ → Answer
  -- the With expressions, innermost first
  withs : List ExprId → Answer

-- Manual, "Built-in constants" and "Built-in functions": names that are there without `builtins.` in front. The 22 of
-- GLOBAL_BUILTIN_NAMES.
unfoldable pub builtins : List Text
builtins =
    bytes "abort" ∷ bytes "baseNameOf" ∷ bytes "builtins" ∷ bytes "derivation" ∷ bytes "dirOf" ∷ bytes "false" ∷ bytes "fetchGit"
    ∷ bytes "fetchMercurial" ∷ bytes "fetchTarball" ∷ bytes "fetchTree" ∷ bytes "fetchurl" ∷ bytes "fromTOML" ∷ bytes "import"
    ∷ bytes "isNull" ∷ bytes "map" ∷ bytes "null" ∷ bytes "placeholder" ∷ bytes "removeAttrs" ∷ bytes "scopedImport" ∷ bytes "throw"
    ∷ bytes "toString" ∷ bytes "true" ∷ []

-- the place of a text in a list, whose first has the number i
unfoldable pub index_from : ℕ → Text → List Text → Option ℕ
index_from i t [] = none
index_from i t (x ∷ xs) = if equalb x t then some i else index_from (suc i) t xs

-- ---- the chain of a scope: itself and all that enclose it, innermost first
module _ (scopes : List Scope) where
  unfoldable pub scope_at : ScopeId → Scope
  scope_at s = get_or scopes s (record { parent = none; kind = definitions [] })

  -- a parent has a lower number, so that the bound, one more than the number, is never met
  unfoldable pub chain_to : ℕ → Option ScopeId → List ScopeId
  chain_to zero s = []
  chain_to (suc bound) none = []
  chain_to (suc bound) (some s) = s ∷ chain_to bound (scope_at s).parent

  unfoldable pub chain : ScopeId → List ScopeId
  chain s = chain_to (suc s) (some s)

-- ---- definitions
-- of names in the order of entering, the last that has the text: "Of equal texts in a scope the last entered answers."
unfoldable pub last_with : (NameId → Text) → Text → Option NameId → List NameId → Option NameId
last_with text_of t found [] = found
last_with text_of t found (x ∷ xs) = last_with text_of t (if equalb (text_of x) t then some x else found) xs

unfoldable pub defined_in : (NameId → Text) → Text → ScopeKind → Option NameId
defined_in text_of t (definitions xs) = last_with text_of t none xs
defined_in text_of t (with_expr e) = none

-- Manual, "Let-expressions", "Recursive attribute sets", "Functions": an inner definition hides an outer one of the
-- same name. The first scope of a chain that defines the text, and the name there.
unfoldable pub innermost : (NameId → Text) → List Scope → Text → List ScopeId → Option (ScopeId × NameId)
innermost text_of scopes t [] = none
innermost text_of scopes t (s ∷ ss) = maybe (defined_in text_of t (scope_at scopes s).kind) (innermost text_of scopes t ss) (λ x. some (s, x))

-- ---- Withs
-- Manual, "With-expressions": the Withs around a use, innermost first, since an inner one is asked before an outer one
unfoldable pub if_with : ScopeKind → List ExprId
if_with (definitions xs) = []
if_with (with_expr e) = e ∷ []

unfoldable pub withs_of : List Scope → List ScopeId → List ExprId
withs_of scopes [] = []
withs_of scopes (s ∷ ss) = if_with (scope_at scopes s).kind ++ withs_of scopes ss

unfoldable pub some_withs : List ExprId → Answer
some_withs [] = unresolved
some_withs (e ∷ es) = withs (e ∷ es)

-- ---- the answer
-- Manual, "With-expressions": what a `with` brings hides no name that is bound in another way. So definitions come
-- first, and so do the built-in names, which are bound around the whole file; a With is asked for what is left.
unfoldable pub after_builtins : List ExprId → Option ℕ → Answer
after_builtins es (some i) = builtin i
after_builtins es none = some_withs es

unfoldable pub after_definitions : List Scope → Text → List ScopeId → Option (ScopeId × NameId) → Answer
after_definitions scopes t ss (some found) = definition found.1
after_definitions scopes t ss none = after_builtins (withs_of scopes ss) (index_from 0 t builtins)

unfoldable pub answer_in : (NameId → Text) → List Scope → Text → List ScopeId → Answer
answer_in text_of scopes t ss = after_definitions scopes t ss (innermost text_of scopes t ss)

-- "A Reference without scope: 0 none."
unfoldable pub answer_at : (NameId → Text) → List Scope → Text → Option ScopeId → Answer
answer_at text_of scopes t none = unresolved
answer_at text_of scopes t (some s) = answer_in text_of scopes t (chain scopes s)

-- ---- over a module and its scopes
unfoldable pub text_of_name : Module → NameId → Text
text_of_name m x = (name_at m x).text

unfoldable pub reference_text : Expr → Option Text
reference_text missing = none
reference_text (apply f a) = none
reference_text (if_then_else c t e) = none
reference_text (literal l) = none
reference_text (lambda x p b) = none
reference_text (let_in bs b) = none
reference_text (list es) = none
reference_text (bin_op l r op) = none
reference_text (attr_set r bs) = none
reference_text (unary_op op e) = none
reference_text (reference t) = some t
reference_text (select s p d) = none
reference_text (has_attr s p) = none
reference_text (with_in e b) = none
reference_text (assert_in c b) = none
reference_text (string_interpolation ps) = none
reference_text (path_interpolation ps) = none

unfoldable pub scope_of_expr : Scopes → ExprId → Option ScopeId
scope_of_expr w e = get_or w.of_expr e none

-- whether an answer is the definition of a name
unfoldable pub means : NameId → Option Answer → Bool
means x none = false
means x (some unresolved) = false
means x (some (definition y)) = eqb x y
means x (some (builtin i)) = false
means x (some (withs es)) = false

module _ (m : Module) (w : Scopes) where
  -- the answer of an expression: none where it is no Reference
  unfoldable pub answer_of : ExprId → Option Text → Option Answer
  answer_of e none = none
  answer_of e (some t) = some (answer_at (text_of_name m) w.scopes t (scope_of_expr w e))

  unfoldable pub answer : ExprId → Option Answer
  answer e = answer_of e (reference_text (expr_at m e))

  -- "Each name keeps its references: at every moment exactly those answered 1 with that name, ascending."
  unfoldable pub references_from : NameId → ExprId → List Made → List ExprId
  references_from x e [] = []
  references_from x e (d ∷ ds) =
      if means x (answer_of e (reference_text d.expr)) then e ∷ references_from x (suc e) ds else references_from x (suc e) ds

  unfoldable pub references : NameId → List ExprId
  references x = references_from x 0 m.exprs
