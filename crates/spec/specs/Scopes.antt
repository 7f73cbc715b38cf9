-- docs/RULES.md, "Scopes and answers" ("Scopes", "Held names"): the scopes of a module, numbered as `ModuleScopes::new`
-- allocates them, with the names entered in each, and the scope of every expression that is walked.
use Rattle.std.specs.Prelude.{Bool, true, false, ◌||◌, List, [], ◌∷◌, ◌++◌, ℕ, zero, suc, length, get_or, set, replicate, eqb, if◌then◌else◌}
use Rattle.std.proofs.Math.Option.{Option, none, some}
use Rattle.spec.specs.Basics.{ExprId, NameId, ScopeId}
use Rattle.spec.specs.Steps.{Step, ◌>>=◌, give, each_of}
use Rattle.spec.specs.Module.{InterpolPart, literal_part, interpol, BindingValue, expr, inherit, inherit_from, Bindings, Pat, Expr, missing, apply, if_then_else, literal, lambda, let_in, list, bin_op, attr_set, unary_op, reference, select, has_attr, with_in, assert_in, string_interpolation, path_interpolation, Made, NameKind, LetIn, PlainAttrset, RecAttrset, Param, PatField, Name, Module}

-- The names entered, in order, hidden ones too; or the With expression whose body the scope is for.
pub data ScopeKind : Type 0 where
  definitions : List NameId → ScopeKind
  with_expr : ExprId → ScopeKind

pub record Scope : Type 0 where
  pub parent : Option ScopeId
  pub kind : ScopeKind

-- ModuleScopes
pub record Scopes : Type 0 where
  pub scopes : List Scope
  -- by the expression's number: "Unwalked expressions have no scope."
  pub of_expr : List (Option ScopeId)

-- a step of walking
abbrev pub Walk : Type 0 → Type 0
Walk A = Step Scopes A

-- scope_by_expr.insert
unfoldable pub place_expr : ExprId → ScopeId → Walk (Unit {0})
place_expr e s w = (tt, record { scopes = w.scopes; of_expr = set w.of_expr e (some s) })

-- a new scope inside the scope s
unfoldable pub open_scope : ScopeKind → ScopeId → Walk ScopeId
open_scope k s w = (
  length w.scopes,
  record {
    scopes = w.scopes ++ (record { parent = some s; kind = k } ∷ []);
    of_expr = w.of_expr;
  },
)

-- "open a scope if they have a name"
unfoldable pub open_for : List NameId → ScopeId → Walk ScopeId
open_for [] s = give s
open_for (x ∷ xs) s = open_scope (definitions (x ∷ xs)) s

-- ---- what there is to enter and to walk
unfoldable pub one_or_none : {A : Type 0} → Option A → List A
one_or_none none = []
one_or_none (some x) = x ∷ []

unfoldable pub field_names : List (Option NameId × Option ExprId) → List NameId
field_names [] = []
field_names (f ∷ fs) = one_or_none f.0 ++ field_names fs

unfoldable pub field_defaults : List (Option NameId × Option ExprId) → List ExprId
field_defaults [] = []
field_defaults (f ∷ fs) = one_or_none f.1 ++ field_defaults fs

unfoldable pub pat_fields : Option Pat → List (Option NameId × Option ExprId)
pat_fields none = []
pat_fields (some p) = p.fields

unfoldable pub interpolated : List InterpolPart → List ExprId
interpolated [] = []
interpolated (literal_part t ∷ ps) = interpolated ps
interpolated (interpol e ∷ ps) = e ∷ interpolated ps

-- NameKind::is_definition: names of a let, a rec set or a function are in scope, those of a plain set are not
unfoldable pub is_definition : NameKind → Bool
is_definition LetIn = true
is_definition PlainAttrset = false
is_definition RecAttrset = true
is_definition Param = true
is_definition PatField = true

unfoldable pub if_inherited : BindingValue → List ExprId
if_inherited (expr e) = []
if_inherited (inherit e) = e ∷ []
if_inherited (inherit_from e) = []

unfoldable pub inherited : List (NameId × BindingValue) → List ExprId
inherited [] = []
inherited (b ∷ bs) = if_inherited b.1 ++ inherited bs

unfoldable pub if_plain : BindingValue → List ExprId
if_plain (expr e) = e ∷ []
if_plain (inherit e) = []
if_plain (inherit_from e) = []

unfoldable pub plain_values : List (NameId × BindingValue) → List ExprId
plain_values [] = []
plain_values (b ∷ bs) = if_plain b.1 ++ plain_values bs

unfoldable pub keys_and_values : List (ExprId × ExprId) → List ExprId
keys_and_values [] = []
keys_and_values (d ∷ ds) = d.0 ∷ d.1 ∷ keys_and_values ds

-- How an expression is walked: as a function, a With, bindings with or without a body, or through its children where it
-- stands.
pub data Form : Type 0 where
  function : Option NameId → Option Pat → ExprId → Form
  with_body : ExprId → ExprId → Form
  bound : Bindings → Option ExprId → Form
  through : List ExprId → Form

-- walk_child_exprs gives the children: "an Assert's body is walked before its condition"
unfoldable pub form : Expr → Form
form missing = through []
form (apply f a) = through (f ∷ a ∷ [])
form (if_then_else c t e) = through (c ∷ t ∷ e ∷ [])
form (literal l) = through []
form (lambda x p b) = function x p b
form (let_in bs b) = bound bs (some b)
form (list es) = through es
form (bin_op l r op) = through (l ∷ r ∷ [])
form (attr_set r bs) = bound bs none
form (unary_op op e) = through (e ∷ [])
form (reference t) = through []
form (select s p d) = through (s ∷ (p ++ one_or_none d))
form (has_attr s p) = through (s ∷ p)
form (with_in e b) = with_body e b
form (assert_in c b) = through (b ∷ c ∷ [])
form (string_interpolation ps) = through (interpolated ps)
form (path_interpolation ps) = through (interpolated ps)

module _ (m : Module) where
  unfoldable pub made_at : ExprId → Made
  made_at e = get_or m.exprs e (record { expr = missing; pointer = none })

  unfoldable pub expr_at : ExprId → Expr
  expr_at e = (made_at e).expr

  unfoldable pub name_at : NameId → Name
  name_at x = get_or m.names x (record { text = []; kind = PlainAttrset; pointer = record { kind = 0; from = 0; to = 0 } })

  -- the names that the statics of a let or a rec set bring into scope, in key order as loaded
  unfoldable pub defined : List (NameId × BindingValue) → List NameId
  defined [] = []
  defined (b ∷ bs) = if is_definition (name_at b.0).kind then b.0 ∷ defined bs else defined bs

  -- ---- The two walkers; `traverse` walks an expression with a lower number in a scope.
  module _ (traverse : ScopeId → ExprId → Walk (Unit {0})) where
    -- traverse_bindings. "Plain inherit walks outside, inherit-from sources inside. .. An InheritFrom Select is not
    -- walked." (Manual, "Inheriting attributes": `inherit x;` copies x from the surrounding scope, so its own x is no
    -- part of it. "Let-expressions" and "Recursive attribute sets": the names are in scope in all values; so they are
    -- in the expression in the parentheses of an inherit.)
    unfoldable pub traverse_bindings : Bindings → ScopeId → Walk ScopeId
    traverse_bindings bs outer = do
      _ ← each_of (traverse outer) (inherited bs.statics)
      s ← open_for (defined bs.statics) outer
      _ ← each_of (traverse s) (plain_values bs.statics)
      _ ← each_of (traverse s) bs.inherit_froms
      _ ← each_of (traverse s) (keys_and_values bs.dynamics)
      give s

    -- "Lambda (parameter, then fields)". (Manual, "Functions": the parameter and the pattern's names are in scope in
    -- the body and in the defaults.)
    unfoldable pub traverse_lambda : Option NameId → Option Pat → ExprId → ScopeId → Walk (Unit {0})
    traverse_lambda x p b outer = do
      s ← open_for (one_or_none x ++ field_names (pat_fields p)) outer
      _ ← each_of (traverse s) (field_defaults (pat_fields p))
      traverse s b

    -- "With always, for its body." (Manual, "With-expressions": the set is in scope in the body, and not in itself.)
    unfoldable pub traverse_with : ExprId → ExprId → ExprId → ScopeId → Walk (Unit {0})
    traverse_with own e b outer = do
      _ ← traverse outer e
      s ← open_scope (with_expr own) outer
      traverse s b

    -- traverse_expr. "A plain set opens none": it has no name that is a definition.
    unfoldable pub traverse_as : ExprId → Form → ScopeId → Walk (Unit {0})
    traverse_as own (function x p b) s = traverse_lambda x p b s
    traverse_as own (with_body e b) s = traverse_with own e b s
    traverse_as own (bound bs body) s = traverse_bindings bs s >>= λ inside. each_of (traverse inside) (one_or_none body)
    traverse_as own (through es) s = each_of (traverse s) es

  -- Every child has a lower number than its parent, so that the bound, one more than the number, is never met.
  unfoldable pub traverse_to : ℕ → ScopeId → ExprId → Walk (Unit {0})
  traverse_to zero s e = give tt
  traverse_to (suc left) s e = do
    _ ← place_expr e s
    traverse_as (traverse_to left) e (form (expr_at e)) s

  unfoldable pub traverse_expr : ScopeId → ExprId → Walk (Unit {0})
  traverse_expr s e = traverse_to (suc e) s e

-- ModuleScopes::new: "Scopes are numbered from 0, the root"
unfoldable pub scopes_of : Module → Scopes
scopes_of m =
    (traverse_expr m 0 m.entry (record {
      scopes = record { parent = none; kind = definitions [] } ∷ [];
      of_expr = replicate (length m.exprs) none;
    })).1

-- ---- "A name is held by the scope it is entered in, also where a later equal text hides it."
unfoldable pub is_in : NameId → List NameId → Bool
is_in x [] = false
is_in x (y ∷ ys) = eqb x y || is_in x ys

unfoldable pub holds : NameId → ScopeKind → Bool
holds x (definitions xs) = is_in x xs
holds x (with_expr e) = false

unfoldable pub holder_from : NameId → ScopeId → List Scope → Option ScopeId
holder_from x i [] = none
holder_from x i (s ∷ ss) = if holds x s.kind then some i else holder_from x (suc i) ss

unfoldable pub holder : Scopes → NameId → Option ScopeId
holder w x = holder_from x 0 w.scopes
