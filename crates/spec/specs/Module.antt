-- docs/RULES.md, "Lowering" ("The module"): what a module is. Types of lib.rs, under their names there.
use Rattle.std.specs.Prelude.{Bool, false, ◌&&◌, List, [], ◌∷◌, ℕ, suc, eqb, if◌then◌else◌}
use Rattle.std.proofs.Math.Option.{Option, none, some}
use Rattle.spec.specs.Basics.{Text, ExprId, NameId}

-- "The node's pointer is kind, from, to; equal triples are equal pointers."
pub record Pointer : Type 0 where
  pub kind : ℕ
  pub from : ℕ
  pub to : ℕ

-- A float by its bits, an integer by its value, which is never negative.
pub data Literal : Type 0 where
  float : ℕ → Literal
  integer : ℕ → Literal
  string : Text → Literal
  path : Text → Literal
  uri : Literal

pub data InterpolPart : Type 0 where
  literal_part : Text → InterpolPart
  interpol : ExprId → InterpolPart

pub data BindingValue : Type 0 where
  expr : ExprId → BindingValue
  inherit : ExprId → BindingValue
  inherit_from : ExprId → BindingValue

pub record Bindings : Type 0 where
  pub statics : List (NameId × BindingValue)
  pub inherit_froms : List ExprId
  pub dynamics : List (ExprId × ExprId)

pub record Pat : Type 0 where
  pub fields : List (Option NameId × Option ExprId)
  pub ellipsis : Bool

-- An operator is its number in the sheet.
pub data Expr : Type 0 where
  missing : Expr
  -- function, argument
  apply : ExprId → ExprId → Expr
  -- condition, then, else
  if_then_else : ExprId → ExprId → ExprId → Expr
  literal : Literal → Expr
  -- parameter, pattern, body
  lambda : Option NameId → Option Pat → ExprId → Expr
  let_in : Bindings → ExprId → Expr
  list : List ExprId → Expr
  -- left, right, operator
  bin_op : ExprId → ExprId → ℕ → Expr
  -- whether it is rec
  attr_set : Bool → Bindings → Expr
  unary_op : ℕ → ExprId → Expr
  reference : Text → Expr
  -- set, path, default
  select : ExprId → List ExprId → Option ExprId → Expr
  has_attr : ExprId → List ExprId → Expr
  -- namespace, body
  with_in : ExprId → ExprId → Expr
  -- condition, body
  assert_in : ExprId → ExprId → Expr
  string_interpolation : List InterpolPart → Expr
  path_interpolation : List InterpolPart → Expr

-- an expression as it was made, with its pointer if it has one
pub record Made : Type 0 where
  pub expr : Expr
  pub pointer : Option Pointer

pub data NameKind : Type 0 where
  LetIn PlainAttrset RecAttrset Param PatField : NameKind

pub record Name : Type 0 where
  pub text : Text
  pub kind : NameKind
  pub pointer : Pointer

-- LowerDiagnostic::DuplicateKey
pub record DuplicateKey : Type 0 where
  pub key : Text
  pub first : Pointer
  pub second : Pointer

pub record Module : Type 0 where
  pub entry : ExprId
  pub exprs : List Made
  pub names : List Name
  pub diagnostics : List DuplicateKey
  -- the lost list (document 01's term; docs/RULES.md, "Diagnostics and the lost list")
  pub lost : List Pointer

-- ---- The source map. The number-to-pointer side is in the lists; the pointer-to-number side "keeps the last writer",
-- and numbers are given in the order of writing.
unfoldable pub same_pointer : Pointer → Pointer → Bool
same_pointer p q = eqb p.kind q.kind && eqb p.from q.from && eqb p.to q.to

unfoldable pub points_to : Pointer → Option Pointer → Bool
points_to p none = false
points_to p (some q) = same_pointer p q

-- the last of a list that points there, the first one having the number i, or else what was found before
unfoldable pub last_at : Pointer → ℕ → Option ℕ → List (Option Pointer) → Option ℕ
last_at p i found [] = found
last_at p i found (q ∷ qs) = last_at p (suc i) (if points_to p q then some i else found) qs

unfoldable pub expr_pointers : List Made → List (Option Pointer)
expr_pointers [] = []
expr_pointers (m ∷ ms) = m.pointer ∷ expr_pointers ms

unfoldable pub name_pointers : List Name → List (Option Pointer)
name_pointers [] = []
name_pointers (n ∷ ns) = some n.pointer ∷ name_pointers ns

-- expr_for_node and name_for_node
unfoldable pub expr_for_node : Module → Pointer → Option ExprId
expr_for_node m p = last_at p 0 none (expr_pointers m.exprs)

unfoldable pub name_for_node : Module → Pointer → Option NameId
name_for_node m p = last_at p 0 none (name_pointers m.names)
