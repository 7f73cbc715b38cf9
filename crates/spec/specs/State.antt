-- docs/RULES.md, "Lowering" ("Numbers", "Merging"): the state that it works on, and its steps. Expressions and names
-- are numbered from 0 as they are allocated.
use Rattle.std.specs.Prelude.{List, [], ◌∷◌, ◌++◌, ℕ, length, take, set}
use Rattle.std.proofs.Math.Option.{Option, none, some}
use Rattle.spec.specs.Basics.{Text, ExprId, NameId}
use Rattle.spec.specs.Steps.{Step, ◌>>=◌, give, asks}
use Rattle.spec.specs.Module.{Pointer, BindingValue, Expr, missing, Made, Name, NameKind, DuplicateKey}

-- ---- MergingSet. The sets that are being merged are numbered, and each entry says whose it is, so that a nested set
-- is a number.
abbrev pub SetId : Type 0
SetId = ℕ

pub record MergingSet : Type 0 where
  pub pointer : Pointer
  pub name_kind : NameKind

-- MergingEntry: a key with its name, its nested set and its value; or one of inherit_froms; or one of dynamics.
pub data MergingEntry : Type 0 where
  static : SetId → Text → NameId → Option SetId → Option BindingValue → MergingEntry
  source : SetId → ExprId → MergingEntry
  dynamic : SetId → ExprId → ExprId → MergingEntry

-- LowerCtx: what has been allocated, and the sets that are being merged with their entries, both used as stacks.
pub record State : Type 0 where
  pub exprs : List Made
  pub names : List Name
  pub diagnostics : List DuplicateKey
  pub lost : List Pointer
  pub sets : List MergingSet
  pub entries : List MergingEntry

abbrev pub state : List Made → List Name → List DuplicateKey → List Pointer → List MergingSet → List MergingEntry → State
state es ns ds ls ss ms = record { exprs = es; names = ns; diagnostics = ds; lost = ls; sets = ss; entries = ms }

abbrev pub empty : State
empty = state [] [] [] [] [] []

-- a step of lowering
abbrev pub Low : Type 0 → Type 0
Low A = Step State A

-- ---- allocation
unfoldable pub new_made : Made → Low ExprId
new_made m st = (length st.exprs, state (st.exprs ++ (m ∷ [])) st.names st.diagnostics st.lost st.sets st.entries)

-- alloc_expr: an expression with a pointer
unfoldable pub alloc_expr : Expr → Pointer → Low ExprId
alloc_expr e p = new_made (record { expr = e; pointer = some p })

-- "Missing without a pointer"
unfoldable pub alloc_missing : Low ExprId
alloc_missing = new_made (record { expr = missing; pointer = none })

-- alloc_name
unfoldable pub alloc_name : Text → NameKind → Pointer → Low NameId
alloc_name t k p st = (length st.names, state st.exprs (st.names ++ (record { text = t; kind = k; pointer = p } ∷ [])) st.diagnostics st.lost st.sets st.entries)

-- "Lost list (added): per DuplicateKey, its first pointer."
unfoldable pub add_duplicate : Text → Pointer → Pointer → Low (Unit {0})
add_duplicate key first second st = (tt, state st.exprs st.names (st.diagnostics ++ (record { key = key; first = first; second = second } ∷ [])) (st.lost ++ (first ∷ [])) st.sets st.entries)

-- MergingSet::new
unfoldable pub new_set : NameKind → Pointer → Low SetId
new_set k p st = (length st.sets, state st.exprs st.names st.diagnostics st.lost (st.sets ++ (record { pointer = p; name_kind = k } ∷ [])) st.entries)

unfoldable pub set_entries : List MergingEntry → Low (Unit {0})
set_entries es st = (tt, state st.exprs st.names st.diagnostics st.lost st.sets es)

unfoldable pub add_entry : MergingEntry → Low (Unit {0})
add_entry e = do
  es ← asks (λ st. st.entries)
  set_entries (es ++ (e ∷ []))

-- puts another entry in the place of the one numbered i
unfoldable pub set_entry : ℕ → MergingEntry → Low (Unit {0})
set_entry i e = do
  es ← asks (λ st. st.entries)
  set_entries (set es i e)

-- the stacks cut back to so many sets and entries
unfoldable pub cut : ℕ → ℕ → Low (Unit {0})
cut sets entries st = (tt, state st.exprs st.names st.diagnostics st.lost (take sets st.sets) (take entries st.entries))

-- A step that merges sets of its own on top of those around it, and leaves them as they were.
unfoldable pub inner : {A : Type 0} → Low A → Low A
inner p = do
  s ← asks (λ st. length st.sets)
  e ← asks (λ st. length st.entries)
  a ← p
  _ ← cut s e
  give a
