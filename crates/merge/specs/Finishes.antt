-- When a step of the code finishes sets as the definitions do: it allocates expressions and items, and leaves the open
-- sets as they were.
use Rattle.std.specs.Prelude.{◌≡◌, List, [], ◌∷◌, ◌++◌, map, ℕ, ◌+◌, ◌≤◌, ◌*◌, length}
use Rattle.std.proofs.Math.Option.{Option, none, some}
use Rattle.spec.specs.Basics.{ExprId, NameId}
use Rattle.spec.specs.Module.{BindingValue, Bindings}
use Rattle.spec.specs.Steps.{◌>>=◌, give}
use Rattle.spec.specs.State.{SetId, MergingEntry, State, Low}
use Rattle.spec.specs.State as state
use Rattle.spec.specs.Merge.{finish_value}
use Rattle.layout.specs.Layout.{expr_limit, node_limit}
use Rattle.layout.specs.Changes.{Wrote, Still}
use Rattle.layout.specs.Exprs.{Item, child, static, dynamic}
use Rattle.layout.specs.States.{state_of, waiting_of, used_of}
use Rattle.store.specs.Work.{lowering}
use Rattle.merge.specs.Lowers.{Lowerable}

-- ---- the bindings of a set, as items
unfoldable pub static_item : NameId × BindingValue → Item
static_item x = static x.0 x.1

unfoldable pub dynamic_item : ExprId × ExprId → Item
dynamic_item d = dynamic d.0 d.1

-- statics, then sources, then dynamics
unfoldable pub binding_items : Bindings → List Item
binding_items b = map static_item b.statics ++ (map child b.inherit_froms ++ map dynamic_item b.dynamics)

-- the item of an entry
unfoldable pub finish_entry : (SetId → Low ExprId) → MergingEntry → Low Item
finish_entry finish_set (state.static s k x nested value) = finish_value finish_set nested value >>= λ v. give (static x v)
finish_entry finish_set (state.source s e) = give (child e)
finish_entry finish_set (state.dynamic s k v) = give (dynamic k v)

unfoldable pub only : Item → List Item
only i = i ∷ []

-- ---- what finishing takes, in expressions and in items, w being what each nested set takes
-- a value, beside its item
unfoldable pub value_load : (SetId → ℕ) → Option SetId → Option BindingValue → ℕ
value_load w (some u) v = w u
value_load w none (some v) = 0
value_load w none none = 1

-- an entry: its item, and the value of a static
unfoldable pub entry_load : (SetId → ℕ) → MergingEntry → ℕ
entry_load w (state.static s k x nested value) = 1 + value_load w nested value
entry_load w (state.source s e) = 1
entry_load w (state.dynamic s k v) = 1

-- ---- steps
-- Where a step begins: the items w wait, and there is room for n expressions and n items.
pub record Begins (w : List Item) (n : ℕ) (s : List ℕ) : Type 0 where
  pub ready : Lowerable s
  pub waiting_are : waiting_of s ≡ w
  pub exprs_fit_lem : length (state_of s).exprs + n ≤ expr_limit
  pub items_fit : used_of s + length w + n ≤ (4 * node_limit)

-- all but the expressions is as it was
pub record ExprsOnly (st after : State) : Type 0 where
  pub names_same : after.names ≡ st.names
  pub diagnostics_same : after.diagnostics ≡ st.diagnostics
  pub lost_same : after.lost ≡ st.lost
  pub sets_same : after.sets ≡ st.sets
  pub entries_same : after.entries ≡ st.entries

-- what it leaves
pub record Finished {A : Type 0} (w : List Item) (n : ℕ) (p : Low A) (s : List ℕ) (r : A) (t : List ℕ) : Type 0 where
  pub same : ◌≡◌ {A = A × State} (r, state_of t) (p (state_of s))
  pub waits : waiting_of t ≡ w
  pub ready : Lowerable t
  pub kept : ExprsOnly (state_of s) (state_of t)
  pub exprs_few : length (state_of t).exprs ≤ length (state_of s).exprs + n
  pub items_few : used_of t + length (waiting_of t) ≤ used_of s + length (waiting_of s) + n

-- From the store s, where the items w wait, the step p gives r and leaves the store t, where the items w' wait.
pub record Finishes {A : Type 0} (w w' : List Item) (n : ℕ) (p : Low A) (s : List ℕ) (r : A) (t : List ℕ) : Type 0 where
  pub wrote : Wrote lowering s t
  pub still : Still s t
  pub does : Begins w n s → Finished w' n p s r t

-- ---- contracts: whatever waits
pub record Finishing {A : Type 0} (n : ℕ) (p : Low A) (s : List ℕ) (r : A) (t : List ℕ) : Type 0 where
  pub at : (w : List Item) → Finishes w w n p s r t

-- a step that leaves what it gives waiting as items
pub record Listing {A : Type 0} (n : ℕ) (items : A → List Item) (p : Low A) (s t : List ℕ) : Type 0 where
  pub at : (w : List Item) → Finishes w (w ++ items (p (state_of s)).0) n p s (p (state_of s)).0 t
