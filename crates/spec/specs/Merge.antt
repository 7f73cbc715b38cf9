-- docs/RULES.md, "Lowering" ("Merging", "Inherited attributes", "Finishing"): how the entries of a set or a let are
-- merged. `impl MergingSet` of lower.rs, in its order.
use Rattle.std.specs.Prelude.{Bool, false, ◌&&◌, List, [], ◌∷◌, ℕ, zero, suc, length, get_or, eqb, if◌then◌else◌}
use Rattle.std.proofs.Math.Option.{Option, none, some}
use Rattle.words.specs.Equality.{equalb}
use Rattle.words.specs.Order.{order}
use Rattle.std.specs.declared.cmp.Ordering.{Ordering}
use Rattle.std.specs.declared.cmp.Ordering.TheVariants.{Less, Equal, Greater}
use Rattle.spec.specs.Basics.{Text, NodeId, ExprId, NameId}
use Rattle.spec.specs.Keys.{AttrKind, static_key, dynamic_key, kind, pointer, kid, items, items_after, attr_kind}
use Rattle.spec.specs.Module.{Pointer, string, BindingValue, expr, inherit, inherit_from, Bindings, attr_set, literal, select, reference, NameKind, PlainAttrset}
use Rattle.spec.specs.Sheet.{Node}
use Rattle.spec.specs.Steps.{◌>>=◌, give, asks, when, each, each_of}
use Rattle.spec.specs.State.{SetId, MergingSet, MergingEntry, static, source, dynamic, State, Low, alloc_expr, alloc_missing, alloc_name, add_duplicate, new_set, add_entry, set_entry, inner}

-- ---- The statics of a set
unfoldable pub is_at : SetId → Text → MergingEntry → Bool
is_at s key (static t k x nested value) = eqb t s && equalb k key
is_at s key (source t e) = false
is_at s key (dynamic t k v) = false

unfoldable pub find_from : SetId → Text → ℕ → List MergingEntry → Option ℕ
find_from s key i [] = none
find_from s key i (e ∷ es) = if is_at s key e then some i else find_from s key (suc i) es

-- the number of the entry that has the key in the set
unfoldable pub find : SetId → Text → State → Option ℕ
find s key st = find_from s key 0 st.entries

unfoldable pub entry_at : ℕ → State → MergingEntry
entry_at i st = get_or st.entries i (source 0 0)

unfoldable pub set_at : SetId → State → MergingSet
set_at s st = get_or st.sets s (record { pointer = record { kind = 0; from = 0; to = 0 }; name_kind = PlainAttrset })

-- the set whose entry it is
abbrev pub set_of : MergingEntry → SetId
set_of (static s k x nested value) = s
set_of (source s e) = s
set_of (dynamic s k v) = s

-- what the entry of a key has: its name, its nested set
unfoldable pub name_in : MergingEntry → NameId
name_in (static s k x nested value) = x
name_in (source s e) = 0
name_in (dynamic s k v) = 0

unfoldable pub nested_in : MergingEntry → Option SetId
nested_in (static s k x nested value) = nested
nested_in (source s e) = none
nested_in (dynamic s k v) = none

unfoldable pub with_value : BindingValue → MergingEntry → MergingEntry
with_value v (static s k x nested value) = static s k x nested (some v)
with_value v (source s e) = source s e
with_value v (dynamic s k w) = dynamic s k w

unfoldable pub with_nested : SetId → MergingEntry → MergingEntry
with_nested t (static s k x nested value) = static s k x (some t) value
with_nested t (source s e) = source s e
with_nested t (dynamic s k w) = dynamic s k w

unfoldable pub nested_at : Option ℕ → State → Option SetId
nested_at none st = none
nested_at (some i) st = nested_in (entry_at i st)

unfoldable pub name_pointer : NameId → State → Pointer
name_pointer x st = (get_or st.names x (record { text = []; kind = PlainAttrset; pointer = record { kind = 0; from = 0; to = 0 } })).pointer

-- a name for a key of the set
unfoldable pub name_key : SetId → Text → Pointer → Low NameId
name_key s key p = do
  k ← asks (λ st. (set_at s st).name_kind)
  alloc_name key k p

-- merge_static_value. "Any other second value at a key adds a DuplicateKey (first: the name's pointer) and replaces the
-- value."
unfoldable pub merge_value_at : SetId → Text → Pointer → BindingValue → Option ℕ → Low (Unit {0})
merge_value_at s key p value none = do
  x ← name_key s key p
  add_entry (static s key x none (some value))
merge_value_at s key p value (some i) = do
  e ← asks (entry_at i)
  first ← asks (name_pointer (name_in e))
  _ ← add_duplicate key first p
  set_entry i (with_value value e)

unfoldable pub merge_static_value : SetId → Text → Pointer → BindingValue → Low (Unit {0})
merge_static_value s key p value = asks (find s key) >>= merge_value_at s key p value

-- "A path makes nested sets of kind PlainAttrset."
unfoldable pub new_nested : Pointer → Low SetId
new_nested p = new_set PlainAttrset p

-- get_or_create_nested_static. "A path after a value makes the nested set, drops the value and adds no diagnostic": the
-- value is dropped when the set is finished.
unfoldable pub nested_or : ℕ → Pointer → Option SetId → Low SetId
nested_or i p (some t) = give t
nested_or i p none = do
  t ← new_nested p
  e ← asks (entry_at i)
  _ ← set_entry i (with_nested t e)
  give t

unfoldable pub nested_static_at : SetId → Text → Pointer → Option ℕ → Low SetId
nested_static_at s key p none = do
  x ← name_key s key p
  t ← new_nested p
  _ ← add_entry (static s key x (some t) none)
  give t
nested_static_at s key p (some i) = asks (nested_at (some i)) >>= nested_or i p

unfoldable pub get_or_create_nested_static : SetId → Text → Pointer → Low SetId
get_or_create_nested_static s key p = asks (find s key) >>= nested_static_at s key p

-- ---- finish. "A set keeps statics in byte order of key. .. Nested sets are built when the whole set ends, in key
-- order."
pub record Static : Type 0 where
  pub key : Text
  pub name : NameId
  pub nested : Option SetId
  pub value : Option BindingValue

-- here, or later in the list
unfoldable pub here_or_later : Ordering → List Static → List Static → List Static
here_or_later Less here later = here
here_or_later Equal here later = here
here_or_later Greater here later = later

unfoldable pub insert_static : Static → List Static → List Static
insert_static x [] = x ∷ []
insert_static x (y ∷ ys) = here_or_later (order x.key y.key) (x ∷ y ∷ ys) (y ∷ insert_static x ys)

unfoldable pub statics_of : SetId → List MergingEntry → List Static
statics_of s [] = []
statics_of s (static t k x nested value ∷ es) =
    if eqb t s then insert_static (record { key = k; name = x; nested = nested; value = value }) (statics_of s es) else statics_of s es
statics_of s (source t e ∷ es) = statics_of s es
statics_of s (dynamic t k v ∷ es) = statics_of s es

unfoldable pub sources_of : SetId → List MergingEntry → List ExprId
sources_of s [] = []
sources_of s (static t k x nested value ∷ es) = sources_of s es
sources_of s (source t e ∷ es) = if eqb t s then e ∷ sources_of s es else sources_of s es
sources_of s (dynamic t k v ∷ es) = sources_of s es

unfoldable pub dynamics_of : SetId → List MergingEntry → List (ExprId × ExprId)
dynamics_of s [] = []
dynamics_of s (static t k x nested value ∷ es) = dynamics_of s es
dynamics_of s (source t e ∷ es) = dynamics_of s es
dynamics_of s (dynamic t k v ∷ es) = if eqb t s then (k, v) ∷ dynamics_of s es else dynamics_of s es

-- "a nested set still wins"
unfoldable pub finish_value : (SetId → Low ExprId) → Option SetId → Option BindingValue → Low BindingValue
finish_value finish_set (some t) value = finish_set t >>= λ e. give (expr e)
finish_value finish_set none (some v) = give v
finish_value finish_set none none = alloc_missing >>= λ e. give (expr e)

unfoldable pub finish_static : (SetId → Low ExprId) → Static → Low (NameId × BindingValue)
finish_static finish_set x = do
  v ← finish_value finish_set x.nested x.value
  give (x.name, v)

unfoldable pub finish_with : (SetId → Low ExprId) → SetId → Low Bindings
finish_with finish_set s = do
  es ← asks (λ st. st.entries)
  statics ← each (finish_static finish_set) (statics_of s es)
  give (record { statics = statics; inherit_froms = sources_of s es; dynamics = dynamics_of s es })

-- finish_expr; sets are nested no deeper than there are sets, so that the bound is never met
unfoldable pub finish_to : ℕ → SetId → Low ExprId
finish_to zero s = alloc_missing
finish_to (suc bound) s = do
  b ← finish_with (finish_to bound) s
  p ← asks (λ st. (set_at s st).pointer)
  alloc_expr (attr_set false b) p

unfoldable pub finish_expr : SetId → Low ExprId
finish_expr s = asks (λ st. length st.sets) >>= λ bound. finish_to bound s

unfoldable pub finish : SetId → Low Bindings
finish s = asks (λ st. length st.sets) >>= λ bound. finish_with (finish_to bound) s

-- ---- The entries. `lower` lowers the expression of a node, `merge` merges the entries of a set's node into a set:
-- both one level deeper.
module _ (nodes : List Node) (lower : NodeId → Low ExprId) (merge : SetId → NodeId → Low (Unit {0})) where
  -- lower_expr_opt: "An absent expression gives Missing without a pointer"
  unfoldable pub lower_opt : Option NodeId → Low ExprId
  lower_opt none = alloc_missing
  lower_opt (some n) = lower n

  -- push_dynamic: "At the end: key, then value."
  unfoldable pub push_dynamic : SetId → Option NodeId → Option NodeId → Low (Unit {0})
  push_dynamic s key value = do
    k ← lower_opt key
    v ← lower_opt value
    add_entry (dynamic s k v)

  unfoldable pub merge_lowered : SetId → Text → NodeId → Option NodeId → Low (Unit {0})
  merge_lowered s key attr value = do
    e ← lower_opt value
    merge_static_value s key (pointer nodes attr) (expr e)

  -- "a value AttrSet, not in Parens, merges into a nested set already there and its rec is dropped"
  unfoldable pub merge_into : SetId → Text → NodeId → NodeId → Option SetId → Low (Unit {0})
  merge_into s key attr value none = merge_lowered s key attr (some value)
  merge_into s key attr value (some t) = merge t value

  unfoldable pub merge_keyed : SetId → Text → NodeId → Option NodeId → Low (Unit {0})
  merge_keyed s key attr none = merge_lowered s key attr none
  merge_keyed s key attr (some value) =
      when (eqb (kind nodes value) 16)
      (asks (λ st. nested_at (find s key st) st) >>= merge_into s key attr value)
      (merge_lowered s key attr (some value))

  -- merge_attr_value
  unfoldable pub merge_attr_as : SetId → NodeId → Option NodeId → AttrKind → Low (Unit {0})
  merge_attr_as s attr value (static_key key) = merge_keyed s key attr value
  merge_attr_as s attr value (dynamic_key key) = push_dynamic s key value

  unfoldable pub merge_attr_value : SetId → NodeId → Option NodeId → Low (Unit {0})
  merge_attr_value s attr value = merge_attr_as s attr value (attr_kind nodes attr)

  -- merge_nested_attr_value: the attribute, and what comes after it. "A Dynamic key before the end of a path: nested
  -- set first, key second."
  unfoldable pub merge_step_as : SetId → NodeId → (SetId → Low (Unit {0})) → AttrKind → Low (Unit {0})
  merge_step_as s attr rest (static_key key) = get_or_create_nested_static s key (pointer nodes attr) >>= rest
  merge_step_as s attr rest (dynamic_key key) = do
    e ← inner (do
      t ← new_nested (pointer nodes attr)
      _ ← rest t
      finish_expr t)
    k ← lower_opt key
    add_entry (dynamic s k e)

  unfoldable pub merge_nested_attr_value : SetId → NodeId → List NodeId → Option NodeId → Low (Unit {0})
  merge_nested_attr_value s attr [] value = merge_attr_value s attr value
  merge_nested_attr_value s attr (a ∷ more) value = merge_step_as s attr (λ t. merge_nested_attr_value t a more value) (attr_kind nodes attr)

  -- merge_attrpath_val
  unfoldable pub merge_path : SetId → List NodeId → Option NodeId → Low (Unit {0})
  merge_path s [] value = push_dynamic s none value
  merge_path s (a ∷ more) value = merge_nested_attr_value s a more value

  unfoldable pub attributes : Option NodeId → List NodeId
  attributes none = []
  attributes (some path) = items nodes path

  unfoldable pub merge_attrpath_val : SetId → NodeId → Low (Unit {0})
  merge_attrpath_val s n = merge_path s (attributes (kid nodes 0 n)) (kid nodes 1 n)

  -- merge_inherit: "A dynamic inherited one: a Missing key and its value."
  unfoldable pub inherit_value : Option ExprId → Text → Pointer → Low BindingValue
  inherit_value none key p = alloc_expr (reference key) p >>= λ e. give (inherit e)
  inherit_value (some set) key p = do
    l ← alloc_expr (literal (string key)) p
    e ← alloc_expr (select set (l ∷ []) none) p
    give (inherit_from e)

  unfoldable pub inherit_as : SetId → Option ExprId → NodeId → AttrKind → Low (Unit {0})
  inherit_as s set attr (static_key key) = do
    v ← inherit_value set key (pointer nodes attr)
    merge_static_value s key (pointer nodes attr) v
  inherit_as s set attr (dynamic_key e) = push_dynamic s none e

  unfoldable pub inherit_attr : SetId → Option ExprId → NodeId → Low (Unit {0})
  inherit_attr s set attr = inherit_as s set attr (attr_kind nodes attr)

  unfoldable pub inherit_source : SetId → Option NodeId → Low (Option ExprId)
  inherit_source s none = give none
  inherit_source s (some from) = do
    e ← lower_opt (kid nodes 0 from)
    _ ← add_entry (source s e)
    give (some e)

  unfoldable pub merge_inherit : SetId → NodeId → Low (Unit {0})
  merge_inherit s n = do
    set ← inherit_source s (kid nodes 0 n)
    each_of (inherit_attr s set) (items_after nodes n)

  -- merge_bindings: the entries of an AttrSet are all its kids, those of a LetIn the kids after its body
  unfoldable pub merge_entry : SetId → NodeId → Low (Unit {0})
  merge_entry s n = when (eqb (kind nodes n) 26) (merge_inherit s n) (merge_attrpath_val s n)

  unfoldable pub entries_of : NodeId → List NodeId
  entries_of n = if eqb (kind nodes n) 12 then items_after nodes n else items nodes n

  unfoldable pub merge_entries : SetId → NodeId → Low (Unit {0})
  merge_entries s n = each_of (merge_entry s) (entries_of n)

  -- MergingSet::desugar(..).finish(..)
  unfoldable pub desugar : NameKind → NodeId → Low Bindings
  desugar names n = inner (do
    s ← new_set names (pointer nodes n)
    _ ← merge_entries s n
    finish s)
