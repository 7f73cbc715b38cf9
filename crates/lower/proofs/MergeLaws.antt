-- The entries of a set: what each way out of the code that merges them gives. Assumes nothing.
use mathlib.Core.Path.{◌≡◌, refl, sym, ap, ◌∙◌}
use mathlib.Core.Bool.{Bool, true, false}
use mathlib.Core.List.{List, [], ◌∷◌}
use mathlib.Core.Option.{Option, none, some}
use Prim.Native.Nat.{ℕ, zero, suc, ◌+◌, ◌-◌, ◌≤◌}
use native.Mathlib.Omega.{arith}
use lib.ListN.{length}
use lib.Dec.{eqb}
use borrow.Author.Tests.{eq-eqb, ne_eqb}
use Rattle.words.specs.Order.{pick}
use Rattle.spec.specs.Basics.{Text, NodeId, ExprId}
use Rattle.spec.specs.Sheet.{Node}
use Rattle.spec.specs.Keys.{kind, kid, pointer, attr_kind}
use Rattle.spec.specs.Steps.{◌>>=◌, asks, when}
use Rattle.spec.specs.State.{SetId, source, dynamic, State, Low, add_entry, inner}
use Rattle.spec.specs.Merge.{find, nested_at, merge_static_value, new_nested, get_or_create_nested_static, finish_expr, lower_opt, push_dynamic, merge_lowered, merge_into, merge_keyed, merge_attr_as, merge_attr_value, merge_step_as, merge_nested_attr_value, merge_path, merge_attrpath_val, inherit_as, inherit_attr, inherit_source, merge_inherit, merge_entry, merge_entries}
use Rattle.spec.specs.Merge as merging
use Rattle.spec.specs.Lower.{merge_bindings}
use Rattle.spec.proofs.sets.Standing.{nested_below}
use Rattle.module.specs.Ids.{node_of, expr_of, binding_of, pointer_of}
use Rattle.module.specs.declared.ids.NodeId as code_node
use Rattle.module.specs.declared.ids.ExprId as code_expr
use Rattle.module.specs.declared.ids.TextId as code_text
use Rattle.module.specs.declared.ids.BindingValue.{BindingValue}
use Rattle.module.specs.declared.ids.BindingValue.TheVariants as binding
use Rattle.module.specs.declared.pointer.Pointer.{Pointer}
use Rattle.layout.specs.Texts.{text_in}
use Rattle.layout.specs.Nodes.{nodes_of}
use Rattle.layout.specs.States.{sets_of, state_of, waiting_of}
use Rattle.layout.proofs.Frames.{text_still}
use Rattle.keys.specs.AstUtils.{attr_kind_of}
use Rattle.keys.specs.declared.ast_utils.AttrKind.{AttrKind}
use Rattle.keys.specs.declared.ast_utils.AttrKind.TheVariants.{Static, Dynamic}
use Rattle.keys.proofs.AnswerLaws.{key_static, key_dynamic}
use Rattle.open_sets.specs.declared.entry.SetId as code_set
use Rattle.merge.specs.Room.{price, ◌⊕◌, covers, nothing, one_expr, one_entry, one_set}
use Rattle.merge.specs.Lowers.{Lowerable, Setting, Lowers, Lowering}
use Rattle.merge.specs.Merges.{value_price, nested_price, inherit_price, Inherits}
use Rattle.merge.proofs.Steps.{then_open, gave, asked, as_step, yes_when, no_when, fits, all_lower}
use Rattle.merge.proofs.KeySteps.{nested_open}
use Rattle.lower.specs.Sizes.{sized, below, sizes, place, heft}
use Rattle.lower.specs.Reads.{attrs_left, FirstIn, nested_for, into_of, GoesInto}
use Rattle.lower.specs.declared.reads.Rest.{Rest}
use Rattle.lower.specs.Parts.{lower_at, merge_at}
use Rattle.lower.proofs.ChildLaws.{Children, HasChildren}
use Rattle.lower.proofs.SizeLaws.{heft_place, own_and_below, kid_below, three_below}
use Rattle.lower.proofs.TurnLaws.{next}
use Rattle.lower.proofs.ExprLaws.{Opt}
use Rattle.lower.proofs.Opens.{in_setting, at_open, with_open}
use Rattle.lower.proofs.KeySizes.{attributes_are, attrs_place, entries_size, key_heft}
use Rattle.std.specs.Prelude as rust

-- ---- the contracts that the laws are about
abbrev pub Pushed : ℕ → SetId → rust.Option code_node.NodeId → rust.Option code_node.NodeId → List ℕ → List ℕ → Type 0
Pushed depth set key value s t =
    Lowering (suc set) (λ nodes. heft (node_of key) nodes + heft (node_of value) nodes) (price 3 1 0 0 0 1) (λ nodes. push_dynamic nodes (lower_at depth nodes) (merge_at depth nodes) set (node_of key) (node_of value)) s tt t

abbrev pub Keyed : ℕ → SetId → Text → NodeId → rust.Option code_node.NodeId → List ℕ → List ℕ → Type 0
Keyed depth set key n value s t =
    Lowering (suc set) (λ nodes. place nodes (node_of value)) (price 2 1 1 2 0 1) (λ nodes. merge_keyed nodes (lower_at depth nodes) (merge_at depth nodes) set key n (node_of value)) s tt t

abbrev pub AttrValue : ℕ → SetId → NodeId → rust.Option code_node.NodeId → List ℕ → List ℕ → Type 0
AttrValue depth set n value s t =
    Lowering (suc set) (λ nodes. sized nodes n + place nodes (node_of value)) nothing (λ nodes. merge_attr_value nodes (lower_at depth nodes) (merge_at depth nodes) set n (node_of value)) s tt t

-- the attribute n, and then the rest of its path
abbrev pub Nested : ℕ → SetId → NodeId → Rest → rust.Option code_node.NodeId → List ℕ → List ℕ → Type 0
Nested depth set n rest value s t =
    Lowering (suc set) (λ nodes. sized nodes n + (sizes nodes (attrs_left nodes rest) + place nodes (node_of value))) nothing
    (λ nodes. merge_nested_attr_value nodes (lower_at depth nodes) (merge_at depth nodes) set n (attrs_left nodes rest) (node_of value)) s tt t

abbrev pub Step : ℕ → SetId → NodeId → NodeId → Rest → rust.Option code_node.NodeId → List ℕ → List ℕ → Type 0
Step depth set n a rest value s t =
    Lowering (suc set) (λ nodes. sized nodes n + (sized nodes a + (sizes nodes (attrs_left nodes rest) + place nodes (node_of value)))) nothing
    (λ nodes. merge_nested_attr_value nodes (lower_at depth nodes) (merge_at depth nodes) set n (a ∷ attrs_left nodes rest) (node_of value)) s tt t

abbrev pub Nest : ℕ → Pointer → NodeId → Rest → rust.Option code_node.NodeId → List ℕ → ExprId → List ℕ → Type 0
Nest depth p n rest value s r t =
    Lowering 0 (λ nodes. sized nodes n + (sizes nodes (attrs_left nodes rest) + place nodes (node_of value))) one_set
    (λ nodes. inner (new_nested (pointer_of p) >>= λ set. merge_nested_attr_value nodes (lower_at depth nodes) (merge_at depth nodes) set n (attrs_left nodes rest) (node_of value) >>= λ _. finish_expr set)) s r t

abbrev pub Dynamics : SetId → ExprId → ExprId → List ℕ → List ℕ → Type 0
Dynamics set k v s t = Lowering (suc set) (λ _. 0) one_entry (λ _. add_entry (dynamic set k v)) s tt t

abbrev pub Valued : SetId → Text → Pointer → BindingValue → List ℕ → List ℕ → Type 0
Valued set key p v s t = Lowering (suc set) (λ _. 0) value_price (λ _. merge_static_value set key (pointer_of p) (binding_of v)) s tt t

-- ---- push_dynamic
pub dynamic_pushed : (depth : ℕ) (set : SetId) (key value : rust.Option code_node.NodeId) {s u v t : List ℕ} {k e : ExprId} → Opt depth key s k u → Opt depth value u e v → Dynamics set k e v t → Pushed depth set key value s t
unfolding push_dynamic covers ◌⊕◌ price one_expr one_entry
dynamic_pushed depth set key value x y d = record {
  at = λ nodes w.
      fits 0 (λ _. omega arith) refl (next _ (with_open (suc set) (omega arith) (x.at nodes w)) (next _ (with_open (suc set) (omega arith) (y.at nodes w)) (d.at nodes w)));
}

-- ---- keyed
module _ (nodes : List Node) where
  -- what an answer of `into_set` says
  into_there : (found : Option SetId) (value : Option NodeId) (t : SetId) (v : NodeId) → ◌≡◌ {A = Option (SetId × NodeId)} (some (t, v)) (nested_for nodes found value)
      → (found ≡ some t) × ((value ≡ some v) × (eqb (kind nodes v) 16 ≡ true))
  unfolding nested_for
  into_there none none t v e = let z : ◌≡◌ {A = ℕ} 0 1 = cc in absurd (omega arith)
  into_there none (some x) t v e = let z : ◌≡◌ {A = ℕ} 0 1 = cc in absurd (omega arith)
  into_there (some y) none t v e = let z : ◌≡◌ {A = ℕ} 0 1 = cc in absurd (omega arith)
  into_there (some y) (some x) t v e = go (eqb (kind nodes x) 16) refl e
    where
      part : {A : Type 0} → (SetId × NodeId → A) → A → Option (SetId × NodeId) → A
      part f d none = d
      part f d (some z) = f z

      go : (b : Bool) → eqb (kind nodes x) 16 ≡ b → ◌≡◌ {A = Option (SetId × NodeId)} (some (t, v)) (pick b (some (y, x)) none) → (some y ≡ some t) × ((some x ≡ some v) × (eqb (kind nodes v) 16 ≡ true))
      go true q f =
          let i : t ≡ y = ap (part (λ z. z.0) t) f in
          let j : v ≡ x = ap (part (λ z. z.1) v) f in
          (rw i, (rw j, rw j q))
      go false q f = let z : ◌≡◌ {A = ℕ} 0 1 = cc in absurd (omega arith)

  module _ (lower : NodeId → Low ExprId) (merge : SetId → NodeId → Low (Unit {0})) (set : SetId) (key : Text) (n : NodeId) (st : State) where
    -- where there is no nested set, or the value is no AttrSet, the value is lowered
    keyed_as : (value : Option NodeId) (found : Option SetId) → nested_at (find set key st) st ≡ found → none ≡ nested_for nodes found value
        → merge_lowered nodes lower merge set key n value st ≡ merge_keyed nodes lower merge set key n value st
    unfolding nested_for merge_keyed merge_into when asks ◌>>=◌
    keyed_as none found f e = refl
    keyed_as (some v) none f e = go (eqb (kind nodes v) 16)
      where
        go : (b : Bool) → merge_lowered nodes lower merge set key n (some v) st
            ≡ when b (asks (λ z. nested_at (find set key z) z) >>= merge_into nodes lower merge set key n v) (merge_lowered nodes lower merge set key n (some v)) st
        go true = rw f
        go false = refl
    keyed_as (some v) (some t) f e = go (eqb (kind nodes v) 16) e
      where
        go : (b : Bool) → ◌≡◌ {A = Option (SetId × NodeId)} none (pick b (some (t, v)) none) → merge_lowered nodes lower merge set key n (some v) st
            ≡ when b (asks (λ z. nested_at (find set key z) z) >>= merge_into nodes lower merge set key n v) (merge_lowered nodes lower merge set key n (some v)) st
        go true q = let z : ◌≡◌ {A = ℕ} 0 1 = cc in absurd (omega arith)
        go false q = refl

-- the nested set of a key is open
nested_opened : (set : SetId) (key : Text) (s : List ℕ) (t : SetId) → Lowerable s → nested_at (find set key (state_of s)) (state_of s) ≡ some t → suc t ≤ length (sets_of s)
unfolding state_of
nested_opened set key s t ready e = nested_below set key (state_of s) t ready.standing e

module _ (depth : ℕ) (set : SetId) (n : NodeId) (value : rust.Option code_node.NodeId) (into : rust.Option (code_set.SetId × code_node.NodeId)) {s t : List ℕ} where
  pub keyed_merged : (key : Text) (i : code_set.SetId) (v : code_node.NodeId) → GoesInto s set key (node_of value) into → into ≡ rust.Some (i, v)
      → Lowering (suc i.0) (below v.0) nothing (λ nodes. merge_bindings nodes depth i.0 v.0) s tt t → Keyed depth set key n value s t
  unfolding into_of merge_keyed merge_into place covers price nothing
  keyed_merged key i v g q x = all_lower (in_setting (x.at [] []).wrote (x.at [] []).still λ c. go (into_there ns (nested_at (find set key (state_of s)) (state_of s)) (node_of value) i.0 v.0 (told c)))
    where
      ns : List Node
      ns = nodes_of s

      told : Setting ns (waiting_of s) (suc set) (place ns (node_of value)) (price 2 1 1 2 0 1) s → ◌≡◌ {A = Option (SetId × NodeId)} (some (i.0, v.0)) (nested_for ns (nested_at (find set key (state_of s)) (state_of s)) (node_of value))
      told c = rw q at (g.says c.ready)

      go : (nested_at (find set key (state_of s)) (state_of s) ≡ some i.0) × ((node_of value ≡ some v.0) × (eqb (kind ns v.0) 16 ≡ true))
          → Lowers ns (waiting_of s) (waiting_of s) (suc set) (place ns (node_of value)) (price 2 1 1 2 0 1) (merge_keyed ns (lower_at depth ns) (merge_at depth ns) set key n (node_of value)) s tt t
      go h =
          rw h.1.0
          (yes_when _ h.1.1
          (asked _ _ {a = some i.0} (λ _. sym h.0)
          (at_open (λ c. nested_opened set key s i.0 c.ready h.0) (fits 0 (λ w. omega (arith, own_and_below w v.0)) refl (x.at ns (waiting_of s))))))

  pub keyed_other : (key : code_text.TextId) (p : Pointer) (e : code_expr.ExprId) {u : List ℕ} → GoesInto s set (text_in s key.0) (node_of value) into → into ≡ rust.None → pointer_of p ≡ pointer (nodes_of s) n
      → Opt depth value s e.0 u → Valued set (text_in u key.0) p (binding.Expr e) u t → Keyed depth set (text_in s key.0) n value s t
  unfolding into_of merge_lowered binding_of covers ◌⊕◌ price one_expr value_price
  keyed_other key p e {u} g q h x d =
      let ns = nodes_of s in
      let y = rw (h, text_still s u key.0 (x.at ns (waiting_of s)).still) at (d.at ns (waiting_of s)) in
      all_lower
      (as_step (λ c. keyed_as ns (lower_at depth ns) (merge_at depth ns) set (text_in s key.0) n (state_of s) (node_of value) _ refl (rw q at (g.says c.ready)))
      (fits 0 (λ _. omega (arith, heft_place ns (node_of value))) refl (next _ (with_open (suc set) (omega arith) (x.at ns (waiting_of s))) y)))

-- ---- the key of an attribute
module _ (depth : ℕ) (set : SetId) (n : NodeId) (k : AttrKind) {s : List ℕ} (e : attr_kind_of s k ≡ attr_kind (nodes_of s) n) where
  -- ---- attr_value
  pub value_static : (value : rust.Option code_node.NodeId) (key : code_text.TextId) {t : List ℕ} → k ≡ Static key → Keyed depth set (text_in s key.0) n value s t → AttrValue depth set n value s t
  unfolding merge_attr_value merge_attr_as covers price nothing
  value_static value key q x = all_lower (rw (key_static s k _ e key q) (fits 1 (λ w. omega (arith, own_and_below w n)) refl (x.at _ _)))

  pub value_dynamic : (value : rust.Option code_node.NodeId) (key : rust.Option code_node.NodeId) {t : List ℕ} → k ≡ Dynamic key → Pushed depth set key value s t → AttrValue depth set n value s t
  unfolding merge_attr_value merge_attr_as covers price nothing
  value_dynamic value key q x =
      all_lower (rw (key_dynamic s k _ e key q) (fits 1 (λ w. omega (arith, key_heft w n (node_of key) (key_dynamic s k _ e key q), heft_place (nodes_of s) (node_of value))) refl (x.at _ _)))

  -- ---- step
  module _ (p : Pointer) (h : pointer_of p ≡ pointer (nodes_of s) n) (a : ℕ) (rest : Rest) (value : rust.Option code_node.NodeId) where
    pub step_static : (key : code_text.TextId) {r : SetId} {u t : List ℕ} → k ≡ Static key → Lowering (suc set) (λ _. 0) nested_price (λ _. get_or_create_nested_static set (text_in s key.0) (pointer_of p)) s r u
        → Nested depth r a rest value u t → Step depth set n a rest value s t
    unfolding merge_nested_attr_value merge_step_as covers ◌⊕◌ price nothing nested_price
    step_static key q x y =
        all_lower
        (rw (key_static s k _ e key q, ← h)
        (fits 1 (λ w. omega (arith, own_and_below w n)) refl (then_open _ (x.at _ _) (λ c l. nested_open set (text_in s key.0) (pointer_of p) c.opened c.ready l) (y.at _ _))))

    pub step_dynamic : (key : rust.Option code_node.NodeId) {f g : ExprId} {u v t : List ℕ} → k ≡ Dynamic key → Nest depth p a rest value s f u → Opt depth key u g v → Dynamics set g f v t → Step depth set n a rest value s t
    unfolding merge_nested_attr_value merge_step_as covers ◌⊕◌ price nothing one_set one_expr one_entry
    step_dynamic key q x y d =
        all_lower
        (rw (key_dynamic s k _ e key q, ← h)
        (fits 1 (λ w. omega (arith, key_heft w n (node_of key) (key_dynamic s k _ e key q))) refl
        (next _ (with_open (suc set) (omega arith) (x.at _ _)) (next _ (with_open (suc set) (omega arith) (y.at _ _)) (d.at _ _)))))

  -- ---- inherit
  pub inherit_static : (origin : rust.Option code_expr.ExprId) (p : Pointer) (key : code_text.TextId) (v : BindingValue) {u t : List ℕ} → pointer_of p ≡ pointer (nodes_of s) n → k ≡ Static key
      → Inherits (expr_of origin) (text_in s key.0) (pointer_of p) s (binding_of v) u → Valued set (text_in u key.0) p v u t
      → Lowering (suc set) (λ nodes. sized nodes n) nothing (λ nodes. inherit_attr nodes (lower_at depth nodes) (merge_at depth nodes) set (expr_of origin) n) s tt t
  unfolding inherit_attr inherit_as covers ◌⊕◌ price nothing inherit_price value_price
  inherit_static origin p key v {u} h q x d =
      let ns = nodes_of s in
      let z = (x.at (lower_at depth) (merge_at depth)).at ns (waiting_of s) in
      let y = rw (text_still s u key.0 z.still) at (d.at ns (waiting_of s)) in
      all_lower (rw (key_static s k _ e key q, ← h) (fits 1 (λ w. omega (arith, own_and_below w n)) refl (next _ (with_open (suc set) (omega arith) z) y)))

  pub inherit_dynamic : (origin : rust.Option code_expr.ExprId) (key : rust.Option code_node.NodeId) {t : List ℕ} → k ≡ Dynamic key → Pushed depth set rust.None key s t
      → Lowering (suc set) (λ nodes. sized nodes n) nothing (λ nodes. inherit_attr nodes (lower_at depth nodes) (merge_at depth nodes) set (expr_of origin) n) s tt t
  unfolding inherit_attr inherit_as node_of heft covers price nothing
  inherit_dynamic origin key q x =
      all_lower (rw (key_dynamic s k _ e key q) (fits 1 (λ w. omega (arith, key_heft w n (node_of key) (key_dynamic s k _ e key q))) refl (x.at _ _)))

-- ---- nested: the last attribute, or one before the end
module _ (depth : ℕ) (set : SetId) (n : ℕ) (rest : Rest) (value : rust.Option code_node.NodeId) {s t : List ℕ} where
  pub nested_last : attrs_left (nodes_of s) rest ≡ [] → AttrValue depth set n value s t → Nested depth set n rest value s t
  unfolding merge_nested_attr_value sizes covers price nothing
  nested_last e x = all_lower (rw e (fits 0 (λ _. omega arith) refl (x.at _ _)))

  pub nested_before : {a : ℕ} {more : Rest} → FirstIn (nodes_of s) rest a more → Step depth set n a more value s t → Nested depth set n rest value s t
  unfolding sizes covers price nothing
  nested_before f x = all_lower (rw f.items (fits 0 (λ _. omega arith) refl (x.at _ _)))

-- ---- attrpath_val
abbrev pub AttrpathVal : ℕ → SetId → NodeId → List ℕ → List ℕ → Type 0
AttrpathVal depth set n s t = Lowering (suc set) (λ nodes. sized nodes n) nothing (λ nodes. merge_attrpath_val nodes (lower_at depth nodes) (merge_at depth nodes) set n) s tt t

module _ (depth : ℕ) (set : SetId) (n : NodeId) (at : Children) {s t : List ℕ} (h : HasChildren (nodes_of s) n at) where
  -- a path without an attribute
  pub attrpath_none : attrs_left (nodes_of s) (record { path = at.first; after = 0 }) ≡ [] → Pushed depth set rust.None at.second s t → AttrpathVal depth set n s t
  unfolding merge_attrpath_val merge_path node_of heft covers price nothing
  attrpath_none e x =
      let ns = nodes_of s in
      let none_there = sym (attributes_are ns (lower_at depth ns) (merge_at depth ns) (node_of at.first)) ∙ e in
      all_lower
      (rw (← h.first, ← h.second, none_there)
      (fits 1 (λ w. omega (arith, three_below w h, own_and_below w n, heft_place ns (node_of at.second))) refl (x.at ns (waiting_of s))))

  pub attrpath_there : {a : ℕ} {more : Rest} → FirstIn (nodes_of s) (record { path = at.first; after = 0 }) a more → Nested depth set a more at.second s t → AttrpathVal depth set n s t
  unfolding merge_attrpath_val merge_path sizes covers price nothing
  attrpath_there f x =
      let ns = nodes_of s in
      let there = sym (attributes_are ns (lower_at depth ns) (merge_at depth ns) (node_of at.first)) ∙ f.items in
      all_lower
      (rw (← h.first, ← h.second, there)
      (fits 0 (λ w. omega (arith, three_below w h, own_and_below w n, attrs_place w (node_of at.first), ap (sizes ns) f.items)) refl (x.at ns (waiting_of s))))

-- ---- src
module _ (depth : ℕ) (set : SetId) (place' : rust.Option code_node.NodeId) {s : List ℕ} where
  pub source_there : (f : code_node.NodeId) (p : rust.Option code_node.NodeId) (e : code_expr.ExprId) {u t : List ℕ} → place' ≡ rust.Some f → node_of p ≡ kid (nodes_of s) 0 f.0 → Opt depth p s e.0 u
      → Lowering (suc set) (λ _. 0) one_entry (λ _. add_entry (source set e.0)) u tt t
      → Lowering (suc set) (λ nodes. place nodes (node_of place')) nothing (λ nodes. inherit_source nodes (lower_at depth nodes) (merge_at depth nodes) set (node_of place')) s (expr_of (rust.Some e)) t
  unfolding inherit_source node_of expr_of place covers ◌⊕◌ price nothing one_expr one_entry
  source_there f p e q h x d =
      rw q (all_lower
      (rw (← h)
      (fits 1 (λ w. let k : place (nodes_of s) (node_of p) ≤ below f.0 (nodes_of s) = rw h (kid_below w f.0) in omega (arith, own_and_below w f.0, heft_place (nodes_of s) (node_of p))) refl
      (next _ (with_open (suc set) (omega arith) (x.at _ _)) (next _ (d.at _ _) (gave _))))))

  pub source_none : place' ≡ rust.None
      → Lowering (suc set) (λ nodes. place nodes (node_of place')) nothing (λ nodes. inherit_source nodes (lower_at depth nodes) (merge_at depth nodes) set (node_of place')) s (expr_of rust.None) s
  unfolding inherit_source node_of expr_of place
  source_none q = rw q (record { at = λ nodes w. gave none })

-- ---- entry
module _ (depth : ℕ) (set : SetId) (n k : ℕ) {s t : List ℕ} (e : k ≡ kind (nodes_of s) n) where
  pub entry_inherit : k ≡ 26 → Lowering (suc set) (λ nodes. sized nodes n) nothing (λ nodes. merge_inherit nodes (lower_at depth nodes) (merge_at depth nodes) set n) s tt t
      → Lowering (suc set) (λ nodes. sized nodes n) nothing (λ nodes. merge_entry nodes (lower_at depth nodes) (merge_at depth nodes) set n) s tt t
  unfolding merge_entry
  entry_inherit o x = all_lower (rw (← e) (yes_when _ (eq-eqb k 26 o) (x.at _ _)))

  pub entry_attrpath : (k ≡ 26 → ⊥) → AttrpathVal depth set n s t → Lowering (suc set) (λ nodes. sized nodes n) nothing (λ nodes. merge_entry nodes (lower_at depth nodes) (merge_at depth nodes) set n) s tt t
  unfolding merge_entry
  entry_attrpath o x = all_lower (rw (← e) (no_when _ (ne_eqb k 26 o) (x.at _ _)))

-- ---- merge_bindings
abbrev pub Entries : ℕ → SetId → NodeId → List ℕ → List ℕ → Type 0
Entries depth set n s t =
    Lowering (suc set) (λ nodes. sizes nodes (merging.entries_of nodes (lower_at depth nodes) (merge_at depth nodes) n)) nothing (λ nodes. merge_entries nodes (lower_at depth nodes) (merge_at depth nodes) set n) s tt t

pub bindings_none : (depth : ℕ) (set : SetId) (n : NodeId) {s : List ℕ} → depth ≡ 0 → Lowering (suc set) (below n) nothing (λ nodes. merge_bindings nodes depth set n) s tt s
unfolding merge_bindings covers price nothing
bindings_none depth set n q = rw q (record { at = λ nodes w. fits 0 (λ _. omega arith) refl (gave tt) })

bindings_deeper : (depth : ℕ) (set : SetId) (n : NodeId) {s t : List ℕ} → Entries depth set n s t → Lowering (suc set) (below n) nothing (λ nodes. merge_bindings nodes (suc depth) set n) s tt t
unfolding merge_bindings covers price nothing
bindings_deeper depth set n x = record {
  at = λ nodes w. fits 0 (λ h. omega (arith, entries_size h (lower_at depth nodes) (merge_at depth nodes) n, own_and_below h n)) refl (x.at nodes w);
}

pub bindings_there : (depth : ℕ) (set : SetId) (n : NodeId) {s t : List ℕ} → (depth ≡ 0 → ⊥) → Entries (depth - 1) set n s t → Lowering (suc set) (below n) nothing (λ nodes. merge_bindings nodes depth set n) s tt t
bindings_there zero set n q x = absurd (q refl)
bindings_there (suc depth) set n q x =
    let e : suc depth - 1 ≡ depth = omega arith in
    bindings_deeper depth set n (rw e at x)
