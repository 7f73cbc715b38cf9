-- Texts, keys and kinds of names from what was read of a node. Assumes nothing.
use mathlib.Core.Path.{◌≡◌, refl, sym, ap, ◌∙◌}
use mathlib.Core.Bool.{Bool, true, false, ◌||◌}
use mathlib.Core.List.{List, [], ◌∷◌}
use mathlib.Core.Option.{Option, none, some}
use Prim.Native.Nat.{ℕ, zero, suc, ◌+◌, ◌<◌}
use native.Mathlib.Omega.{arith}
use lib.Dec.{eqb}
use lib.ListN.{length}
use borrow.Author.Tests.{eq-eqb, ne_eqb}
use Rattle.spec.specs.Basics.{Text, NodeId, ExprId}
use Rattle.spec.specs.Sheet.{Node}
use Rattle.spec.specs.Tree.{node_at}
use Rattle.spec.specs.Keys as spec
use Rattle.spec.specs.Keys.{kind, flag, text, kid, items, flatten_paren, literal_of, get_str_literal, str_key, inside_dynamic, attr_kind}
use Rattle.spec.specs.Lower.{has_interpolation}
use Rattle.spec.specs.State.{SetId, Low}
use Rattle.module.specs.Ids.{node_of}
use Rattle.module.specs.declared.ids.NodeId as code_id
use Rattle.layout.specs.Layout.{absent}
use Rattle.layout.specs.Texts.{text_in}
use Rattle.layout.proofs.Frames.{text_absent}
use Rattle.keys.specs.Items.{items_from, First, Next}
use Rattle.keys.specs.AstUtils.{interpolation, interpolation_at}
use Rattle.keys.proofs.ItemLaws.{items_are, items_past, items_none, items_some, next_first, next_is, kid_read, kid_missing}
use Rattle.std.specs.List.{list_any, range_with_len}
use Rattle.std.specs.Option.{is_some}
use Rattle.std.specs.Prelude as rust

-- ---- the parts of a Str
module _ (nodes : List Node) (n : NodeId) where
  pub parts_none : (s : List ℕ) → items_from nodes 0 n ≡ [] → some (text_in s absent) ≡ get_str_literal nodes n
  unfolding get_str_literal literal_of
  parts_none s e = rw (text_absent s, ← items_are nodes n, e)

  module _ (p i : ℕ) (a : First nodes 0 n p i) where
    two_parts : (q j : ℕ) → First nodes i n q j → items nodes n ≡ p ∷ q ∷ items_from nodes j n
    two_parts q j b = sym (items_are nodes n) ∙ a.items ∙ ap (λ ps. p ∷ ps) b.items

    pub parts_more : (q j : ℕ) → First nodes i n q j → none ≡ get_str_literal nodes n
    unfolding get_str_literal literal_of
    parts_more q j b = rw (two_parts q j b)

    pub parts_two : (r : rust.Option (code_id.NodeId × ℕ)) → Next nodes i n r → is_some r ≡ true → none ≡ get_str_literal nodes n
    parts_two r e q = let x = next_is nodes i n r e q in parts_more x.0.0.0 x.0.1 (next_first nodes i n r e x.0.0 x.0.1 x.1)

    module _ (o : items_from nodes i n ≡ []) (k : ℕ) (e : k ≡ kind nodes p) where
      one_part : items nodes n ≡ p ∷ []
      one_part = sym (items_are nodes n) ∙ a.items ∙ ap (λ ps. p ∷ ps) o

      pub part_literal : k ≡ 32 → (t : Text) → t ≡ text nodes p → some t ≡ get_str_literal nodes n
      unfolding get_str_literal literal_of
      part_literal h t q = rw (one_part, ← e, eq-eqb k 32 h, q)

      pub part_other : (k ≡ 32 → ⊥) → none ≡ get_str_literal nodes n
      unfolding get_str_literal literal_of
      part_other h = rw (one_part, ← e, ne_eqb k 32 h)

-- ---- whether one of them is an interpolation
module _ (nodes : List Node) (n : NodeId) where
  module _ (m : rust.Option code_id.NodeId) (i : ℕ) (e : node_of m ≡ kid nodes i n) where
    pub interpolation_gone : m ≡ rust.None → false ≡ interpolation_at nodes n i
    unfolding interpolation_at interpolation
    interpolation_gone q = rw (← kid_missing q e) refl

    pub interpolation_told : (p : code_id.NodeId) → m ≡ rust.Some p → (b : Bool) → (b ≡ true → kind nodes p.0 ≡ 33) → (b ≡ false → kind nodes p.0 ≡ 33 → ⊥) → b ≡ interpolation_at nodes n i
    unfolding interpolation_at interpolation
    interpolation_told p q true y f = rw (← kid_read q e, eq-eqb (kind nodes p.0) 33 (y refl)) refl
    interpolation_told p q false y f = rw (← kid_read q e, ne_eqb (kind nodes p.0) 33 (f refl)) refl

  pub any_kids : (lower : NodeId → Low ExprId) (merge : SetId → NodeId → Low (Unit {0})) (k i : ℕ) → i + k ≡ length (node_at nodes n).kids → list_any (interpolation_at nodes n) (range_with_len i k) ≡ has_interpolation nodes lower merge (items_from nodes i n)
  unfolding has_interpolation interpolation_at interpolation
  any_kids lower merge zero i e = rw (items_past nodes n i (omega arith)) refl
  any_kids lower merge (suc k) i e = go (any_kids lower merge k (i + 1) (omega arith)) (kid nodes i n) refl
    where
      h : i < length (node_at nodes n).kids
      h = omega arith

      go : list_any (interpolation_at nodes n) (range_with_len (i + 1) k) ≡ has_interpolation nodes lower merge (items_from nodes (i + 1) n) → (o : Option NodeId) → o ≡ kid nodes i n → list_any (interpolation_at nodes n) (range_with_len i (suc k)) ≡ has_interpolation nodes lower merge (items_from nodes i n)
      go rest none q = rw (items_none nodes n i h q, ← q) rest
      go rest (some p) q = rw (items_some nodes n i h p q, ← q) (ap (λ (b : Bool). eqb (kind nodes p) 33 || b) rest)

-- ---- keys
module _ (nodes : List Node) where
  module _ (m : rust.Option code_id.NodeId) where
    module _ (n : code_id.NodeId) (q : m ≡ rust.Some n) (k : ℕ) (e : k ≡ kind nodes n.0) where
      pub inside_str : k ≡ 6 → {r : spec.AttrKind} → r ≡ str_key nodes n.0 → r ≡ inside_dynamic nodes (node_of m)
      unfolding inside_dynamic node_of
      inside_str h g = g ∙ rw (q, ← e, eq-eqb k 6 h)

      pub inside_other : (k ≡ 6 → ⊥) → spec.dynamic_key (some n.0) ≡ inside_dynamic nodes (node_of m)
      unfolding inside_dynamic node_of
      inside_other h = rw (q, ← e, ne_eqb k 6 h)

  module _ (a : NodeId) (k : ℕ) (e : k ≡ kind nodes a) where
    pub attr_ident : k ≡ 18 → (t : Text) → t ≡ text nodes a → spec.static_key t ≡ attr_kind nodes a
    unfolding attr_kind
    attr_ident h t q = rw (← e, eq-eqb k 18 h, q)

    pub attr_str : (k ≡ 18 → ⊥) → k ≡ 6 → {r : spec.AttrKind} → r ≡ str_key nodes a → r ≡ attr_kind nodes a
    unfolding attr_kind
    attr_str i h g = g ∙ rw (← e, ne_eqb k 18 i, eq-eqb k 6 h)

    pub attr_dynamic : (k ≡ 18 → ⊥) → (k ≡ 6 → ⊥) → {x y : Option NodeId} → x ≡ kid nodes 0 a → y ≡ flatten_paren nodes 256 x → {r : spec.AttrKind} → r ≡ inside_dynamic nodes y → r ≡ attr_kind nodes a
    unfolding attr_kind
    attr_dynamic i h p q g = g ∙ rw (q, p, ← e, ne_eqb k 18 i, ne_eqb k 6 h)
