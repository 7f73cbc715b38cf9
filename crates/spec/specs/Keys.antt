-- docs/RULES.md, "Lowering" ("Keys"): a node and its parts, and which key an attribute is. The functions of
-- ast_utils.rs, under their names.
use Rattle.std.specs.Prelude.{true, false, List, [], ◌∷◌, ℕ, zero, suc, get_or, eqb, if◌then◌else◌}
use Rattle.std.proofs.Math.Option.{Option, none, some}
use Rattle.spec.specs.Basics.{Text, NodeId, maybe}
use Rattle.spec.specs.Module.{Pointer}
use Rattle.spec.specs.Sheet.{Node}
use Rattle.spec.specs.Tree.{node_at}

-- "A static key", by its text, or another, by the expression that makes it.
pub data AttrKind : Type 0 where
  static_key : Text → AttrKind
  dynamic_key : Option NodeId → AttrKind

-- the kids of a list, none of which is absent
unfoldable pub present : List (Option NodeId) → List NodeId
present [] = []
present (none ∷ ks) = present ks
present (some k ∷ ks) = k ∷ present ks

-- the kids after the first
unfoldable pub after_first : List (Option NodeId) → List (Option NodeId)
after_first [] = []
after_first (k ∷ ks) = ks

module _ (nodes : List Node) where
  unfoldable pub kind : NodeId → ℕ
  kind n = (node_at nodes n).kind

  unfoldable pub flag : NodeId → ℕ
  flag n = (node_at nodes n).flag

  unfoldable pub text : NodeId → Text
  text n = (node_at nodes n).text

  unfoldable pub pointer : NodeId → Pointer
  pointer n = record { kind = (node_at nodes n).kind; from = (node_at nodes n).from; to = (node_at nodes n).to }

  -- a counted place
  unfoldable pub kid : ℕ → NodeId → Option NodeId
  kid i n = get_or (node_at nodes n).kids i none

  -- the place of a place that may be absent itself
  unfoldable pub kid_of : ℕ → Option NodeId → Option NodeId
  kid_of i none = none
  kid_of i (some n) = kid i n

  -- the items of a list that begins with the first kid, and of one that follows a counted place
  unfoldable pub items : NodeId → List NodeId
  items n = present (node_at nodes n).kids

  unfoldable pub items_after : NodeId → List NodeId
  items_after n = present (after_first (node_at nodes n).kids)

  -- flatten_paren
  unfoldable pub flatten_paren : ℕ → Option NodeId → Option NodeId
  flatten_paren zero place = place
  flatten_paren (suc depth) none = none
  flatten_paren (suc depth) (some n) = elim (eqb (kind n) 15) [ true ↦ flatten_paren depth (kid 0 n) | false ↦ some n ]

  -- get_str_literal: "a Str without interpolation and with at most one part"
  unfoldable pub literal_of : List NodeId → Option Text
  literal_of [] = some []
  literal_of (p ∷ []) = if eqb (kind p) 32 then some (text p) else none
  literal_of (p ∷ q ∷ ps) = none

  unfoldable pub get_str_literal : NodeId → Option Text
  get_str_literal n = literal_of (items n)

  unfoldable pub str_key : NodeId → AttrKind
  str_key n = maybe (get_str_literal n) (dynamic_key (some n)) static_key

  -- "such a Str, but no Ident, also inside Dynamic and any Parens"
  unfoldable pub inside_dynamic : Option NodeId → AttrKind
  inside_dynamic none = dynamic_key none
  inside_dynamic (some n) = if eqb (kind n) 6 then str_key n else dynamic_key (some n)

  -- AttrKind::of. A flag-0 Ident has the empty text: "No text means the empty key."
  unfoldable pub attr_kind : NodeId → AttrKind
  attr_kind a =
      if eqb (kind a) 18 then static_key (text a)
      else if eqb (kind a) 6 then str_key a
      else inside_dynamic (flatten_paren 256 (kid 0 a))
