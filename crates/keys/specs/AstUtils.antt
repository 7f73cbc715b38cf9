-- Keys: what each is in the definitions; and the small questions to a node that the definitions ask where they stand.
use Rattle.std.specs.Prelude.{◌≡◌, Bool, false, List, ℕ, eqb, if◌then◌else◌}
use Rattle.std.proofs.Math.Option.{Option, none, some}
use Rattle.spec.specs.Basics.{Text, NodeId, ExprId}
use Rattle.spec.specs.Sheet.{Node}
use Rattle.spec.specs.Keys as spec
use Rattle.spec.specs.Keys.{flag, kind, text, kid, items}
use Rattle.spec.specs.Lower.{has_interpolation}
use Rattle.spec.specs.Module.{NameKind, PlainAttrset, RecAttrset}
use Rattle.spec.specs.State.{SetId, Low}
use Rattle.module.specs.Ids.{node_of}
use Rattle.layout.specs.Texts.{text_in}
use Rattle.keys.specs.declared.ast_utils.AttrKind.{AttrKind}
use Rattle.keys.specs.declared.ast_utils.AttrKind.TheVariants.{Static, Dynamic}

unfoldable pub attr_kind_of : List ℕ → AttrKind → spec.AttrKind
attr_kind_of s (Static t) = spec.static_key (text_in s t.0)
attr_kind_of s (Dynamic m) = spec.dynamic_key (node_of m)

-- flag 1 says that an Ident has a name
abbrev pub ident_name : List Node → NodeId → Option Text
ident_name nodes n = if eqb (flag nodes n) 1 then some (text nodes n) else none

-- flag 1 says that a set is rec
abbrev pub set_kind : List Node → NodeId → NameKind
set_kind nodes n = if eqb (flag nodes n) 1 then RecAttrset else PlainAttrset

-- whether what is at a place of a node is an interpolation
unfoldable pub interpolation : List Node → Option NodeId → Bool
interpolation nodes none = false
interpolation nodes (some p) = eqb (kind nodes p) 33

unfoldable pub interpolation_at : List Node → NodeId → ℕ → Bool
interpolation_at nodes n i = interpolation nodes (kid nodes i n)

-- Whether an item of a node is an interpolation. The definition stands among those that lower, and asks nothing of
-- them.
pub record Interpolated (nodes : List Node) (n : NodeId) (r : Bool) : Type 0 where
  pub says : (lower : NodeId → Low ExprId) (merge : SetId → NodeId → Low (Unit {0})) → r ≡ has_interpolation nodes lower merge (items nodes n)
