-- What stands inside any Parens: the loop of flatten_paren. Assumes nothing.
use mathlib.Core.Path.{◌≡◌, refl, sym, ap, ◌∙◌}
use mathlib.Core.Bool.{true, false}
use mathlib.Core.List.{List}
use mathlib.Core.Option.{none, some}
use Prim.Native.Nat.{ℕ, zero, suc, ◌-◌, ◌<◌, ◌≤◌}
use native.Mathlib.Omega.{arith}
use lib.Dec.{eqb}
use borrow.Author.Tests.{eq-eqb, ne_eqb}
use Rattle.spec.specs.Basics.{NodeId}
use Rattle.spec.specs.Sheet.{Node}
use Rattle.spec.specs.Keys.{kind, kid, flatten_paren}
use Rattle.module.specs.Ids.{node_of}
use Rattle.module.specs.declared.ids.NodeId as code_id
use Rattle.std.specs.Prelude as rust

-- ---- one turn
module _ (nodes : List Node) where
  flatten_none : (left : ℕ) → none ≡ flatten_paren nodes left none
  unfolding flatten_paren
  flatten_none zero = refl
  flatten_none (suc left) = refl

  flatten_other : (left : ℕ) (n : NodeId) → eqb (kind nodes n) 15 ≡ false → some n ≡ flatten_paren nodes left (some n)
  unfolding flatten_paren
  flatten_other zero n e = refl
  flatten_other (suc left) n e = rw (e, flatten_paren)

  flatten_paren_lem : (left : ℕ) (n : NodeId) → eqb (kind nodes n) 15 ≡ true → flatten_paren nodes (suc left) (some n) ≡ flatten_paren nodes left (kid nodes 0 n)
  unfolding flatten_paren
  flatten_paren_lem left n e = rw (e, flatten_paren)

-- ---- the loop: what is left to do gives what was to be done
pub record Flattening (nodes : List Node) (place cur : rust.Option code_id.NodeId) (left : ℕ) : Type 0 where
  pub same : flatten_paren nodes 256 (node_of place) ≡ flatten_paren nodes left (node_of cur)

module _ {nodes : List Node} {place cur : rust.Option code_id.NodeId} {left : ℕ} (f : Flattening nodes place cur left) where
  pub flattened_none : cur ≡ rust.None → none ≡ flatten_paren nodes 256 (node_of place)
  unfolding node_of
  flattened_none q = flatten_none nodes left ∙ sym (f.same ∙ ap (λ m. flatten_paren nodes left (node_of m)) q)

  pub flattened_out : left ≤ 0 → node_of cur ≡ flatten_paren nodes 256 (node_of place)
  unfolding flatten_paren
  flattened_out h = let z : left ≡ 0 = omega arith in sym (f.same ∙ ap (λ l. flatten_paren nodes l (node_of cur)) z)

  module _ (n : code_id.NodeId) (q : cur ≡ rust.Some n) (k : ℕ) (e : k ≡ kind nodes n.0) where
    pub flattened_other : (k ≡ 15 → ⊥) → some n.0 ≡ flatten_paren nodes 256 (node_of place)
    unfolding node_of
    flattened_other h =
        flatten_other nodes left n.0 (ap (λ x. eqb x 15) (sym e) ∙ ne_eqb k 15 h) ∙ sym (f.same ∙ ap (λ m. flatten_paren nodes left (node_of m)) q)

    pub flattening_more : k ≡ 15 → 0 < left → (m : rust.Option code_id.NodeId) → node_of m ≡ kid nodes 0 n.0 → Flattening nodes place m (left - 1)
    unfolding node_of
    flattening_more h l m g =
        let s : left ≡ suc (left - 1) = omega arith in
        record {
          same =
              f.same ∙ ap (λ m. flatten_paren nodes left (node_of m)) q
              ∙ ap (λ x. flatten_paren nodes x (some n.0)) s
              ∙ flatten_paren_lem nodes (left - 1) n.0 (ap (λ x. eqb x 15) (sym e) ∙ eq-eqb k 15 h)
              ∙ ap (flatten_paren nodes (left - 1)) (sym g);
        }
