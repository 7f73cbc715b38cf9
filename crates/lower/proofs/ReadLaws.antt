-- What lowering reads of nodes and open sets, by what the readers say. Assumes nothing.
use mathlib.Core.Path.{◌≡◌, refl}
use mathlib.Core.Bool.{Bool, true, false}
use mathlib.Core.List.{List}
use mathlib.Core.Option.{Option, none, some}
use Prim.Native.Nat.{ℕ, ◌+◌, ◌*◌, ◌≤◌}
use native.Mathlib.Omega.{arith}
use lib.ListN.{length}
use lib.Dec.{eqb, ltb}
use borrow.Author.Tests.{eq-eqb, ne_eqb, ltb-true, ltb-false}
use Rattle.words.specs.Words.{word}
use Rattle.spec.specs.Basics.{Text, NodeId}
use Rattle.spec.specs.Sheet.{Node}
use Rattle.spec.specs.Tree.{node_at}
use Rattle.spec.specs.Keys.{kind, kid, kid_of, flag}
use Rattle.spec.specs.State.{SetId}
use Rattle.spec.specs.Merge.{find, nested_at, entries_of}
use Rattle.module.specs.Ids.{node_of}
use Rattle.module.specs.declared.expr.Pattern.{Pattern}
use Rattle.module.specs.declared.expr.Pattern.TheVariants as pattern_kind
use Rattle.module.specs.declared.ids.NodeId as code_id
use Rattle.layout.specs.Layout.{kid_limit, node_row, nodes_at}
use Rattle.layout.specs.Nodes.{first_kid, nodes_of}
use Rattle.layout.specs.States.{state_of}
use Rattle.layout.proofs.RowLaws.{cap_lim}
use Rattle.intake.proofs.NodeLaws.{kids_many, kids_none}
use Rattle.keys.specs.Items.{Next}
use Rattle.keys.proofs.ItemLaws.{items_are, items_after_are}
use Rattle.open_sets.specs.Entries.{maybe_set_of}
use Rattle.open_sets.specs.declared.entry.SetId as code_set
use Rattle.merge.specs.Lowers.{Lowerable}
use Rattle.lower.specs.Reads.{ident_of, owner_of, ellipsis_of, pattern_of, HasParam, attrs_from, FirstIn, NextIn, FirstEntry, nested_for, into_of, GoesInto}
use Rattle.lower.specs.declared.reads.Rest.{Rest}
use Rattle.std.specs.Prelude as rust

-- ---- a parameter
module _ (nodes : List Node) (n : code_id.NodeId) (k : ℕ) (e : k ≡ kind nodes n.0) (first : rust.Option code_id.NodeId) (q : node_of first ≡ kid nodes 0 n.0) where
  pub param_ident : k ≡ 28 → HasParam nodes (some n.0) (record { ident = first; owner = rust.None; pattern = pattern_kind.Absent })
  unfolding ident_of owner_of ellipsis_of pattern_of node_of
  param_ident h =
      record {
        ident = rw (← e, eq-eqb k 28 h) q;
        owner = rw (← e, eq-eqb k 28 h);
        pattern = rw (← e, eq-eqb k 28 h);
      }

  pub param_pattern : (k ≡ 28 → ⊥) → (x : rust.Option code_id.NodeId) → node_of x ≡ kid_of nodes 0 (node_of first) → (p : Pattern) → pattern_of p ≡ some (eqb (flag nodes n.0) 1)
      → HasParam nodes (some n.0) (record { ident = x; owner = rust.Some n; pattern = p })
  unfolding ident_of owner_of ellipsis_of node_of
  param_pattern h x a p b =
      record {
        ident = rw (← e, ne_eqb k 28 h, ← q) a;
        owner = rw (← e, ne_eqb k 28 h);
        pattern = rw (← e, ne_eqb k 28 h) b;
      }

-- ---- items
-- THEOREM. No node has more kids than the store has places for all of them.
pub kids_few : (s : List ℕ) (n : NodeId) → length (node_at (nodes_of s) n).kids ≤ kid_limit
unfolding first_kid
kids_few s n = go (ltb n (length (nodes_of s))) refl
  where
    go : (b : Bool) → ltb n (length (nodes_of s)) ≡ b → length (node_at (nodes_of s) n).kids ≤ kid_limit
    go true q = omega (arith, kids_many s n (first_kid s n) (first_kid s (n + 1)) (ltb-true n _ q) refl refl, cap_lim (word s (nodes_at + node_row * (n + 1))) kid_limit)
    go false q = omega (arith, kids_none s n (ltb-false n _ q))

-- what is left of a path, by the next item of its node
module _ (s : List ℕ) (r : Rest) where
  pub rest_next : (n : code_id.NodeId) → r.path ≡ rust.Some n → (o : rust.Option (code_id.NodeId × ℕ)) → Next (nodes_of s) r.after n.0 o → (k : code_id.NodeId) (j : ℕ) → o ≡ rust.Some (k, j)
      → NextIn (nodes_of s) r (rust.Some (k, record { path = r.path; after = j }))
  unfolding Next NextIn attrs_from node_of
  rest_next n q o e k j h = let f = rw h at e in record { items = rw q f.items; onward = f.onward; inside = omega (arith, f.inside, kids_few s n.0) }

-- what a caller knows of the answer
module _ (nodes : List Node) (r : Rest) (o : rust.Option (code_id.NodeId × Rest)) (e : NextIn nodes r o) where
  pub in_first : (k : code_id.NodeId) (more : Rest) → o ≡ rust.Some (k, more) → FirstIn nodes r k.0 more
  unfolding NextIn
  in_first k more q = rw q at e

-- ---- where the entries begin
module _ (nodes : List Node) (n : NodeId) (k : ℕ) (e : k ≡ kind nodes n) where
  pub entries_after : k ≡ 12 → FirstEntry nodes n 1
  unfolding entries_of
  entries_after h = record { says = λ lower merge. rw (← e, eq-eqb k 12 h) (items_after_are nodes n) }

  pub entries_all : (k ≡ 12 → ⊥) → FirstEntry nodes n 0
  unfolding entries_of
  entries_all h = record { says = λ lower merge. rw (← e, ne_eqb k 12 h) (items_are nodes n) }

-- ---- a value that merges into a nested set
module _ (s : List ℕ) (z : SetId) (key : Text) (v : code_id.NodeId) (k : ℕ) (e : k ≡ kind (nodes_of s) v.0) where
  pub into_unlike : (k ≡ 16 → ⊥) → GoesInto s z key (some v.0) rust.None
  unfolding into_of nested_for
  into_unlike h = record { says = λ _. go (nested_at (find z key (state_of s)) (state_of s)) }
    where
      go : (t : Option SetId) → none ≡ nested_for (nodes_of s) t (some v.0)
      go none = refl
      go (some t) = rw (← e, ne_eqb k 16 h)

  module _ (h : k ≡ 16) (m : rust.Option code_set.SetId) (g : Lowerable s → maybe_set_of m ≡ nested_at (find z key (state_of s)) (state_of s)) where
    pub into_merged : (t : code_set.SetId) → m ≡ rust.Some t → GoesInto s z key (some v.0) (rust.Some (t, v))
    unfolding into_of nested_for maybe_set_of
    into_merged t q = record { says = λ c. rw (← g c, q, ← e, eq-eqb k 16 h) }

    pub into_new : m ≡ rust.None → GoesInto s z key (some v.0) rust.None
    unfolding into_of nested_for maybe_set_of
    into_new q = record { says = λ c. rw (← g c, q) }

module _ (s : List ℕ) (z : SetId) (key : Text) (place : rust.Option code_id.NodeId) where
  pub into_node : (v : code_id.NodeId) → place ≡ rust.Some v → {r : rust.Option (code_set.SetId × code_id.NodeId)} → GoesInto s z key (some v.0) r → GoesInto s z key (node_of place) r
  unfolding node_of
  into_node v q g = rw q g

  pub into_none : place ≡ rust.None → GoesInto s z key (node_of place) rust.None
  unfolding node_of into_of nested_for
  into_none q = rw q (record { says = λ _. refl })
