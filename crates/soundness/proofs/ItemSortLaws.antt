-- An item of an expression's lists, sort by sort: what the expression says of its numbers is what the test asks of the
-- item's words. Assumes nothing.
use mathlib.Core.Path.{◌≡◌, subst}
use mathlib.Core.Bool.{true, ◌&&◌, ◌||◌}
use mathlib.Core.List.{List, [], ◌∷◌, ◌++◌}
use Prim.Native.Nat.{ℕ, ◌≤◌, ◌<◌}
use lib.Dec.{eqb, leb}
use lib.ListN.{get_or}
use Rattle.words.specs.Words.{word}
use Rattle.spec.specs.Basics.{ExprId}
use Rattle.spec.specs.Scopes.{one_or_none, field_names, field_defaults, pat_fields, interpolated, keys_and_values, form}
use Rattle.spec.proofs.general.Sums.{All, all_left, all_right, all_get_d}
use Rattle.spec.proofs.sound.Ordered.{AllBelow}
use Rattle.spec.proofs.sound.Numbers.{static_names, static_values}
use Rattle.layout.specs.Layout.{name_count}
use Rattle.layout.specs.Exprs.{Item, text, item_of, children, parts, fields, statics, dynamics, bindings, pattern, expr_of}
use Rattle.soundness.specs.Sound.{tag_fits, numbers_fit}
use Rattle.soundness.specs.Coded.{part_coded}
use Rattle.soundness.proofs.NumberLaws.{by_sort, no_such}
use Rattle.spec.proofs.sound.Lowered.{InRow}
use Rattle.soundness.proofs.ItemLaws.{ChildBelow, FieldBelow, BindingBelow, from_children, from_parts, from_fields, from_bindings, child_fits, part_fits, field_fits, binding_fits}

-- the item at the place j of an expression's items, by its words
module _ (s : List ℕ) (e : ExprId) (a b c : ℕ) (is : List Item) (j tag x y : ℕ) (stands : get_or is j (text []) ≡ item_of s tag x y) where
  known : (P : Item → Type 0) → P (text []) → All P is → P (item_of s tag x y)
  known P p h = subst P stands (all_get_d P is j (text []) p h)

  abbrev n : ℕ
  n = word s name_count

  of_children : AllBelow e (children is) → eqb tag 0 ≡ true → part_coded s tag x ≡ true → numbers_fit s e tag x y ≡ true
  of_children h t p = child_fits s e x y tag t (known (ChildBelow e n) tt (from_children e n is h)) p

  of_parts : AllBelow e (interpolated (parts is)) → leb tag 1 ≡ true → part_coded s tag x ≡ true → numbers_fit s e tag x y ≡ true
  of_parts h t p = part_fits s e x y tag t (known (ChildBelow e n) tt (from_parts e n is h)) p

  of_pattern : AllBelow n (field_names (fields is)) → AllBelow e (field_defaults (fields is) ++ (a ∷ [])) → (leb 2 tag && leb tag 5) ≡ true → part_coded s tag x ≡ true → numbers_fit s e tag x y ≡ true
  of_pattern names h t p =
      field_fits s e x y tag t (known (FieldBelow e n) tt (from_fields e n is names (all_left (λ i. i < e) (field_defaults (fields is)) (a ∷ []) h))) p

  -- with whatever comes after the bindings
  of_bindings : (rest : List ExprId) → AllBelow n (static_names (statics is)) → AllBelow e (static_values (statics is) ++ (children is ++ (keys_and_values (dynamics is) ++ rest)))
      → (eqb tag 0 || (leb 6 tag && leb tag 9)) ≡ true → part_coded s tag x ≡ true → numbers_fit s e tag x y ≡ true
  of_bindings rest names h t p =
      let values = static_values (statics is) in
      let pairs = keys_and_values (dynamics is) in
      let after_values = all_right (λ i. i < e) values (children is ++ (pairs ++ rest)) h in
      let after_sources = all_right (λ i. i < e) (children is) (pairs ++ rest) after_values in
      let v = all_left (λ i. i < e) values (children is ++ (pairs ++ rest)) h in
      let c = all_left (λ i. i < e) (children is) (pairs ++ rest) after_values in
      let d = all_left (λ i. i < e) pairs rest after_sources in
      binding_fits s e x y tag t (known (BindingBelow e n) tt (from_bindings e n is names v c d)) p

  -- from 0 to 28
  abbrev ItemAt : ℕ → Type 0
  ItemAt sort = InRow e n (expr_of s sort a b c is) → tag_fits sort tag ≡ true → part_coded s tag x ≡ true → numbers_fit s e tag x y ≡ true

  pub item_fits_lem : (sort : ℕ) → sort ≤ 28 → ItemAt sort
  unfolding expr_of form tag_fits field_defaults field_names pat_fields one_or_none pattern bindings
  item_fits_lem sort l =
      by_sort ItemAt
      -- 0 to 10: no items
      (λ h t. no_such t)
      (λ h t. no_such t)
      (λ h t. no_such t)
      (λ h t. no_such t)
      (λ h t. no_such t)
      (λ h t. no_such t)
      (λ h t. no_such t)
      (λ h t. no_such t)
      (λ h t. no_such t)
      (λ h t. no_such t)
      (λ h t. no_such t)
      -- 11 to 14: a pattern
      (λ h. of_pattern h.names h.children)
      (λ h. of_pattern h.names.1 h.children)
      (λ h. of_pattern h.names h.children)
      (λ h. of_pattern h.names.1 h.children)
      -- 15, 18, 19: bindings
      (λ h. of_bindings (a ∷ []) h.names h.children)
      (λ h. of_children h.children)
      (λ h t. no_such t)
      (λ h. of_bindings [] h.names h.children)
      (λ h. of_bindings [] h.names h.children)
      (λ h t. no_such t)
      (λ h t. no_such t)
      -- 22 to 24: a path
      (λ h. of_children (all_left (λ i. i < e) (children is) [] h.children.1))
      (λ h. of_children (all_left (λ i. i < e) (children is) (b ∷ []) h.children.1))
      (λ h. of_children h.children.1)
      (λ h t. no_such t)
      (λ h t. no_such t)
      -- 27, 28: parts
      (λ h. of_parts h.children)
      (λ h. of_parts h.children)
      sort l
