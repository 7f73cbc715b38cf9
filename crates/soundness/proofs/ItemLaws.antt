-- The items of an expression: the numbers in its lists are those of its items. Assumes nothing.
use mathlib.Core.Path.{◌≡◌, refl}
use mathlib.Core.Bool.{Bool, true, false, ◌&&◌, ◌||◌}
use mathlib.Core.List.{List, [], ◌∷◌}
use mathlib.Mathlib.Data.Bool.Basic.{and_elim_right, and_intro}
use Prim.Native.Nat.{ℕ, ◌≤◌, ◌<◌}
use native.Mathlib.Omega.{arith}
use lib.Dec.{eqb, leb, ltb}
use borrow.Author.Tests.{lt-ltb, leb-true, eqb-true}
use Rattle.words.specs.Words.{word}
use Rattle.spec.specs.Basics.{ExprId}
use Rattle.spec.specs.Scopes.{one_or_none, field_names, field_defaults, interpolated, keys_and_values}
use Rattle.spec.proofs.general.Sums.{All, all_left, all_right}
use Rattle.spec.proofs.sound.Ordered.{AllBelow}
use Rattle.spec.proofs.sound.Numbers.{value_number, static_names, static_values}
use Rattle.layout.specs.Layout.{name_count}
use Rattle.layout.specs.Exprs.{Item, child, text, field, static, dynamic, item_of, children, parts, fields, statics, dynamics}
use Rattle.soundness.specs.Sound.{name_fits, numbers_fit}
use Rattle.soundness.specs.Coded.{part_coded}
use Rattle.soundness.proofs.NumberLaws.{by_tag, no_such}

-- ---- items of an expression numbered e where there are n names, by the list that they stand in
module _ (e n : ℕ) where
  -- of a list, a path, the parts of an interpolation
  abbrev pub ChildBelow : Item → Type 0
  ChildBelow (child c) = c < e
  ChildBelow (text t) = Unit {0}
  ChildBelow (field x d) = Unit {0}
  ChildBelow (static x v) = Unit {0}
  ChildBelow (dynamic k v) = Unit {0}

  -- of a pattern
  abbrev pub FieldBelow : Item → Type 0
  FieldBelow (child c) = Unit {0}
  FieldBelow (text t) = Unit {0}
  FieldBelow (field x d) = AllBelow n (one_or_none x) × AllBelow e (one_or_none d)
  FieldBelow (static x v) = Unit {0}
  FieldBelow (dynamic k v) = Unit {0}

  -- of bindings
  abbrev pub BindingBelow : Item → Type 0
  BindingBelow (child c) = c < e
  BindingBelow (text t) = Unit {0}
  BindingBelow (field x d) = Unit {0}
  BindingBelow (static x v) = (x < n) × (value_number v < e)
  BindingBelow (dynamic k v) = (k < e) × (v < e)

  -- ---- from the lists to the items
  pub from_children : (is : List Item) → AllBelow e (children is) → All ChildBelow is
  unfolding children
  from_children [] h = tt
  from_children (child c ∷ is) h = (h.0, from_children is h.1)
  from_children (text t ∷ is) h = (tt, from_children is h)
  from_children (field x d ∷ is) h = (tt, from_children is h)
  from_children (static x v ∷ is) h = (tt, from_children is h)
  from_children (dynamic k v ∷ is) h = (tt, from_children is h)

  pub from_parts : (is : List Item) → AllBelow e (interpolated (parts is)) → All ChildBelow is
  unfolding parts interpolated
  from_parts [] h = tt
  from_parts (child c ∷ is) h = (h.0, from_parts is h.1)
  from_parts (text t ∷ is) h = (tt, from_parts is h)
  from_parts (field x d ∷ is) h = (tt, from_parts is h)
  from_parts (static x v ∷ is) h = (tt, from_parts is h)
  from_parts (dynamic k v ∷ is) h = (tt, from_parts is h)

  pub from_fields : (is : List Item) → AllBelow n (field_names (fields is)) → AllBelow e (field_defaults (fields is)) → All FieldBelow is
  unfolding fields field_names field_defaults
  from_fields [] x d = tt
  from_fields (child c ∷ is) x d = (tt, from_fields is x d)
  from_fields (text t ∷ is) x d = (tt, from_fields is x d)
  from_fields (field y v ∷ is) x d = (
    (all_left (λ i. i < n) (one_or_none y) (field_names (fields is)) x, all_left (λ i. i < e) (one_or_none v) (field_defaults (fields is)) d),
    from_fields is (all_right (λ i. i < n) (one_or_none y) (field_names (fields is)) x) (all_right (λ i. i < e) (one_or_none v) (field_defaults (fields is)) d),
  )
  from_fields (static y v ∷ is) x d = (tt, from_fields is x d)
  from_fields (dynamic k v ∷ is) x d = (tt, from_fields is x d)

  pub from_bindings : (is : List Item) → AllBelow n (static_names (statics is)) → AllBelow e (static_values (statics is)) → AllBelow e (children is)
      → AllBelow e (keys_and_values (dynamics is)) → All BindingBelow is
  unfolding statics children dynamics keys_and_values
  from_bindings [] x v c d = tt
  from_bindings (child i ∷ is) x v c d = (c.0, from_bindings is x v c.1 d)
  from_bindings (text t ∷ is) x v c d = (tt, from_bindings is x v c d)
  from_bindings (field y i ∷ is) x v c d = (tt, from_bindings is x v c d)
  from_bindings (static y i ∷ is) x v c d = ((x.0, v.0), from_bindings is x.1 v.1 c d)
  from_bindings (dynamic k i ∷ is) x v c d = ((d.0, d.1.0), from_bindings is x v c d.1.1)

-- ---- from an item to the test of its words, tag by tag
module _ (s : List ℕ) (e : ExprId) (a b : ℕ) where
  named : a < word s name_count → name_fits s a ≡ true
  unfolding name_fits
  named l = lt-ltb a (word s name_count) l

  named_child : a < word s name_count → b < e → (name_fits s a && ltb b e) ≡ true
  named_child l m = and_intro (named l) (lt-ltb b e m)

  -- the words of an item of which P is known, in a list that has items of such tags
  abbrev NumbersAt : (Item → Type 0) → (ℕ → Bool) → ℕ → Type 0
  NumbersAt P fits tag = fits tag ≡ true → P (item_of s tag a b) → part_coded s tag a ≡ true → numbers_fit s e tag a b ≡ true

  pub child_fits : (tag : ℕ) → NumbersAt (ChildBelow e (word s name_count)) (λ t. eqb t 0) tag
  unfolding item_of numbers_fit
  child_fits tag t h p = let z : tag ≡ 0 = eqb-true tag 0 t in rw z (lt-ltb a e (rw z at h))

  pub part_fits : (tag : ℕ) → NumbersAt (ChildBelow e (word s name_count)) (λ t. leb t 1) tag
  unfolding item_of numbers_fit part_coded
  part_fits tag t =
      let l : tag ≤ 1 = leb-true tag 1 t in
      by_tag (NumbersAt (ChildBelow e (word s name_count)) (λ t. leb t 1))
      (λ t h p. lt-ltb a e h)
      (λ t h p. p)
      no_such no_such no_such no_such no_such no_such no_such no_such
      tag (omega arith) t

  pub field_fits : (tag : ℕ) → NumbersAt (FieldBelow e (word s name_count)) (λ t. leb 2 t && leb t 5) tag
  unfolding item_of numbers_fit one_or_none
  field_fits tag t =
      let l : tag ≤ 5 = leb-true tag 5 (and_elim_right (leb 2 tag) (leb tag 5) t) in
      by_tag (NumbersAt (FieldBelow e (word s name_count)) (λ t. leb 2 t && leb t 5))
      no_such no_such
      (λ t h p. refl)
      (λ t h p. named h.0.0)
      (λ t h p. lt-ltb b e h.1.0)
      (λ t h p. named_child h.0.0 h.1.0)
      no_such no_such no_such no_such
      tag (omega arith) t

  pub binding_fits : (tag : ℕ) → NumbersAt (BindingBelow e (word s name_count)) (λ t. eqb t 0 || (leb 6 t && leb t 9)) tag
  unfolding item_of numbers_fit
  binding_fits tag t =
      by_tag (NumbersAt (BindingBelow e (word s name_count)) (λ t. eqb t 0 || (leb 6 t && leb t 9)))
      (λ t h p. lt-ltb a e h)
      no_such no_such no_such no_such no_such
      (λ t h p. named_child h.0 h.1)
      (λ t h p. named_child h.0 h.1)
      (λ t h p. named_child h.0 h.1)
      (λ t h p. and_intro (lt-ltb a e h.0) (lt-ltb b e h.1))
      tag (to_9 (eqb tag 0) refl) t
    where
      to_9 : (q : Bool) → eqb tag 0 ≡ q → tag ≤ 9
      to_9 true z = let z : tag ≡ 0 = eqb-true tag 0 z in omega arith
      to_9 false z = leb-true tag 9 (and_elim_right (leb 6 tag) (leb tag 9) (rw z at t))
