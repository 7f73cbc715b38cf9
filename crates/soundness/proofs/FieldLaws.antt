-- The words of an expression's row, sort by sort: what the expression says of its numbers is what the test asks.
-- Assumes nothing.
use mathlib.Core.Path.{◌≡◌, refl}
use mathlib.Core.Bool.{Bool, true, false, ◌&&◌}
use mathlib.Core.List.{List, [], ◌∷◌, ◌++◌}
use mathlib.Mathlib.Data.Bool.Basic.{and_intro}
use Prim.Native.Nat.{ℕ, ◌≤◌, ◌<◌}
use native.Mathlib.Omega.{arith}
use lib.Dec.{leb, ltb}
use borrow.Author.Tests.{lt-ltb, le-leb, leb-true, leb-false, ne_eqb}
use Rattle.words.specs.Words.{word}
use Rattle.spec.specs.Basics.{ExprId}
use Rattle.spec.specs.Scopes.{one_or_none, field_names, field_defaults, pat_fields, keys_and_values, form}
use Rattle.spec.proofs.general.Sums.{all_right}
use Rattle.spec.proofs.sound.Ordered.{AllBelow}
use Rattle.spec.proofs.sound.Numbers.{static_values}
use Rattle.layout.specs.Layout.{name_count}
use Rattle.layout.specs.Exprs.{Item, children, fields, statics, dynamics, bindings, pattern, expr_of}
use Rattle.soundness.specs.Sound.{name_fits, fields_fit}
use Rattle.soundness.specs.Coded.{fields_coded}
use Rattle.soundness.proofs.NumberLaws.{by_sort}
use Rattle.spec.proofs.sound.Lowered.{InRow}

-- ---- a sort that there is
pub sort_in : (s : List ℕ) (sort a b : ℕ) → fields_coded s sort a b ≡ true → sort ≤ 28
unfolding fields_coded
sort_in s sort a b h = by (leb sort 28) refl
  where
    by : (q : Bool) → leb sort 28 ≡ q → sort ≤ 28
    by true l = leb-true sort 28 l
    by false l =
        let above : 28 < sort = leb-false sort 28 l in
        leb-true sort 28 (rw (
          ne_eqb sort 4 (λ q. omega arith),
          ne_eqb sort 5 (λ q. omega arith),
          ne_eqb sort 6 (λ q. omega arith),
          ne_eqb sort 7 (λ q. omega arith),
          ne_eqb sort 21 (λ q. omega arith),
        ) at h)

-- ---- its words
module _ (s : List ℕ) (e : ExprId) (a b c : ℕ) (is : List Item) where
  one : (x : ℕ) → x < e → ltb x e ≡ true
  one x l = lt-ltb x e l

  two : a < e → b < e → (ltb a e && ltb b e) ≡ true
  two l m = and_intro (one a l) (one b m)

  three : a < e → b < e → c < e → (ltb a e && (ltb b e && ltb c e)) ≡ true
  three l m k = and_intro (one a l) (and_intro (one b m) (one c k))

  named : a < e → b < word s name_count → (ltb a e && name_fits s b) ≡ true
  unfolding name_fits
  named l m = and_intro (one a l) (lt-ltb b (word s name_count) m)

  binary : a < e → b < e → (1 ≤ c) × (c ≤ 15) → (ltb a e && (ltb b e && (leb 1 c && leb c 15))) ≡ true
  binary l m o = and_intro (one a l) (and_intro (one b m) (and_intro (le-leb 1 c o.0) (le-leb c 15 o.1)))

  unary : (1 ≤ a) × (a ≤ 2) → b < e → (leb 1 a && (leb a 2 && ltb b e)) ≡ true
  unary o m = and_intro (le-leb 1 a o.0) (and_intro (le-leb a 2 o.1) (one b m))

  -- the body of a function comes after the defaults
  body : AllBelow e (field_defaults (fields is) ++ (a ∷ [])) → a < e
  body h = (all_right (λ x. x < e) (field_defaults (fields is)) (a ∷ []) h).0

  -- that of a let after its bindings
  let_body : (xs ys zs : List ExprId) → AllBelow e (xs ++ (ys ++ (zs ++ (a ∷ [])))) → a < e
  let_body xs ys zs h =
      let after_values = all_right (λ x. x < e) xs (ys ++ (zs ++ (a ∷ []))) h in
      let after_sources = all_right (λ x. x < e) ys (zs ++ (a ∷ [])) after_values in
      (all_right (λ x. x < e) zs (a ∷ []) after_sources).0

  -- the default of a Select after its path
  default_below : AllBelow e (children is ++ (b ∷ [])) → b < e
  default_below h = (all_right (λ x. x < e) (children is) (b ∷ []) h).0

  -- sort by sort, from 0 to 28
  abbrev FieldsAt : ℕ → Type 0
  FieldsAt sort = InRow e (word s name_count) (expr_of s sort a b c is) → fields_coded s sort a b ≡ true → fields_fit s e sort a b c ≡ true

  pub fields_fit_lem : (sort : ℕ) → InRow e (word s name_count) (expr_of s sort a b c is) → fields_coded s sort a b ≡ true → fields_fit s e sort a b c ≡ true
  unfolding expr_of form fields_fit fields_coded field_defaults field_names pat_fields one_or_none pattern bindings
  fields_fit_lem sort h f =
      by_sort FieldsAt
      -- Missing without a pointer and with one, Apply, IfThenElse
      (λ h f. refl)
      (λ h f. refl)
      (λ h f. two h.children.0 h.children.1.0)
      (λ h f. three h.children.0 h.children.1.0 h.children.1.1.0)
      -- 4 to 8: literals
      (λ h f. f)
      (λ h f. f)
      (λ h f. f)
      (λ h f. f)
      (λ h f. refl)
      -- 9 to 14: Lambda
      (λ h f. one a h.children.0)
      (λ h f. named h.children.0 h.names.0)
      (λ h f. one a (body h.children))
      (λ h f. named (body h.children) h.names.0)
      (λ h f. one a (body h.children))
      (λ h f. named (body h.children) h.names.0)
      -- 15 to 21: LetIn, List, BinOp, AttrSet plain and rec, UnaryOp, Reference
      (λ h f. one a (let_body (static_values (statics is)) (children is) (keys_and_values (dynamics is)) h.children))
      (λ h f. refl)
      (λ h f. binary h.children.0 h.children.1.0 h.operator)
      (λ h f. refl)
      (λ h f. refl)
      (λ h f. unary h.operator h.children.0)
      (λ h f. f)
      -- 22 to 24: Select without a default and with one, HasAttr
      (λ h f. one a h.children.0)
      (λ h f. two h.children.0 (default_below h.children.1))
      (λ h f. one a h.children.0)
      -- 25 to 28: With, Assert, interpolations
      (λ h f. two h.children.0 h.children.1.0)
      (λ h f. two h.children.1.0 h.children.0)
      (λ h f. f)
      (λ h f. f)
      sort (sort_in s sort a b f) h f
