-- The expression that makes the key of an attribute is the attribute itself, where it is a string, or one inside it.
-- Assumes nothing.
use mathlib.Core.Path.{◌≡◌, refl, sym, ◌∙◌}
use mathlib.Core.Bool.{Bool, true, false, ◌||◌}
use mathlib.Core.List.{List}
use mathlib.Core.Option.{Option, none, some}
use Prim.Native.Nat.{ℕ, zero, suc, ◌≤◌, ◌<◌}
use native.Mathlib.Omega.{arith}
use lib.Dec.{eqb}
use borrow.Author.Tests.{eqb-true}
use Rattle.words.specs.Order.{pick}
use Rattle.spec.specs.Basics.{Text, NodeId, maybe}
use Rattle.spec.specs.Kinds.{Slot, expression, attribute, entry, part, parameter, takes, kind_of, kinds}
use Rattle.spec.specs.Sheet.{Node}
use Rattle.spec.specs.Keys.{AttrKind, static_key, dynamic_key, kind, text, kid, flatten_paren, get_str_literal, str_key, inside_dynamic, attr_kind}
use Rattle.spec.proofs.tree.Subtrees.{Sub, Place, absent, here, sub_more, one_of}

-- ---- what the slots take
or-false : (p q : Bool) → p || q ≡ true → p ≡ false → q ≡ true
or-false true q e f = let z : ◌≡◌ {A = ℕ} 0 1 = cc in absurd (omega arith)
or-false false q e f = e

pub entry_kind : (k : ℕ) → takes entry k ≡ true → eqb k 26 ≡ false → k ≡ 25
unfolding takes
entry_kind k e f = go (eqb k 25) refl
  where
    go : (b : Bool) → eqb k 25 ≡ b → k ≡ 25
    go true h = eqb-true k 25 h
    go false h = let z : ◌≡◌ {A = Bool} true false = sym (or-false (eqb k 25) (eqb k 26) e h) ∙ f in let y : ◌≡◌ {A = ℕ} 0 1 = cc in absurd (omega arith)

pub part_kind : (k : ℕ) → takes part k ≡ true → eqb k 32 ≡ false → k ≡ 33
unfolding takes
part_kind k e f = eqb-true k 33 (or-false (eqb k 32) (eqb k 33) e f)

pub parameter_kind : (k : ℕ) → takes parameter k ≡ true → eqb k 28 ≡ false → k ≡ 29
unfolding takes
parameter_kind k e f = eqb-true k 29 (or-false (eqb k 28) (eqb k 29) e f)

pub attribute_kind : (k : ℕ) → takes attribute k ≡ true → eqb k 18 ≡ false → eqb k 6 ≡ false → k ≡ 24
unfolding takes
attribute_kind k e f g = eqb-true k 24 (or-false (eqb k 6 || eqb k 18) (eqb k 24) e (rw g f))

-- ---- an expression inside
module _ (nodes : List Node) where
  -- a node after a whose subtree ends by h, or none
  pub data Inside (b : ℕ) : Option NodeId → ℕ → ℕ → Type 0 where
    nowhere : {a h : ℕ} → Inside b none a h
    somewhere : {k m a h : ℕ} → a < k → m ≤ h → Sub nodes b k m → Inside b (some k) a h

  pub place_inside : {b : ℕ} {slot : Slot} {p : Option NodeId} {a h : ℕ} (c d : ℕ) → c ≤ a → h ≤ d → Place nodes b slot p a h → Inside b p c d
  place_inside c d i j absent = nowhere
  place_inside c d i j (here {k = k} {a = a} z) = let l : c < k = omega (arith, z.next) in somewhere l j z.sub

  flatten_inside : {b : ℕ} (f : ℕ) (p : Option NodeId) (a h : ℕ) → Inside b p a h → Inside b (flatten_paren nodes f p) a h
  unfolding flatten_paren kind_of kinds
  flatten_inside zero p a h i = i
  flatten_inside (suc f) none a h i = nowhere
  flatten_inside {b} (suc f) (some n) a h (somewhere {m = m} i j s) = go (eqb (kind nodes n) 15) refl (λ q. flatten_inside f q a h)
    where
      go : (t : Bool) → eqb (kind nodes n) 15 ≡ t → ((q : Option NodeId) → Inside b q a h → Inside b (flatten_paren nodes f q) a h) → Inside b (elim t as (λ _. Option NodeId) [ true ↦ flatten_paren nodes f (kid nodes 0 n) | false ↦ some n ]) a h
      go true e r =
          let z = one_of nodes 15 expression (sub_more nodes (suc b) (omega arith) s) (eqb-true (kind nodes n) 15 e) refl in
          r (kid nodes 0 n) (place_inside a h (omega arith) (omega (arith, z.ends)) z.first)
      go false e r = somewhere i j s

  -- the expression of a key of the attribute a
  pub data KeyExpr (b : ℕ) (a h : ℕ) : Option NodeId → Type 0 where
    whole : kind nodes a ≡ 6 → KeyExpr b a h (some a)
    within : {p : Option NodeId} → Inside b p a h → KeyExpr b a h p

  abbrev pub Key : ℕ → ℕ → ℕ → AttrKind → Type 0
  Key b a h (static_key t) = Unit {0}
  Key b a h (dynamic_key p) = KeyExpr b a h p

  str_key_lem : {b a h : ℕ} (n : NodeId) → KeyExpr b a h (some n) → Key b a h (str_key nodes n)
  unfolding str_key
  str_key_lem {b} {a} {h} n k = go (get_str_literal nodes n)
    where
      go : (t : Option Text) → Key b a h (maybe t (dynamic_key (some n)) static_key)
      go none = k
      go (some t) = tt

  inside_key : {b a h : ℕ} (p : Option NodeId) → Inside b p a h → Key b a h (inside_dynamic nodes p)
  unfolding inside_dynamic
  inside_key none i = within nowhere
  inside_key {b} {a} {h} (some n) i = go (eqb (kind nodes n) 6)
    where
      go : (t : Bool) → Key b a h (pick t (str_key nodes n) (dynamic_key (some n)))
      go true = str_key_lem n (within i)
      go false = within i

  pub key_of_lem : {b a h : ℕ} → Sub nodes b a h → takes attribute (kind nodes a) ≡ true → Key b a h (attr_kind nodes a)
  unfolding attr_kind kind_of kinds
  key_of_lem {b} {a} {h} s t = go (eqb (kind nodes a) 18) (eqb (kind nodes a) 6) refl refl
    where
      go : (p q : Bool) → eqb (kind nodes a) 18 ≡ p → eqb (kind nodes a) 6 ≡ q → Key b a h (pick p (static_key (text nodes a)) (pick q (str_key nodes a) (inside_dynamic nodes (flatten_paren nodes 256 (kid nodes 0 a)))))
      go true q e f = tt
      go false true e f = str_key_lem a (whole (eqb-true (kind nodes a) 6 f))
      go false false e f =
          let z = one_of nodes 24 expression (sub_more nodes (suc b) (omega arith) s) (attribute_kind (kind nodes a) t e f) refl in
          inside_key _ (flatten_inside 256 (kid nodes 0 a) a h (place_inside a h (omega arith) z.ends z.first))
