-- `order` is the order of the library's slices, and so a strict total order of lists: `Equal` of equal lists alone, the
-- other way round where the lists change places, and `Less` is transitive. Assumes nothing.
use mathlib.Core.Path.{◌≡◌, refl, sym, ap, ◌∙◌}
use mathlib.Core.List.{List, [], ◌∷◌}
use Prim.Native.Nat.{ℕ, ◌<◌}
use Rattle.std.specs.declared.cmp.Ordering.TheVariants.{Less, Equal, Greater}
use Rattle.std.specs.Ordering.{nat_cmp, ordering_reverse, ordering_then}
use Rattle.std.specs.Cmp.{nat_cmp_is, tied_itself}
use Rattle.std.specs.Cmp.Lexicographic.{slice_cmp}
use Rattle.std.proofs.lemmas.Cmp.{nat_list_cmp_total}
use Rattle.std.proofs.lemmas.Map.Lookups.{exact_bytes}
use Rattle.words.specs.Order.{order}

pub order_is : (xs ys : List ℕ) → order xs ys ≡ slice_cmp nat_cmp xs ys
unfolding order
order_is [] [] = refl
order_is [] (y ∷ ys) = refl
order_is (x ∷ xs) [] = refl
order_is (x ∷ xs) (y ∷ ys) = ap (ordering_then (nat_cmp x y)) (order_is xs ys)

-- ---- by the first bytes
module _ (x y : ℕ) (xs ys : List ℕ) where
  pub order_lt : x < y → order (x ∷ xs) (y ∷ ys) ≡ Less
  unfolding order
  order_lt h = rw (← nat_cmp_is x y Less h)

  pub order_gt : y < x → order (x ∷ xs) (y ∷ ys) ≡ Greater
  unfolding order
  order_gt h = rw (← nat_cmp_is x y Greater h)

  pub order_same : x ≡ y → order (x ∷ xs) (y ∷ ys) ≡ order xs ys
  unfolding order
  order_same e = rw (← nat_cmp_is x y Equal e)

-- ---- two lists
pub order_refl : (xs : List ℕ) → order xs xs ≡ Equal
order_refl xs = order_is xs xs ∙ tied_itself nat_list_cmp_total xs

pub order_equal : (xs ys : List ℕ) → order xs ys ≡ Equal → xs ≡ ys
order_equal xs ys h = exact_bytes xs ys (sym (order_is xs ys) ∙ h)

pub order_flip : (xs ys : List ℕ) → order ys xs ≡ ordering_reverse (order xs ys)
order_flip xs ys = order_is ys xs ∙ nat_list_cmp_total.antisymm ys xs ∙ ap ordering_reverse (sym (order_is xs ys))

pub order_trans : (xs ys zs : List ℕ) → order xs ys ≡ Less → order ys zs ≡ Less → order xs zs ≡ Less
order_trans xs ys zs h k =
    order_is xs zs ∙ nat_list_cmp_total.trans xs ys zs (sym (order_is xs ys) ∙ h) (sym (order_is ys zs) ∙ k)
