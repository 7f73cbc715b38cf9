-- The order of entries is total, and its tests agree with one another. Assumes nothing.
use mathlib.Core.Path.{◌≡◌, refl, sym, ◌∙◌}
use mathlib.Core.Bool.{Bool, true, false}
use mathlib.Core.List.{List, ◌∷◌}
use Prim.Native.Nat.{ℕ, ◌<◌, ◌≤◌}
use lib.Dec.{ltb}
use borrow.Author.Tests.{ltb-true, ltb-false}
use Rattle.std.specs.Ordering.{ordering_reverse}
use Rattle.words.specs.Order.{order}
use Rattle.std.specs.declared.cmp.Ordering.{Ordering}
use Rattle.std.specs.declared.cmp.Ordering.TheVariants.{Less, Equal, Greater}
use Rattle.words.proofs.OrderLaws.{order_refl, order_equal, order_flip, order_trans, order_lt, order_gt, order_same}
use Rattle.spec.specs.State.{MergingEntry}
use Rattle.spec.specs.Merge.{set_of}
use Rattle.spec.proofs.general.BoolLaws.{differ}
use Rattle.open_sets.specs.Ranks.{class_of, key_of, standing, rank, before, after}
use Rattle.std.specs.Ordering.{is_gt, is_lt}

-- ---- lists of bytes
-- the first is less, or the same
abbrev pub Le : List ℕ → List ℕ → Type 0
Le a b = is_gt (order a b) ≡ false

abbrev pub Gt : List ℕ → List ℕ → Type 0
Gt a b = is_gt (order a b) ≡ true

-- one of the two holds
pub either : {C : Type 0} (a b : List ℕ) → (Le a b → C) → (Gt a b → C) → C
either {C} a b f g = go (is_gt (order a b)) refl
  where
    go : (t : Bool) → is_gt (order a b) ≡ t → C
    go true p = g p
    go false p = f p

-- and not both
pub not_both : {C : Type 0} (a b : List ℕ) → Le a b → Gt a b → C
not_both a b p q = differ (sym q ∙ p)

pub le_refl : (a : List ℕ) → Le a a
le_refl a = rw (order_refl a)

pub gt_order : (a b : List ℕ) → Gt a b → order a b ≡ Greater
gt_order a b h = go (order a b) refl
  where
    go : (o : Ordering) → order a b ≡ o → order a b ≡ Greater
    go Less p = differ (sym (rw p at h))
    go Equal p = differ (sym (rw p at h))
    go Greater p = p

-- the lists change places
pub less_is_greater : (a b : List ℕ) → is_lt (order a b) ≡ is_gt (order b a)
less_is_greater a b = rw (order_flip a b) (go (order a b))
  where
    go : (o : Ordering) → is_lt o ≡ is_gt (ordering_reverse o)
    go Less = refl
    go Equal = refl
    go Greater = refl

pub gt_le : (a b : List ℕ) → Gt a b → Le b a
gt_le a b h = rw (order_flip a b, gt_order a b h)

pub le_trans : (a b d : List ℕ) → Le a b → Le b d → Le a d
le_trans a b d h k = go (order a b) (order b d) refl refl
  where
    go : (o p : Ordering) → order a b ≡ o → order b d ≡ p → Le a d
    go Equal p q r = rw (order_equal a b q) k
    go Less Less q r = rw (order_trans a b d q r)
    go Less Equal q r = rw (← (order_equal b d r)) h
    go Less Greater q r = differ (rw r at k)
    go Greater p q r = differ (rw q at h)

-- what is greater than something stays so further on
pub le_gt : (a b d : List ℕ) → Le a b → Gt a d → Gt b d
le_gt a b d h k = either b d (λ l. not_both a d (le_trans a b d h l) k) (λ g. g)

-- neither is greater
pub le_both : (a b : List ℕ) → Le a b → Le b a → a ≡ b
le_both a b h k = go (order a b) refl
  where
    go : (o : Ordering) → order a b ≡ o → a ≡ b
    go Less p = differ (rw (order_flip a b, p) at k)
    go Equal p = order_equal a b p
    go Greater p = differ (rw p at h)

-- ---- entries
-- by the sets alone
pub set_below : (x y : MergingEntry) → set_of x < set_of y → rank x y ≡ Less
unfolding rank standing
set_below x y h = order_lt (set_of x) (set_of y) (class_of x ∷ key_of x) (class_of y ∷ key_of y) h

-- by the classes
pub class_below : (x y : MergingEntry) → set_of x ≡ set_of y → class_of x < class_of y → rank x y ≡ Less
unfolding rank standing
class_below x y e h = order_same (set_of x) (set_of y) (class_of x ∷ key_of x) (class_of y ∷ key_of y) e ∙ order_lt (class_of x) (class_of y) (key_of x) (key_of y) h

pub less_le : (x y : MergingEntry) → rank x y ≡ Less → Le (standing x) (standing y)
unfolding rank
less_le x y h = rw h

pub less_gt : (x y : MergingEntry) → rank x y ≡ Less → Gt (standing y) (standing x)
unfolding rank
less_gt x y h = rw (order_flip (standing x) (standing y), h)

-- nothing is of a lower set where it is not before
pub set_le : (x y : MergingEntry) → Le (standing x) (standing y) → set_of x ≤ set_of y
unfolding standing
set_le x y h = go (ltb (set_of y) (set_of x)) refl
  where
    go : (t : Bool) → ltb (set_of y) (set_of x) ≡ t → set_of x ≤ set_of y
    go true p = differ (rw (order_gt (set_of x) (set_of y) (class_of x ∷ key_of x) (class_of y ∷ key_of y) (ltb-true _ _ p)) at h)
    go false p = ltb-false _ _ p

pub before_is : (x y : MergingEntry) → before x y ≡ after y x
unfolding before after rank
before_is x y = less_is_greater (standing x) (standing y)

pub after_le : (x y : MergingEntry) → after x y ≡ false → Le (standing x) (standing y)
unfolding after rank
after_le x y h = h

pub after_gt : (x y : MergingEntry) → after x y ≡ true → Gt (standing x) (standing y)
unfolding after rank
after_gt x y h = h

pub after_less : (x y : MergingEntry) → rank x y ≡ Less → after x y ≡ false
unfolding after
after_less x y h = rw h
