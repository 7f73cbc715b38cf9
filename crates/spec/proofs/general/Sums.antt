-- Sums over lists and over what is met from a number downwards, and what holds of every item of a list. Assumes
-- nothing.
use mathlib.Core.Path.{◌≡◌, refl}
use mathlib.Core.Bool.{Bool, true, false}
use mathlib.Core.List.{List, [], ◌∷◌, ◌++◌}
use Prim.Native.Nat.{ℕ, zero, suc, ◌+◌, ◌*◌, ◌≤◌, ◌<◌}
use native.Mathlib.Omega.{arith}
use lib.Dec.{eqb}
use lib.ListN.{length, get_or, set}
use borrow.Author.Tests.{eqb-true, eqb-false, eq-eqb}
use Rattle.words.specs.Order.{pick}

-- the sum of a list's items, each by its weight
abbrev pub sum_by : {A : Type 0} → (A → ℕ) → List A → ℕ
sum_by f [] = 0
sum_by f (x ∷ xs) = f x + sum_by f xs

-- what holds of every item of a list
abbrev pub All : {A : Type 0} → (A → Type 0) → List A → Type 0
All P [] = Unit {0}
All P (x ∷ xs) = P x × All P xs

-- 1 where two numbers are the same, and else 0
abbrev pub same : ℕ → ℕ → ℕ
same x y = pick (eqb x y) 1 0

pub same_le : (x y : ℕ) → same x y ≤ 1
same_le x y = go (eqb x y)
  where
    go : (b : Bool) → pick b 1 0 ≤ 1
    go true = omega arith
    go false = omega arith

pub same_is : (x : ℕ) → same x x ≡ 1
same_is x = rw (eq-eqb x x refl)

pub same_not : (x y : ℕ) → ¬ (x ≡ y) → same x y ≡ 0
same_not x y h = go (eqb x y) refl
  where
    go : (b : Bool) → eqb x y ≡ b → ◌≡◌ {A = ℕ} (pick b 1 0) 0
    go true p = absurd (h (eqb-true x y p))
    go false p = refl

-- two numbers are the same or not
pub compared : {C : Type 0} (x y : ℕ) → (x ≡ y → C) → (¬ (x ≡ y) → C) → C
compared {C} x y f g = go (eqb x y) refl
  where
    go : (b : Bool) → eqb x y ≡ b → C
    go true p = f (eqb-true x y p)
    go false p = g (eqb-false x y p)

-- ---- sums over lists
module _ {A : Type 0} where
  pub sum_append : (f : A → ℕ) (xs ys : List A) → sum_by f (xs ++ ys) ≡ sum_by f xs + sum_by f ys
  sum_append f [] ys = omega arith
  sum_append f (x ∷ xs) ys = let h = sum_append f xs ys in omega arith

  pub sum_le : (f g : A → ℕ) → ((x : A) → f x ≤ g x) → (xs : List A) → sum_by f xs ≤ sum_by g xs
  sum_le f g h [] = omega arith
  sum_le f g h (x ∷ xs) = let p = h x in let q = sum_le f g h xs in omega arith

  pub sum_add : (f g : A → ℕ) (xs : List A) → sum_by (λ x. f x + g x) xs ≡ sum_by f xs + sum_by g xs
  sum_add f g [] = omega arith
  sum_add f g (x ∷ xs) = let h = sum_add f g xs in omega arith

  pub sum_times : (w : ℕ) (f : A → ℕ) (xs : List A) → sum_by (λ x. w * f x) xs ≡ w * sum_by f xs
  sum_times w f [] = omega arith
  sum_times w f (x ∷ xs) = let h = sum_times w f xs in omega arith

  pub sum_zero : (xs : List A) → sum_by (λ x. 0) xs ≡ 0
  sum_zero [] = refl
  sum_zero (x ∷ xs) = let h = sum_zero xs in omega arith

  -- where the weights compare for what is in the list
  pub sum_le_all : (P : A → Type 0) (f g : A → ℕ) → ((x : A) → P x → f x ≤ g x) → (xs : List A) → All P xs → sum_by f xs ≤ sum_by g xs
  sum_le_all P f g h [] a = omega arith
  sum_le_all P f g h (x ∷ xs) a = let p = h x a.0 in let q = sum_le_all P f g h xs a.1 in omega arith

  pub all_append : (P : A → Type 0) (xs ys : List A) → All P xs → All P ys → All P (xs ++ ys)
  all_append P [] ys a b = b
  all_append P (x ∷ xs) ys a b = (a.0, all_append P xs ys a.1 b)

  pub all_left : (P : A → Type 0) (xs ys : List A) → All P (xs ++ ys) → All P xs
  all_left P [] ys a = tt
  all_left P (x ∷ xs) ys a = (a.0, all_left P xs ys a.1)

  pub all_right : (P : A → Type 0) (xs ys : List A) → All P (xs ++ ys) → All P ys
  all_right P [] ys a = a
  all_right P (x ∷ xs) ys a = all_right P xs ys a.1

  pub all_map : (P Q : A → Type 0) → ((x : A) → P x → Q x) → (xs : List A) → All P xs → All Q xs
  all_map P Q h [] a = tt
  all_map P Q h (x ∷ xs) a = (h x a.0, all_map P Q h xs a.1)

  pub all_get_d : (P : A → Type 0) (xs : List A) (i : ℕ) (d : A) → P d → All P xs → P (get_or xs i d)
  all_get_d P [] i d p a = p
  all_get_d P (x ∷ xs) zero d p a = a.0
  all_get_d P (x ∷ xs) (suc i) d p a = all_get_d P xs i d p a.1

  pub all_at : (P : A → Type 0) (xs : List A) (k : ℕ) (d : A) → k < length xs → All P xs → P (get_or xs k d)
  all_at P [] k d h a = absurd (omega arith)
  all_at P (x ∷ xs) zero d h a = a.0
  all_at P (x ∷ xs) (suc k) d h a = all_at P xs k d (omega arith) a.1

  -- ---- one item changed
  pub all_set : (P : A → Type 0) (xs : List A) (k : ℕ) (y : A) → All P xs → P y → All P (set xs k y)
  all_set P [] k y a p = tt
  all_set P (x ∷ xs) zero y a p = (p, a.1)
  all_set P (x ∷ xs) (suc k) y a p = (a.0, all_set P xs k y a.1 p)

  pub sum_set : (f : A → ℕ) (xs : List A) (k : ℕ) (y d : A) → k < length xs → sum_by f (set xs k y) + f (get_or xs k d) ≡ sum_by f xs + f y
  sum_set f [] k y d h = absurd (omega arith)
  sum_set f (x ∷ xs) zero y d h = omega arith
  sum_set f (x ∷ xs) (suc k) y d h = let i = sum_set f xs k y d (omega arith) in omega arith

  -- another item in place i, which counts for at most n more
  pub sum_set_le : (g : A → ℕ) (d : A) (n : ℕ) (l : List A) (i : ℕ) (a : A) → g a ≤ g (get_or l i d) + n → sum_by g (set l i a) ≤ sum_by g l + n
  sum_set_le g d n [] zero a h = omega arith
  sum_set_le g d n [] (suc i) a h = omega arith
  sum_set_le g d n (b ∷ l) zero a h = omega arith
  sum_set_le g d n (b ∷ l) (suc i) a h = omega (arith, sum_set_le g d n l i a h)

-- ---- sums over what is met from a number: itself and then, one level less, what `below` lists for it
abbrev pub total : (ℕ → List ℕ) → (ℕ → ℕ) → ℕ → ℕ → ℕ
total below f zero s = 0
total below f (suc b) s = f s + sum_by (total below f b) (below s)

module _ (below : ℕ → List ℕ) where
  -- one level more is no less
  pub total_more : (f : ℕ → ℕ) (b s : ℕ) → total below f b s ≤ total below f (suc b) s
  total_more f zero s = omega arith
  total_more f (suc b) s = let h = sum_le (total below f b) (total below f (suc b)) (total_more f b) (below s) in omega arith

  pub total_add : (f g : ℕ → ℕ) (b s : ℕ) → total below (λ x. f x + g x) b s ≤ total below f b s + total below g b s
  total_add f g zero s = omega arith
  total_add f g (suc b) s =
      let h = sum_le (total below (λ x. f x + g x) b) (λ t. total below f b t + total below g b t) (total_add f g b) (below s) in
      let k = sum_add (total below f b) (total below g b) (below s) in
      omega arith

  pub total_times : (w : ℕ) (f : ℕ → ℕ) (b s : ℕ) → total below (λ x. w * f x) b s ≤ w * total below f b s
  total_times w f zero s = omega arith
  total_times w f (suc b) s =
      let h = sum_le (total below (λ x. w * f x) b) (λ t. w * total below f b t) (total_times w f b) (below s) in
      let k = sum_times w (total below f b) (below s) in
      omega arith

  pub total_zero : (b s : ℕ) → total below (λ x. 0) b s ≤ 0
  total_zero zero s = omega arith
  total_zero (suc b) s = let h = sum_le (total below (λ x. 0) b) (λ t. 0) (total_zero b) (below s) in let k = sum_zero (below s) in omega arith

  -- within what is closed downwards, where weights and lists compare
  pub total_within : (P : ℕ → Type 0) (below' : ℕ → List ℕ) (f g : ℕ → ℕ)
      → ((s : ℕ) → P s → below s ≡ below' s) → ((s : ℕ) → P s → All P (below' s)) → ((s : ℕ) → P s → f s ≤ g s)
      → (b s : ℕ) → P s → total below f b s ≤ total below' g b s
  total_within P below' f g same closed less zero s p = omega arith
  total_within P below' f g same closed less (suc b) s p =
      let l = less s p in
      let h = sum_le_all P (total below f b) (total below' g b) (total_within P below' f g same closed less b) (below' s) (closed s p) in
      rw (same s p) (omega arith)
