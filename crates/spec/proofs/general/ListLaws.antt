-- Laws of lists: numbers that `is_in` finds, values that `tabulate` lists, one item more, a list behind another. Assumes
-- nothing.
use mathlib.Core.Path.{◌≡◌, refl, ap, ◌∙◌}
use mathlib.Core.Bool.{Bool, true, false}
use mathlib.Core.List.{List, [], ◌∷◌, ◌++◌}
use Prim.Native.Nat.{ℕ, zero, suc, ◌+◌, ◌<◌, ◌≤◌}
use native.Mathlib.Nat.{add-zero, add-suc, suc-add, le_of_suc-le-suc, not-suc-le-zero}
use native.Mathlib.Omega.{arith}
use lib.Dec.{eqb}
use lib.ListN.{length, get_or, length-append, set}
use borrow.Author.Tests.{eq-eqb}
use Rattle.spec.specs.Scopes.{is_in}
use Rattle.spec.specs.Kept.{tabulate}

-- ---- is_in
-- the first of a list is in it
pub is_in_first : (x : ℕ) (xs : List ℕ) → is_in x (x ∷ xs) ≡ true
unfolding is_in
is_in_first x xs = rw (eq-eqb x x refl)

-- and so is what is in the rest
pub is_in_rest : (x y : ℕ) (ys : List ℕ) → is_in x ys ≡ true → is_in x (y ∷ ys) ≡ true
unfolding is_in
is_in_rest x y ys h = go (eqb x y) refl
  where
    go : (b : Bool) → eqb x y ≡ b → is_in x (y ∷ ys) ≡ true
    go true p = rw p
    go false p = rw p h

-- ---- tabulate
-- functions that agree give equal lists
pub tabulate_same : {A B : Type 0} (f g : ℕ → B) → ((j : ℕ) → f j ≡ g j) → (i : ℕ) (xs : List A) → tabulate f i xs ≡ tabulate g i xs
unfolding tabulate
tabulate_same f g h i [] = refl
tabulate_same f g h i (x ∷ xs) = let p = h i in let q = tabulate_same f g h (suc i) xs in cc

-- it is enough that they agree on what is listed
pub tabulate_within : {A B : Type 0} (f g : ℕ → B) (i : ℕ) (xs : List A) → ((j : ℕ) → j < length xs → f (i + j) ≡ g (i + j)) → tabulate f i xs ≡ tabulate g i xs
unfolding tabulate
tabulate_within f g i [] h = refl
tabulate_within f g i (x ∷ xs) h =
    let p : f i ≡ g i = rw add-zero at (h 0 (omega arith)) in
    let q = tabulate_within f g (suc i) xs (λ j l. rw (suc-add, ← add-suc) (h (suc j) (omega arith))) in
    cc

-- of the items only their number counts
pub tabulate_length : {A B : Type 0} (f : ℕ → B) (i : ℕ) (xs ys : List A) → length xs ≡ length ys → tabulate f i xs ≡ tabulate f i ys
unfolding tabulate
tabulate_length f i [] [] h = refl
tabulate_length f i [] (y ∷ ys) h = absurd (omega arith)
tabulate_length f i (x ∷ xs) [] h = absurd (omega arith)
tabulate_length f i (x ∷ xs) (y ∷ ys) h = let q = tabulate_length f (suc i) xs ys (omega arith) in cc

-- the value at a place of the list
pub get_d_tabulate : {A B : Type 0} (f : ℕ → B) (d : B) (i : ℕ) (xs : List A) (n : ℕ) → n < length xs → get_or (tabulate f i xs) n d ≡ f (i + n)
unfolding tabulate
get_d_tabulate f d i [] n h = absurd (not-suc-le-zero h)
get_d_tabulate f d i (x ∷ xs) zero h = rw add-zero
get_d_tabulate f d i (x ∷ xs) (suc n) h = rw (add-suc, ← suc-add) (get_d_tabulate f d (suc i) xs n (le_of_suc-le-suc h))

-- past its end there is nothing
pub get_d_tabulate_past : {A B : Type 0} (f : ℕ → B) (d : B) (i : ℕ) (xs : List A) (n : ℕ) → length xs ≤ n → get_or (tabulate f i xs) n d ≡ d
unfolding tabulate
get_d_tabulate_past f d i [] n h = refl
get_d_tabulate_past f d i (x ∷ xs) zero h = absurd (not-suc-le-zero h)
get_d_tabulate_past f d i (x ∷ xs) (suc n) h = get_d_tabulate_past f d (suc i) xs n (le_of_suc-le-suc h)

pub length_tabulate : {A B : Type 0} (f : ℕ → B) (i : ℕ) (xs : List A) → length (tabulate f i xs) ≡ length xs
unfolding tabulate
length_tabulate f i [] = refl
length_tabulate f i (x ∷ xs) = ap suc (length_tabulate f (suc i) xs)

-- ---- one more item
pub length_snoc : {A : Type 0} (xs : List A) (x : A) → length (xs ++ (x ∷ [])) ≡ suc (length xs)
length_snoc xs x = length-append xs (x ∷ []) ∙ add-suc _ _ ∙ ap suc (add-zero _)

-- ---- behind another list
module _ {A : Type 0} where
  pub set_behind : (xs ys : List A) (k n : ℕ) (y : A) → n ≡ length xs + k → set (xs ++ ys) n y ≡ xs ++ set ys k y
  set_behind [] ys k n y p = let q : n ≡ k = omega arith in rw q
  set_behind (x ∷ xs) ys k zero y p = absurd (omega arith)
  set_behind (x ∷ xs) ys k (suc n) y p = ap (λ (zs : List A). x ∷ zs) (set_behind xs ys k n y (omega arith))

  pub get_d_behind : (xs ys : List A) (k n : ℕ) (d : A) → n ≡ length xs + k → get_or (xs ++ ys) n d ≡ get_or ys k d
  get_d_behind [] ys k n d p = let q : n ≡ k = omega arith in rw q
  get_d_behind (x ∷ xs) ys k zero d p = absurd (omega arith)
  get_d_behind (x ∷ xs) ys k (suc n) d p = get_d_behind xs ys k n d (omega arith)
