-- Insertion into a list in the order of keys. Assumes nothing.
use mathlib.Core.Path.{◌≡◌, refl, sym, ap, ◌∙◌}
use mathlib.Core.List.{List, [], ◌∷◌, ◌++◌, map}
use Prim.Native.Nat.{ℕ, zero, suc, ◌<◌, ◌≤◌}
use native.Mathlib.Omega.{arith}
use lib.ListN.{length, get_or, take, drop}
use Rattle.words.specs.Order.{pick, order}
use Rattle.spec.proofs.general.Sums.{All, all_map, all_at}
use Rattle.open_sets.specs.Ranks.{insert_by}
use Rattle.open_sets.proofs.RankOrder.{Le, Gt, either, le_refl, gt_le, le_trans, le_gt}
use Rattle.std.specs.Ordering.{is_gt}

-- each item is no greater than those after it
abbrev pub Ascending : {A : Type 0} → (A → List ℕ) → List A → Type 0
Ascending key [] = Unit {0}
Ascending key (x ∷ xs) = All (λ y. Le (key x) (key y)) xs × Ascending key xs

-- before the first that is greater
unfoldable pub insert_last : {A : Type 0} → (A → List ℕ) → A → List A → List A
insert_last key x [] = x ∷ []
insert_last key x (y ∷ ys) = pick (is_gt (order (key y) (key x))) (x ∷ y ∷ ys) (y ∷ insert_last key x ys)

module _ {A : Type 0} (key : A → List ℕ) where
  -- ---- one step
  pub here : (x y : A) (ys : List A) → Le (key x) (key y) → insert_by key x (y ∷ ys) ≡ x ∷ y ∷ ys
  unfolding insert_by
  here x y ys h = rw h

  pub later : (x y : A) (ys : List A) → Gt (key x) (key y) → insert_by key x (y ∷ ys) ≡ y ∷ insert_by key x ys
  unfolding insert_by
  later x y ys h = rw h

  last_here : (x y : A) (ys : List A) → Gt (key y) (key x) → insert_last key x (y ∷ ys) ≡ x ∷ y ∷ ys
  unfolding insert_last
  last_here x y ys h = rw h

  last_later : (x y : A) (ys : List A) → Le (key y) (key x) → insert_last key x (y ∷ ys) ≡ y ∷ insert_last key x ys
  unfolding insert_last
  last_later x y ys h = rw h

  -- ---- what insertion keeps
  pub length_insert : (x : A) (ys : List A) → length (insert_by key x ys) ≡ suc (length ys)
  unfolding insert_by
  length_insert x [] = refl
  length_insert x (y ∷ ys) = go (length_insert x ys)
    where
      go : length (insert_by key x ys) ≡ suc (length ys) → length (insert_by key x (y ∷ ys)) ≡ suc (length (y ∷ ys))
      go rest = either (key x) (key y) (λ h. rw (here x y ys h)) (λ h. rw (later x y ys h) (ap suc rest))

  pub all_insert : (P : A → Type 0) (x : A) (ys : List A) → P x → All P ys → All P (insert_by key x ys)
  unfolding insert_by
  all_insert P x [] p a = (p, tt)
  all_insert P x (y ∷ ys) p a = go (all_insert P x ys p a.1)
    where
      go : All P (insert_by key x ys) → All P (insert_by key x (y ∷ ys))
      go rest = either (key x) (key y) (λ h. rw (here x y ys h) (p, a)) (λ h. rw (later x y ys h) (a.0, rest))

  pub ascending_insert : (x : A) (ys : List A) → Ascending key ys → Ascending key (insert_by key x ys)
  unfolding insert_by
  ascending_insert x [] a = (tt, tt)
  ascending_insert x (y ∷ ys) a = go (ascending_insert x ys a.1)
    where
      go : Ascending key (insert_by key x ys) → Ascending key (insert_by key x (y ∷ ys))
      go rest =
          either (key x) (key y)
          (λ h. rw (here x y ys h) ((h, all_map _ _ (λ z l. le_trans (key x) (key y) (key z) h l) ys a.0), a))
          (λ h. rw (later x y ys h) (all_insert (λ z. Le (key y) (key z)) x ys (gt_le (key x) (key y) h) a.0, rest))

  pub ascending_at : (xs : List A) → Ascending key xs → (d : A) (i j : ℕ) → i ≤ j → j < length xs → Le (key (get_or xs i d)) (key (get_or xs j d))
  ascending_at [] a d i j h l = absurd (omega arith)
  ascending_at (x ∷ xs) a d zero zero h l = le_refl (key x)
  ascending_at (x ∷ xs) a d zero (suc j) h l = all_at (λ y. Le (key x) (key y)) xs j d (omega arith) a.0
  ascending_at (x ∷ xs) a d (suc i) zero h l = absurd (omega arith)
  ascending_at (x ∷ xs) a d (suc i) (suc j) h l = ascending_at xs a.1 d i j (omega arith) (omega arith)

  -- ---- an item inserted before its equals, and one after them
  swap_none : (x z : A) → insert_by key x (insert_last key z []) ≡ insert_last key z (insert_by key x [])
  unfolding insert_by insert_last
  swap_none x z = refl

  pub insert_swap : (x z : A) (ys : List A) → insert_by key x (insert_last key z ys) ≡ insert_last key z (insert_by key x ys)
  insert_swap x z [] = swap_none x z
  insert_swap x z (y ∷ ys) = go (insert_swap x z ys)
    where
      both : Le (key x) (key y) → Gt (key y) (key z) → insert_by key x (insert_last key z (y ∷ ys)) ≡ insert_last key z (insert_by key x (y ∷ ys))
      both h g =
          rw (last_here z y ys g, here x y ys h)
          (either (key x) (key z)
          (λ l. rw (here x z (y ∷ ys) l, last_later z x (y ∷ ys) l, last_here z y ys g))
          (λ l. rw (later x z (y ∷ ys) l, last_here z x (y ∷ ys) l, here x y ys h)))

      go : insert_by key x (insert_last key z ys) ≡ insert_last key z (insert_by key x ys)
          → insert_by key x (insert_last key z (y ∷ ys)) ≡ insert_last key z (insert_by key x (y ∷ ys))
      go rest =
          either (key x) (key y)
          (λ h.
          either (key y) (key z)
          (λ g.
          let l = le_trans (key x) (key y) (key z) h g in
          rw (last_later z y ys g, here x y ys h, here x y (insert_last key z ys) h, last_later z x (y ∷ ys) l, last_later z y ys g))
          (λ g. both h g))
          (λ h.
          either (key y) (key z)
          (λ g. rw (last_later z y ys g, later x y ys h, later x y (insert_last key z ys) h, last_later z y (insert_by key x ys) g) (ap (λ l. y ∷ l) rest))
          (λ g.
          let l = le_gt (key y) (key x) (key z) (gt_le (key x) (key y) h) g in
          rw (last_here z y ys g, later x z (y ∷ ys) l, later x y ys h, last_here z y (insert_by key x ys) g)))

  -- by the place where those that are greater begin
  last_none : (x : A) → insert_last key x [] ≡ x ∷ []
  unfolding insert_last
  last_none x = refl

  pub insert_last_at : (x : A) (ys : List A) (d : A) (q : ℕ) → q ≤ length ys → ((j : ℕ) → j < q → Le (key (get_or ys j d)) (key x))
      → ((j : ℕ) → q ≤ j → j < length ys → Gt (key (get_or ys j d)) (key x)) → insert_last key x ys ≡ take q ys ++ (x ∷ drop q ys)
  insert_last_at x [] d zero h f g = last_none x
  insert_last_at x [] d (suc q) h f g = absurd (omega arith)
  insert_last_at x (y ∷ ys) d zero h f g = last_here x y ys (g 0 (omega arith) (omega arith))
  insert_last_at x (y ∷ ys) d (suc q) h f g =
      last_later x y ys (f 0 (omega arith))
      ∙ ap (λ l. y ∷ l) (insert_last_at x ys d q (omega arith) (λ j l. f (suc j) (omega arith)) (λ j l m. g (suc j) (omega arith) (omega arith)))

  -- ---- two lists
  by_none : (x : A) → insert_by key x [] ≡ x ∷ []
  unfolding insert_by
  by_none x = refl

  -- nothing is less
  pub insert_first : (x : A) (ys : List A) → All (λ y. Le (key x) (key y)) ys → insert_by key x ys ≡ x ∷ ys
  insert_first x [] a = by_none x
  insert_first x (y ∷ ys) a = here x y ys a.0

  -- before all that is in the second
  pub insert_append : (x : A) (xs ys : List A) → All (λ y. Le (key x) (key y)) ys → insert_by key x (xs ++ ys) ≡ insert_by key x xs ++ ys
  insert_append x [] ys a = insert_first x ys a ∙ rw (by_none x)
  insert_append x (y ∷ xs) ys a = go (insert_append x xs ys a)
    where
      go : insert_by key x (xs ++ ys) ≡ insert_by key x xs ++ ys → insert_by key x (y ∷ xs ++ ys) ≡ insert_by key x (y ∷ xs) ++ ys
      go rest =
          either (key x) (key y)
          (λ h. here x y (xs ++ ys) h ∙ rw (here x y xs h))
          (λ h. later x y (xs ++ ys) h ∙ rw (later x y xs h) (ap (λ l. y ∷ l) rest))

  -- after all that is in the first
  pub insert_past : (x : A) (xs ys : List A) → All (λ y. Gt (key x) (key y)) xs → insert_by key x (xs ++ ys) ≡ xs ++ insert_by key x ys
  insert_past x [] ys a = refl
  insert_past x (y ∷ xs) ys a = later x y (xs ++ ys) a.0 ∙ ap (λ l. y ∷ l) (insert_past x xs ys a.1)

-- of items that stand for others
pub insert_map : {A B : Type 0} (key : A → List ℕ) (f : A → B) (other : B → List ℕ) → ((x : A) → other (f x) ≡ key x) → (x : A) (ys : List A)
    → map f (insert_by key x ys) ≡ insert_by other (f x) (map f ys)
insert_map key f other h x [] = rw (by_none key x) (sym (by_none other (f x)))
insert_map {A} key f other h x (y ∷ ys) = go (insert_map key f other h x ys)
  where
    go : map f (insert_by key x ys) ≡ insert_by other (f x) (map f ys) → map f (insert_by key x (y ∷ ys)) ≡ insert_by other (f x) (f y ∷ map f ys)
    go rest =
        either (key x) (key y)
        (λ l. rw (here key x y ys l) (sym (here other (f x) (f y) (map f ys) (rw (h x, h y) l))))
        (λ l. rw (later key x y ys l) (ap (λ r. f y ∷ r) rest ∙ sym (later other (f x) (f y) (map f ys) (rw (h x, h y) l))))
