-- Those of a list that pass a test: where they lie together, and after an insertion. Assumes nothing.
use mathlib.Core.Path.{◌≡◌, refl, sym, ap, ◌∙◌}
use mathlib.Core.Bool.{Bool, true, false}
use mathlib.Core.List.{List, [], ◌∷◌}
use Prim.Native.Nat.{ℕ, zero, suc, ◌-◌, ◌<◌, ◌≤◌}
use native.Mathlib.Omega.{arith}
use lib.ListN.{length, get_or, take, drop}
use Rattle.words.specs.Order.{pick}
use Rattle.spec.proofs.general.Sums.{All, all_map}
use Rattle.open_sets.specs.Ranks.{insert_by}
use Rattle.open_sets.proofs.RankOrder.{Le, either, le_trans}
use Rattle.open_sets.proofs.Inserting.{Ascending, here, later, insert_first}

unfoldable pub keep : {A : Type 0} → (A → Bool) → List A → List A
keep f [] = []
keep f (x ∷ xs) = pick (f x) (x ∷ keep f xs) (keep f xs)

module _ {A : Type 0} (f : A → Bool) where
  keep_yes : (x : A) (xs : List A) → f x ≡ true → keep f (x ∷ xs) ≡ x ∷ keep f xs
  unfolding keep
  keep_yes x xs h = rw h

  keep_no : (x : A) (xs : List A) → f x ≡ false → keep f (x ∷ xs) ≡ keep f xs
  unfolding keep
  keep_no x xs h = rw h

  keep_all : (P : A → Type 0) (xs : List A) → All P xs → All P (keep f xs)
  unfolding keep
  keep_all P [] a = tt
  keep_all P (x ∷ xs) a = go (keep_all P xs a.1) (f x)
    where
      go : All P (keep f xs) → (t : Bool) → All P (pick t (x ∷ keep f xs) (keep f xs))
      go rest true = (a.0, rest)
      go rest false = rest

  pub tested : {C : Type 0} (x : A) → (f x ≡ true → C) → (f x ≡ false → C) → C
  tested {C} x g h = go (f x) refl
    where
      go : (t : Bool) → f x ≡ t → C
      go true p = g p
      go false p = h p

  -- where they lie together
  keep_none : (xs : List A) (d : A) → ((j : ℕ) → j < length xs → f (get_or xs j d) ≡ false) → keep f xs ≡ []
  unfolding keep
  keep_none [] d g = refl
  keep_none (x ∷ xs) d g = rw (g 0 (omega arith)) (keep_none xs d (λ j h. g (suc j) (omega arith)))

  pub keep_part : (xs : List A) (d : A) (q r : ℕ) → q ≤ r → r ≤ length xs → ((j : ℕ) → j < q → f (get_or xs j d) ≡ false)
      → ((j : ℕ) → q ≤ j → j < r → f (get_or xs j d) ≡ true) → ((j : ℕ) → r ≤ j → j < length xs → f (get_or xs j d) ≡ false)
      → keep f xs ≡ take (r - q) (drop q xs)
  keep_part xs d zero zero h l before within after = keep_none xs d (λ j k. after j (omega arith) k)
  keep_part xs d (suc q) zero h l before within after = absurd (omega arith)
  keep_part [] d zero (suc r) h l before within after = absurd (omega arith)
  keep_part [] d (suc q) (suc r) h l before within after = absurd (omega arith)
  keep_part (x ∷ xs) d zero (suc r) h l before within after =
      let e : suc r - 0 ≡ suc (r - 0) = omega arith in
      keep_yes x xs (within 0 (omega arith) (omega arith))
      ∙ rw e
      (ap (λ m. x ∷ m)
      (keep_part xs d 0 r (omega arith) (omega arith) (λ j k. absurd (omega arith)) (λ j k m. within (suc j) (omega arith) (omega arith)) (λ j k m. after (suc j) (omega arith) (omega arith))))
  keep_part (x ∷ xs) d (suc q) (suc r) h l before within after =
      let e : suc r - suc q ≡ r - q = omega arith in
      keep_no x xs (before 0 (omega arith))
      ∙ rw e
      (keep_part xs d q r (omega arith) (omega arith) (λ j k. before (suc j) (omega arith)) (λ j k m. within (suc j) (omega arith) (omega arith))
      (λ j k m. after (suc j) (omega arith) (omega arith)))

  -- ---- insertion
  module _ (key : A → List ℕ) where
    pub insert_out : (x : A) (ys : List A) → f x ≡ false → keep f (insert_by key x ys) ≡ keep f ys
    unfolding insert_by
    insert_out x [] h = keep_no x [] h
    insert_out x (y ∷ ys) h = go (insert_out x ys h)
      where
        go : keep f (insert_by key x ys) ≡ keep f ys → keep f (insert_by key x (y ∷ ys)) ≡ keep f (y ∷ ys)
        go rest =
            either (key x) (key y)
            (λ l. ap (keep f) (here key x y ys l) ∙ keep_no x (y ∷ ys) h)
            (λ l. ap (keep f) (later key x y ys l)
            ∙ tested y
            (λ p. keep_yes y (insert_by key x ys) p ∙ ap (λ m. y ∷ m) rest ∙ sym (keep_yes y ys p))
            (λ p. keep_no y (insert_by key x ys) p ∙ rest ∙ sym (keep_no y ys p)))

    in_none : (x : A) → f x ≡ true → keep f (insert_by key x []) ≡ insert_by key x (keep f [])
    unfolding insert_by keep
    in_none x h = rw h

    pub insert_in : (x : A) (ys : List A) → f x ≡ true → Ascending key ys → keep f (insert_by key x ys) ≡ insert_by key x (keep f ys)
    insert_in x [] h a = in_none x h
    insert_in x (y ∷ ys) h a = go (insert_in x ys h a.1)
      where
        first : Le (key x) (key y) → insert_by key x (keep f (y ∷ ys)) ≡ x ∷ keep f (y ∷ ys)
        first l =
            insert_first key x (keep f (y ∷ ys))
            (keep_all (λ z. Le (key x) (key z)) (y ∷ ys) (l, all_map _ _ (λ z m. le_trans (key x) (key y) (key z) l m) ys a.0))

        go : keep f (insert_by key x ys) ≡ insert_by key x (keep f ys) → keep f (insert_by key x (y ∷ ys)) ≡ insert_by key x (keep f (y ∷ ys))
        go rest =
            either (key x) (key y)
            (λ l. ap (keep f) (here key x y ys l) ∙ keep_yes x (y ∷ ys) h ∙ sym (first l))
            (λ l. ap (keep f) (later key x y ys l)
            ∙ tested y
            (λ p. keep_yes y (insert_by key x ys) p ∙ ap (λ m. y ∷ m) rest ∙ sym (ap (insert_by key x) (keep_yes y ys p) ∙ later key x y (keep f ys) l))
            (λ p. keep_no y (insert_by key x ys) p ∙ rest ∙ sym (ap (insert_by key x) (keep_no y ys p))))
