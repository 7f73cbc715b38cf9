-- Lists of rows, and counts under a limit. Assumes nothing.
use mathlib.Core.Path.{◌≡◌, refl, sym, ap, ◌∙◌}
use mathlib.Core.Logic.{◌⊎◌, ⊎_elim}
use mathlib.Core.Bool.{Bool, true, false}
use mathlib.Core.List.{List, [], ◌∷◌, ◌++◌, append-nil, append_assoc}
use Prim.Native.Nat.{ℕ, zero, suc, ◌+◌, ◌-◌, ◌≤◌, ◌<◌}
use native.Mathlib.Omega.{arith}
use lib.ListN.{length, get_or, take, drop, set, length-append, get_or-append, get_or-eq_default}
use lib.Seq.{get_or_at, set-append_left, set-append_seam, take-append-le, take_all}
use lib.Dec.{ltb, leb}
use borrow.Author.Tests.{le-leb, ltb-true, ltb-false, leb-true, leb-false}
use Rattle.words.specs.Order.{pick}
use Rattle.layout.specs.Rows.{cap, rows_to, rows_from}

-- ---- rows
pub rows_same : {A : Type 0} (f g : ℕ → A) (n : ℕ) → ((i : ℕ) → i < n → f i ≡ g i) → rows_to f n ≡ rows_to g n
unfolding rows_to
rows_same f g zero h = refl
rows_same f g (suc n) h = rw (rows_same f g n (λ i k. h i (omega arith)), h n (omega arith))

pub length_rows : {A : Type 0} (f : ℕ → A) (n : ℕ) → length (rows_to f n) ≡ n
unfolding rows_to
length_rows f zero = refl
length_rows f (suc n) = simp (length-append, length_rows f n) (omega arith)

pub get_d_rows : {A : Type 0} (f : ℕ → A) (n i : ℕ) (d : A) → i < n → get_or (rows_to f n) i d ≡ f i
unfolding rows_to
get_d_rows f zero i d h = absurd (omega arith)
get_d_rows f (suc n) i d h = go (get_d_rows f n i d) (ltb i n) refl
  where
    go : (i < n → get_or (rows_to f n) i d ≡ f i) → (b : Bool) → ltb i n ≡ b → get_or (rows_to f n ++ (f n ∷ [])) i d ≡ f i
    go ih true e =
        let l : i < length (rows_to f n) = rw (length_rows f n) (ltb-true i n e) in
        get_or-append (rows_to f n) (f n ∷ []) d i l ∙ ih (ltb-true i n e)
    go ih false e =
        let q : n ≡ i = omega (arith, ltb-false i n e) in
        get_or_at (rows_to f n) (f n) [] d i (length_rows f n ∙ q) ∙ ap f q

pub get_d_past : {A : Type 0} (f : ℕ → A) (n i : ℕ) (d : A) → n ≤ i → get_or (rows_to f n) i d ≡ d
get_d_past f n i d h = get_or-eq_default (rows_to f n) d (rw (length_rows f n) h)

-- one row is another
pub rows_put : {A : Type 0} (f g : ℕ → A) (n i : ℕ) → i < n → ((k : ℕ) → k < i → g k ≡ f k) → ((k : ℕ) → i < k → k < n → g k ≡ f k) → rows_to g n ≡ set (rows_to f n) i (g i)
unfolding rows_to
rows_put f g zero i h a b = absurd (omega arith)
rows_put f g (suc n) i h a b = go (rows_put f g n i) (ltb i n) refl
  where
    go : (i < n → ((k : ℕ) → k < i → g k ≡ f k) → ((k : ℕ) → i < k → k < n → g k ≡ f k) → rows_to g n ≡ set (rows_to f n) i (g i)) → (x : Bool) → ltb i n ≡ x → rows_to g n ++ (g n ∷ []) ≡ set (rows_to f n ++ (f n ∷ [])) i (g i)
    go ih true e =
        let l = ltb-true i n e in
        let m : i < length (rows_to f n) = rw (length_rows f n) l in
        rw (set-append_left (rows_to f n) (f n ∷ []) i (g i) m, ih l a (λ k u v. b k u (omega arith)), b n l (omega arith))
    go ih false e =
        let q : i ≡ n = omega (arith, ltb-false i n e) in
        let z : rows_to g n ≡ rows_to f n = rows_same g f n (λ k u. a k (omega arith)) in
        let y : set (rows_to f n ++ (f n ∷ [])) n (g n) ≡ rows_to f n ++ (g n ∷ []) = rw (length_rows f n) at (set-append_seam (rows_to f n) (f n) [] (g n)) in
        rw (q, z) (sym y)

-- the first m rows
pub rows_take : {A : Type 0} (f : ℕ → A) (n m : ℕ) → m ≤ n → take m (rows_to f n) ≡ rows_to f m
unfolding rows_to
rows_take f zero m h = let z : m ≡ 0 = omega arith in rw z
rows_take f (suc n) m h = go (rows_take f n m) (leb m n) refl
  where
    go : (m ≤ n → take m (rows_to f n) ≡ rows_to f m) → (x : Bool) → leb m n ≡ x → take m (rows_to f n ++ (f n ∷ [])) ≡ rows_to f m
    go ih true e =
        let l = leb-true m n e in
        let k : m ≤ length (rows_to f n) = rw (length_rows f n) l in
        take-append-le m (rows_to f n) (f n ∷ []) k ∙ ih l
    go ih false e =
        let l = leb-false m n e in
        let z : m ≡ suc n = omega arith in
        let k : length (rows_to f (suc n)) ≤ suc n = rw (length_rows f (suc n)) (omega arith) in
        let y : take (suc n) (rows_to f (suc n)) ≡ rows_to f (suc n) = take_all (suc n) (rows_to f (suc n)) k in
        rw z y

-- the first n rows and m more
pub rows_join : {A : Type 0} (f : ℕ → A) (n m : ℕ) → rows_to f (n + m) ≡ rows_to f n ++ rows_to (λ i. f (n + i)) m
unfolding rows_to
rows_join f n zero = let e : n + 0 ≡ n = omega arith in rw e (sym (append-nil (rows_to f n)))
rows_join f n (suc m) =
    let e : n + suc m ≡ suc (n + m) = omega arith in
    rw (e, rows_join f n m) (append_assoc (rows_to f n) (rows_to (λ i. f (n + i)) m) ((f (n + m)) ∷ []))

-- the rows after the first n
pub rows_drop : {A : Type 0} (f : ℕ → A) (n m : ℕ) → drop n (rows_to f (n + m)) ≡ rows_to (λ i. f (n + i)) m
rows_drop f n m = rw (rows_join f n m) (dropped (rows_to f n) (rows_to (λ i. f (n + i)) m) n (length_rows f n))
  where
    dropped : {B : Type 0} (xs ys : List B) (k : ℕ) → length xs ≡ k → drop k (xs ++ ys) ≡ ys
    dropped [] ys zero e = refl
    dropped [] ys (suc k) e = absurd (omega arith)
    dropped (x ∷ xs) ys zero e = absurd (omega arith)
    dropped (x ∷ xs) ys (suc k) e = dropped xs ys k (omega arith)

pub rows_none : {A : Type 0} (f : ℕ → A) → rows_to f 0 ≡ []
unfolding rows_to
rows_none f = refl

-- one row more
pub rows_more : {A : Type 0} (f : ℕ → A) (n : ℕ) → rows_to f (n + 1) ≡ rows_to f n ++ (f n ∷ [])
unfolding rows_to
rows_more f n = let e : n + 1 ≡ suc n = omega arith in rw e

-- ---- rows between two places
module _ {A : Type 0} where
  pub between_same : (f g : ℕ → A) (i j : ℕ) → ((k : ℕ) → i ≤ k → k < j → f k ≡ g k) → rows_from f i j ≡ rows_from g i j
  unfolding rows_from
  between_same f g i j h = rows_same (λ k. f (i + k)) (λ k. g (i + k)) (j - i) (λ k l. h (i + k) (omega arith) (omega arith))

  pub length_between : (f : ℕ → A) (i j : ℕ) → length (rows_from f i j) ≡ j - i
  unfolding rows_from
  length_between f i j = length_rows (λ k. f (i + k)) (j - i)

  pub between_none : (f : ℕ → A) (i j : ℕ) → j ≤ i → rows_from f i j ≡ []
  unfolding rows_from
  between_none f i j h = let e : j - i ≡ 0 = omega arith in rw (e, rows_none (λ k. f (i + k)))

  pub between_more : (f : ℕ → A) (i j : ℕ) → i ≤ j → rows_from f i (j + 1) ≡ rows_from f i j ++ (f j ∷ [])
  unfolding rows_from
  between_more f i j h =
      let e : j + 1 - i ≡ (j - i) + 1 = omega arith in
      let q : i + (j - i) ≡ j = omega arith in
      rw e (rows_more (λ k. f (i + k)) (j - i) ∙ ap (λ (x : ℕ). rows_to (λ k. f (i + k)) (j - i) ++ (f x ∷ [])) q)

  pub get_d_between : (f : ℕ → A) (i j k : ℕ) (d : A) → k < j - i → get_or (rows_from f i j) k d ≡ f (i + k)
  unfolding rows_from
  get_d_between f i j k d h = get_d_rows (λ k. f (i + k)) (j - i) k d h

-- ---- the limit
pub cap_le : (n l : ℕ) → n ≤ l → cap n l ≡ n
unfolding cap
cap_le n l h = rw (le-leb n l h)

pub cap_over : (n l : ℕ) → l ≤ n → cap n l ≡ l
unfolding cap
cap_over n l h = go (leb n l) refl
  where
    go : (b : Bool) → leb n l ≡ b → pick (leb n l) n l ≡ l
    go true e = rw e (omega (arith, leb-true n l e))
    go false e = rw e

pub cap_lim : (n l : ℕ) → cap n l ≤ l
unfolding cap
cap_lim n l = go (leb n l) refl
  where
    go : (b : Bool) → leb n l ≡ b → pick (leb n l) n l ≤ l
    go true e = rw e (leb-true n l e)
    go false e = rw e (omega arith)

pub cap_less : (n l i : ℕ) → (l ≤ i) ⊎ (n ≤ i) → cap n l ≤ i
unfolding cap
cap_less n l i h = go (leb n l) refl
  where
    go : (b : Bool) → leb n l ≡ b → pick (leb n l) n l ≤ i
    go true e = rw e (⊎_elim (λ z. omega (arith, leb-true n l e)) (λ z. z) h)
    go false e = rw e (⊎_elim (λ z. z) (λ z. omega (arith, leb-false n l e)) h)

pub cap_above : (n l : ℕ) → l < n → cap n l ≡ l
cap_above n l h = cap_over n l (omega arith)
