-- Lists of expressions that pass a test, and answers that are the same. Assumes nothing.
use mathlib.Core.Path.{◌≡◌, refl, sym, ◌∙◌}
use mathlib.Core.Bool.{Bool, true, false, not}
use mathlib.Core.List.{List, [], ◌∷◌}
use mathlib.Core.Option.{Option, none, some}
use Prim.Native.Nat.{ℕ, zero, suc, ◌+◌, ◌<◌, ◌≤◌}
use native.Mathlib.Nat.{add-zero, add-suc, suc-add, not-suc-le-zero, le_of_suc-le-suc}
use native.Mathlib.Omega.{arith}
use lib.ListN.{length}
use Rattle.words.proofs.EqualityLaws.{equalb_refl, equalb_true}
use Rattle.spec.specs.Basics.{ExprId}
use Rattle.spec.specs.Module.{Module}
use Rattle.spec.specs.Answer.{Answer, unresolved, definition, builtin, withs}
use Rattle.spec.specs.Moved.{numbers_of, same_answer, cons_if, passing, differing}
use Rattle.spec.proofs.general.BoolLaws.{differ}
use Rattle.spec.proofs.general.Sums.{compared}

-- ---- the same answer
-- answers with the same numbers are the same
numbers_once : (a b : Option Answer) → numbers_of a ≡ numbers_of b → a ≡ b
unfolding numbers_of
numbers_once none none h = refl
numbers_once none (some unresolved) h = cc
numbers_once none (some (definition y)) h = cc
numbers_once none (some (builtin j)) h = cc
numbers_once none (some (withs fs)) h = cc
numbers_once (some unresolved) none h = cc
numbers_once (some unresolved) (some unresolved) h = refl
numbers_once (some unresolved) (some (definition y)) h = cc
numbers_once (some unresolved) (some (builtin j)) h = cc
numbers_once (some unresolved) (some (withs fs)) h = cc
numbers_once (some (definition x)) none h = cc
numbers_once (some (definition x)) (some unresolved) h = cc
numbers_once (some (definition x)) (some (definition y)) h = cc
numbers_once (some (definition x)) (some (builtin j)) h = cc
numbers_once (some (definition x)) (some (withs fs)) h = cc
numbers_once (some (builtin i)) none h = cc
numbers_once (some (builtin i)) (some unresolved) h = cc
numbers_once (some (builtin i)) (some (definition y)) h = cc
numbers_once (some (builtin i)) (some (builtin j)) h = cc
numbers_once (some (builtin i)) (some (withs fs)) h = cc
numbers_once (some (withs es)) none h = cc
numbers_once (some (withs es)) (some unresolved) h = cc
numbers_once (some (withs es)) (some (definition y)) h = cc
numbers_once (some (withs es)) (some (builtin j)) h = cc
numbers_once (some (withs es)) (some (withs fs)) h = cc

pub same_answer_lem : (a b : Option Answer) → same_answer a b ≡ true → a ≡ b
unfolding same_answer
same_answer_lem a b h = numbers_once a b (equalb_true _ _ h)

pub answer_same : (a : Option Answer) → same_answer a a ≡ true
unfolding same_answer
answer_same a = equalb_refl (numbers_of a)

-- an answer that is told as another is another
pub not_same : (a b : Option Answer) → not (same_answer a b) ≡ false → a ≡ b
not_same a b h = same_answer_lem a b (go (same_answer a b) h)
  where
    go : (c : Bool) → not c ≡ false → c ≡ true
    go true h = refl
    go false h = differ h

-- ---- what passes
module _ {A : Type 0} where
  -- tests that agree on the expressions in question let the same ones pass
  pub passing_within : (p q : ExprId → Bool) (i : ℕ) (xs : List A) → ((j : ℕ) → j < length xs → p (i + j) ≡ q (i + j)) → passing p i xs ≡ passing q i xs
  unfolding passing
  passing_within p q i [] h = refl
  passing_within p q i (x ∷ xs) h =
      let here : p i ≡ q i = rw add-zero at (h 0 (omega arith)) in
      let more = passing_within p q (suc i) xs (λ j l. rw (suc-add, ← add-suc) (h (suc j) (omega arith))) in
      rw (here, more)

  pub passing_same : (p q : ExprId → Bool) → ((e : ExprId) → p e ≡ q e) → (i : ℕ) (xs : List A) → passing p i xs ≡ passing q i xs
  passing_same p q h i xs = passing_within p q i xs (λ j l. h (i + j))

  -- a test that none passes
  pub passing_none : (p : ExprId → Bool) (i : ℕ) (xs : List A) → ((j : ℕ) → j < length xs → p (i + j) ≡ false) → passing p i xs ≡ []
  unfolding passing cons_if
  passing_none p i [] h = refl
  passing_none p i (x ∷ xs) h =
      let here : p i ≡ false = rw add-zero at (h 0 (omega arith)) in
      let more = passing_none p (suc i) xs (λ j l. rw (suc-add, ← add-suc) (h (suc j) (omega arith))) in
      rw (here, more)

  -- where none has passed, each has failed
  pub none_passing : (p : ExprId → Bool) (i : ℕ) (xs : List A) → passing p i xs ≡ [] → (j : ℕ) → j < length xs → p (i + j) ≡ false
  unfolding passing cons_if
  none_passing p i [] h j l = absurd (not-suc-le-zero l)
  none_passing p i (x ∷ xs) h j l = go (p i) refl h (none_passing p (suc i) xs) j l
    where
      go : (b : Bool) → p i ≡ b → cons_if b i (passing p (suc i) xs) ≡ []
          → (passing p (suc i) xs ≡ [] → (j : ℕ) → j < length xs → p (suc i + j) ≡ false)
          → (j : ℕ) → j < suc (length xs) → p (i + j) ≡ false
      go true q r more j l = absurd (let z : ◌≡◌ {A = ℕ} 0 1 = cc in omega arith)
      go false q r more zero l = rw add-zero q
      go false q r more (suc j) l = rw (add-suc, ← suc-add) (more r j (le_of_suc-le-suc l))

  -- a test that is harder to pass lets no more pass
  pub passing_few : (p q : ExprId → Bool) → ((e : ExprId) → p e ≡ true → q e ≡ true) → (i : ℕ) (xs : List A) → length (passing p i xs) ≤ length (passing q i xs)
  unfolding passing cons_if
  passing_few p q h i [] = omega arith
  passing_few p q h i (x ∷ xs) = go (p i) (q i) refl refl (passing_few p q h (suc i) xs)
    where
      go : (a b : Bool) → p i ≡ a → q i ≡ b → length (passing p (suc i) xs) ≤ length (passing q (suc i) xs)
          → length (cons_if (p i) i (passing p (suc i) xs)) ≤ length (cons_if (q i) i (passing q (suc i) xs))
      go true true u v l = rw (u, v) (omega arith)
      go true false u v l = differ (sym (h i u) ∙ v)
      go false true u v l = rw (u, v) (omega arith)
      go false false u v l = rw (u, v) l

  -- a test that one alone can pass
  pub passing_one : (p : ExprId → Bool) (n : ExprId) → ((e : ExprId) → p e ≡ true → e ≡ n) → (i : ℕ) (xs : List A) → length (passing p i xs) ≤ 1
  unfolding passing cons_if
  passing_one p n h i [] = omega arith
  passing_one p n h i (x ∷ xs) = go (p i) refl (passing_one p n h (suc i) xs)
    where
      past : p i ≡ true → (j : ℕ) → j < length xs → p (suc i + j) ≡ false
      past u j l = fails (p (suc i + j)) refl
        where
          fails : (b : Bool) → p (suc i + j) ≡ b → p (suc i + j) ≡ false
          fails true v = let one = h i u in let other = h (suc i + j) v in absurd (omega arith)
          fails false v = v

      go : (b : Bool) → p i ≡ b → length (passing p (suc i) xs) ≤ 1 → length (cons_if (p i) i (passing p (suc i) xs)) ≤ 1
      go true u l = rw (u, passing_none p (suc i) xs (past u)) (omega arith)
      go false u l = rw u l

  -- where that one is among those in question
  pub passing_single : (p : ExprId → Bool) (n : ExprId) → ((e : ExprId) → p e ≡ true → e ≡ n) → (i : ℕ) (xs : List A) → i ≤ n → n < i + length xs → passing p i xs ≡ cons_if (p n) n []
  unfolding passing cons_if
  passing_single p n only i [] l h = absurd (omega arith)
  passing_single p n only i (x ∷ xs) l h = go (p i) refl (λ m. passing_single p n only (suc i) xs m (omega arith))
    where
      fails : (j : ℕ) → (j ≡ n → ⊥) → p j ≡ false
      fails j k = pick (p j) refl
        where
          pick : (b : Bool) → p j ≡ b → p j ≡ false
          pick true u = absurd (k (only j u))
          pick false u = u

      go : (b : Bool) → p i ≡ b → (suc i ≤ n → passing p (suc i) xs ≡ cons_if (p n) n []) → cons_if (p i) i (passing p (suc i) xs) ≡ cons_if (p n) n []
      go true u more =
          let here = only i u in
          rw (passing_none p (suc i) xs (λ j k. fails (suc i + j) (λ z. omega arith)), here)
      go false u more =
          compared i n
          (λ here. rw (passing_none p (suc i) xs (λ j k. fails (suc i + j) (λ z. omega arith)), here))
          (λ before. rw u (more (omega arith)))

-- ---- what differs
-- what is as it was differs nowhere
pub nothing_differs : (m : Module) (f : ExprId → Option Answer) → differing m f f ≡ []
unfolding differing
nothing_differs m f = passing_none _ 0 m.exprs (λ j l. rw (answer_same (f (0 + j))))

-- answers that agree with others differ where these do
pub differs_alike : (m : Module) (f g f' g' : ExprId → Option Answer) → ((e : ExprId) → e < length m.exprs → f e ≡ f' e) → ((e : ExprId) → e < length m.exprs → g e ≡ g' e)
    → differing m f g ≡ differing m f' g'
unfolding differing
differs_alike m f g f' g' p q = passing_within _ _ 0 m.exprs (λ j l. rw (p (0 + j) (omega arith), q (0 + j) (omega arith)))

-- where nothing differs, each answer is as it was
pub differs_nowhere : (m : Module) (f g : ExprId → Option Answer) → differing m f g ≡ [] → (e : ExprId) → e < length m.exprs → f e ≡ g e
unfolding differing
differs_nowhere m f g h e l = let q = none_passing _ 0 m.exprs h e l in let z : 0 + e ≡ e = omega arith in not_same (f e) (g e) (rw z at q)
