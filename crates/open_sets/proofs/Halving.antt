-- Where a test begins to pass, as halving finds it. Assumes nothing.
use mathlib.Core.Path.{◌≡◌, refl, sym, ◌∙◌}
use mathlib.Core.Bool.{Bool, true, false}
use Prim.Native.Nat.{ℕ, ◌<◌, ◌≤◌}

-- of the numbers below n the test fails below q, and passes from there on
pub record Begins (test : ℕ → Bool) (n q : ℕ) : Type 0 where
  pub within : q ≤ n
  pub fails : (j : ℕ) → j < q → test j ≡ false
  pub passes : (j : ℕ) → q ≤ j → j < n → test j ≡ true

-- where it passes, it passes further on
pub record Rising (test : ℕ → Bool) (n : ℕ) : Type 0 where
  pub rises : (i j : ℕ) → i ≤ j → j < n → test i ≡ true → test j ≡ true

module _ {test : ℕ → Bool} {n : ℕ} where
  -- where it fails, it fails before
  pub falls : Rising test n → (i j : ℕ) → i ≤ j → j < n → test j ≡ false → test i ≡ false
  falls r i j h l p = go (test i) refl
    where
      go : (t : Bool) → test i ≡ t → t ≡ false
      go true q = sym (r.rises i j h l q) ∙ p
      go false q = refl
