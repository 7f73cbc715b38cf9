-- Rows of a table that begin with 0: numbers raised by one say none there.
use Rattle.std.specs.Prelude.{◌≡◌, List, [], ◌∷◌, ℕ, ◌+◌, ◌*◌, ◌<◌}
use Rattle.words.specs.Words.{word}
use Rattle.layout.specs.Changes.{Wrote, Still}

-- Each of the first n rows of the table begins with 0, and nothing else is another.
pub record Zeroed (table row n : ℕ) (s t : List ℕ) : Type 0 where
  pub wrote : Wrote ((table, table + row * n) ∷ []) s t
  pub still : Still s t
  pub gone : (i : ℕ) → i < n → word t (table + row * i) ≡ 0
