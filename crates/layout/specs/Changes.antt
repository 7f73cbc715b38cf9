-- What a step leaves of a store as it was.
use Rattle.std.specs.Prelude.{◌≡◌, ◌⊎◌, List, [], ◌∷◌, ℕ, ◌+◌, ◌≤◌, length, drop}
use Rattle.words.specs.Words.{word}
use Rattle.layout.specs.Layout.{texts_place, sheet_at}

-- from the first byte, and before the second
abbrev pub Range : Type 0
Range = ℕ × ℕ

unfoldable pub Outside : ℕ → List Range → Type 0
Outside j [] = Unit {0}
Outside j (r ∷ rs) = ((j + 4 ≤ r.0) ⊎ (r.1 ≤ j)) × Outside j rs

-- of the words at most those in the ranges are others
pub record Wrote (rs : List Range) (s t : List ℕ) : Type 0 where
  pub size : length t ≡ length s
  pub other : (j : ℕ) → Outside j rs → word t j ≡ word s j

-- the nodes and the texts are as they were, and so is how many bytes of texts are in use
pub record Still (s t : List ℕ) : Type 0 where
  pub same : drop sheet_at t ≡ drop sheet_at s
  pub used : word t texts_place ≡ word s texts_place
