-- Which numbers in the rows of a store are those of texts.
use Rattle.std.specs.Prelude.{◌≡◌, Bool, true, ◌||◌, List, ℕ, ◌+◌, eqb, leb}
use Rattle.words.specs.Words.{word}
use Rattle.layout.specs.Layout.{absent, texts_place, texts_at}
use Rattle.layout.specs.Texts.{text_in}

-- the mark is the empty text; any other lies within the bytes in use
unfoldable pub text_fits : List ℕ → ℕ → Bool
text_fits s k = eqb k absent || leb (k + 4 + word s (texts_at + k)) (word s texts_place)

-- the text k by a number within the bytes in use
pub record Held (k : ℕ) (s : List ℕ) (r : ℕ) : Type 0 where
  pub same : text_in s r ≡ text_in s k
  pub fits : text_fits s r ≡ true
