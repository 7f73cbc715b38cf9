-- What adding a text to a store leaves.
use Rattle.std.specs.Prelude.{◌≡◌, true, List, [], ◌∷◌, ℕ, ◌+◌, ◌≤◌, ◌<◌, length}
use Rattle.words.specs.Words.{word}
use Rattle.spec.specs.Basics.{Text}
use Rattle.layout.specs.Layout.{text_limit, texts_place, texts_at, store_bytes}
use Rattle.layout.specs.Changes.{Range, Wrote}
use Rattle.layout.specs.Texts.{text_in}
use Rattle.texts.specs.Fits.{text_fits}

-- how many bytes of the texts are in use, and the texts
unfoldable pub texting : List Range
texting = (texts_place, texts_place + 4) ∷ (texts_at, store_bytes) ∷ []

-- what a text takes: a word for its length and its bytes, and nothing where it is empty
unfoldable pub taken : Text → ℕ
taken [] = 0
taken (b ∷ bs) = 4 + length (b ∷ bs)

-- The text with the number k is `bytes`, if there is room for it, and every text that was there is as it was.
pub record Texted (bytes : Text) (s : List ℕ) (k : ℕ) (t : List ℕ) : Type 0 where
  pub wrote : Wrote texting s t
  pub is : word s texts_place + taken bytes ≤ text_limit → (text_in t k ≡ bytes) × (text_fits t k ≡ true)
  pub others : (j : ℕ) → text_fits s j ≡ true → (text_in t j ≡ text_in s j) × (text_fits t j ≡ true)
  -- so many bytes of the texts are in use then; where there is no room, and for the empty text, nothing is another
  pub used : word s texts_place + taken bytes ≤ text_limit → word t texts_place ≡ word s texts_place + taken bytes
  pub full : text_limit < word s texts_place + taken bytes → t ≡ s
  pub empty : bytes ≡ [] → t ≡ s
