-- Numbers written as bytes, little end first, and words of four bytes in a list.
use Rattle.std.specs.Prelude.{List, [], ◌∷◌, ℕ, zero, suc, ◌+◌, ◌*◌, ◌/◌, ◌%◌}
use Rattle.words.specs.Runs.{run, splice}

-- the number that bytes spell. Each is taken below 256, so that k of them spell a number below 256 ^ k whatever the
-- list
unfoldable pub number : List ℕ → ℕ
number [] = 0
number (b ∷ bs) = b % 256 + 256 * number bs

-- the lowest k bytes of v
unfoldable pub bytes_of : ℕ → ℕ → List ℕ
bytes_of zero v = []
bytes_of (suc k) v = v % 256 ∷ bytes_of k (v / 256)

-- the word whose first byte is at `at`
unfoldable pub word : List ℕ → ℕ → ℕ
word s at = number (run s at 4)

-- the list with v written over that word
unfoldable pub set_word : List ℕ → ℕ → ℕ → List ℕ
set_word s at v = splice s at (bytes_of 4 v)
