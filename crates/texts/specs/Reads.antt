-- Where the bytes of a text are found.
use Rattle.std.specs.Prelude.{◌≡◌, List, ℕ, ◌-◌, ◌≤◌, length}
use Rattle.words.specs.Runs.{run}
use Rattle.layout.specs.Layout.{text_limit}
use Rattle.layout.specs.Texts.{text_in}

-- the text with the number k is the bytes of a store from a place to another
pub record Lies (s : List ℕ) (k start end : ℕ) : Type 0 where
  pub ordered : start ≤ end
  pub inside : end ≤ length s
  pub short : end - start ≤ text_limit
  pub same : text_in s k ≡ run s start (end - start)
