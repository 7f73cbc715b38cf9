-- Reading on, line by line, whatever the lines say.
use Rattle.std.specs.Prelude.{List, ℕ, ◌+◌, length, drop}
use Rattle.spec.specs.Basics.{maybe}
use Rattle.spec.specs.Sheet.{up_to_end}

-- the place after the line that starts at a place: behind the byte 10 that ends it; the place itself where no line ends
unfoldable pub after_line : List ℕ → ℕ → ℕ
after_line s at = maybe (up_to_end (drop at s)) at (λ v. at + length v + 1)
