-- Tables of rows in a list of bytes.
use Rattle.std.specs.Prelude.{List, [], ◌∷◌, ◌++◌, ℕ, zero, suc, ◌+◌, ◌-◌, leb, eqb, if◌then◌else◌}
use Rattle.std.proofs.Math.Option.{Option, none, some}
use Rattle.words.specs.Words.{set_word}
use Rattle.layout.specs.Layout.{absent}

-- a count, which is at most its limit whatever stands there
unfoldable pub cap : ℕ → ℕ → ℕ
cap n limit = if leb n limit then n else limit

-- the values at 0, 1, .., n - 1
unfoldable pub rows_to : {A : Type 0} → (ℕ → A) → ℕ → List A
rows_to f zero = []
rows_to f (suc n) = rows_to f n ++ (f n ∷ [])

-- the values from i on, before j
unfoldable pub rows_from : {A : Type 0} → (ℕ → A) → ℕ → ℕ → List A
rows_from f i j = rows_to (λ k. f (i + k)) (j - i)

-- a number that may be absent: by the mark, or one too high with 0 for none
unfoldable pub marked : ℕ → Option ℕ
marked n = if eqb n absent then none else some n

unfoldable pub raised : ℕ → Option ℕ
raised zero = none
raised (suc n) = some n

-- ---- what the code writes: words one after the other
unfoldable pub set_all : List ℕ → ℕ → List ℕ → List ℕ
set_all s at [] = s
set_all s at (w ∷ ws) = set_all (set_word s at w) (at + 4) ws
