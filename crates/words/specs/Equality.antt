-- Whether two lists of bytes are the same, as a test.
use Rattle.std.specs.Prelude.{Bool, true, false, ◌&&◌, List, [], ◌∷◌, ℕ, eqb}

unfoldable pub equalb : List ℕ → List ℕ → Bool
equalb [] [] = true
equalb [] (y ∷ ys) = false
equalb (x ∷ xs) [] = false
equalb (x ∷ xs) (y ∷ ys) = eqb x y && equalb xs ys
