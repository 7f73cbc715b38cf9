-- The order of lists of bytes: the first difference decides, and a list that ends where the other goes on is the
-- smaller. It is the order of the library's slices (proofs/OrderLaws.antt, `order_is`).
use Rattle.std.specs.Prelude.{Bool, cond, List, [], ◌∷◌, ℕ}
use Rattle.std.specs.declared.cmp.Ordering.{Ordering}
use Rattle.std.specs.declared.cmp.Ordering.TheVariants.{Less, Equal, Greater}
use Rattle.std.specs.Ordering.{nat_cmp, ordering_then}

-- the first where the test passes, the second where it fails
abbrev pub pick : {A : Type 0} → Bool → A → A → A
pick t a b = cond t a b

unfoldable pub order : List ℕ → List ℕ → Ordering
order [] [] = Equal
order [] (y ∷ ys) = Less
order (x ∷ xs) [] = Greater
order (x ∷ xs) (y ∷ ys) = ordering_then (nat_cmp x y) (order xs ys)
