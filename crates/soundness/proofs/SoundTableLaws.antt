-- Where the lists of rows begin and end. Assumes nothing.
use mathlib.Core.Path.{◌≡◌, ap, ◌∙◌}
use mathlib.Core.Bool.{true}
use mathlib.Core.List.{List}
use Prim.Native.Nat.{ℕ, ◌+◌, ◌*◌, ◌≤◌, ◌<◌}
use native.Mathlib.Omega.{arith}
use Rattle.words.specs.Words.{word}
use Rattle.layout.specs.Layout.{item_limit, expr_row, exprs_at}
use Rattle.layout.specs.Exprs.{first_item}
use Rattle.soundness.specs.Sound.{ascends}
use Rattle.soundness.proofs.SoundLaws.{below_limit}

-- ---- the places of firsts
module _ (s : List ℕ) (at stride : ℕ) where
  pub at_base : (w : ℕ) → w ≡ word s at → w ≡ word s (at + stride * 0)
  at_base w h = let z : at ≡ at + stride * 0 = omega arith in h ∙ ap (word s) z

-- ---- expressions
-- where the next row's items begin
pub next_first : (s : List ℕ) (e to : ℕ) → to ≡ word s (exprs_at + expr_row * e + 20) → to ≡ first_item s (e + 1)
unfolding first_item
next_first s e to h = let next : exprs_at + expr_row * e + 20 ≡ exprs_at + expr_row * (e + 1) = omega arith in h ∙ ap (word s) next

-- the items of a row end within the table
pub items_within : (s : List ℕ) (n e : ℕ) → ascends (first_item s) n item_limit ≡ true → e < n → (to : ℕ) → to ≡ first_item s (e + 1) → to ≤ item_limit
items_within s n e a l to h = rw h (below_limit (first_item s) n item_limit a (e + 1) (omega arith))
