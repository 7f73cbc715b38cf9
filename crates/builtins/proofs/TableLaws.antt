-- No name stands twice in the table, from the test that is computed over the whole of it. Assumes nothing.
use mathlib.Core.Path.{◌≡◌, refl, sym}
use mathlib.Core.Bool.{Bool, true, false, ◌||◌, not}
use mathlib.Core.List.{List, [], ◌∷◌}
use mathlib.Mathlib.Data.Bool.Basic.{and_elim_left, and_elim_right}
use Prim.Native.Nat.{ℕ, zero, suc, ◌<◌}
use native.Mathlib.Omega.{arith}
use lib.ListN.{length, get_or}
use lib.Dec.{ltb}
use borrow.Author.Tests.{not-true, ltb-true, ltb-false}
use Rattle.words.specs.Equality.{equalb}
use Rattle.words.proofs.EqualityLaws.{equalb_refl}
use Rattle.spec.specs.Basics.{Text}
use Rattle.spec.specs.Answer.{builtins}
use Rattle.builtins.specs.Table.{among, distinct, all_distinct}

pub count : length builtins ≡ 22
unfolding builtins
count = refl

-- ---- no name stands twice
not_among : (t : Text) (xs : List Text) → among t xs ≡ false → (i : ℕ) → i < length xs → get_or xs i [] ≡ t → ⊥
unfolding among
not_among t [] e i h q = omega arith
not_among t (x ∷ xs) e zero h q =
    let y : equalb x t ≡ true = rw q (equalb_refl t) in
    let z : true ≡ false = rw y at e in
    let n : ◌≡◌ {A = ℕ} 0 1 = cc in
    omega arith
not_among t (x ∷ xs) e (suc i) h q = not_among t xs (second (equalb x t) (among t xs) e) i (omega arith) q
  where
    second : (a b : Bool) → (a || b) ≡ false → b ≡ false
    second true b z = let n : true ≡ false = z in cc
    second false b z = z

-- two places of a list without repetition have two texts
below_apart : (xs : List Text) → distinct xs ≡ true → (i j : ℕ) → i < j → j < length xs → get_or xs i [] ≡ get_or xs j [] → ⊥
unfolding distinct
below_apart [] e i j h l q = omega arith
below_apart (x ∷ xs) e i zero h l q = omega arith
below_apart (x ∷ xs) e zero (suc j) h l q = not_among x xs (not-true (among x xs) (and_elim_left (not (among x xs)) (distinct xs) e)) j (omega arith) (sym q)
below_apart (x ∷ xs) e (suc i) (suc j) h l q = below_apart xs (and_elim_right (not (among x xs)) (distinct xs) e) i j (omega arith) (omega arith) q

pub names_apart : (i j : ℕ) → i < 22 → j < 22 → (i ≡ j → ⊥) → get_or builtins i [] ≡ get_or builtins j [] → ⊥
names_apart i j h k n q = go (ltb i j) refl
  where
    go : (b : Bool) → ltb i j ≡ b → ⊥
    go true e = below_apart builtins all_distinct i j (ltb-true i j e) (rw count k) q
    go false e = below_apart builtins all_distinct j i (omega (arith, n, ltb-false i j e)) (rw count h) (sym q)
