-- How many kids a kind may have, by its places. Assumes nothing.
use Rattle.std.specs.Prelude.{if◌then◌else◌, map, Some, None}
use mathlib.Core.Path.{◌≡◌, sym, ap, ◌∙◌}
use mathlib.Core.Bool.{Bool, true, false, ◌&&◌}
use mathlib.Core.List.{List, [], ◌∷◌}
use mathlib.Core.Option as math
use Prim.Native.Nat.{ℕ, ◌-◌, ◌<◌, ◌≤◌}
use lib.Dec.{leb, eqb}
use lib.ListN.{length, take, drop}
use native.Mathlib.Omega.{arith}
use Rattle.std.proofs.lemmas.List.{length-map}
use borrow.Rule.Slice.PartAt.{part_to_end}
use borrow.Author.Tests.{le-leb, lt-leb}
use Rattle.spec.specs.Tree.{count_fits}
use Rattle.spec.specs.Kinds as Kinds
use Rattle.spec.specs.Kinds.{kind_of}
use Rattle.tree.specs.Slots.{slot_of}
use Rattle.tree.specs.Places.{counted_of, listed_in, listed_of, Fills}
use Rattle.tree.specs.declared.slots.Slot.{Slot}
use Rattle.tree.specs.declared.places.Places.{Places}

abbrev count_in : ℕ → ℕ → List Kinds.Slot → math.Option Kinds.Slot → Bool
count_in kind kids c l =
    elim l [
      | math.none ↦ eqb kids (length c)
      | math.some slot ↦ leb (length c) kids && (if eqb kind 23 then leb kids 16 else true)
    ]

module _ (kind kids : ℕ) (p : Places) (f : Fills p (kind_of kind)) where
  count_in_lem : (l : math.Option Kinds.Slot) → listed_of p ≡ l → count_in kind kids (counted_of p) l ≡ count_fits kind kids
  unfolding count_fits
  count_in_lem l q = ap (λ c. count_in kind kids c l) f.counted ∙ ap (count_in kind kids (kind_of kind).counted) (sym q ∙ f.listed)

  counted : length (counted_of p) ≡ length p.counted.now
  counted = length-map p.counted.now slot_of

  pub count_exact : p.listed ≡ None → eqb kids (length p.counted.now) ≡ count_fits kind kids
  count_exact q = ap (eqb kids) (sym counted) ∙ count_in_lem math.none (ap listed_in q)

  pub count_short : (slot : Slot) → p.listed ≡ Some slot → kids < length p.counted.now → false ≡ count_fits kind kids
  count_short slot q l =
      sym (ap (λ b. b && (if eqb kind 23 then leb kids 16 else true)) (lt-leb _ _ (omega (arith, counted))))
      ∙ count_in_lem (math.some (slot_of slot)) (ap listed_in q)

  pub count_long : (slot : Slot) → p.listed ≡ Some slot → length p.counted.now ≤ kids → (b : Bool) → b ≡ (if eqb kind 23 then leb kids 16 else true) → b ≡ count_fits kind kids
  count_long slot q l b h =
      h
      ∙ (sym (ap (λ b. b && (if eqb kind 23 then leb kids 16 else true)) (le-leb _ _ (omega (arith, counted))))
      ∙ count_in_lem (math.some (slot_of slot)) (ap listed_in q))

-- a kind without places has no kid
pub count_bare : (kind kids : ℕ) → kind_of kind ≡ Kinds.places [] math.none → eqb kids 0 ≡ count_fits kind kids
unfolding count_fits
count_bare kind kids e = sym (ap (λ (k : Kinds.Kind). count_in kind kids k.counted k.listed) e)

-- what a slice gives after its first element
pub after_first : (xs : List Slot) → 1 ≤ length xs → (x : Kinds.Slot) × (map slot_of xs ≡ x ∷ map slot_of (take (length xs - 1) (drop 1 xs)))
after_first [] h = absurd (omega arith)
after_first (x ∷ xs) h = (slot_of x, ap (λ l. slot_of x ∷ map slot_of l) (sym (part_to_end (x ∷ xs) 1)))
