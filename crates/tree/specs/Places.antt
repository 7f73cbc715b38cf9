-- The code's places as those of the definitions.
use Rattle.std.specs.Prelude.{◌≡◌, ◌⊎◌, List, [], ◌∷◌, map, Option, Some, None}
use Rattle.std.proofs.Math.Option as math
use Rattle.spec.specs.Kinds as Kinds
use Rattle.tree.specs.Slots.{slot_of}
use Rattle.tree.specs.declared.slots.Slot.{Slot}
use Rattle.tree.specs.declared.places.Places.{Places}

-- the counted places
abbrev pub counted_of : Places → List Kinds.Slot
counted_of p = map slot_of p.counted.now

-- what the list takes
abbrev pub listed_in : Option Slot → math.Option Kinds.Slot
listed_in None = math.none
listed_in (Some x) = math.some (slot_of x)

abbrev pub listed_of : Places → math.Option Kinds.Slot
listed_of p = listed_in p.listed

-- these are the places of the kind
pub record Fills (p : Places) (k : Kinds.Kind) : Type 0 where
  pub counted : counted_of p ≡ k.counted
  pub listed : listed_of p ≡ k.listed

-- what is left after a counted place; none is left to skip
abbrev pub Skips : Places → Option Places → Type 0
Skips p None = counted_of p ≡ []
Skips p (Some q) = ((slot : Kinds.Slot) × (counted_of p ≡ slot ∷ counted_of q)) × (listed_of q ≡ listed_of p)

-- the slot of the next kid, and what is left after it; nothing is open
abbrev pub Opens : Places → Option (Slot × Places) → Type 0
Opens p None = (counted_of p ≡ []) × (listed_of p ≡ math.none)
Opens p (Some x) =
    ((counted_of p ≡ slot_of x.0 ∷ counted_of x.1) ⊎ ((counted_of p ≡ []) × ((counted_of x.1 ≡ []) × (listed_of p ≡ math.some (slot_of x.0)))))
    × (listed_of x.1 ≡ listed_of p)
