-- What the answers about kids say.
use Rattle.std.proofs.Math.Option as math
use Rattle.std.specs.Borrow.{Bor}
use Rattle.std.specs.Prelude.{Option, Some, None, Result, Ok, Err, ◌≡◌, Bool, true, ltb, List, [], ◌∷◌, map, ℕ, ◌-◌, ◌<◌, min, length, drop}
use Rattle.spec.specs.Basics.{Text, NodeId, maybe}
use Rattle.spec.specs.Sheet.{kid_list}
use Rattle.sheet.specs.declared.faults.Malformed.{Malformed}

-- a number of more than 32 bits is told as the largest one; a list that was judged right has none
abbrev pub short_kid : math.Option NodeId → math.Option NodeId
short_kid math.none = math.none
short_kid (math.some k) = math.some (min k 4294967295)

unfoldable pub short_kids : Text → math.Option (List (math.Option NodeId))
short_kids v = math.map (map short_kid) (kid_list v)

abbrev pub kid_of : Option ℕ → math.Option NodeId
kid_of (Some n) = math.some n
kid_of None = math.none

abbrev pub got_kid : Result (Option ℕ) Malformed → math.Option (math.Option NodeId)
got_kid (Ok k) = math.some (kid_of k)
got_kid (Err e) = math.none

-- the kid that was read, before those of the list after it
abbrev pub kids_from : Result (Option (Option ℕ × Bor (List ℕ))) Malformed → math.Option (List (math.Option NodeId))
kids_from (Ok None) = math.some []
kids_from (Ok (Some p)) = math.map (λ ks. kid_of p.0 ∷ ks) (short_kids p.1.now)
kids_from (Err e) = math.none

-- a list that is another one from some place on
pub record Rest (kids rest : List ℕ) : Type 0 where
  pub less : length rest < length kids
  pub same : rest ≡ drop (length kids - length rest) kids

abbrev pub RestInside : List ℕ → Result (Option (Option ℕ × Bor (List ℕ))) Malformed → Type 0
RestInside kids (Ok None) = Unit
RestInside kids (Ok (Some p)) = Rest kids p.1.now
RestInside kids (Err e) = Unit

-- what follows the first part of a list, from that part's end on: all after the comma, which is something
abbrev pub AfterPart : List ℕ → Result (Bor (List ℕ)) Malformed → Type 0
AfterPart from (Ok rest) = (length from ≡ 1 → ⊥) × (rest.now ≡ drop 1 from)
AfterPart from (Err e) = length from ≡ 1

-- whether a kid is absent, or its number below that of the nodes
abbrev pub below : math.Option NodeId → ℕ → Bool
below math.none nodes = true
below (math.some n) nodes = ltb n nodes

-- the kids that a judged list stands for
abbrev pub kids_of : Text → List (math.Option NodeId)
kids_of v = maybe (kid_list v) [] (λ ks. ks)
