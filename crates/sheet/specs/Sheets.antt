-- What the answer about a whole sheet says.
use Rattle.std.specs.Prelude.{Result, Ok, Err, List, ℕ, length}
use Rattle.spec.specs.Sheet.{Node, Got, got, bad, Judged, accepted, refused, number, wrong_count}
use Rattle.refusals.specs.Numbers.{number_of}
use Rattle.sheet.specs.Faults.{fault_of}
use Rattle.sheet.specs.declared.faults.Refused.{Refused}
use Rattle.sheet.specs.declared.faults.SheetRefused.{SheetRefused}
use Rattle.sheet.specs.declared.position.Position.{Position}

-- how many nodes were read
abbrev pub counted : Got (List Node) → Got ℕ
counted (got ns at) = got (length ns) at
counted (bad why at) = bad why at

abbrev pub got_nodes : ℕ → Result Position Refused → Got ℕ
got_nodes count (Ok last) = got count last.at
got_nodes count (Err r) = bad (fault_of r.why) r.at

abbrev pub place_of : Got ℕ → ℕ
place_of (got v at) = at
place_of (bad why at) = at

-- the place after the line `nodes=`
unfoldable pub first_node : List ℕ → Position
first_node s = record { at = place_of (number "nodes=" wrong_count 1 4096 s 0) }

-- an accepted sheet by the count of its nodes and the place of the first; a refused one by its number and its place
unfoldable pub answer : List ℕ → Judged → Result (ℕ × Position) (ℕ × ℕ)
answer s (accepted ns) = Ok (length ns, first_node s)
answer s (refused number place) = Err (number, place)

-- the same of what the code answers: a refusal has its number
abbrev pub numbered : Result (ℕ × Position) SheetRefused → Result (ℕ × Position) (ℕ × ℕ)
numbered (Ok p) = Ok p
numbered (Err r) = Err (number_of r.why, r.place)
