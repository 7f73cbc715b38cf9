-- The condition of a store as the code tells it, and the refusal that it is: 21 comes before 22, and 22 before 23.
use Rattle.std.specs.Prelude.{ℕ, Result, Ok, Err, if◌then◌else◌}
use Rattle.spec.specs.Calls.{Condition}
use Rattle.refusals.specs.Numbers as Numbers
use Rattle.refusals.specs.declared.refusal.Refusal.{Refusal}
use Rattle.refusals.specs.declared.refusal.Refusal.TheVariants.{StoreShort, StoreUnsound, NothingLoaded}
use Rattle.soundness.specs.declared.conditions.Unfit.{Unfit}
use Rattle.soundness.specs.declared.conditions.Unfit.TheVariants.{Short, Unsound, Unloaded}

unfoldable pub verdict : Condition → Result (Unit {0}) Unfit
verdict c =
    if c.short then Err Short
    else if c.unsound then Err Unsound
    else if c.unloaded then Err Unloaded
    else Ok tt

-- what a call is refused with
unfoldable pub refusal_of : Unfit → Refusal
refusal_of Short = StoreShort
refusal_of Unsound = StoreUnsound
refusal_of Unloaded = NothingLoaded

-- 0 where nothing is refused
unfoldable pub number_of : Result (Unit {0}) Unfit → ℕ
number_of (Ok _) = 0
number_of (Err why) = Numbers.number_of (refusal_of why)
