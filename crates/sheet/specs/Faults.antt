-- The code's faults are those of the definitions.
use Rattle.spec.specs.Sheet as spec
use Rattle.sheet.specs.declared.faults.Fault.{Fault}
use Rattle.sheet.specs.declared.faults.Fault.TheVariants.{Malformed, WrongCount, WrongKind, WrongRange, WrongFlag, WrongKid, WrongText}

abbrev pub fault_of : Fault → spec.Fault
fault_of Malformed = spec.malformed
fault_of WrongCount = spec.wrong_count
fault_of WrongKind = spec.wrong_kind
fault_of WrongRange = spec.wrong_range
fault_of WrongFlag = spec.wrong_flag
fault_of WrongKid = spec.wrong_kid
fault_of WrongText = spec.wrong_text
