-- What the answer about a line with a number says.
use Rattle.std.specs.Prelude.{Result, Ok, Err, ℕ}
use Rattle.spec.specs.Sheet.{Got, got, bad}
use Rattle.sheet.specs.Faults.{fault_of}
use Rattle.sheet.specs.declared.faults.Refused.{Refused}
use Rattle.sheet.specs.declared.position.Position.{Position}

abbrev pub got_number : Result (ℕ × Position) Refused → Got ℕ
got_number (Ok p) = got p.0 p.1.at
got_number (Err r) = bad (fault_of r.why) r.at
