-- What a host would set the text of, as the code has it.
use Rattle.spec.specs.Calls as spec
use Rattle.change.specs.declared.target.Target.{Target}
use Rattle.change.specs.declared.target.Target.TheVariants.{Name, Reference}

-- as the definitions have it
abbrev pub target_of : Target → spec.Place
target_of (Name n) = spec.at_name n
target_of (Reference n) = spec.at_reference n
