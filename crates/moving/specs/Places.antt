-- Whose text changes, as the code has it.
use Rattle.std.specs.Prelude.{◌≡◌, List, ℕ, length}
use Rattle.spec.specs.Basics.{Text}
use Rattle.spec.specs.Calls as spec
use Rattle.spec.specs.Kept.{moved_by}
use Rattle.layout.specs.Keeps.{kept_in}
use Rattle.moving.specs.Moving.{Refers}
use Rattle.moving.specs.declared.place.Place.{Place}
use Rattle.moving.specs.declared.place.Place.TheVariants.{Name, Reference}

-- as the definitions have it
abbrev pub place_of : Place → spec.Place
place_of (Name x) = spec.at_name x.0
place_of (Reference e) = spec.at_reference e.0

-- a Reference has to be one; a name is whatever its number says
abbrev pub Stands : spec.Place → List ℕ → Type 0
Stands (spec.at_name x) s = Unit {0}
Stands (spec.at_reference e) s = Refers e s

-- what is to be known before anything is moved: a name's count, and of a Reference that it is one
abbrev pub Counted : spec.Place → Text → ℕ → List ℕ → Type 0
Counted (spec.at_name x) t n s = n ≡ length (moved_by (kept_in s) (spec.at_name x) t)
Counted (spec.at_reference e) t n s = Refers e s
