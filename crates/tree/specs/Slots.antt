-- The code's slots as those of the definitions.
use Rattle.spec.specs.Kinds as Kinds
use Rattle.tree.specs.declared.slots.Slot.{Slot}
use Rattle.tree.specs.declared.slots.Slot.TheVariants.{Expression, Path, Attribute, Entry, Part, Parameter, From, Ident, Bind, PatternEntry}

unfoldable pub slot_of : Slot → Kinds.Slot
slot_of Expression = Kinds.expression
slot_of Path = Kinds.path
slot_of Attribute = Kinds.attribute
slot_of Entry = Kinds.entry
slot_of Part = Kinds.part
slot_of Parameter = Kinds.parameter
slot_of From = Kinds.from
slot_of Ident = Kinds.ident
slot_of Bind = Kinds.bind
slot_of PatternEntry = Kinds.pattern_entry
