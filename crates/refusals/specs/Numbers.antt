-- The numbers of the refusals, as docs/RULES.md has them.
use Rattle.std.specs.Prelude.{ℕ}
use Rattle.refusals.specs.declared.refusal.Refusal.{Refusal}
use Rattle.refusals.specs.declared.refusal.Refusal.TheVariants.{SheetTooLong, Malformed, WrongValue, WrongArity, MisplacedKid, TooDeep, NodesLeft, TextTooLong, StoreShort, StoreUnsound, NothingLoaded, NoSuchNumber, NotAReference, BufferShort, RoomSpent, WrongFlag, WrongText, WrongRange, MovedShort}

abbrev pub number_of : Refusal → ℕ
number_of SheetTooLong = 1
number_of Malformed = 2
number_of WrongValue = 3
number_of WrongArity = 4
number_of MisplacedKid = 5
number_of TooDeep = 6
number_of NodesLeft = 7
number_of TextTooLong = 8
number_of StoreShort = 21
number_of StoreUnsound = 22
number_of NothingLoaded = 23
number_of NoSuchNumber = 24
number_of NotAReference = 25
number_of BufferShort = 26
number_of RoomSpent = 27
number_of WrongFlag = 31
number_of WrongText = 32
number_of WrongRange = 33
number_of MovedShort = 34
