-- One text changed in a store, and with it what is kept of answers and references.
use Rattle.std.specs.Prelude.{◌≡◌, true, false, List, ℕ, ◌+◌, ◌*◌, ◌≤◌, length}
use Rattle.words.specs.Equality.{equalb}
use Rattle.spec.specs.Basics.{Text}
use Rattle.spec.specs.Calls.{Place, at_name, at_reference, text_at}
use Rattle.spec.specs.Kept.{moved_by, changed_to}
use Rattle.layout.specs.Layout.{room_limit}
use Rattle.layout.specs.Rows.{set_all}
use Rattle.layout.specs.Changes.{Wrote, Still}
use Rattle.layout.specs.Regions.{spending, changing}
use Rattle.layout.specs.Keeps.{kept_in}
use Rattle.soundness.specs.Sound.{sound}
use Rattle.store.specs.TextChanges.{Renamed, Reworded}

-- The row of the place has the text of the number k.
abbrev pub SetsText : Place → ℕ → List ℕ → List ℕ → Type 0
SetsText (at_name x) k s t = Renamed x k s t
SetsText (at_reference e) k s t = Reworded e k s t

-- So much more of the change room is spent, where there is as much, and nothing else is another.
pub record Spends (n : ℕ) (s t : List ℕ) : Type 0 where
  pub wrote : Wrote spending s t
  pub still : Still s t
  pub does : (kept_in s).spent + n ≤ room_limit → kept_in t ≡ record { lowered = (kept_in s).lowered; scopes = (kept_in s).scopes; answers = (kept_in s).answers; references = (kept_in s).references; spent = (kept_in s).spent + n }

-- A change that may be made: the store is sound and its room holds the text, which is another than the one there, and
-- the buffer has room for what it moves.
pub record Changeable (p : Place) (bytes : Text) (s b : List ℕ) : Type 0 where
  pub fine : sound s ≡ true
  pub room : (kept_in s).spent + length bytes ≤ room_limit
  pub other : equalb (text_at (kept_in s).lowered p) bytes ≡ false
  pub fits : 4 * length (moved_by (kept_in s) p bytes) ≤ length b

-- It is made, and the store is sound then; what it moved stands in the buffer b, which is c now.
pub record Changes (p : Place) (bytes : Text) (s b t c : List ℕ) : Type 0 where
  pub wrote : Wrote changing s t
  pub does : kept_in t ≡ changed_to (kept_in s) p bytes
  pub leaves : sound t ≡ true
  pub list : c ≡ set_all b 0 (moved_by (kept_in s) p bytes)
