-- The run in a store: where an entry stands in it, the entries of a set one after the other, and what adding an entry
-- does.
use Rattle.std.specs.Prelude.{◌≡◌, Bool, true, false, not, List, [], ◌∷◌, ℕ, ◌+◌, ◌*◌, ◌≤◌, ◌<◌, length, get_or, drop, eqb, ltb, if◌then◌else◌}
use Rattle.std.proofs.Math.Option.{Option, none, some}
use Rattle.words.specs.Order.{order}
use Rattle.words.specs.Words.{word}
use Rattle.std.specs.declared.cmp.Ordering.{Ordering}
use Rattle.std.specs.declared.cmp.Ordering.TheVariants.{Less, Equal, Greater}
use Rattle.std.specs.Ordering.{is_eq}
use Rattle.spec.specs.State.{SetId, MergingEntry, source, State, add_entry}
use Rattle.spec.specs.Merge.{set_of}
use Rattle.layout.specs.Layout.{entry_limit, entry_count, run_at}
use Rattle.layout.specs.Changes.{Wrote, Still}
use Rattle.layout.specs.Texts.{text_in}
use Rattle.layout.specs.States.{entries_of, state_of, waiting_of, used_of, order_of}
use Rattle.store.specs.Work.{lowering, Fine}
use Rattle.open_sets.specs.Ranks.{standing, InOrder, placed}
use Rattle.open_sets.specs.Entries.{entry_with}
use Rattle.open_sets.specs.declared.entry.Entry.{Entry}
use Rattle.open_sets.specs.declared.standing.Standing.{Standing}
use Rattle.open_sets.specs.declared.standing.Class.{Class}
use Rattle.open_sets.specs.declared.standing.Class.TheVariants.{Static, Source, Dynamic}
use Rattle.std.specs.Prelude as rust

-- ---- where entries stand
-- statics, then sources, then dynamics
abbrev pub class_number : Class → ℕ
class_number Static = 0
class_number Source = 1
class_number Dynamic = 2

unfoldable pub standing_with : List ℕ → Standing → List ℕ
standing_with s p = p.set.0 ∷ class_number p.class ∷ text_in s p.key.0

-- p is where the entry stands, in any store
pub record Stands (p : Standing) (e : Entry) : Type 0 where
  pub same : (s : List ℕ) → standing_with s p ≡ standing (entry_with s e)

-- ---- the search for a place
-- It goes on past what stands before p, and if `past` says so past what stands where p does.
unfoldable pub stops : Bool → Ordering → Bool
stops past Less = false
stops past Equal = not past
stops past Greater = true

-- whether it stops at the place j
unfoldable pub stops_at : Bool → Standing → List ℕ → ℕ → Bool
stops_at past p s j = stops past (order (standing (placed (entries_of s) (order_of s) j)) (standing_with s p))

-- In a run that is in order, r is the first place where it stops.
pub record Place (past : Bool) (p : Standing) (s : List ℕ) (r : ℕ) : Type 0 where
  pub within : r ≤ length (entries_of s)
  pub few : r ≤ entry_limit
  pub fails : InOrder (entries_of s) (order_of s) → (j : ℕ) → j < r → stops_at past p s j ≡ false
  pub passes : InOrder (entries_of s) (order_of s) → (j : ℕ) → r ≤ j → j < length (entries_of s) → stops_at past p s j ≡ true

-- ---- an entry that may be absent
unfoldable pub maybe_entry_of : rust.Option ℕ → Option ℕ
maybe_entry_of (rust.Some i) = some i
maybe_entry_of rust.None = none

-- the number at the place j of the run, or the run ends before
unfoldable pub NumberInRun : List ℕ → ℕ → rust.Option ℕ → Type 0
NumberInRun s j rust.None = length (entries_of s) ≤ j
NumberInRun s j (rust.Some i) = (i ≡ get_or (order_of s) j 0) × ((j < length (entries_of s)) × (j < entry_limit))

-- the number at the place j of the run, if the entry there stands where p does
unfoldable pub found_at : List ℕ → ℕ → Standing → Option ℕ
found_at s j p =
    if ltb j (length (entries_of s)) then (if is_eq (order (standing (placed (entries_of s) (order_of s) j)) (standing_with s p)) then some (get_or (order_of s) j 0) else none)
    else none

-- ---- the entries of a set
-- in the order of these numbers, as long as they are of the set s
unfoldable pub while_of : SetId → List MergingEntry → List ℕ → List MergingEntry
while_of s es [] = []
while_of s es (i ∷ is) = if eqb (set_of (get_or es i (source 0 0))) s then get_or es i (source 0 0) ∷ while_of s es is else []

-- from the place j of the run on
unfoldable pub run_from : SetId → List MergingEntry → List ℕ → ℕ → List MergingEntry
run_from s es order j = while_of s es (drop j order)

-- the entry at the place j, if it is one of the set s
unfoldable pub NextInRun : List ℕ → SetId → ℕ → rust.Option Entry → Type 0
NextInRun st s j rust.None = run_from s (entries_of st) (order_of st) j ≡ []
NextInRun st s j (rust.Some e) = (run_from s (entries_of st) (order_of st) j ≡ entry_with st e ∷ run_from s (entries_of st) (order_of st) (j + 1)) × (j < entry_limit)

-- ---- an entry that is added
-- past the limit nothing is added
unfoldable pub put_entry : MergingEntry → State → State
put_entry e st = if ltb (length st.entries) entry_limit then (add_entry e st).1 else st

-- the number n stands at the place q of the run, those from there on one place higher, and there are n + 1
pub record Inserted (q n : ℕ) (s t : List ℕ) : Type 0 where
  pub wrote : Wrote ((entry_count, entry_count + 4) ∷ (run_at + 4 * q, run_at + 4 * n + 4) ∷ []) s t
  pub still : Still s t
  pub count : word t entry_count ≡ n + 1
  pub own : word t (run_at + 4 * q) ≡ n
  pub moved : (j : ℕ) → q ≤ j → j < n → word t (run_at + 4 * (j + 1)) ≡ word s (run_at + 4 * j)

pub record Entered (e : MergingEntry) (s t : List ℕ) : Type 0 where
  pub wrote : Wrote lowering s t
  pub still : Still s t
  pub does : Fine s → InOrder (entries_of s) (order_of s) → (state_of t ≡ put_entry e (state_of s)) × ((waiting_of t ≡ waiting_of s) × ((used_of t ≡ used_of s) × (Fine t × InOrder (entries_of t) (order_of t))))
