-- What is read from the rows of entries, and what stands in them. Assumes nothing.
use mathlib.Core.Path.{◌≡◌}
use mathlib.Core.List.{List}
use Prim.Native.Nat.{ℕ, ◌+◌, ◌*◌, ◌≤◌, ◌<◌}
use native.Mathlib.Omega.{arith}
use lib.ListN.{length}
use Rattle.words.specs.Words.{word}
use Rattle.spec.specs.State.{source}
use Rattle.spec.specs.Merge.{entry_at}
use Rattle.layout.specs.Layout.{entry_limit, entry_row, entry_count, entries_at}
use Rattle.layout.specs.Rows.{cap}
use Rattle.layout.specs.States.{entry_in, entries_of, state_of}
use Rattle.layout.proofs.RowLaws.{length_rows, get_d_rows, get_d_past}
use Rattle.open_sets.specs.declared.entry.Entry.{Entry}
use Rattle.open_sets.specs.declared.entry_rows.EntryRow.{EntryRow}
use Rattle.open_sets.specs.Entries.{entry_with, ReadsEntry}

-- ---- the table
pub length_entries : (s : List ℕ) → length (entries_of s) ≡ cap (word s entry_count) entry_limit
unfolding entries_of
length_entries s = length_rows (entry_in s) (cap (word s entry_count) entry_limit)

pub entries_counted : (s : List ℕ) (n r : ℕ) → n ≡ word s entry_count → (r ≡ cap n entry_limit) × (r ≤ entry_limit) → (r ≡ length (entries_of s)) × (r ≤ entry_limit)
entries_counted s n r e h = (rw (length_entries s, ← e) h.0, h.1)

module _ (s : List ℕ) (n i : ℕ) (size : n ≡ length (entries_of s)) where
  pub entry_in_lem : i < n → entry_at i (state_of s) ≡ entry_in s i
  unfolding entry_at state_of entries_of
  entry_in_lem h = get_d_rows (entry_in s) (cap (word s entry_count) entry_limit) i (source 0 0) (omega (arith, length_rows (entry_in s) (cap (word s entry_count) entry_limit)))

  pub entry_out : n ≤ i → entry_at i (state_of s) ≡ source 0 0
  unfolding entry_at state_of entries_of
  entry_out h = get_d_past (entry_in s) (cap (word s entry_count) entry_limit) i (source 0 0) (omega (arith, length_rows (entry_in s) (cap (word s entry_count) entry_limit)))

  pub entry_read : (r : EntryRow) (e : Entry) → i < n → r.tag ≡ word s (entries_at + entry_row * i) → r.set ≡ word s (entries_at + entry_row * i + 4) → r.a ≡ word s (entries_at + entry_row * i + 8) → r.b ≡ word s (entries_at + entry_row * i + 12)
      → r.nested ≡ word s (entries_at + entry_row * i + 16) → r.sort ≡ word s (entries_at + entry_row * i + 20) → r.value ≡ word s (entries_at + entry_row * i + 24) → ReadsEntry r e → entry_with s e ≡ entry_at i (state_of s)
  unfolding entry_in
  entry_read r e h tag set a b nested sort value reads = rw (entry_in_lem h, reads.same s, tag, set, a, b, nested, sort, value)
