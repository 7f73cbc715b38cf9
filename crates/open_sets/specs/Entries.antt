-- Entries of the sets that are being merged: what the code's are in the definitions, and steps on sets and entries in a
-- store.
use Rattle.std.specs.Prelude.{◌≡◌, List, [], ◌∷◌, ℕ, ◌+◌, ◌*◌, ◌<◌, length, take, ltb, if◌then◌else◌}
use Rattle.std.proofs.Math.Option.{Option, none, some}
use Rattle.spec.specs.Module as spec
use Rattle.spec.specs.State.{MergingEntry, static, source, dynamic, new_set, set_entry, cut}
use Rattle.spec.specs.State as state
use Rattle.spec.specs.Merge.{entry_at}
use Rattle.module.specs.Ids.{binding_of}
use Rattle.layout.specs.Layout.{absent, set_limit, entry_row, entries_at}
use Rattle.layout.specs.Changes.{Wrote, Still}
use Rattle.layout.specs.Texts.{text_in}
use Rattle.layout.specs.States.{entry_of, entry_in}
use Rattle.store.specs.Work.{Working, with_state}
use Rattle.open_sets.specs.declared.entry.Entry.{Entry}
use Rattle.open_sets.specs.declared.entry.Entry.TheVariants.{Static, Source, Dynamic}
use Rattle.open_sets.specs.declared.entry_rows.EntryRow.{EntryRow}
use Rattle.open_sets.specs.declared.entry.SetId as rust_set_id
use Rattle.module.specs.declared.ids.BindingValue as rust_binding_value
use Rattle.std.specs.Prelude as rust

-- ---- what the code's entries are
unfoldable pub maybe_set_of : rust.Option rust_set_id.SetId → Option state.SetId
maybe_set_of (rust.Some t) = some t.0
maybe_set_of rust.None = none

unfoldable pub maybe_value_of : rust.Option rust_binding_value.BindingValue → Option spec.BindingValue
maybe_value_of (rust.Some v) = some (binding_of v)
maybe_value_of rust.None = none

-- texts by their numbers in the store
unfoldable pub entry_with : List ℕ → Entry → MergingEntry
entry_with s (Static set key x nested value) = static set.0 (text_in s key.0) x.0 (maybe_set_of nested) (maybe_value_of value)
entry_with s (Source set e) = source set.0 e.0
entry_with s (Dynamic set k v) = dynamic set.0 k.0 v.0

-- a nested set can stand in a row: its number is not the mark
unfoldable pub HeldSet : rust.Option rust_set_id.SetId → Type 0
HeldSet (rust.Some t) = t.0 < absent
HeldSet rust.None = Unit {0}

unfoldable pub Storable : Entry → Type 0
Storable (Static set key x nested value) = HeldSet nested
Storable (Source set e) = Unit {0}
Storable (Dynamic set k v) = Unit {0}

-- ---- rows
-- the row says what the entry is, in any store
pub record SaysEntry (r : EntryRow) (e : Entry) : Type 0 where
  pub same : (s : List ℕ) → entry_of s r.tag r.set r.a r.b r.nested r.sort r.value ≡ entry_with s e

-- the other way round: what is read from a row
pub record ReadsEntry (r : EntryRow) (e : Entry) : Type 0 where
  pub same : (s : List ℕ) → entry_with s e ≡ entry_of s r.tag r.set r.a r.b r.nested r.sort r.value

-- the row n is the entry's, and nothing else was written
pub record PutEntry (n : ℕ) (e : Entry) (s t : List ℕ) : Type 0 where
  pub wrote : Wrote ((entries_at + entry_row * n, entries_at + entry_row * n + 28) ∷ []) s t
  pub still : Still s t
  pub row : entry_in t n ≡ entry_with s e

-- ---- steps
-- MergingSet::new
unfoldable pub open_set : spec.NameKind → spec.Pointer → Working state.SetId
open_set k p w =
    let st = w.lowered in
    if ltb (length st.sets) set_limit then (length st.sets, with_state w (new_set k p st).1) else (set_limit, w)

-- the stacks cut back, and the run with the entries
unfoldable pub cut_to : ℕ → ℕ → Working (Unit {0})
cut_to sets entries w = (tt, record { lowered = (cut sets entries w.lowered).1; waiting = w.waiting; used = w.used; order = take entries w.order })

-- another entry in the place of the one numbered i
unfoldable pub change : ℕ → (MergingEntry → MergingEntry) → Working (Unit {0})
change i f w = (tt, with_state w (set_entry i (f (entry_at i w.lowered)) w.lowered).1)
