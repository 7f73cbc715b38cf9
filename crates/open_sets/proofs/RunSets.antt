-- The entries of a set, one after the other. Assumes nothing.
use mathlib.Core.Path.{◌≡◌}
use mathlib.Core.Bool.{Bool, true, false}
use mathlib.Core.List.{List, [], ◌∷◌}
use Prim.Native.Nat.{ℕ, ◌+◌, ◌≤◌, ◌<◌}
use native.Mathlib.Omega.{arith}
use native.Mathlib.Numerals.{add-one}
use lib.ListN.{length, get_or, drop_of_length-le}
use lib.Seq.{drop-cons}
use lib.Dec.{eqb}
use borrow.Author.Tests.{eq-eqb, ne_eqb}
use Rattle.spec.specs.State.{MergingEntry}
use Rattle.spec.specs.Merge.{set_of, entry_at}
use Rattle.layout.specs.Layout.{entry_limit}
use Rattle.layout.specs.States.{entries_of, state_of, order_of}
use Rattle.open_sets.specs.declared.entry.Entry.{Entry}
use Rattle.open_sets.specs.declared.standing.Standing.{Standing}
use Rattle.open_sets.specs.Ranks.{standing, placed}
use Rattle.open_sets.specs.Entries.{entry_with}
use Rattle.open_sets.specs.Run.{standing_with, Stands, while_of, run_from, NextInRun}
use Rattle.open_sets.proofs.RunReads.{length_order, placed_is}
use Rattle.std.specs.Prelude as rust

-- ---- the entries from a place on
pub run_from_lem : (s : ℕ) (es : List MergingEntry) (run : List ℕ) (j : ℕ) (b : Bool) → j < length run → eqb (set_of (placed es run j)) s ≡ b → run_from s es run j ≡ elim b [ true ↦ placed es run j ∷ run_from s es run (j + 1) | false ↦ [] ]
unfolding run_from while_of
run_from_lem s es run j true h e = rw (drop-cons run j 0 h, add-one j, e)
run_from_lem s es run j false h e = rw (drop-cons run j 0 h, e)

pub run_end : (s : ℕ) (es : List MergingEntry) (run : List ℕ) (j : ℕ) → length run ≤ j → run_from s es run j ≡ []
unfolding run_from while_of
run_end s es run j h = rw (drop_of_length-le run {i = j} h)

-- the set of an entry by where it stands
set_is : (s : List ℕ) (p : Standing) (e : Entry) → Stands p e → set_of (entry_with s e) ≡ p.set.0
unfolding standing_with standing
set_is s p e stands = let z = stands.same s in cc

module _ (s : List ℕ) (j set : ℕ) where
  pub next_past : length (entries_of s) ≤ j → NextInRun s set j rust.None
  unfolding NextInRun
  next_past h = run_end set (entries_of s) (order_of s) j (omega (arith, length_order s))

  module _ (i : ℕ) (e : Entry) (p : Standing) (h : j < length (entries_of s)) (at : i ≡ get_or (order_of s) j 0) (there : entry_with s e ≡ entry_at i (state_of s)) (stands : Stands p e) where
    here : placed (entries_of s) (order_of s) j ≡ entry_with s e
    here = placed_is s j i e at there

    whose : set_of (placed (entries_of s) (order_of s) j) ≡ p.set.0
    whose = rw here (set_is s p e stands)

    pub next_other : (p.set.0 ≡ set → ⊥) → NextInRun s set j rust.None
    unfolding NextInRun
    next_other ne = run_from_lem set (entries_of s) (order_of s) j false (omega (arith, length_order s)) (rw whose (ne_eqb p.set.0 set ne))

    pub next_here : j < entry_limit → p.set.0 ≡ set → NextInRun s set j (rust.Some e)
    unfolding NextInRun
    next_here few eq = (rw (← here) (run_from_lem set (entries_of s) (order_of s) j true (omega (arith, length_order s)) (rw whose (eq-eqb p.set.0 set eq))), few)
