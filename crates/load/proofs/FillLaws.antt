-- A store that was emptied, given the nodes of an accepted sheet, lowered and resolved keeps what the definition of a
-- load says. Assumes nothing.
use mathlib.Core.Path.{◌≡◌, refl, sym, ap, ◌∙◌}
use mathlib.Core.Bool.{Bool}
use mathlib.Core.List.{List}
use Prim.Native.Nat.{ℕ, ◌+◌, ◌-◌, ◌≤◌}
use native.Mathlib.Omega.{arith}
use lib.ListN.{length, drop}
use lib.Seq.{drop-drop}
use Rattle.words.specs.Words.{word}
use Rattle.spec.specs.Sheet.{Node, accepted}
use Rattle.spec.specs.Tree.{judge}
use Rattle.spec.specs.Lower.{lower_module}
use Rattle.spec.proofs.room.KeptRoom.{node_room}
use Rattle.spec.proofs.reading.Reading.{accepted_read}
use Rattle.layout.specs.Layout.{loaded_text_limit, texts_place, exprs_at, sheet_at, store_bytes, Long}
use Rattle.layout.specs.Regions.{bringing}
use Rattle.layout.specs.Nodes.{nodes_of}
use Rattle.layout.specs.States.{module_in}
use Rattle.layout.proofs.Frames.{number_kept}
use Rattle.intake.specs.Bring.{Brought, Holds}
use Rattle.store.specs.Work.{NoRows, Cleared}
use Rattle.store.proofs.ClearLaws.{work_none, fine_none}
use Rattle.merge.proofs.Steps.{nodes_still}
use Rattle.lower.specs.Whole.{Whole, LowersAll}
use Rattle.nameres.specs.Loaded.{KeepsAll}
use Rattle.nameres.proofs.ConditionLaws.{loaded_kept, loaded_sound}
use Rattle.load.specs.Loads.{Loaded}
use Rattle.load.specs.Filled.{Fills}

-- the bytes past the store lie past the sheet's nodes
past_same : (s t : List ℕ) → drop sheet_at t ≡ drop sheet_at s → drop store_bytes t ≡ drop store_bytes s
past_same s t = go sheet_at (store_bytes - sheet_at) store_bytes (omega arith)
  where
    go : (n k m : ℕ) → m ≡ n + k → drop n t ≡ drop n s → drop m t ≡ drop m s
    go n k m q e = rw q (sym (drop-drop k n t) ∙ ap (drop k) e ∙ drop-drop k n s)

-- a sheet's nodes and texts lie apart from the rows of lowering
rows_apart : {sheet s t : List ℕ} {r : Bool} → Brought sheet s t r → NoRows s → NoRows t
unfolding bringing
rows_apart b z =
    record {
      exprs = number_kept b.wrote 0 refl ∙ z.exprs;
      names = number_kept b.wrote 4 refl ∙ z.names;
      diagnostics = number_kept b.wrote 8 refl ∙ z.diagnostics;
      lost = number_kept b.wrote 12 refl ∙ z.lost;
      waiting = number_kept b.wrote 32 refl ∙ z.waiting;
      sets = number_kept b.wrote 36 refl ∙ z.sets;
      entries = number_kept b.wrote 40 refl ∙ z.entries;
      first_item_lem = number_kept b.wrote exprs_at refl ∙ z.first_item_lem;
    }

module _ {sheet s a b c t : List ℕ} {r : Bool} (long : Long s) (clears : Cleared s a) (brings : Brought sheet a b r) (lowers : LowersAll b c) (keeps : KeepsAll c t) where
  module _ (nodes : List Node) (accepts : judge sheet ≡ accepted nodes) where
    holds : Holds nodes b r
    holds = brings.holds nodes (accepted_read sheet nodes accepts) (let n = node_room sheet nodes accepts in omega (arith, n.kids, n.few))

    none : NoRows b
    none = rows_apart brings clears.rows

    nodes_b : judge sheet ≡ accepted (nodes_of b)
    nodes_b = rw holds.nodes accepts

    whole : Whole b c
    whole = lowers.does sheet nodes_b (fine_none b none) (work_none b none)

    -- lowering leaves the nodes
    nodes_c : nodes_of c ≡ nodes_of b
    nodes_c = nodes_still b c lowers.still

    accepts_c : judge sheet ≡ accepted (nodes_of c)
    accepts_c = rw nodes_c nodes_b

    lowered_c : module_in c ≡ lower_module (nodes_of c)
    lowered_c = rw nodes_c whole.lowered

    long_c : Long c
    long_c = omega (arith, long, clears.wrote.size, brings.wrote.size, lowers.wrote.size)

    texts_c : word c texts_place ≤ loaded_text_limit
    texts_c = omega (arith, holds.texts, lowers.still.used)

    size_all : length t ≡ length s
    size_all = keeps.wrote.size ∙ lowers.wrote.size ∙ brings.wrote.size ∙ clears.wrote.size

    past_all : drop store_bytes t ≡ drop store_bytes s
    past_all = past_same c t keeps.still.same ∙ past_same b c lowers.still.same ∙ brings.past ∙ past_same s a clears.same

    is_loaded : Loaded nodes s t
    is_loaded =
        record {
          kept = rw (nodes_c, holds.nodes) at (loaded_kept keeps sheet accepts_c lowered_c);
          sound = loaded_sound keeps sheet accepts_c lowered_c long_c whole.fits texts_c;
          size = size_all;
          past = past_all;
        }

  -- THEOREM. The four steps fill the store.
  pub fills : Fills sheet s t
  fills = record { does = is_loaded }
