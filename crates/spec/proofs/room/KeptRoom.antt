-- All that is kept of an accepted sheet, and all that every call makes of it, has room in a store. Assumes nothing.
-- With n at most 4,096 nodes these are 16,384 expressions, 8,192 list items (of 32,768 that there is room for), 16,384
-- kid places, 524,288 bytes of text, and 4,096 of everything else.
use mathlib.Core.Path.{◌≡◌, refl, sym, ap, ◌∙◌}
use mathlib.Core.Bool.{Bool, true, false}
use mathlib.Core.List.{List}
use mathlib.Core.Option.{none}
use Prim.Native.Nat.{ℕ, ◌*◌, ◌≤◌}
use native.Mathlib.Omega.{arith}
use lib.ListN.{length, length-set}
use Rattle.words.specs.Equality.{equalb}
use Rattle.spec.specs.Sheet.{Node, Judged, accepted, refused, read_sheet}
use Rattle.spec.specs.Tree.{judge_tree, judge, kid_places}
use Rattle.spec.specs.Module.{missing, reference, Made, Module}
use Rattle.spec.specs.Lower.{lower_module}
use Rattle.spec.specs.Scopes.{expr_at, made_at}
use Rattle.spec.specs.Answer.{reference_text}
use Rattle.spec.specs.Calls.{Condition, fit, Call, ask_reference, ask_name, change_reference, change_name, is_accepted, old_text, new_text, set_reference, set_name}
use Rattle.spec.specs.Kept.{Kept, kept_of, loaded, kept_answer, kept_references, changed_to, kept_with, changed, kept_moved, kept_outcome, kept_after}
use Rattle.spec.specs.Demand.{HeldOnce}
use Rattle.spec.proofs.change.Locality.{is_reference}
use Rattle.spec.proofs.change.Incremental.{Afresh, reference_there, reference_known, stays_afresh}
use Rattle.spec.proofs.change.Demand3.{loaded_afresh}
use Rattle.spec.proofs.room.SheetRoom.{sheet_room}
use Rattle.spec.proofs.steps.Filling.{items_in, referring, list_items, references_in}
use Rattle.spec.proofs.room.ItemRoom.{item_room}
use Rattle.spec.proofs.tree.TreeRoom.{kid_room, size, size_all}
use Rattle.spec.proofs.room.TextRoom.{text_bytes, text_room}
use Rattle.spec.proofs.room.NameRoom.{names_entered, entered_room}
use Rattle.spec.proofs.room.ReferenceRoom.{kept_count, references_room}
use Rattle.spec.proofs.general.Sums.{sum_set}
use Rattle.spec.proofs.sound.Ordered.{at}
use Rattle.spec.proofs.reading.Reading.{judged_same}

-- what is kept of a sheet of n nodes
pub record KeptRoom (n : ℕ) (k : Kept) : Type 0 where
  pub exprs : length k.lowered.exprs ≤ 4 * n
  pub names : length k.lowered.names ≤ n
  pub diagnostics : length k.lowered.diagnostics ≤ n
  pub lost : length k.lowered.lost ≤ n
  -- items of lists, in all expressions together
  pub items : list_items k.lowered.exprs ≤ 2 * n
  -- expressions that are References
  pub referring : references_in k.lowered.exprs ≤ n
  pub scopes : length k.scopes.scopes ≤ n
  -- names entered, in all scopes together
  pub entered : names_entered k.scopes.scopes ≤ length k.lowered.names
  -- references kept, of all names together
  pub references : kept_count k.references ≤ references_in k.lowered.exprs

-- and of its nodes
pub record NodeRoom (nodes : List Node) : Type 0 where
  pub few : length nodes ≤ 4096
  pub kids : kid_places nodes ≤ 4 * length nodes
  pub texts : text_bytes nodes ≤ 524288
  -- all of them hang on the first
  pub size_is : size nodes 256 0 ≡ length nodes

-- ---- a load
-- the walk accepts what was accepted
pub walk_accepts : (s : List ℕ) (nodes : List Node) → judge s ≡ accepted nodes → judge_tree (accepted nodes) ≡ accepted nodes
unfolding judge judge_tree
walk_accepts s nodes e = go (read_sheet s) e
  where
    go : (j : Judged) → judge_tree j ≡ accepted nodes → judge_tree (accepted nodes) ≡ accepted nodes
    go (accepted ns) e = ap (λ (ms : List Node). judge_tree (accepted ms)) (sym (judged_same ns nodes e)) ∙ e
    go (refused number place) e = let z : ◌≡◌ {A = ℕ} 0 1 = cc in absurd (omega arith)

-- THEOREM. The nodes of an accepted sheet have this room.
pub node_room : (s : List ℕ) (nodes : List Node) → judge s ≡ accepted nodes → NodeRoom nodes
node_room s nodes h =
    let w = walk_accepts s nodes h in
    record { few = (sheet_room s nodes h).few; kids = kid_room nodes w; texts = (text_room s nodes h).1; size_is = size_all nodes w }

-- THEOREM. And so has what they are lowered to.
pub loaded_room : (s : List ℕ) (nodes : List Node) → judge s ≡ accepted nodes → KeptRoom (length nodes) (loaded nodes)
unfolding loaded kept_of
loaded_room s nodes h =
    let r = sheet_room s nodes h in
    let i = item_room nodes (walk_accepts s nodes h) in
    record {
      exprs = r.fits.exprs_few;
      names = r.fits.names_few;
      diagnostics = r.fits.diagnostics_few;
      lost = r.fits.lost_few;
      items = i.0;
      referring = i.1;
      scopes = r.scopes_few;
      entered = entered_room nodes;
      references = references_room (loaded nodes) (loaded_afresh nodes);
    }

-- THEOREM. In numbers: there is room for 16,384 expressions and for 32,768 list items.
pub loaded_limits : (s : List ℕ) (nodes : List Node) → judge s ≡ accepted nodes
    → (length (lower_module nodes).exprs ≤ 16384) × (list_items (lower_module nodes).exprs ≤ 32768) × (kid_places nodes ≤ 16384)
unfolding loaded kept_of
loaded_limits s nodes h =
    let n = node_room s nodes h in
    let k = loaded_room s nodes h in
    (omega (arith, k.exprs, n.few), omega (arith, k.items, n.few), omega (arith, n.kids, n.few))

-- ---- a changed text
-- what is counted of a module
record SameCounts (m m' : Module) : Type 0 where
  exprs : length m'.exprs ≡ length m.exprs
  names : length m'.names ≡ length m.names
  diagnostics : m'.diagnostics ≡ m.diagnostics
  lost : m'.lost ≡ m.lost
  items : list_items m'.exprs ≡ list_items m.exprs
  referring : references_in m'.exprs ≡ references_in m.exprs

same_counts : (m : Module) → SameCounts m m
same_counts m = record { exprs = refl; names = refl; diagnostics = refl; lost = refl; items = refl; referring = refl }

with_counts : (c : Condition) (k : Kept) (call : Call) → is_accepted (kept_outcome c k call) ≡ true → SameCounts k.lowered (kept_with k call).lowered
unfolding kept_with changed_to set_reference set_name kept_outcome made_at expr_at reference_text
with_counts c k (ask_reference n buffer reply) h = same_counts k.lowered
with_counts c k (ask_name n buffer reply) h = same_counts k.lowered
with_counts c k (change_reference n t buffer reply) h =
    let m = k.lowered in
    let there = reference_there m (kept_answer k) (kept_references k) k.spent (kept_moved k) c n t buffer reply h in
    let known = reference_known m (kept_answer k) (kept_references k) k.spent (kept_moved k) c n t buffer reply h in
    let was : at m.exprs n ≡ reference known.0 = is_reference (at m.exprs n) known.0 known.1 in
    let d : Made = record { expr = reference t; pointer = (made_at m n).pointer } in
    let none_there : Made = record { expr = missing; pointer = none } in
    let i = sum_set (λ (q : Made). items_in q.expr) m.exprs n d none_there there in
    let j = sum_set (λ (q : Made). referring q.expr) m.exprs n d none_there there in
    let p : items_in (at m.exprs n) ≡ 0 = rw was in
    let q : referring (at m.exprs n) ≡ 1 = rw was in
    record { exprs = length-set m.exprs n d; names = refl; diagnostics = refl; lost = refl; items = omega arith; referring = omega arith }
with_counts c k (change_name x t buffer reply) h =
    record { exprs = refl; names = length-set k.lowered.names x _; diagnostics = refl; lost = refl; items = refl; referring = refl }

with_scopes : (k : Kept) (call : Call) → (kept_with k call).scopes ≡ k.scopes
unfolding kept_with changed_to
with_scopes k (ask_reference n buffer reply) = refl
with_scopes k (ask_name n buffer reply) = refl
with_scopes k (change_reference n t buffer reply) = refl
with_scopes k (change_name x t buffer reply) = refl

after_counts : (c : Condition) (k : Kept) (call : Call) → SameCounts k.lowered (kept_after c k call).lowered × ((kept_after c k call).scopes ≡ k.scopes)
unfolding kept_after changed
after_counts c k call = go (is_accepted (kept_outcome c k call)) (equalb (old_text k.lowered call) (new_text call)) refl refl
  where
    go : (a b : Bool) → is_accepted (kept_outcome c k call) ≡ a → equalb (old_text k.lowered call) (new_text call) ≡ b
        → SameCounts k.lowered (kept_after c k call).lowered × ((kept_after c k call).scopes ≡ k.scopes)
    go true true p q = rw (p, q) (same_counts k.lowered, refl)
    go true false p q = rw (p, q) (with_counts c k call p, with_scopes k call)
    go false b p q = rw p (same_counts k.lowered, refl)

-- THEOREM. No call needs more room than the load did.
pub after_room : (n : ℕ) (k : Kept) → Afresh k → HeldOnce k.scopes → (call : Call) → KeptRoom n k → KeptRoom n (kept_after fit k call)
after_room n k fresh once call room =
    let z = after_counts fit k call in
    let m = z.0 in
    record {
      exprs = omega (arith, m.exprs, room.exprs);
      names = omega (arith, m.names, room.names);
      diagnostics = omega (arith, ap length m.diagnostics, room.diagnostics);
      lost = omega (arith, ap length m.lost, room.lost);
      items = omega (arith, m.items, room.items);
      referring = omega (arith, m.referring, room.referring);
      scopes = rw z.1 room.scopes;
      entered = rw (z.1, m.names) room.entered;
      references = references_room (kept_after fit k call) (stays_afresh k fresh once call);
    }
