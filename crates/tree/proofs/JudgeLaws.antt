-- From accepted lines to a judged tree. Assumes nothing.
use Rattle.std.specs.Prelude.{Result, Ok, Err}
use mathlib.Core.Path.{◌≡◌, refl, sym, ap, ◌∙◌}
use mathlib.Core.Bool.{◌&&◌}
use mathlib.Core.List.{List}
use Prim.Native.Nat.{ℕ, ◌+◌, ◌≤◌, ◌<◌}
use native.Mathlib.Omega.{arith}
use lib.ListN.{length}
use lib.Dec.{leb}
use borrow.Author.Tests.{eq-eqb, ne_eqb}
use Rattle.spec.specs.Basics.{bytes}
use Rattle.spec.specs.Sheet.{wrong_count, decimal, Judged, accepted, refused, read_sheet}
use Rattle.spec.specs.Tree.{walk_to, whole_tree, judge_tree, judge}
use Rattle.spec.proofs.reading.Lines.{number_within}
use Rattle.spec.proofs.reading.Reading.{Sheet, accepted_sheet}
use Rattle.sheet.specs.Keyed.{number_of}
use Rattle.sheet.specs.Sheets.{numbered, answer, first_node, place_of}
use Rattle.sheet.proofs.LineLaws.{number_is, field_inside}
use Rattle.sheet.specs.declared.position.Position.{Position}
use Rattle.tree.specs.Nodes.{nodes_in, Stands}
use Rattle.tree.specs.Walk.{walked_of, Walks}
use Rattle.tree.specs.Judge.{Nodes}
use Rattle.tree.specs.declared.walk.Front.{Front}
use Rattle.sheet.specs.declared.faults.SheetRefused.{SheetRefused}
use Rattle.refusals.specs.Numbers as refusals

-- ---- the lines
pub lines_refused : (s : List ℕ) (w : SheetRefused) → numbered (Err w) ≡ answer s (read_sheet s) → numbered (Err w) ≡ answer s (judge s)
unfolding judge judge_tree answer
lines_refused s w e = by_lines (read_sheet s) e
  where
    by_lines : (j : Judged) → numbered (Err w) ≡ answer s j → numbered (Err w) ≡ answer s (judge_tree j)
    by_lines (accepted ns) h = cc
    by_lines (refused n p) h = h

pub lines_accepted : (s : List ℕ) (nodes : ℕ) (first : Position) → numbered (Ok (nodes, first)) ≡ answer s (read_sheet s) → Nodes s nodes first
unfolding nodes_in answer
lines_accepted s nodes first e = by_lines (read_sheet s) refl e
  where
    by_lines : (j : Judged) → read_sheet s ≡ j → numbered (Ok (nodes, first)) ≡ answer s j → Nodes s nodes first
    by_lines (accepted ns) f h =
        let same : nodes_in s ≡ ns = rw f in
        let pair : ◌≡◌ {A = ℕ × Position} (nodes, first) (length ns, first_node s) = cc in
        record { right = f ∙ ap accepted (sym same); count = rw same (ap (λ p. p.0) pair); start = ap (λ p. p.1) pair }
    by_lines (refused n p) f h = let z : ◌≡◌ {A = ℕ} 0 1 = cc in absurd (omega arith)

-- ---- the first node
module _ (s : List ℕ) (nodes : ℕ) (first : Position) (h : Nodes s nodes first) where
  sheet : Sheet s (nodes_in s)
  sheet = accepted_sheet s (nodes_in s) h.right

  pub some_nodes : 0 < nodes
  some_nodes =
      let within = number_within "nodes=" wrong_count 1 4096 s 0 (length (nodes_in s)) sheet.start sheet.counted in
      omega (arith, within.0, h.count)

  starts : first.at ≡ sheet.start
  unfolding first_node
  starts = ap (λ p. p.at) h.start ∙ ap place_of sheet.counted

  inside : sheet.start ≤ length s
  unfolding number_of
  inside = field_inside (bytes "nodes=") decimal wrong_count (λ v. leb 1 v && leb v 4096) s 0 (length (nodes_in s)) sheet.start (number_is "nodes=" wrong_count 1 4096 s 0 ∙ sheet.counted)

  pub root_stands : Stands s 0 first.at
  root_stands = rw starts (record { inside = omega arith; reach = inside; follow = sheet.nodes })

  -- ---- the tree
  judged_as : judge s ≡ whole_tree (nodes_in s) (walk_to (nodes_in s) 255 0)
  unfolding judge judge_tree
  judged_as = ap judge_tree h.right

  -- what the walk comes to is what the definitions judge
  pub tree_judged : (w : Result Front SheetRefused) → Walks s (walk_to (nodes_in s) 255 0) w → whole_tree (nodes_in s) (walked_of w) ≡ judge s
  tree_judged w k = ap (whole_tree (nodes_in s)) k.same ∙ sym judged_as

  pub stopped_tree : (r : SheetRefused) → Walks s (walk_to (nodes_in s) 255 0) (Err r) → refused (refusals.number_of r.why) r.place ≡ judge s
  unfolding whole_tree
  stopped_tree r k = tree_judged (Err r) k

  module _ (front : Front) (k : Walks s (walk_to (nodes_in s) 255 0) (Ok front)) where
    pub met_all : front.highest + 1 ≡ nodes → accepted (nodes_in s) ≡ judge s
    unfolding whole_tree
    met_all q = rw (eq-eqb (front.highest + 1) (length (nodes_in s)) (q ∙ h.count)) at (tree_judged (Ok front) k)

    -- 7: nodes are left
    pub met_few : (front.highest + 1 ≡ nodes → ⊥) → refused 7 (front.highest + 1) ≡ judge s
    unfolding whole_tree
    met_few q = rw (ne_eqb (front.highest + 1) (length (nodes_in s)) (λ e. q (e ∙ sym h.count))) at (tree_judged (Ok front) k)

-- ---- both
module _ (s : List ℕ) (nodes : ℕ) (first : Position) (h : Nodes s nodes first) where
  pub all_accepted : accepted (nodes_in s) ≡ judge s → numbered (Ok (nodes, first)) ≡ answer s (judge s)
  unfolding answer
  all_accepted k = rw (← k, h.count, h.start) refl

pub tree_refused : (s : List ℕ) (r : SheetRefused) → refused (refusals.number_of r.why) r.place ≡ judge s → numbered (Err r) ≡ answer s (judge s)
unfolding answer
tree_refused s r k = rw (← k) refl
