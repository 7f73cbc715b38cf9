-- Laws of the nodes' reader and of the whole sheet's. Assumes nothing.
use Rattle.std.specs.Prelude as rust
use mathlib.Core.Path.{◌≡◌, refl, sym, ap, ◌∙◌}
use mathlib.Core.List.{List, ◌∷◌}
use Prim.Native.Nat.{ℕ, suc, ◌+◌, ◌-◌, ◌≤◌, ◌<◌}
use native.Mathlib.Omega.{arith}
use lib.ListN.{length}
use borrow.Author.Tests.{le-leb, lt-leb, eq-eqb, ne_eqb}
use Rattle.spec.specs.Basics.{bytes}
use Rattle.spec.specs.Sheet as spec
use Rattle.spec.specs.Sheet.{Fault, Node, Got, got, bad, next, ◌>>=◌, give, wrong_count, fault_number, node, nodes_from, node_list, whole, read_sheet}
use Rattle.refusals.specs.Numbers.{number_of}
use Rattle.sheet.specs.Keyed.{number_of as number_line}
use Rattle.sheet.specs.Nodes.{node_of, FormedSpans}
use Rattle.sheet.specs.Sheets.{counted, first_node, answer, numbered}
use Rattle.sheet.specs.declared.position.Position.{Position}
use Rattle.sheet.specs.declared.faults.SheetRefused.{SheetRefused}
use Rattle.sheet.specs.declared.nodes.Node as row
use Rattle.sheet.proofs.NodeLaws.{number_by}

-- ---- the nodes: i are passed, and what is left is read on
abbrev passed : ℕ → Got (List Node) → Got ℕ
passed i (got ns at) = got (i + length ns) at
passed i (bad why at) = bad why at

pub record Reading (s : List ℕ) (start count i at : ℕ) : Type 0 where
  pub inside : at ≤ length s
  pub same : counted (nodes_from count count 0 s start) ≡ passed i (nodes_from (count - i) count i s at)

module _ {s : List ℕ} {start count i at : ℕ} (r : Reading s start count i at) where
  pub reading_end : i ≡ count → got count at ≡ counted (nodes_from count count 0 s start)
  unfolding nodes_from give
  reading_end h =
      let e : count - i ≡ 0 = omega arith in
      sym (r.same ∙ rw e (ap (λ (n : ℕ). got n at) (omega (arith, h))))

  module _ (h : i < count) where
    one : count - i ≡ suc (count - (i + 1))
    one = omega arith

    pub reading_bad : (why : Fault) (place : ℕ) → bad why place ≡ node count i s at → bad why place ≡ counted (nodes_from count count 0 s start)
    unfolding nodes_from ◌>>=◌ next
    reading_bad why place f = sym (r.same ∙ rw (one, ← f))

    pub reading_more : (n : row.Node) → got (node_of s n) n.next.at ≡ node count i s at → FormedSpans s count n → Reading s start count (i + 1) n.next.at
    unfolding nodes_from ◌>>=◌ next give
    reading_more n f k =
        record {
          inside = omega (arith, k.next, k.text.within);
          same = r.same ∙ rw (one, ← f) (go (nodes_from (count - (i + 1)) count (i + 1) s n.next.at));
        }
      where
        go : (g : Got (List Node)) → passed i (next (λ ns _ at. got (node_of s n ∷ ns) at) s g) ≡ passed (i + 1) g
        go (got ns at) = ap (λ (m : ℕ). got m at) (omega arith)
        go (bad why at) = refl

-- ---- the whole sheet
module _ (s : List ℕ) where
  pub sheet_long : 1048576 < length s → rust.Err (1, 0) ≡ answer s (read_sheet s)
  unfolding answer read_sheet
  sheet_long h = rw (lt-leb (length s) 1048576 h)

  module _ (h : length s ≤ 1048576) (start : Position) (z : start.at ≡ 0) where
    pub sheet_count : (why : Fault) (at n : ℕ) → bad why at ≡ number_line (bytes "nodes=") wrong_count 1 4096 s start.at → n ≡ fault_number why → rust.Err (n, at) ≡ answer s (read_sheet s)
    unfolding answer read_sheet whole node_list ◌>>=◌ next
    sheet_count why at n e q = let here = number_by "nodes=" wrong_count 1 4096 s 0 _ (rw z at e) in rw (le-leb (length s) 1048576 h, here, q)

    module _ (count : ℕ) (first : Position) (e : got count first.at ≡ number_line (bytes "nodes=") wrong_count 1 4096 s start.at) where
      here : spec.number "nodes=" wrong_count 1 4096 s 0 ≡ got count first.at
      here = number_by "nodes=" wrong_count 1 4096 s 0 _ (rw z at e)

      judged : read_sheet s ≡ whole s (nodes_from count count 0 s first.at)
      unfolding read_sheet node_list ◌>>=◌ next
      judged = rw (le-leb (length s) 1048576 h, here)

      at_first_lem : first_node s ≡ first
      unfolding first_node
      at_first_lem = rw here

      pub sheet_node : (why : Fault) (at n : ℕ) → bad why at ≡ counted (nodes_from count count 0 s first.at) → n ≡ fault_number why → rust.Err (n, at) ≡ answer s (read_sheet s)
      unfolding answer whole
      sheet_node why at n f z = rw (judged, z) (go (nodes_from count count 0 s first.at) f)
        where
          go : (g : Got (List Node)) → bad why at ≡ counted g → rust.Err (fault_number why, at) ≡ answer s (whole s g)
          go (got ns place) u = let z : ◌≡◌ {A = ℕ} 0 1 = cc in absurd (omega arith)
          go (bad w place) u = let a : why ≡ w = cc in let b : at ≡ place = cc in rw (a, b)

      module _ (last : Position) (f : got count last.at ≡ counted (nodes_from count count 0 s first.at)) where
        pub sheet_more : (last.at ≡ length s → ⊥) → rust.Err (2, last.at) ≡ answer s (read_sheet s)
        unfolding answer whole
        sheet_more n = rw judged (go (nodes_from count count 0 s first.at) f)
          where
            go : (g : Got (List Node)) → got count last.at ≡ counted g → rust.Err (2, last.at) ≡ answer s (whole s g)
            go (got ns place) u = let b : last.at ≡ place = cc in rw (← b, ne_eqb last.at (length s) n)
            go (bad w place) u = let z : ◌≡◌ {A = ℕ} 0 1 = cc in absurd (omega arith)

        pub sheet_whole : last.at ≡ length s → rust.Ok (count, first) ≡ answer s (read_sheet s)
        unfolding answer whole
        sheet_whole n = rw judged (go (nodes_from count count 0 s first.at) f)
          where
            go : (g : Got (List Node)) → got count last.at ≡ counted g → rust.Ok (count, first) ≡ answer s (whole s g)
            go (got ns place) u =
                let a : count ≡ length ns = cc in
                let b : last.at ≡ place = cc in
                rw (← b, eq-eqb last.at (length s) n, ← a, at_first_lem)
            go (bad w place) u = let z : ◌≡◌ {A = ℕ} 0 1 = cc in absurd (omega arith)

-- ---- what a `?` makes of a refused line
pub numbered_is : (r : SheetRefused) (n at : ℕ) (g : rust.Result (ℕ × Position) (ℕ × ℕ)) → (number_of r.why ≡ n) × (r.place ≡ at) → rust.Err (n, at) ≡ g → numbered (rust.Err r) ≡ g
numbered_is r n at g h e = rw (h.0, h.1) e
