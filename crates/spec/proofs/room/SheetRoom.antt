-- An accepted sheet has at most 4096 nodes, and what is lowered from it fits. Assumes nothing.
use mathlib.Core.Path.{◌≡◌, refl, ap, ◌∙◌}
use mathlib.Core.List.{List}
use Prim.Native.Nat.{ℕ, ◌≤◌}
use native.Mathlib.Omega.{arith}
use lib.ListN.{length}
use Rattle.spec.specs.Sheet.{Node, wrong_count, wrong_kind, Got, got, bad, ◌>>=◌, give, number, node, Judged, accepted, refused, read_sheet}
use Rattle.spec.specs.Tree.{node_at, judge_tree, judge}
use Rattle.spec.specs.Keys.{kind}
use Rattle.spec.specs.Lower.{lower_module}
use Rattle.spec.specs.Scopes.{scopes_of}
use Rattle.spec.proofs.reading.Lines.{read, number_within}
use Rattle.spec.proofs.reading.Reading.{Reads, none_left, one_more_lem, accepted_sheet, judged_same}
use Rattle.spec.proofs.room.Room.{Room, room}
use Rattle.spec.proofs.room.ScopeRoom.{scope_room}

-- the first node is a Root
root_kind : (nodes : ℕ) (s : List ℕ) (at : ℕ) (n : Node) (to : ℕ) → node nodes 0 s at ≡ got n to → n.kind ≡ 21
unfolding node ◌>>=◌ give
root_kind nodes s at n to e =
    let k = read _ s (number "kind=" wrong_kind 21 21 s at) n to e in
    let f = read _ s _ n to k.rest in
    let t = read _ s _ n to f.rest in
    let g = read _ s _ n to t.rest in
    let c = read _ s _ n to g.rest in
    let x = read _ s _ n to c.rest in
    let z = number_within "kind=" wrong_kind 21 21 s at k.value k.place k.first in
    let same : k.value ≡ n.kind = ap kind_read x.rest in
    omega (arith, z.0, z.1)
  where
    kind_read : Got Node → ℕ
    kind_read (got m p) = m.kind
    kind_read (bad w p) = 0

-- at least one node and at most 4096, the first of them a Root
pub record Sheet (ns : List Node) : Type 0 where
  pub few : length ns ≤ 4096
  pub root : kind ns 0 ≡ 21

first_root : {s : List ℕ} {nodes i at end : ℕ} {ns : List Node} → Reads s nodes i at ns end → i ≡ 0 → 1 ≤ length ns → kind ns 0 ≡ 21
unfolding kind node_at
first_root (none_left i at) z h = absurd (omega arith)
first_root {s} {nodes} (one_more_lem i at place end n ns e rest) z h = root_kind nodes s at n place (rw z at e)

pub sheet_read : (s : List ℕ) (ns : List Node) → read_sheet s ≡ accepted ns → Sheet ns
sheet_read s ns e =
    let z = accepted_sheet s ns e in
    let w = number_within "nodes=" wrong_count 1 4096 s 0 (length ns) z.start z.counted in
    record { few = w.1; root = first_root z.nodes refl w.0 }

-- docs/RULES.md, "Room": "Four expressions, one name and one scope per node always suffice, so an accepted sheet never
-- runs out."
pub record SheetRoom (nodes : List Node) : Type 1 where
  pub few : length nodes ≤ 4096
  pub fits : Room nodes
  pub scopes_few : length (scopes_of (lower_module nodes)).scopes ≤ length nodes

pub sheet_room : (s : List ℕ) (nodes : List Node) → judge s ≡ accepted nodes → SheetRoom nodes
unfolding judge judge_tree
sheet_room s nodes e = go (read_sheet s) refl e
  where
    go : (j : Judged) → read_sheet s ≡ j → judge_tree j ≡ accepted nodes → SheetRoom nodes
    go (accepted ns) i e =
        let z = judged_same ns nodes e in
        let r = sheet_read s nodes (i ∙ ap accepted z) in
        let w : judge_tree (accepted nodes) ≡ accepted nodes = rw z at e in
        record { few = r.few; fits = room nodes w; scopes_few = scope_room nodes w r.root }
    go (refused number place) i e = let z : ◌≡◌ {A = ℕ} 0 1 = cc in absurd (omega arith)
