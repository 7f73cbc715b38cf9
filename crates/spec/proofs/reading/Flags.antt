-- The flag of every node of an accepted sheet is at most the highest of its kind. Assumes nothing.
use mathlib.Core.Path.{◌≡◌, ap}
use mathlib.Core.List.{List}
use Prim.Native.Nat.{ℕ, zero, suc, ◌≤◌}
use native.Mathlib.Omega.{arith}
use lib.ListN.{get_or}
use Rattle.spec.specs.Basics.{NodeId}
use Rattle.spec.specs.Kinds.{kinds, kind_of}
use Rattle.spec.specs.Keys.{kind, flag}
use Rattle.spec.specs.Sheet.{Node, wrong_flag, Got, got, bad, ◌>>=◌, give, node, accepted}
use Rattle.spec.specs.Tree.{nobody, node_at, judge}
use Rattle.spec.proofs.reading.Lines.{read, number_within}
use Rattle.spec.proofs.reading.Reading.{Reads, none_left, one_more_lem, accepted_sheet, accepted_read}

abbrev Flagged : Node → Type 0
Flagged n = n.flag ≤ (kind_of n.kind).flags

node_flagged : (nodes i : ℕ) (s : List ℕ) (at : ℕ) (n : Node) (to : ℕ) → node nodes i s at ≡ got n to → Flagged n
unfolding node ◌>>=◌ give
node_flagged nodes i s at n to e =
    let k = read _ s _ n to e in
    let f = read _ s _ n to k.rest in
    let t = read _ s _ n to f.rest in
    let g = read _ s _ n to t.rest in
    let c = read _ s _ n to g.rest in
    let x = read _ s _ n to c.rest in
    let same = ap node_read x.rest in
    let within = number_within "flag=" wrong_flag 0 (kind_of k.value).flags s t.place g.value g.place g.first in
    rw (← same) within.1
  where
    node_read : Got Node → Node
    node_read (got m p) = m
    node_read (bad w p) = nobody

reads_flagged : {s : List ℕ} {nodes i at end : ℕ} {ns : List Node} → Reads s nodes i at ns end → (n : NodeId) → Flagged (get_or ns n nobody)
unfolding nobody kind_of kinds
reads_flagged (none_left i at) n = omega arith
reads_flagged {s} {nodes} (one_more_lem i at place end m ns e r) zero = node_flagged nodes i s at m place e
reads_flagged (one_more_lem i at place end m ns e r) (suc n) = reads_flagged r n

-- THEOREM. Each flag is within its kind's rule.
pub flags_held : (s : List ℕ) (nodes : List Node) → judge s ≡ accepted nodes → (n : NodeId) → flag nodes n ≤ (kind_of (kind nodes n)).flags
unfolding kind flag node_at
flags_held s nodes e n = reads_flagged (accepted_sheet s nodes (accepted_read s nodes e)).nodes n
