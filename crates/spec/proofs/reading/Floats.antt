-- The text of a Float with flag 1 in an accepted sheet says at most 7ff0000000000000 hex, so it is no NaN. Assumes
-- nothing.
use mathlib.Core.Path.{◌≡◌, refl, ap}
use mathlib.Core.Bool.{true, and-eq-true_iff}
use mathlib.Core.List.{List}
use Prim.Native.Nat.{ℕ, zero, suc, ◌≤◌}
use lib.ListN.{length, get_or}
use lib.Dec.{eqb, leb}
use borrow.Author.Tests.{eqb-true, leb-true}
use Rattle.spec.specs.Basics.{Text, NodeId}
use Rattle.spec.specs.Kinds.{kinds, kind_of}
use Rattle.spec.specs.Sheet.{Node, wrong_text, Got, got, bad, ◌>>=◌, give, hex, bits_from, is_float, is_empty, text_fits, node, accepted}
use Rattle.spec.specs.Tree.{nobody, node_at, judge}
use Rattle.spec.specs.Keys.{kind, flag, text}
use Rattle.spec.proofs.reading.Lines.{read, field_line}
use Rattle.spec.proofs.reading.Reading.{Reads, none_left, one_more_lem, accepted_sheet, accepted_read}

-- the text of a node fits its kind and its flag
abbrev Fits : Node → Type 0
Fits n = text_fits (kind_of n.kind).text n.flag n.text ≡ true

node_fits : (nodes i : ℕ) (s : List ℕ) (at : ℕ) (n : Node) (to : ℕ) → node nodes i s at ≡ got n to → Fits n
unfolding node ◌>>=◌ give
node_fits nodes i s at n to e =
    let k = read _ s _ n to e in
    let f = read _ s _ n to k.rest in
    let t = read _ s _ n to f.rest in
    let g = read _ s _ n to t.rest in
    let c = read _ s _ n to g.rest in
    let x = read _ s _ n to c.rest in
    let same = ap node_read x.rest in
    let fits = (field_line "text=" hex wrong_text (text_fits (kind_of k.value).text g.value) s c.place x.value x.place x.first).passed in
    rw (← same) fits
  where
    node_read : Got Node → Node
    node_read (got m p) = m
    node_read (bad w p) = nobody

-- so it is of every node, and past the last there is no text
reads_fit : {s : List ℕ} {nodes i at end : ℕ} {ns : List Node} → Reads s nodes i at ns end → (n : NodeId) → Fits (get_or ns n nobody)
unfolding nobody kind_of kinds text_fits is_empty
reads_fit (none_left i at) n = refl
reads_fit {s} {nodes} (one_more_lem i at place end m ns e r) zero = node_fits nodes i s at m place e
reads_fit (one_more_lem i at place end m ns e r) (suc n) = reads_fit r n

-- what the rule says of a Float with flag 1
float_fits : (k f : ℕ) (t : Text) → k ≡ 8 → f ≡ 1 → text_fits (kind_of k).text f t ≡ true → bits_from 0 t ≤ 9218868437227405312
unfolding kind_of kinds text_fits is_float
float_fits k f t p q h =
    let fits : is_float t ≡ true = rw (p, q) at h in
    leb-true (bits_from 0 t) 9218868437227405312 ((and-eq-true_iff (eqb (length t) 8) (leb (bits_from 0 t) 9218868437227405312)).0 fits).1

-- THEOREM. The number that the text of a Float with flag 1 says is at most 7ff0000000000000 hex, the bits of infinity.
pub floats_held : (s : List ℕ) (nodes : List Node) → judge s ≡ accepted nodes
    → (n : NodeId) → eqb (kind nodes n) 8 ≡ true → flag nodes n ≡ 1 → bits_from 0 (text nodes n) ≤ 9218868437227405312
unfolding kind flag text node_at
floats_held s nodes e n p q = float_fits (kind nodes n) (flag nodes n) (text nodes n) (eqb-true (kind nodes n) 8 p) q (reads_fit (accepted_sheet s nodes (accepted_read s nodes e)).nodes n)
