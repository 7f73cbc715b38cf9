-- The texts of an accepted sheet, each with four bytes more, take at most half of its bytes, since a node has at least
-- 34. Assumes nothing.
use mathlib.Core.Path.{◌≡◌, refl, sym, ap, ◌∙◌}
use mathlib.Core.Bool.{Bool, true, false}
use mathlib.Core.List.{List, [], ◌∷◌}
use mathlib.Core.Option.{Option, none, some, map}
use Prim.Native.Nat.{ℕ, ◌+◌, ◌*◌, ◌≤◌}
use Prim.Native.String.{String}
use native.Mathlib.Omega.{arith}
use lib.ListN.{length}
use lib.Dec.{eqb, leb}
use borrow.Author.Tests.{leb-true}
use Rattle.words.specs.Order.{pick}
use Rattle.spec.specs.Basics.{Text, bytes, maybe}
use Rattle.spec.specs.Sheet.{Node, wrong_kind, wrong_range, wrong_flag, wrong_kid, wrong_text, Got, got, bad, ◌>>=◌, give, decimal, number, kid_list, hex_digit, hex, node, Judged, accepted, refused, whole, node_list, read_sheet}
use Rattle.spec.specs.Tree.{judge_tree, judge}
use Rattle.spec.proofs.general.Sums.{sum_by}
use Rattle.spec.proofs.reading.Lines.{read, Line, field_line}
use Rattle.spec.proofs.reading.Reading.{Reads, none_left, one_more_lem, accepted_sheet, judged_same}

-- the bytes that the texts of the nodes take, four being counted for each beside its own
abbrev pub text_bytes : List Node → ℕ
text_bytes ns = sum_by (λ n. length n.text + 4) ns

-- ---- hex
hex_length : (v t : Text) → hex v ≡ some t → length v ≡ 2 * length t
unfolding hex
hex_length [] t e = let z : [] ≡ t = cc in rw (← z) refl
hex_length (a ∷ []) t e = let z : ◌≡◌ {A = ℕ} 0 1 = cc in absurd (omega arith)
hex_length (a ∷ b ∷ v) t e = high (hex_digit a) e (hex_length v)
  where
    rest : (x y : ℕ) (r : Option Text) → map (λ t. (16 * x + y) ∷ t) r ≡ some t → ((u : Text) → r ≡ some u → length v ≡ 2 * length u)
        → length (a ∷ b ∷ v) ≡ 2 * length t
    rest x y none e h = let z : ◌≡◌ {A = ℕ} 0 1 = cc in absurd (omega arith)
    rest x y (some u) e h = let same : ((16 * x + y) ∷ u) ≡ t = cc in omega (arith, h u refl, ap length same)

    low : (x : ℕ) (r : Option ℕ) → maybe r none (λ y. map (λ t. (16 * x + y) ∷ t) (hex v)) ≡ some t → ((u : Text) → hex v ≡ some u → length v ≡ 2 * length u)
        → length (a ∷ b ∷ v) ≡ 2 * length t
    low x none e h = let z : ◌≡◌ {A = ℕ} 0 1 = cc in absurd (omega arith)
    low x (some y) e h = rest x y (hex v) e h

    high : (r : Option ℕ) → maybe r none (λ x. maybe (hex_digit b) none (λ y. map (λ t. (16 * x + y) ∷ t) (hex v))) ≡ some t
        → ((u : Text) → hex v ≡ some u → length v ≡ 2 * length u) → length (a ∷ b ∷ v) ≡ 2 * length t
    high none e h = let z : ◌≡◌ {A = ℕ} 0 1 = cc in absurd (omega arith)
    high (some x) e h = low x (hex_digit b) e h

-- ---- a node
line_long : {A : Type 0} {key : String} {parse : Text → Option A} {test : A → Bool} {at : ℕ} {a : A} {to : ℕ} → Line key parse test at a to → at + length (bytes key) + 1 ≤ to
line_long l = omega (arith, l.place)

six_lines : (at a b c d e to v l : ℕ) → at + 5 + 1 ≤ a → a + 5 + 1 ≤ b → b + 3 + 1 ≤ c → c + 5 + 1 ≤ d → d + 5 + 1 ≤ e → to ≡ e + 5 + v + 1 → v ≡ 2 * l
    → at + 34 + 2 * l ≤ to
six_lines at a b c d e to v l h₁ h₂ h₃ h₄ h₅ p q = omega arith

-- THEOREM. A node's six lines take 34 bytes at least, and twice its text.
pub node_long : (nodes i : ℕ) (s : List ℕ) (at : ℕ) (n : Node) (to : ℕ) → node nodes i s at ≡ got n to → at + 34 + 2 * length n.text ≤ to
unfolding node ◌>>=◌ give number
node_long nodes i s at n to e =
    let k = read _ s _ n to e in
    let f = read _ s _ n to k.rest in
    let t = read _ s _ n to f.rest in
    let g = read _ s _ n to t.rest in
    let c = read _ s _ n to g.rest in
    let x = read _ s _ n to c.rest in
    let text = field_line "text=" hex wrong_text _ s c.place x.value x.place x.first in
    let same : x.value ≡ n.text = ap text_read x.rest in
    let place : x.place ≡ to = ap place_read x.rest in
    six_lines at k.place f.place t.place g.place c.place to (length text.value) (length n.text)
    (kind_line (eqb i 0) k.value k.place k.first)
    (line_long (field_line "from=" decimal wrong_range _ s k.place f.value f.place f.first))
    (line_long (field_line "to=" decimal wrong_range _ s f.place t.value t.place t.first))
    (line_long (field_line "flag=" decimal wrong_flag _ s t.place g.value g.place g.first))
    (line_long (field_line "kids=" kid_list wrong_kid _ s g.place c.value c.place c.first))
    (sym place ∙ text.place)
    (hex_length text.value x.value text.parsed ∙ ap (λ (u : Text). 2 * length u) same)
  where
    text_read : Got Node → Text
    text_read (got m p) = m.text
    text_read (bad w p) = []

    place_read : Got Node → ℕ
    place_read (got m p) = p
    place_read (bad w p) = 0

    kind_line : (b : Bool) (v place : ℕ) → pick b (number "kind=" wrong_kind 21 21) (number "kind=" wrong_kind 1 33) s at ≡ got v place → at + 5 + 1 ≤ place
    kind_line true v place e = line_long (field_line "kind=" decimal wrong_kind _ s at v place e)
    kind_line false v place e = line_long (field_line "kind=" decimal wrong_kind _ s at v place e)

reads_long : {s : List ℕ} {nodes i at end : ℕ} {ns : List Node} → Reads s nodes i at ns end → at + 2 * text_bytes ns ≤ end
reads_long (none_left i at) = omega arith
reads_long {s} {nodes} (one_more_lem i at place end n ns e r) = omega (arith, node_long nodes i s at n place e, reads_long r)

-- ---- a whole sheet
-- a sheet is read only where it is short enough
short : (s : List ℕ) (ns : List Node) → read_sheet s ≡ accepted ns → length s ≤ 1048576
unfolding read_sheet
short s ns e = go (leb (length s) 1048576) refl e
  where
    go : (b : Bool) → leb (length s) 1048576 ≡ b → pick b (whole s (node_list s 0)) (refused 1 0) ≡ accepted ns → length s ≤ 1048576
    go true h e = leb-true (length s) 1048576 h
    go false h e = let z : ◌≡◌ {A = ℕ} 0 1 = cc in absurd (omega arith)

-- THEOREM. The texts of an accepted sheet, four bytes being counted for each beside its own, take at most half of the
-- sheet's bytes, 524,288.
pub text_room : (s : List ℕ) (nodes : List Node) → judge s ≡ accepted nodes → (2 * text_bytes nodes ≤ length s) × (text_bytes nodes ≤ 524288)
unfolding judge judge_tree
text_room s nodes e = go (read_sheet s) refl e
  where
    go : (j : Judged) → read_sheet s ≡ j → judge_tree j ≡ accepted nodes → (2 * text_bytes nodes ≤ length s) × (text_bytes nodes ≤ 524288)
    go (accepted ns) i e =
        let r : read_sheet s ≡ accepted nodes = i ∙ ap accepted (judged_same ns nodes e) in
        let h = reads_long (accepted_sheet s nodes r).nodes in
        (omega (arith, h), omega (arith, h, short s nodes r))
    go (refused number place) i e = let z : ◌≡◌ {A = ℕ} 0 1 = cc in absurd (omega arith)
