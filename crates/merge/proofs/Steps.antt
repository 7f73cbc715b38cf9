-- How steps of lowering follow one another, with their room. Assumes nothing.
use mathlib.Core.Path.{◌≡◌, refl, ap, ◌∙◌}
use mathlib.Core.Bool.{Bool, true, false, and-eq-true_iff}
use mathlib.Core.List.{List}
use Prim.Native.Nat.{ℕ, ◌+◌, ◌*◌, ◌≤◌}
use native.Mathlib.Omega.{arith}
use lib.ListN.{length}
use borrow.Author.Tests.{leb-true}
use Rattle.spec.specs.Sheet.{Node}
use Rattle.spec.specs.Steps.{◌>>=◌, give, asks, when}
use Rattle.spec.specs.State.{State, Low}
use Rattle.spec.proofs.tree.Sizes.{Weighs}
use Rattle.layout.specs.Changes.{Still}
use Rattle.layout.specs.Exprs.{Item}
use Rattle.words.specs.Words.{word}
use Rattle.layout.specs.Layout.{node_limit, node_row, node_count, nodes_at, kids_at}
use Rattle.layout.specs.Rows.{cap, marked}
use Rattle.layout.specs.Nodes.{kid_in, first_kid, node_in, nodes_of}
use Rattle.layout.specs.States.{sets_of, state_of, waiting_of}
use Rattle.layout.proofs.Frames.{wrote_none, wrote_then, word_still, text_still}
use Rattle.layout.proofs.RowLaws.{rows_same, between_same}
use Rattle.layout.proofs.WriteLaws.{still_then}
use Rattle.store.specs.Work.{lowering}
use Rattle.merge.specs.Room.{Resource, exprs, items, names, diagnostics, sets, entries, per_node, Price, nothing, price, ◌⊕◌, covers}
use Rattle.merge.specs.Lowers.{Setting, Lowered, Lowers, Lowering}

-- ---- the nodes, where they are still
first_still : (s t : List ℕ) (i : ℕ) → Still s t → first_kid t i ≡ first_kid s i
unfolding first_kid
first_still s t i e = rw (word_still s t (nodes_at + node_row * i) e (omega arith))

node_still : (s t : List ℕ) (i : ℕ) → Still s t → node_in t i ≡ node_in s i
unfolding node_in kid_in
node_still s t i e =
    rw (
      word_still s t (nodes_at + node_row * i + 4) e (omega arith),
      word_still s t (nodes_at + node_row * i + 8) e (omega arith),
      word_still s t (nodes_at + node_row * i + 12) e (omega arith),
      word_still s t (nodes_at + node_row * i + 16) e (omega arith),
      word_still s t (nodes_at + node_row * i + 20) e (omega arith),
      text_still s t (word s (nodes_at + node_row * i + 20)) e,
      first_still s t i e,
      first_still s t (i + 1) e,
      between_same (λ j. marked (word t (kids_at + 4 * j))) (λ j. marked (word s (kids_at + 4 * j))) (first_kid s i) (first_kid s (i + 1)) (λ j a b. rw (word_still s t (kids_at + 4 * j) e (omega arith))),
    )

pub nodes_still : (s t : List ℕ) → Still s t → nodes_of t ≡ nodes_of s
unfolding nodes_of
nodes_still s t e = rw (word_still s t node_count e (omega arith)) (rows_same (node_in t) (node_in s) (cap (word s node_count) node_limit) (λ i h. node_still s t i e))

-- ---- room
per_sum : (k : Resource) (m n : ℕ) → per_node k * (m + n) ≡ per_node k * m + per_node k * n
unfolding per_node
per_sum exprs m n = omega arith
per_sum items m n = omega arith
per_sum names m n = omega arith
per_sum diagnostics m n = omega arith
per_sum sets m n = omega arith
per_sum entries m n = omega arith

per_more : (k : Resource) (m n : ℕ) → m ≤ n → per_node k * m ≤ per_node k * n
unfolding per_node
per_more exprs m n h = omega arith
per_more items m n h = omega arith
per_more names m n h = omega arith
per_more diagnostics m n h = omega arith
per_more sets m n h = omega arith
per_more entries m n h = omega arith

-- what `covers` says, for each
pub covered : (k : Resource) (j : ℕ) (own other : Price) → covers j own other ≡ true → own k ≤ per_node k * j + other k
unfolding covers per_node
covered k j own other e =
    let a = (and-eq-true_iff _ _).0 e in
    let b = (and-eq-true_iff _ _).0 a.0 in
    let c = (and-eq-true_iff _ _).0 b.0 in
    let d = (and-eq-true_iff _ _).0 c.0 in
    let f = (and-eq-true_iff _ _).0 d.0 in
    go k (leb-true _ _ f.0) (leb-true _ _ f.1) (leb-true _ _ d.1) (leb-true _ _ c.1) (leb-true _ _ b.1) (leb-true _ _ a.1)
  where
    go : (k : Resource) → own exprs ≤ 4 * j + other exprs → own items ≤ 4 * j + other items → own names ≤ 1 * j + other names → own diagnostics ≤ 8 * j + other diagnostics → own sets ≤ 1 * j + other sets → own entries ≤ 1 * j + other entries → own k ≤ per_node k * j + other k
    go exprs a b c d e f = a
    go items a b c d e f = b
    go names a b c d e f = c
    go diagnostics a b c d e f = d
    go sets a b c d e f = e
    go entries a b c d e f = f

pub lowered_then : {A B : Type 0} {w w' : List Item} {m m' : ℕ} {own own' : Price} {p : Low A} (f : A → Low B) {s u t : List ℕ} {a : A} {r : B}
    → Lowered w m own p s a u → Lowered w' m' own' (f a) u r t → Lowered w' (m + m') (own ⊕ own') (p >>= f) s r t
unfolding ◌>>=◌ ◌⊕◌
lowered_then {m = m} {m' = m'} f x y = record {
  same = y.same ∙ ap (λ z. f z.0 z.1) x.same;
  waits = y.waits;
  ready = y.ready;
  spent = λ k. omega (arith, x.spent k, y.spent k, per_sum k m m');
  grows = omega (arith, x.grows, y.grows);
}

module _ {nodes : List Node} where
  -- ---- one step and then another
  -- what the second begins with
  pub setting_then : {A : Type 0} {w w' : List Item} {top top' m m' : ℕ} {own own' : Price} {p : Low A} {s u : List ℕ} {a : A}
      → Still s u → Setting nodes w top (m + m') (own ⊕ own') s → Lowered w' m own p s a u → top' ≤ length (sets_of u) → Setting nodes w' top' m' own' u
  unfolding ◌⊕◌
  setting_then {m = m} {m' = m'} {s = s} {u = u} still c l h = record {
    weighs = c.weighs;
    floats = c.floats;
    nodes_are = nodes_still s u still ∙ c.nodes_are;
    waiting_are = l.waits;
    ready = l.ready;
    opened = h;
    room = λ k. omega (arith, c.room k, l.spent k, per_sum k m m');
  }

  pub setting_first : {w : List Item} {top m : ℕ} {own : Price} {s : List ℕ} (m' : ℕ) (own' : Price) → Setting nodes w top (m + m') (own ⊕ own') s → Setting nodes w top m own s
  unfolding ◌⊕◌
  setting_first {m = m} m' own' c = record {
    weighs = c.weighs;
    floats = c.floats;
    nodes_are = c.nodes_are;
    waiting_are = c.waiting_are;
    ready = c.ready;
    opened = c.opened;
    room = λ k. omega (arith, c.room k, per_sum k m m');
  }

  -- where the second asks for open sets that the first leaves
  pub then_open : {A B : Type 0} {w w' w'' : List Item} {top top' m m' : ℕ} {own own' : Price} {p : Low A} (f : A → Low B) {s u t : List ℕ} {a : A} {r : B}
      → Lowers nodes w w' top m own p s a u → (Setting nodes w top m own s → Lowered w' m own p s a u → top' ≤ length (sets_of u)) → Lowers nodes w' w'' top' m' own' (f a) u r t
      → Lowers nodes w w'' top (m + m') (own ⊕ own') (p >>= f) s r t
  then_open {m' = m'} {own' = own'} f x h y = record {
    wrote = wrote_then x.wrote y.wrote;
    still = still_then x.still y.still;
    does = λ c.
        let d = setting_first m' own' c in
        let l = x.does d in
        lowered_then f l (y.does (setting_then x.still c l (h d l)));
  }

  pub then : {A B : Type 0} {w w' w'' : List Item} {top top' m m' : ℕ} {own own' : Price} {p : Low A} (f : A → Low B) {s u t : List ℕ} {a : A} {r : B}
      → top' ≤ top → Lowers nodes w w' top m own p s a u → Lowers nodes w' w'' top' m' own' (f a) u r t → Lowers nodes w w'' top (m + m') (own ⊕ own') (p >>= f) s r t
  then f h x y = then_open f x (λ c l. omega (arith, c.opened, l.grows)) y

  -- ---- nothing but a result
  pub gave : {A : Type 0} {w : List Item} {top : ℕ} {s : List ℕ} (a : A) → Lowers nodes w w top 0 nothing (give a) s a s
  unfolding give nothing price
  gave {s = s} a = record {
    wrote = wrote_none lowering s;
    still = record { same = refl; used = refl };
    does = λ c. record { same = refl; waits = c.waiting_are; ready = c.ready; spent = λ k. omega arith; grows = omega arith };
  }

  -- ---- a question, and then a step with its answer
  pub asked : {A B : Type 0} {w w' : List Item} {top m : ℕ} {own : Price} (g : State → A) (f : A → Low B) {s t : List ℕ} {a : A} {r : B}
      → (Setting nodes w top m own s → a ≡ g (state_of s)) → Lowers nodes w w' top m own (f a) s r t → Lowers nodes w w' top m own (asks g >>= f) s r t
  unfolding ◌>>=◌ asks
  asked g f {s = s} e x = record {
    wrote = x.wrote;
    still = x.still;
    does = λ c.
        let l = x.does c in
        record { same = l.same ∙ ap (λ z. f z (state_of s)) (e c); waits = l.waits; ready = l.ready; spent = l.spent; grows = l.grows };
  }

  -- another text of the same step
  pub as_step : {A : Type 0} {w w' : List Item} {top m : ℕ} {own : Price} {p q : Low A} {s t : List ℕ} {r : A}
      → (Setting nodes w top m own s → p (state_of s) ≡ q (state_of s)) → Lowers nodes w w' top m own p s r t → Lowers nodes w w' top m own q s r t
  as_step e x = record {
    wrote = x.wrote;
    still = x.still;
    does = λ c. let l = x.does c in record { same = l.same ∙ e c; waits = l.waits; ready = l.ready; spent = l.spent; grows = l.grows };
  }

  pub yes_when : {A : Type 0} {w w' : List Item} {top m : ℕ} {own : Price} {b : Bool} {p : Low A} (q : Low A) {s t : List ℕ} {r : A} → b ≡ true → Lowers nodes w w' top m own p s r t → Lowers nodes w w' top m own (when b p q) s r t
  unfolding when
  yes_when q e x = rw e x

  pub no_when : {A : Type 0} {w w' : List Item} {top m : ℕ} {own : Price} {b : Bool} (p : Low A) {q : Low A} {s t : List ℕ} {r : A} → b ≡ false → Lowers nodes w w' top m own q s r t → Lowers nodes w w' top m own (when b p q) s r t
  unfolding when
  no_when p e x = rw e x

  -- ---- allowed more
  pub fits : {A : Type 0} {w w' : List Item} {top m : ℕ} {own : Price} {p : Low A} {s t : List ℕ} {r : A} (j : ℕ) {n : ℕ} {other : Price}
      → (Weighs nodes → m + j ≤ n) → covers j own other ≡ true → Lowers nodes w w' top m own p s r t → Lowers nodes w w' top n other p s r t
  fits {m = m} {own = own} j {n} {other} h e x = record {
    wrote = x.wrote;
    still = x.still;
    does = λ c.
        let small : (k : Resource) → per_node k * m + own k ≤ per_node k * n + other k = λ k. omega (arith, covered k j own other e, per_sum k m j, per_more k (m + j) n (h c.weighs)) in
        let l = x.does (record { weighs = c.weighs; floats = c.floats; nodes_are = c.nodes_are; waiting_are = c.waiting_are; ready = c.ready; opened = c.opened; room = λ k. omega (arith, c.room k, small k) }) in
        record { same = l.same; waits = l.waits; ready = l.ready; spent = λ k. omega (arith, l.spent k, small k); grows = l.grows };
  }

-- ---- from the store's own nodes and items to any
pub all_lower : {A : Type 0} {top : ℕ} {m : List Node → ℕ} {own : Price} {p : List Node → Low A} {s t : List ℕ} {r : A}
    → Lowers (nodes_of s) (waiting_of s) (waiting_of s) top (m (nodes_of s)) own (p (nodes_of s)) s r t → Lowering top m own p s r t
all_lower {top = top} {m = m} {own = own} {p = p} {s = s} {t = t} {r = r} x = record { at = λ nodes w. record { wrote = x.wrote; still = x.still; does = λ c. go nodes w c } }
  where
    go : (nodes : List Node) (w : List Item) → Setting nodes w top (m nodes) own s → Lowered w (m nodes) own (p nodes) s r t
    go nodes w c = rw (← c.nodes_are, ← c.waiting_are) (x.does (rw (c.nodes_are, c.waiting_are) c))
