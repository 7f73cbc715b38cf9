-- The loops of lowering: over the items of a place from one to the next, each is one step. Assumes nothing.
use mathlib.Core.Path.{◌≡◌, refl, sym, ap, ◌∙◌}
use mathlib.Core.List.{List, [], ◌∷◌, ◌++◌, map, append-nil, append_assoc}
use mathlib.Core.Option.{Option, some}
use Prim.Native.Nat.{ℕ, ◌+◌, ◌≤◌, ◌<◌}
use native.Mathlib.Omega.{arith}
use lib.ListN.{length}
use Rattle.spec.specs.Basics.{NodeId}
use Rattle.spec.specs.Sheet.{Node}
use Rattle.spec.specs.Tree.{node_at}
use Rattle.spec.specs.Keys.{kid}
use Rattle.spec.specs.Steps.{◌>>=◌, give, each, each_of}
use Rattle.spec.specs.State.{State, Low}
use Rattle.module.specs.Ids.{node_of}
use Rattle.module.specs.declared.ids.NodeId as code_id
use Rattle.layout.specs.Exprs.{Item}
use Rattle.layout.specs.Nodes.{nodes_of}
use Rattle.layout.specs.States.{state_of}
use Rattle.store.specs.Work.{Did, push_item}
use Rattle.merge.specs.Room.{Price, ◌⊕◌, covers, nothing, price, one_item}
use Rattle.merge.specs.Lowers.{Lowers, Lowering, Collecting}
use Rattle.merge.proofs.Steps.{nodes_still, then, gave, as_step, fits}
use Rattle.lower.specs.Parts.{one}
use Rattle.lower.specs.Reads.{attrs_from}
use Rattle.lower.specs.Sizes.{sized, sizes}
use Rattle.lower.proofs.WaitLaws.{pushed_giving}
use Rattle.keys.proofs.ItemLaws.{items_none, items_some, items_past, kid_read, kid_missing}
use Rattle.std.specs.Prelude as rust

-- ---- a step whose result waits
give_after : {A : Type 0} (p : Low A) (st : State) → ◌≡◌ {A = A × State} ((p >>= give) st) (p st)
unfolding ◌>>=◌ give
give_after p st = refl

module _ {nodes : List Node} {A : Type 0} where
  -- What a step gave is what the definition gives.
  pub collects : {w : List Item} {top m : ℕ} {own : Price} {p : Low A} (items : A → List Item) {s t : List ℕ} {r : A}
      → Lowers nodes w (w ++ items r) top m own p s r t → Lowers nodes w (w ++ items (p (state_of s)).0) top m own p s (p (state_of s)).0 t
  collects {w} {p = p} items {s} {t} {r} x = record {
    wrote = x.wrote;
    still = x.still;
    does = λ c.
        let l = x.does c in
        let e : r ≡ (p (state_of s)).0 = ap (λ z. z.0) l.same in
        record { same = ap (λ z. (z, state_of t)) (sym e) ∙ l.same; waits = l.waits ∙ ap (λ z. w ++ items z) e; ready = l.ready; spent = l.spent; grows = l.grows };
  }

  -- a step whose result waits as an item
  pub then_pushed : {w : List Item} {top m : ℕ} {own : Price} {p : Low A} (item : A → Item) {s u t : List ℕ} {r : A}
      → Lowers nodes w w top m own p s r u → Did (push_item (item r)) u tt t → Lowers nodes w (w ++ one item (p (state_of s)).0) top (m + 0) (own ⊕ one_item) p s (p (state_of s)).0 t
  unfolding one
  then_pushed {p = p} item {s = s} {r = r} x d = collects (one item) (as_step (λ _. give_after p (state_of s)) (then {top' = 0} give (omega arith) x (pushed_giving (item r) r d)))

-- ---- a step for each of some nodes, whose results wait as items
pub record Gathers {A : Type 0} (nodes : List Node) (f : List Node → NodeId → Low A) (item : A → Item) (xs : List NodeId) (s t : List ℕ) : Type 0 where
  pub at : (w : List Item) → Lowers nodes w (w ++ map item (each (f nodes) xs (state_of s)).0) 0 (sizes nodes xs) nothing (each (f nodes) xs) s (each (f nodes) xs (state_of s)).0 t

module _ {A : Type 0} (nodes : List Node) (f : List Node → NodeId → Low A) (item : A → Item) where
  pub gathers_none : (s : List ℕ) → Gathers nodes f item [] s s
  unfolding each sizes
  gathers_none s = record {
    at = λ w. let x : Lowers nodes w w 0 0 nothing (give []) s [] s = gave [] in collects (map item) {r = []} (rw (append-nil w) x);
  }

  pub gathers_more : (k : NodeId) (xs : List NodeId) {s u t : List ℕ}
      → Collecting 0 (λ ns. sized ns k) nothing (one item) (λ ns. f ns k) s u → Gathers nodes f item xs u t → Gathers nodes f item (k ∷ xs) s t
  unfolding each sizes one covers ◌⊕◌ nothing price
  gathers_more k xs {s} {u} {t} c g = record {
    at = λ w.
        let y : A = (f nodes k (state_of s)).0 in
        let ys : List A = (each (f nodes) xs (state_of u)).0 in
        let after : Lowers nodes (w ++ (item y ∷ [])) ((w ++ (item y ∷ [])) ++ map item ys) 0 (sizes nodes xs + 0) (nothing ⊕ nothing) (each (f nodes) xs >>= λ zs. give (y ∷ zs)) u (y ∷ ys) t =
        then {top' = 0} (λ zs. give (y ∷ zs)) (omega arith) (g.at (w ++ (item y ∷ []))) (gave (y ∷ ys)) in
        let all : Lowers nodes w ((w ++ (item y ∷ [])) ++ map item ys) 0 (sized nodes k + (sizes nodes xs + 0)) (nothing ⊕ (nothing ⊕ nothing)) (each (f nodes) (k ∷ xs)) s (y ∷ ys) t =
        then {top' = 0} (λ z. each (f nodes) xs >>= λ zs. give (z ∷ zs)) (omega arith) (c.at nodes w) after in
        collects (map item) {r = y ∷ ys} (fits 0 (λ _. omega arith) refl (rw (append_assoc w (item y ∷ []) (map item ys)) at all));
  }

-- ---- the same, where nothing waits
pub record Merges (nodes : List Node) (top : ℕ) (f : List Node → NodeId → Low (Unit {0})) (xs : List NodeId) (s t : List ℕ) : Type 0 where
  pub at : (w : List Item) → Lowers nodes w w top (sizes nodes xs) nothing (each_of (f nodes) xs) s tt t

module _ (nodes : List Node) (top : ℕ) (f : List Node → NodeId → Low (Unit {0})) where
  pub merges_none : (s : List ℕ) → Merges nodes top f [] s s
  unfolding each_of sizes
  merges_none s = record { at = λ w. gave tt }

  pub merges_more : (k : NodeId) (xs : List NodeId) {s u t : List ℕ}
      → Lowering top (λ ns. sized ns k) nothing (λ ns. f ns k) s tt u → Merges nodes top f xs u t → Merges nodes top f (k ∷ xs) s t
  unfolding each_of sizes covers ◌⊕◌ nothing price
  merges_more k xs {s} {u} {t} c g = record {
    at = λ w.
        let all : Lowers nodes w w top (sized nodes k + sizes nodes xs) (nothing ⊕ nothing) (each_of (f nodes) (k ∷ xs)) s tt t =
        then {top' = top} (λ _. each_of (f nodes) xs) (omega arith) (c.at nodes w) (g.at w) in
        fits 0 (λ _. omega arith) refl all;
  }

-- ---- a loop that began at the store s, at the place i: whatever does the rest from here does the whole
pub record Gathering {A : Type 0} (f : List Node → NodeId → Low A) (item : A → Item) (place : Option NodeId) (Whole : List ℕ → Type 0) (s : List ℕ) (i : ℕ) (u : List ℕ) : Type 0 where
  pub long : length u ≡ length s
  pub nodes_are : nodes_of u ≡ nodes_of s
  pub whole : (t : List ℕ) → Gathers (nodes_of s) f item (attrs_from (nodes_of s) i place) u t → Whole t

pub record Merging (top : ℕ) (f : List Node → NodeId → Low (Unit {0})) (place : Option NodeId) (Whole : List ℕ → Type 0) (s : List ℕ) (i : ℕ) (u : List ℕ) : Type 0 where
  pub long : length u ≡ length s
  pub nodes_are : nodes_of u ≡ nodes_of s
  pub whole : (t : List ℕ) → Merges (nodes_of s) top f (attrs_from (nodes_of s) i place) u t → Whole t

-- ---- the next place: where its kid is there, the loop takes it, and else it goes on
module _ (s u : List ℕ) (n : NodeId) (i count : ℕ) (same : nodes_of u ≡ nodes_of s) (c : count ≡ length (node_at (nodes_of s) n).kids) where
  within : i < count → i < length (node_at (nodes_of u) n).kids
  within h = rw same (omega arith)

  kid_next : i < count → {m : rust.Option code_id.NodeId} {k : code_id.NodeId} → m ≡ rust.Some k → node_of m ≡ kid (nodes_of u) i n
      → attrs_from (nodes_of s) i (some n) ≡ k.0 ∷ attrs_from (nodes_of s) (i + 1) (some n)
  unfolding attrs_from
  kid_next h {k = k} q e = rw (← same) (items_some (nodes_of u) n i (within h) k.0 (kid_read q e))

  kid_passed : i < count → {m : rust.Option code_id.NodeId} → m ≡ rust.None → node_of m ≡ kid (nodes_of u) i n
      → attrs_from (nodes_of s) i (some n) ≡ attrs_from (nodes_of s) (i + 1) (some n)
  unfolding attrs_from
  kid_passed h q e = rw (← same) (items_none (nodes_of u) n i (within h) (kid_missing q e))

  kids_over : count ≤ i → attrs_from (nodes_of s) i (some n) ≡ []
  unfolding attrs_from
  kids_over h = items_past (nodes_of s) n i (omega arith)

module _ {A : Type 0} {f : List Node → NodeId → Low A} {item : A → Item} {n : NodeId} {Whole : List ℕ → Type 0} {s : List ℕ} {i : ℕ} {u : List ℕ} {count : ℕ}
    (g : Gathering f item (some n) Whole s i u) (c : count ≡ length (node_at (nodes_of s) n).kids) where
  module _ (h : i < count) {m : rust.Option code_id.NodeId} (e : node_of m ≡ kid (nodes_of u) i n) where
    pub gathering_turn : {k : code_id.NodeId} {v : List ℕ} → m ≡ rust.Some k → Collecting 0 (λ nodes. sized nodes k.0) nothing (one item) (λ nodes. f nodes k.0) u v → Gathering f item (some n) Whole s (i + 1) v
    gathering_turn {k} {v} q x = record {
      long = (x.at (nodes_of s) []).wrote.size ∙ g.long;
      nodes_are = nodes_still u v (x.at (nodes_of s) []).still ∙ g.nodes_are;
      whole = λ t r. g.whole t (rw (kid_next s u n i count g.nodes_are c h q e) (gathers_more (nodes_of s) f item k.0 (attrs_from (nodes_of s) (i + 1) (some n)) x r));
    }

    pub gathering_skip : m ≡ rust.None → Gathering f item (some n) Whole s (i + 1) u
    gathering_skip q = record { long = g.long; nodes_are = g.nodes_are; whole = λ t r. g.whole t (rw (kid_passed s u n i count g.nodes_are c h q e) r) }

  pub gathering_end : count ≤ i → Whole u
  gathering_end h = g.whole u (rw (kids_over s u n i count g.nodes_are c h) (gathers_none (nodes_of s) f item u))

module _ {top : ℕ} {f : List Node → NodeId → Low (Unit {0})} {n : NodeId} {Whole : List ℕ → Type 0} {s : List ℕ} {i : ℕ} {u : List ℕ} {count : ℕ}
    (g : Merging top f (some n) Whole s i u) (c : count ≡ length (node_at (nodes_of s) n).kids) where
  module _ (h : i < count) {m : rust.Option code_id.NodeId} (e : node_of m ≡ kid (nodes_of u) i n) where
    pub merging_turn : {k : code_id.NodeId} {v : List ℕ} → m ≡ rust.Some k → Lowering top (λ nodes. sized nodes k.0) nothing (λ nodes. f nodes k.0) u tt v → Merging top f (some n) Whole s (i + 1) v
    merging_turn {k} {v} q x = record {
      long = (x.at (nodes_of s) []).wrote.size ∙ g.long;
      nodes_are = nodes_still u v (x.at (nodes_of s) []).still ∙ g.nodes_are;
      whole = λ t r. g.whole t (rw (kid_next s u n i count g.nodes_are c h q e) (merges_more (nodes_of s) top f k.0 (attrs_from (nodes_of s) (i + 1) (some n)) x r));
    }

    pub merging_skip : m ≡ rust.None → Merging top f (some n) Whole s (i + 1) u
    merging_skip q = record { long = g.long; nodes_are = g.nodes_are; whole = λ t r. g.whole t (rw (kid_passed s u n i count g.nodes_are c h q e) r) }

  pub merging_end : count ≤ i → Whole u
  merging_end h = g.whole u (rw (kids_over s u n i count g.nodes_are c h) (merges_none (nodes_of s) top f u))
