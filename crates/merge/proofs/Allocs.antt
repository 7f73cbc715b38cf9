-- The store's own steps, as steps of lowering. Assumes nothing.
use mathlib.Core.Path.{◌≡◌, refl, sym, ap, ◌∙◌}
use mathlib.Core.Bool.{true}
use mathlib.Core.List.{List, [], ◌∷◌, ◌++◌, append-nil}
use Prim.Native.Nat.{ℕ, ◌+◌, ◌≤◌}
use native.Mathlib.Omega.{arith}
use lib.ListN.{length, length-append}
use lib.Seq.{drop-append_seam, take-append_seam}
use lib.Dec.{ltb, leb}
use borrow.Author.Tests.{lt-ltb, le-leb}
use Rattle.spec.specs.Basics.{Text}
use Rattle.spec.specs.Sheet.{Node}
use Rattle.spec.specs.Module.{Pointer, Made, NameKind}
use Rattle.spec.specs.Steps.{give}
use Rattle.spec.specs.State.{State, Low, new_made, alloc_missing, alloc_name}
use Rattle.spec.proofs.sets.Standing.{standing_same}
use Rattle.layout.specs.Layout.{expr_limit, item_limit, waiting_limit}
use Rattle.layout.specs.Exprs.{Item}
use Rattle.layout.specs.States.{sets_of, order_of, state_of, waiting_of, used_of}
use Rattle.store.specs.Codes.{hole_made}
use Rattle.store.specs.Work.{Work, work_of, suits, Fine, Did, Takes, take_row, take_lone, push_item, put_name, name_with}
use Rattle.open_sets.specs.Ranks.{sorted}
use Rattle.merge.specs.Room.{Resource, exprs, items, names, diagnostics, sets, entries, level, per_node, Price, price, one_expr, one_item, one_name}
use Rattle.merge.specs.Lowers.{Lowerable, Setting, Lowered, Lowers}
use Rattle.merge.proofs.MergeSteps.{merged_whole}
use Rattle.merge.proofs.SetSteps.{key_named}

-- ---- where the sets and the run are as they were
pub ready_same : (s t : List ℕ) → Lowerable s → Fine t → order_of t ≡ order_of s → (state_of t).sets ≡ (state_of s).sets → (state_of t).entries ≡ (state_of s).entries → Lowerable t
unfolding state_of
ready_same s t r f o z e = record {
  fine = f;
  order = record { same = o ∙ r.order.same ∙ ap sorted (sym e) };
  standing = standing_same (state_of s) (state_of t) z e r.standing;
}

-- A step that leaves the work w, with the sets as they were.
pub by_work : {A : Type 0} {nodes : List Node} {v v' : List Item} {top : ℕ} {own : Price} {p : Low A} {s t : List ℕ} {r : A} (w : Work)
    → Setting nodes v top 0 own s → work_of t ≡ w → Fine t → ◌≡◌ {A = A × State} (r, w.lowered) (p (state_of s)) → w.waiting ≡ v' → w.order ≡ order_of s → w.lowered.sets ≡ (state_of s).sets → w.lowered.entries ≡ (state_of s).entries
    → ((k : Resource) → level k w ≤ level k (work_of s) + own k) → Lowered v' 0 own p s r t
unfolding work_of state_of
by_work {own = own} {s = s} {t = t} {r = r} w c e fine same waits order zs es spent =
    let state_is : state_of t ≡ w.lowered = ap (λ (x : Work). x.lowered) e in
    let sets_are : sets_of t ≡ sets_of s = ap (λ (x : State). x.sets) state_is ∙ zs in
    record {
      same = ap (λ x. (r, x)) state_is ∙ same;
      waits = ap (λ (x : Work). x.waiting) e ∙ waits;
      ready = ready_same s t c.ready fine (ap (λ (x : Work). x.order) e ∙ order) sets_are (ap (λ (x : State). x.entries) state_is ∙ es);
      spent = λ k. rw e (omega (arith, spent k));
      grows = rw sets_are (omega arith);
    }

-- ---- what the store's own steps leave where there is room
-- the work after an expression m, where the items w go on waiting and n items are put in use
abbrev pub row_taken : Made → List Item → ℕ → List ℕ → Work
row_taken m w n s = record { lowered = (new_made m (state_of s)).1; waiting = w; used = used_of s + n; order = order_of s }

pub row_taken_lem : (sort : ℕ) (make : List Item → Made) (w is : List Item) {base : ℕ} {s : List ℕ} {r : ℕ} {t : List ℕ} → suits sort is ≡ true → Fine s → waiting_of s ≡ w ++ is → base ≡ length w → length (state_of s).exprs + 1 ≤ expr_limit → used_of s + length is ≤ item_limit
    → Takes sort make base s r t → (◌≡◌ {A = ℕ × Work} (r, work_of t) (length (state_of s).exprs, row_taken (make is) w (length is) s)) × Fine t
unfolding work_of take_row
row_taken_lem sort make w is {s = s} fit f e b h k d =
    let z = d.does f (rw (e, b, drop-append_seam w is) fit) in
    let l : ltb (length (state_of s).exprs) expr_limit ≡ true = lt-ltb (length (state_of s).exprs) expr_limit (omega (arith, h)) in
    let m : leb (used_of s + length is) item_limit ≡ true = le-leb (used_of s + length is) item_limit k in
    (rw (e, b, drop-append_seam w is, take-append_seam w is, l, m) at z.0, z.1)

-- the work after one item more
abbrev pub item_pushed : Item → List ℕ → Work
item_pushed i s = record { lowered = state_of s; waiting = waiting_of s ++ (i ∷ []); used = used_of s; order = order_of s }

pub item_pushed_lem : (i : Item) {s t : List ℕ} → Fine s → length (waiting_of s) + 1 ≤ waiting_limit → Did (push_item i) s tt t → (work_of t ≡ item_pushed i s) × Fine t
unfolding work_of push_item
item_pushed_lem i {s} f h d =
    let z = d.does f in
    let l : ltb (length (waiting_of s)) waiting_limit ≡ true = lt-ltb (length (waiting_of s)) waiting_limit (omega (arith, h)) in
    let q = rw l at z.0 in
    (ap (λ x. x.1) q, z.1)

-- ---- expressions
-- An expression with the items that wait from `base` on.
pub taken : {nodes : List Node} {w : List Item} {top : ℕ} (sort : ℕ) (make : List Item → Made) (is : List Item) {base : ℕ} {s : List ℕ} {r : ℕ} {t : List ℕ} → suits sort is ≡ true → (waiting_of s ≡ w ++ is → base ≡ length w) → Takes sort make base s r t
    → Lowers nodes (w ++ is) w top 0 one_expr (new_made (make is)) s r t
unfolding work_of new_made one_expr price level per_node
taken {w = w} sort make is {base} {s} {r} {t} fit b d = record {
  wrote = d.wrote;
  still = d.still;
  does = λ c.
      let e = c.waiting_are in
      let x : length (waiting_of s) ≡ length w + length is = rw e (length-append w is) in
      let z = row_taken_lem sort make w is fit c.ready.fine e (b e) (let q = c.room exprs in omega arith) (let q = c.room items in omega arith) d in
      by_work (row_taken (make is) w (length is) s) c (ap (λ x. x.1) z.0) z.1 (ap (λ x. (x.0, (new_made (make is) (state_of s)).1)) z.0) refl refl refl refl (go e);
}
  where
    go : waiting_of s ≡ w ++ is → (k : Resource) → level k (row_taken (make is) w (length is) s) ≤ level k (work_of s) + one_expr k
    go c exprs = simp length-append (omega arith)
    go c items = rw c (simp length-append (omega arith))
    go c names = omega arith
    go c diagnostics = omega arith
    go c sets = omega arith
    go c entries = omega arith

pub none_suit : (sort : ℕ) → suits sort [] ≡ true
unfolding suits
none_suit sort = refl

-- An expression without items.
pub taken_lone : {nodes : List Node} {w : List Item} {top : ℕ} (sort : ℕ) (make : List Item → Made) {base : ℕ} {s : List ℕ} {r : ℕ} {t : List ℕ} → base ≡ length (waiting_of s) → Takes sort make base s r t → Lowers nodes w w top 0 one_expr (new_made (make [])) s r t
taken_lone {nodes} {w} {top} sort make {s = s} {r = r} {t = t} b d =
    let x : Lowers nodes (w ++ []) w top 0 one_expr (new_made (make [])) s r t = taken sort make [] (none_suit sort) (λ e. b ∙ ap length (e ∙ append-nil w)) d in
    rw (append-nil w) at x

pub missing_taken : {nodes : List Node} {w : List Item} {top : ℕ} {s : List ℕ} {r : ℕ} {t : List ℕ} → Did (take_lone hole_made) s r t → Lowers nodes w w top 0 one_expr alloc_missing s r t
unfolding alloc_missing take_lone hole_made work_of
missing_taken {s = s} d = taken_lone 0 hole_made {base = length (waiting_of s)} refl (record { wrote = d.wrote; still = d.still; does = λ fine fit. d.does fine })

-- ---- items
pub pushed : {nodes : List Node} {w : List Item} {top : ℕ} (i : Item) {s t : List ℕ} → Did (push_item i) s tt t → Lowers {A = Unit {0}} nodes w (w ++ (i ∷ [])) top 0 one_item (give tt) s tt t
unfolding work_of give one_item price level per_node
pushed {w = w} i {s} {t} d = record {
  wrote = d.wrote;
  still = d.still;
  does = λ c.
      let e = c.waiting_are in
      let z = item_pushed_lem i c.ready.fine (let q = c.room items in omega arith) d in
      by_work (item_pushed i s) c z.0 z.1 refl (rw e) refl refl refl go;
}
  where
    go : (k : Resource) → level k (item_pushed i s) ≤ level k (work_of s) + one_item k
    go exprs = omega arith
    go items = simp length-append (omega arith)
    go names = omega arith
    go diagnostics = omega arith
    go sets = omega arith
    go entries = omega arith

-- ---- names and diagnostics
pub named : {nodes : List Node} {w : List Item} {top : ℕ} (x : Text) (k : NameKind) (p : Pointer) {s : List ℕ} {r : ℕ} {t : List ℕ} → Did (put_name (name_with x k p)) s r t → Lowers nodes w w top 0 one_name (alloc_name x k p) s r t
unfolding alloc_name
named x k p {s = s} d = merged_whole (λ h. standing_same (state_of s) (alloc_name x k p (state_of s)).1 refl refl) (omega arith) (key_named x k p d)
