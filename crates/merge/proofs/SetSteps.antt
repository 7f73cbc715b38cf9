-- Sets and entries of a store: its own steps on them, as steps of merging and of lowering. Assumes nothing.
use mathlib.Core.Path.{◌≡◌, refl, ap, ◌∙◌}
use mathlib.Core.Bool.{true}
use mathlib.Core.List.{List}
use Prim.Native.Nat.{ℕ, suc, ◌+◌, ◌*◌, ◌≤◌}
use native.Mathlib.Omega.{arith}
use lib.ListN.{length, set, length-append, length-set}
use lib.Dec.{ltb}
use borrow.Author.Tests.{lt-ltb}
use Rattle.spec.specs.Basics.{Text, ExprId}
use Rattle.spec.specs.Sheet.{Node}
use Rattle.spec.specs.Module.{Pointer, BindingValue, NameKind}
use Rattle.spec.specs.Steps.{◌>>=◌, asks}
use Rattle.spec.specs.State.{SetId, MergingEntry, source, dynamic, State, Low, alloc_name, add_duplicate, new_set, set_entries, add_entry, set_entry}
use Rattle.spec.specs.Merge.{entry_at, with_value, with_nested}
use Rattle.spec.proofs.sets.Standing.{standing_set, standing_source, standing_dynamic}
use Rattle.layout.specs.Layout.{name_limit, diagnostic_limit, set_limit, entry_limit, node_limit}
use Rattle.layout.specs.Exprs.{Item}
use Rattle.layout.specs.States.{sets_of, entries_of, order_of, state_of, waiting_of, used_of}
use Rattle.store.specs.Work.{Work, Working, work_of, with_state, Did, put_name, name_with, put_duplicate}
use Rattle.open_sets.specs.Ranks.{InOrder}
use Rattle.open_sets.specs.Entries.{open_set, change}
use Rattle.open_sets.specs.Run.{put_entry, Entered}
use Rattle.open_sets.proofs.RankChanges.{in_order_with_value, in_order_with_nested}
use Rattle.merge.specs.Room.{Resource, exprs, items, names, diagnostics, sets, entries, level, per_node, Price, nothing, price, one_name, one_duplicate, one_set, one_entry}
use Rattle.merge.specs.Lowers.{Lowered, Lowers, Lowering}
use Rattle.merge.specs.Merges.{Merges}
use Rattle.merge.proofs.MergeSteps.{merged_whole}

-- A step of the store that leaves what waits, what is in use and the run: where there is room it does what p says.
by_did : {A : Type 0} {own : Price} (q : Working A) (p : Low A) {s t : List ℕ} {r : A}
    → (((k : Resource) → level k (work_of s) + own k ≤ per_node k * node_limit) → ◌≡◌ {A = A × Work} (q (work_of s)) ((p (state_of s)).0, with_state (work_of s) (p (state_of s)).1))
    → (InOrder (entries_of s) (order_of s) → InOrder (p (state_of s)).1.entries (order_of s)) → ((k : Resource) → level k (with_state (work_of s) (p (state_of s)).1) ≤ level k (work_of s) + own k) → Did q s r t → Merges own p s r t
unfolding work_of with_state state_of
by_did {A = A} q p {s} {t} {r} goes ordered few d = record {
  wrote = d.wrote;
  still = d.still;
  does = λ fine order room.
      let z = d.does fine in
      let e : ◌≡◌ {A = A × Work} (r, work_of t) ((p (state_of s)).0, with_state (work_of s) (p (state_of s)).1) = z.0 ∙ goes room in
      let w : work_of t ≡ with_state (work_of s) (p (state_of s)).1 = ap (λ x. x.1) e in
      let state_is : state_of t ≡ (p (state_of s)).1 = ap (λ (x : Work). x.lowered) w in
      let entries_are : entries_of t ≡ (p (state_of s)).1.entries = ap (λ (x : State). x.entries) state_is in
      let order_is : order_of t ≡ order_of s = ap (λ (x : Work). x.order) w in
      record {
        same = ap (λ x. (x.0, x.1.lowered)) e;
        waits = ap (λ (x : Work). x.waiting) w;
        fine = z.1;
        order = rw (entries_are, order_is) (ordered order);
        spent = λ k. rw w (few k);
      };
}

-- ---- names and diagnostics
pub key_named : (x : Text) (k : NameKind) (p : Pointer) {s : List ℕ} {r : ℕ} {t : List ℕ} → Did (put_name (name_with x k p)) s r t → Merges one_name (alloc_name x k p) s r t
unfolding work_of state_of put_name name_with with_state alloc_name one_name price level per_node
key_named x k p {s} d =
    by_did _ _
    (λ room. let l : ltb (length (state_of s).names) name_limit ≡ true = lt-ltb (length (state_of s).names) name_limit (let q = room names in omega arith) in rw l)
    (λ o. o) go d
  where
    go : (j : Resource) → level j (with_state (work_of s) (alloc_name x k p (state_of s)).1) ≤ level j (work_of s) + one_name j
    go exprs = omega arith
    go items = omega arith
    go names = simp length-append (omega arith)
    go diagnostics = omega arith
    go sets = omega arith
    go entries = omega arith

pub key_told : (key : Text) (first second : Pointer) {s t : List ℕ} → Did (put_duplicate key first second) s tt t → Merges one_duplicate (add_duplicate key first second) s tt t
unfolding work_of state_of put_duplicate with_state add_duplicate one_duplicate price level per_node
key_told key first second {s} d =
    by_did _ _
    (λ room.
    let l : ltb (length (state_of s).diagnostics) diagnostic_limit ≡ true = lt-ltb (length (state_of s).diagnostics) diagnostic_limit (let q = room diagnostics in omega arith) in
    let m : ltb (length (state_of s).lost) diagnostic_limit ≡ true = lt-ltb (length (state_of s).lost) diagnostic_limit (let q = room diagnostics in omega arith) in
    rw (l, m))
    (λ o. o) go d
  where
    go : (j : Resource) → level j (with_state (work_of s) (add_duplicate key first second (state_of s)).1) ≤ level j (work_of s) + one_duplicate j
    go exprs = omega arith
    go items = omega arith
    go names = omega arith
    go diagnostics = simp length-append (omega arith)
    go sets = omega arith
    go entries = omega arith

-- ---- sets
pub set_opened : (k : NameKind) (p : Pointer) {s : List ℕ} {r : ℕ} {t : List ℕ} → Did (open_set k p) s r t → Merges one_set (new_set k p) s r t
unfolding work_of state_of open_set with_state new_set one_set price level per_node
set_opened k p {s} d =
    by_did _ _
    (λ room. let l : ltb (length (state_of s).sets) set_limit ≡ true = lt-ltb (length (state_of s).sets) set_limit (let q = room sets in omega arith) in rw l)
    (λ o. o) go d
  where
    go : (j : Resource) → level j (with_state (work_of s) (new_set k p (state_of s)).1) ≤ level j (work_of s) + one_set j
    go exprs = simp length-append (omega arith)
    go items = simp length-append (omega arith)
    go names = omega arith
    go diagnostics = omega arith
    go sets = simp length-append (omega arith)
    go entries = omega arith

pub opened : {nodes : List Node} {w : List Item} {top : ℕ} (k : NameKind) (p : Pointer) {s : List ℕ} {r : ℕ} {t : List ℕ} → Did (open_set k p) s r t → Lowers nodes w w top 0 one_set (new_set k p) s r t
opened k p {s = s} d = merged_whole (λ h. standing_set k p (state_of s)) (unfold new_set in simp length-append (omega arith)) (set_opened k p d)

-- the set that was opened is one of the sets
pub opened_below : {w : List Item} {m : ℕ} {own : Price} (k : NameKind) (p : Pointer) {s : List ℕ} {r : ℕ} {t : List ℕ} → Lowered w m own (new_set k p) s r t → suc r ≤ length (sets_of t)
unfolding new_set state_of
opened_below k p {s = s} {r = r} {t = t} l =
    let a : r ≡ length (sets_of s) = ap (λ x. x.0) l.same in
    let b = ap (λ x. length x.1.sets) l.same in
    omega (arith, simp length-append at b)

-- ---- entries
pub entry_added : {e : MergingEntry} {s t : List ℕ} → Entered e s t → Merges one_entry (add_entry e) s tt t
unfolding work_of put_entry add_entry set_entries ◌>>=◌ asks one_entry price level per_node
entry_added {e} {s} {t} d = record {
  wrote = d.wrote;
  still = d.still;
  does = λ fine order room.
      let z = d.does fine order in
      let l : ltb (length (state_of s).entries) entry_limit ≡ true = lt-ltb (length (state_of s).entries) entry_limit (let q = room entries in omega arith) in
      let state_is : state_of t ≡ (add_entry e (state_of s)).1 = z.0 ∙ rw l in
      record {
        same = ap (λ x. (tt, x)) state_is;
        waits = z.1.0;
        fine = z.1.1.1.0;
        order = z.1.1.1.1;
        spent = go state_is z.1.0 z.1.1.0;
      };
}
  where
    go : state_of t ≡ (add_entry e (state_of s)).1 → waiting_of t ≡ waiting_of s → used_of t ≡ used_of s → (j : Resource) → level j (work_of t) ≤ level j (work_of s) + one_entry j
    go a b c exprs = rw a (simp length-append (omega arith))
    go a b c items = rw (a, b, c) (simp length-append (omega arith))
    go a b c names = rw a (omega arith)
    go a b c diagnostics = rw a (omega arith)
    go a b c sets = rw a (omega arith)
    go a b c entries = rw a (simp length-append (omega arith))

pub source_added : (s : SetId) (e : ExprId) {u t : List ℕ} → Entered (source s e) u t → Lowering (suc s) (λ _. 0) one_entry (λ _. add_entry (source s e)) u tt t
source_added s e {u = u} d = record { at = λ nodes w. merged_whole (λ h. standing_source s e (state_of u) h) (unfold add_entry set_entries ◌>>=◌ asks in omega arith) (entry_added d) }

pub dynamic_added : (s : SetId) (k v : ExprId) {u t : List ℕ} → Entered (dynamic s k v) u t → Lowering (suc s) (λ _. 0) one_entry (λ _. add_entry (dynamic s k v)) u tt t
dynamic_added s k v {u = u} d = record { at = λ nodes w. merged_whole (λ h. standing_dynamic s k v (state_of u) h) (unfold add_entry set_entries ◌>>=◌ asks in omega arith) (entry_added d) }

-- ---- an entry that is changed in its place
changed : (f : MergingEntry → MergingEntry) (i : ℕ) {s t : List ℕ} → (InOrder (entries_of s) (order_of s) → InOrder (set (entries_of s) i (f (entry_at i (state_of s)))) (order_of s)) → Did (change i f) s tt t → Merges nothing (asks (entry_at i) >>= λ e. set_entry i (f e)) s tt t
unfolding work_of state_of change with_state set_entry set_entries ◌>>=◌ asks nothing price level per_node
changed f i {s} o d = by_did _ _ (λ room. refl) o go d
  where
    go : (j : Resource) → level j (with_state (work_of s) (set_entry i (f (entry_at i (state_of s))) (state_of s)).1) ≤ level j (work_of s) + nothing j
    go exprs = simp length-set (omega arith)
    go items = simp length-set (omega arith)
    go names = omega arith
    go diagnostics = omega arith
    go sets = omega arith
    go entries = simp length-set (omega arith)

pub value_changed : (v : BindingValue) (i : ℕ) {s t : List ℕ} → Did (change i (with_value v)) s tt t → Merges nothing (asks (entry_at i) >>= λ e. set_entry i (with_value v e)) s tt t
unfolding entry_at state_of
value_changed v i d = changed (with_value v) i (in_order_with_value i v) d

pub nested_changed : (n : SetId) (i : ℕ) {s t : List ℕ} → Did (change i (with_nested n)) s tt t → Merges nothing (asks (entry_at i) >>= λ e. set_entry i (with_nested n e)) s tt t
unfolding entry_at state_of
nested_changed n i d = changed (with_nested n) i (in_order_with_nested i n) d
