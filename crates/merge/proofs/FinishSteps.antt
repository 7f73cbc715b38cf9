-- How steps that finish sets follow one another, and the store's own steps as such. Assumes nothing.
use mathlib.Core.Path.{◌≡◌, refl, sym, ap, ◌∙◌}
use mathlib.Core.Bool.{true}
use mathlib.Core.List.{List, [], ◌++◌, append-nil}
use Prim.Native.Nat.{ℕ, ◌+◌, ◌≤◌}
use native.Mathlib.Omega.{arith}
use lib.ListN.{length, length-append}
use Rattle.spec.specs.Module.{Made}
use Rattle.spec.specs.Steps.{◌>>=◌, give}
use Rattle.spec.specs.State.{State, Low, new_made, alloc_missing}
use Rattle.layout.specs.Changes.{Wrote, Still}
use Rattle.layout.specs.Exprs.{Item}
use Rattle.layout.specs.States.{order_of, state_of, waiting_of, used_of}
use Rattle.store.specs.Codes.{hole_made}
use Rattle.store.specs.Work.{Work, work_of, lowering, suits, Fine, Did, Takes, take_lone, push_item}
use Rattle.open_sets.specs.Ranks.{sorted}
use Rattle.merge.specs.Lowers.{Lowerable}
use Rattle.merge.specs.Finishes.{Begins, ExprsOnly, Finished, Listing, only}
use Rattle.merge.proofs.Allocs.{none_suit, ready_same, row_taken, row_taken_lem, item_pushed, item_pushed_lem}

-- ---- what is kept
pub kept_none : (st : State) → ExprsOnly st st
kept_none st = record { names_same = refl; diagnostics_same = refl; lost_same = refl; sets_same = refl; entries_same = refl }

pub kept_then : {st mid after : State} → ExprsOnly st mid → ExprsOnly mid after → ExprsOnly st after
kept_then a b = record {
  names_same = b.names_same ∙ a.names_same;
  diagnostics_same = b.diagnostics_same ∙ a.diagnostics_same;
  lost_same = b.lost_same ∙ a.lost_same;
  sets_same = b.sets_same ∙ a.sets_same;
  entries_same = b.entries_same ∙ a.entries_same;
}

-- the run is as it was where the entries are
pub order_same : {s t : List ℕ} → Lowerable s → Lowerable t → (state_of t).entries ≡ (state_of s).entries → order_of t ≡ order_of s
unfolding state_of
order_same a b e = b.order.same ∙ (ap sorted e ∙ sym a.order.same)

-- ---- one step and then another
pub begins_less : {w : List Item} {m n : ℕ} {s : List ℕ} → m ≤ n → Begins w n s → Begins w m s
begins_less h b = record { ready = b.ready; waiting_are = b.waiting_are; exprs_fit_lem = omega (arith, h, b.exprs_fit_lem); items_fit = omega (arith, h, b.items_fit) }

-- what the second begins with
pub begins_then : {A : Type 0} {w w' : List Item} {m m' n : ℕ} {p : Low A} {s u : List ℕ} {a : A} → m + m' ≤ n → Begins w n s → Finished w' m p s a u → Begins w' m' u
begins_then h b l = record {
  ready = l.ready;
  waiting_are = l.waits;
  exprs_fit_lem = omega (arith, h, b.exprs_fit_lem, l.exprs_few);
  items_fit = omega (arith, h, b.items_fit, l.items_few, ap length l.waits, ap length b.waiting_are);
}

pub finished_then : {A B : Type 0} {w w' : List Item} {m m' n : ℕ} {p : Low A} (f : A → Low B) {s u t : List ℕ} {a : A} {r : B}
    → m + m' ≤ n → Finished w m p s a u → Finished w' m' (f a) u r t → Finished w' n (p >>= f) s r t
unfolding ◌>>=◌
finished_then f h x y = record {
  same = y.same ∙ ap (λ z. f z.0 z.1) x.same;
  waits = y.waits;
  ready = y.ready;
  kept = kept_then x.kept y.kept;
  exprs_few = omega (arith, h, x.exprs_few, y.exprs_few);
  items_few = omega (arith, h, x.items_few, y.items_few);
}

-- another text of the same step
pub finished_as : {A : Type 0} {w : List Item} {n : ℕ} {p q : Low A} {s t : List ℕ} {r : A} → p (state_of s) ≡ q (state_of s) → Finished w n p s r t → Finished w n q s r t
finished_as e x = record { same = x.same ∙ e; waits = x.waits; ready = x.ready; kept = x.kept; exprs_few = x.exprs_few; items_few = x.items_few }

-- what a step gave, in another form
pub finished_with : {A B : Type 0} {w : List Item} {n : ℕ} {p : Low A} (g : A → B) {s t : List ℕ} {a : A} → Finished w n p s a t → Finished w n (p >>= λ x. give (g x)) s (g a) t
unfolding ◌>>=◌ give
finished_with g x = record { same = ap (λ z. (g z.0, z.1)) x.same; waits = x.waits; ready = x.ready; kept = x.kept; exprs_few = x.exprs_few; items_few = x.items_few }

-- ---- contracts
-- What a step gives is what the definition gives, so that the items can be named by it.
pub listing_of : {A : Type 0} {n : ℕ} (items : A → List Item) {p : Low A} {s t : List ℕ} → Wrote lowering s t → Still s t → ((w : List Item) → Begins w n s → (r : A) × Finished (w ++ items r) n p s r t) → Listing n items p s t
listing_of {A} {n} items {p} {s} {t} wrote still does = record { at = λ w. record { wrote = wrote; still = still; does = λ b. go w (does w b) } }
  where
    go : (w : List Item) → (r : A) × Finished (w ++ items r) n p s r t → Finished (w ++ items (p (state_of s)).0) n p s (p (state_of s)).0 t
    go w x = rw (← ap (λ z. z.0) x.1.same) x.1

-- ---- a step of the store's own, with the work w after it
by_work : {A : Type 0} {v v' : List Item} {n : ℕ} {p : Low A} {s t : List ℕ} {r : A} (w : Work) → Begins v n s → work_of t ≡ w → Fine t
    → ◌≡◌ {A = A × State} (r, w.lowered) (p (state_of s)) → w.waiting ≡ v' → w.order ≡ order_of s → ExprsOnly (state_of s) w.lowered
    → length w.lowered.exprs ≤ length (state_of s).exprs + n → w.used + length w.waiting ≤ used_of s + length (waiting_of s) + n → Finished v' n p s r t
unfolding work_of
by_work {s = s} {t = t} {r = r} w b e fine same waits order kept exprs_few items_few =
    let state_is : state_of t ≡ w.lowered = ap (λ (x : Work). x.lowered) e in
    let waiting_is : waiting_of t ≡ w.waiting = ap (λ (x : Work). x.waiting) e in
    let used_is : used_of t ≡ w.used = ap (λ (x : Work). x.used) e in
    record {
      same = ap (λ x. (r, x)) state_is ∙ same;
      waits = waiting_is ∙ waits;
      ready = ready_same s t b.ready fine (ap (λ (x : Work). x.order) e ∙ order) (ap (λ (x : State). x.sets) state_is ∙ kept.sets_same) (ap (λ (x : State). x.entries) state_is ∙ kept.entries_same);
      kept = rw state_is kept;
      exprs_few = rw state_is exprs_few;
      items_few = rw (used_is, waiting_is) items_few;
    }

-- an expression with the items that wait from `base` on
pub taken : {w : List Item} (sort : ℕ) (make : List Item → Made) (is : List Item) {base : ℕ} {s : List ℕ} {r : ℕ} {t : List ℕ} → suits sort is ≡ true → Begins (w ++ is) 1 s → base ≡ length w → Takes sort make base s r t → Finished w 1 (new_made (make is)) s r t
unfolding new_made
taken {w = w} sort make is {base} {s} fit b h d =
    let e = b.waiting_are in
    let n : length (w ++ is) ≡ length w + length is = length-append w is in
    let z = row_taken_lem sort make w is fit b.ready.fine e h (omega (arith, b.exprs_fit_lem)) (omega (arith, b.items_fit, n)) d in
    by_work (row_taken (make is) w (length is) s) b (ap (λ x. x.1) z.0) z.1 (ap (λ x. (x.0, (new_made (make is) (state_of s)).1)) z.0) refl refl
    (record { names_same = refl; diagnostics_same = refl; lost_same = refl; sets_same = refl; entries_same = refl })
    (simp length-append (omega arith))
    (rw e (simp length-append (omega arith)))

pub missing_taken : {w : List Item} {s : List ℕ} {r : ℕ} {t : List ℕ} → Begins w 1 s → Did (take_lone hole_made) s r t → Finished w 1 alloc_missing s r t
unfolding alloc_missing take_lone hole_made work_of
missing_taken {w} {s} b d =
    let c : Begins (w ++ []) 1 s = rw (append-nil w) b in
    taken 0 hole_made [] {base = length (waiting_of s)} (none_suit 0) c (ap length b.waiting_are) (record { wrote = d.wrote; still = d.still; does = λ fine fit. d.does fine })

-- an item
pub pushed : {w : List Item} (i : Item) {s t : List ℕ} → Begins w 1 s → Did (push_item i) s tt t → Finished (w ++ only i) 1 (give i) s i t
unfolding give only
pushed i {s} b d =
    let e = b.waiting_are in
    let z = item_pushed_lem i b.ready.fine (omega (arith, b.items_fit, ap length e)) d in
    by_work (item_pushed i s) b z.0 z.1 refl (rw e) refl (kept_none (state_of s)) (omega arith) (simp length-append (omega arith))
