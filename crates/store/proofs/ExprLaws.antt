-- What appending items and expressions does to the work. Assumes nothing.
use mathlib.Core.Path.{◌≡◌, refl, sym, ap, ◌∙◌}
use mathlib.Core.Logic.{◌⊎◌, inl, inr, ⊎_elim}
use mathlib.Core.Bool.{Bool, true, false, ◌&&◌, and-eq-true_iff}
use mathlib.Core.List.{List, [], ◌∷◌, ◌++◌}
use mathlib.Mathlib.Data.Bool.Basic.{and_intro}
use Prim.Native.Nat.{ℕ, zero, suc, ◌+◌, ◌-◌, ◌*◌, ◌≤◌, ◌<◌, ◌^◌}
use native.Mathlib.Omega.{arith}
use lib.ListN.{length, get_or, take, drop, length-drop, length-take, drop_of_length-le}
use lib.Seq.{take_all}
use lib.Dec.{ltb, leb}
use borrow.Author.Tests.{lt-ltb, le-ltb, le-leb, lt-leb, ltb-true, ltb-false, leb-true, leb-false}
use Rattle.words.specs.Runs.{run, splice}
use Rattle.words.specs.Words.{word, set_word}
use Rattle.words.proofs.RunLaws.{length_splice, length_run}
use Rattle.words.proofs.WordLaws.{length_set_word, word_set_word_same, word_set_word_other, word_splice_other, word_splice_within, word_run}
use Rattle.spec.proofs.general.BoolLaws.{differ}
use Rattle.spec.specs.Module.{Pointer, Made}
use Rattle.spec.specs.Steps.{Step}
use Rattle.spec.specs.State.{new_made}
use Rattle.module.specs.Ids.{pointer_of}
use Rattle.module.specs.declared.pointer.Pointer as code
use Rattle.rows.specs.declared.row.Row.{Row}
use Rattle.rows.specs.declared.row.ItemRow.{ItemRow}
use Rattle.layout.specs.Layout.{expr_limit, item_limit, waiting_limit, expr_row, pointer_row, item_row, expr_count, waiting_count, exprs_at, expr_pointers_at, items_at, names_at, waiting_at, sets_at, Long}
use Rattle.layout.specs.Rows.{cap, rows_to, rows_from, set_all}
use Rattle.layout.specs.Changes.{Range, Outside, Wrote, Still}
use Rattle.layout.specs.Exprs.{Item, child, item_of, item_at, item_in, expr_of, pointer_at, pointer_or, first_item, items_of, sort_of, made_in}
use Rattle.layout.specs.States.{exprs_of, state_of, waiting_of, used_of}
use Rattle.module.specs.declared.expr.Expr.{Expr}
use Rattle.store.specs.Codes.{row_made, expr_made, hole_made, sort_for, Says, HeldRow}
use Rattle.store.specs.Work.{Work, work_of, take_row, take_lone, push_item, lowering, tag_for, suits, wait_coded, Fine, Did, DidWhere, Takes, Took, PutRow}
use Rattle.rows.proofs.ReferenceLaws.{length_exprs}
use Rattle.soundness.specs.Sound.{tag_fits}
use Rattle.soundness.specs.Coded.{fields_coded, row_coded, part_coded, item_coded}
use Rattle.soundness.proofs.NumberLaws.{by_tag}
use Rattle.store.proofs.CodedLaws.{ExprsCoded, WaitsCoded, exprs_coded, names_coded, diagnostics_coded, all_coded, firsts_rise, fields_still, part_still, row_coded_same, item_coded_same, wait_coded_same, exprs_coded_kept, names_coded_kept, diagnostics_coded_kept}
use Rattle.layout.proofs.RowLaws.{rows_same, length_rows, get_d_rows, rows_take, rows_drop, cap_le, cap_over, cap_lim}
use Rattle.layout.proofs.Frames.{Same, apart, same_on, text_still, item_same, items_same, made_same, number_kept, exprs_kept, names_kept, diagnostics_kept, lost_kept, sets_kept, entries_kept, waiting_kept, order_kept}
use Rattle.layout.proofs.WriteLaws.{still_splice, still_set_word, still_all, still_then, Small, length_all, all_other, all_at}

-- ---- counts
pub length_waiting : (s : List ℕ) → length (waiting_of s) ≡ cap (word s waiting_count) waiting_limit
unfolding waiting_of
length_waiting s = length_rows (λ i. item_at s (waiting_at + item_row * i)) (cap (word s waiting_count) waiting_limit)

pub waiting_few : (s : List ℕ) (n : ℕ) → n ≡ word s waiting_count → n ≤ waiting_limit → n ≡ length (waiting_of s)
waiting_few s n e h = sym (length_waiting s ∙ rw (← e) (cap_le n waiting_limit h))

pub waiting_counted : (s : List ℕ) (n r : ℕ) → n ≡ word s waiting_count → r ≡ cap n waiting_limit → r ≡ length (waiting_of s)
waiting_counted s n r e c = c ∙ rw e (sym (length_waiting s))

pub waiting_within : (s : List ℕ) → length (waiting_of s) ≤ waiting_limit
waiting_within s = omega (arith, length_waiting s, cap_lim (word s waiting_count) waiting_limit)

pub waiting_left : (s : List ℕ) (base : ℕ) → length (drop base (waiting_of s)) ≡ length (waiting_of s) - base
waiting_left s base = length-drop base (waiting_of s)

-- ---- items that are put in use
-- a row that was moved
item_moved : (s t : List ℕ) (at to : ℕ) → Still s t → word t to ≡ word s at → word t (to + 4) ≡ word s (at + 4) → word t (to + 8) ≡ word s (at + 8) → item_at t to ≡ item_at s at
unfolding item_at item_of
item_moved s t at to e a b c = rw (a, b, c, text_still s t (word s (at + 4)) e)

module _ (s u t : List ℕ) (base count first : ℕ) (long : Long s) (some_wait : 0 < count) (size : count ≡ length (drop base (waiting_of s))) (room : first + count ≤ item_limit)
    (moved : u ≡ splice s (items_at + item_row * first) (run s (waiting_at + item_row * base) (12 * count))) (cut : t ≡ set_word u waiting_count base) where
  inside : (base + count ≡ length (waiting_of s)) × (base + count ≤ waiting_limit)
  inside =
      let e = size ∙ length-drop base (waiting_of s) in
      let l = length_waiting s in
      let m = cap_lim (word s waiting_count) waiting_limit in
      (omega arith, omega arith)

  run_size : length (run s (waiting_at + item_row * base) (12 * count)) ≡ 12 * count
  run_size = length_run s (waiting_at + item_row * base) (12 * count) (omega (arith, inside.1))

  moved_other : (j : ℕ) → (j + 4 ≤ items_at + item_row * first) ⊎ (items_at + item_row * (first + count) ≤ j) → word u j ≡ word s j
  moved_other j o = rw moved (word_splice_other s (items_at + item_row * first) (run s (waiting_at + item_row * base) (12 * count)) j (⊎_elim (λ z. inl z) (λ z. inr (omega (arith, run_size))) o))

  moved_is : (i : ℕ) → i + 4 ≤ 12 * count → word u (items_at + item_row * first + i) ≡ word s (waiting_at + item_row * base + i)
  moved_is i h =
      rw moved (word_splice_within s (items_at + item_row * first) (run s (waiting_at + item_row * base) (12 * count)) i (omega (arith, run_size)) (omega (arith, run_size))
      ∙ word_run s (waiting_at + item_row * base) (12 * count) i (omega (arith, inside.1)) h)

  took_wrote : Wrote ((waiting_count, waiting_count + 4) ∷ (items_at + item_row * first, items_at + item_row * (first + count)) ∷ []) s t
  unfolding Outside
  took_wrote = record {
    size = rw (cut, length_set_word u waiting_count base, moved) (length_splice s (items_at + item_row * first) (run s (waiting_at + item_row * base) (12 * count)));
    other = λ j o. rw cut (word_set_word_other u waiting_count base j (⊎_elim (λ z. inl z) (λ z. inr z) o.0) ∙ moved_other j o.1.0);
  }

  took_still : Still s t
  took_still = rw cut (still_then {u = u} (rw moved (still_splice s (items_at + item_row * first) (run s (waiting_at + item_row * base) (12 * count)) (omega (arith, run_size)) (λ z. omega (arith, run_size)))) (still_set_word u waiting_count base (omega arith) (λ z. omega arith)))

  took_word : (i to at : ℕ) → i + 4 ≤ 12 * count → to ≡ items_at + item_row * first + i → at ≡ waiting_at + item_row * base + i → word t to ≡ word s at
  took_word i to at h p q = rw (cut, p, q) (word_set_word_other u waiting_count base (items_at + item_row * first + i) (inr (omega arith)) ∙ moved_is i h)

  pub took_some : Took base count first s t
  unfolding item_in waiting_of Outside
  took_some =
      let l = length_waiting s in
      let few : base ≤ cap (word s waiting_count) waiting_limit = omega (arith, inside.0, l) in
      let n : word t waiting_count ≡ base = rw cut (word_set_word_same u waiting_count base (omega (arith, length_splice s (items_at + item_row * first) (run s (waiting_at + item_row * base) (12 * count)), ap length moved)) (omega (arith, inside.1))) in
      record {
        wrote = took_wrote;
        still = took_still;
        items = λ j h. item_moved s t (waiting_at + item_row * (base + j)) (items_at + item_row * (first + j)) took_still
            (took_word (12 * j) _ _ (omega arith) (omega arith) (omega arith))
            (took_word (12 * j + 4) _ _ (omega arith) (omega arith) (omega arith))
            (took_word (12 * j + 8) _ _ (omega arith) (omega arith) (omega arith));
        moved = λ i h. took_word i _ _ h refl refl;
        waiting = rw (n, cap_le base waiting_limit (omega (arith, inside.1))) (
            rows_same (λ i. item_at t (waiting_at + item_row * i)) (λ i. item_at s (waiting_at + item_row * i)) base (λ i h. item_same s t (waiting_at + item_row * i) took_still (λ j p q. took_wrote.other j (inr (omega arith), (inr (omega arith), tt))))
            ∙ sym (rows_take (λ i. item_at s (waiting_at + item_row * i)) (cap (word s waiting_count) waiting_limit) base few));
      }

pub took_none : (s : List ℕ) (base count first : ℕ) → count ≤ 0 → count ≡ length (drop base (waiting_of s)) → Took base count first s s
took_none s base count first h e = record {
  wrote = record { size = refl; other = λ j o. refl };
  still = record { same = refl; used = refl };
  items = λ j k. absurd (omega arith);
  moved = λ i k. absurd (omega arith);
  waiting = sym (take_all base (waiting_of s) (omega (arith, length-drop base (waiting_of s))));
}

-- ---- a row that is put
pub row_put : (s : List ℕ) (n end : ℕ) (r : Row) (p : code.Pointer) → Long s → n < expr_limit → end < 2 ^ 32 → r.sort < 2 ^ 32 → r.a < 2 ^ 32 → r.b < 2 ^ 32 → r.c < 2 ^ 32 → p.kind < 2 ^ 32 → p.from < 2 ^ 32 → p.to < 2 ^ 32
    → PutRow n end r (pointer_of p) s (set_word (set_all (set_all s (exprs_at + expr_row * n + 4) (r.sort ∷ r.a ∷ r.b ∷ r.c ∷ end ∷ [])) (expr_pointers_at + pointer_row * n) (p.kind ∷ p.from ∷ p.to ∷ [])) expr_count (n + 1))
unfolding Outside first_item sort_of pointer_at pointer_of
row_put s n end r p long h he rs ra rb rc pk pf pt =
    let ws = r.sort ∷ r.a ∷ r.b ∷ r.c ∷ end ∷ [] in
    let ps = p.kind ∷ p.from ∷ p.to ∷ [] in
    let at = exprs_at + expr_row * n + 4 in
    let to = expr_pointers_at + pointer_row * n in
    let u : List ℕ = set_all s at ws in
    let v : List ℕ = set_all u to ps in
    let t : List ℕ = set_word v expr_count (n + 1) in
    let lu : length u ≡ length s = length_all s at ws in
    let lv : length v ≡ length u = length_all u to ps in
    let row : (i j : ℕ) → i < 5 → j ≡ at + 4 * i → word t j ≡ get_or ws i 0 = λ i j k e.
    word_set_word_other v expr_count (n + 1) j (inr (omega arith)) ∙ all_other u to ps j (inl (omega arith)) ∙ all_at s at ws (rs, (ra, (rb, (rc, (he, tt))))) (omega arith) i j k e in
    let ptr : (i j : ℕ) → i < 3 → j ≡ to + 4 * i → word t j ≡ get_or ps i 0 = λ i j k e.
    word_set_word_other v expr_count (n + 1) j (inr (omega arith)) ∙ all_at u to ps (pk, (pf, (pt, tt))) (omega arith) i j k e in
    record {
      wrote = record {
        size = length_set_word v expr_count (n + 1) ∙ lv ∙ lu;
        other = λ j o.
            word_set_word_other v expr_count (n + 1) j o.0
            ∙ all_other u to ps j (⊎_elim (λ z. inl (omega arith)) (λ z. inr (omega arith)) o.1.1.0)
            ∙ all_other s at ws j (⊎_elim (λ z. inl (omega arith)) (λ z. inr (omega arith)) o.1.0);
      };
      still = still_then {u = u} (still_all s at ws (omega arith) (λ z. omega arith)) (still_then {u = v} (still_all u to ps (omega arith) (λ z. omega arith)) (still_set_word v expr_count (n + 1) (omega arith) (λ z. omega arith)));
      count = word_set_word_same v expr_count (n + 1) (omega arith) (omega arith);
      next = row 4 (exprs_at + expr_row * (n + 1)) (omega arith) (omega arith);
      sort = row 0 at (omega arith) (omega arith);
      a = row 1 (exprs_at + expr_row * n + 8) (omega arith) (omega arith);
      b = row 2 (exprs_at + expr_row * n + 12) (omega arith) (omega arith);
      c = row 3 (exprs_at + expr_row * n + 16) (omega arith) (omega arith);
      pointer = rw (ptr 0 to (omega arith) (omega arith), ptr 1 (to + 4) (omega arith) (omega arith), ptr 2 (to + 8) (omega arith) (omega arith));
    }

-- ---- items that an expression may have
suits_at : (sort : ℕ) (is : List Item) (k : ℕ) (d : Item) → suits sort is ≡ true → k < length is → tag_fits sort (tag_for (get_or is k d)) ≡ true
unfolding suits
suits_at sort [] k d h l = absurd (omega arith)
suits_at sort (i ∷ is) zero d h l = ((and-eq-true_iff (tag_fits sort (tag_for i)) (suits sort is)).0 h).0
suits_at sort (i ∷ is) (suc k) d h l = suits_at sort is k d ((and-eq-true_iff (tag_fits sort (tag_for i)) (suits sort is)).0 h).1 (omega arith)

-- of items one after the other, each
pub suits_each : (sort : ℕ) (f : ℕ → Item) (n : ℕ) → suits sort (rows_to f n) ≡ true → (k : ℕ) → k < n → tag_fits sort (tag_for (f k)) ≡ true
suits_each sort f n h k l = rw (get_d_rows f n k (child 0) l) at (suits_at sort (rows_to f n) k (child 0) h (rw (length_rows f n) l))

-- The tag of an item is of the item's class, and a sort takes all of a class or none.
tag_class : (s : List ℕ) (tag a b sort : ℕ) → tag ≤ 9 → tag_fits sort (tag_for (item_of s tag a b)) ≡ tag_fits sort tag
unfolding tag_for item_of tag_fits
tag_class s tag a b sort h = by_tag (λ k. tag_fits sort (tag_for (item_of s k a b)) ≡ tag_fits sort k) refl refl refl refl refl refl refl refl refl refl tag h

-- the count, those that wait, and the tables of expressions, pointers and items
abbrev own : List Range
own = (expr_count, expr_count + 4) ∷ (waiting_count, waiting_count + 4) ∷ (exprs_at, names_at) ∷ []

-- what is written for an expression belongs to lowering
own_lowering : {s t : List ℕ} → Wrote own s t → Wrote lowering s t
unfolding Outside lowering
own_lowering w = record { size = w.size; other = λ j o. w.other j (⊎_elim (λ z. inl (omega arith)) (λ z. inr (omega arith)) o.0, (⊎_elim (λ z. inl (omega arith)) (λ z. inr (omega arith)) o.1.0, (⊎_elim (λ z. inl (omega arith)) (λ z. inr (omega arith)) o.1.1.0, tt))) }

module _ (s u t : List ℕ) (base count first n : ℕ) (r : Row) (p : Pointer) (row_coded_lem : fields_coded s r.sort r.a r.b ≡ true) (number : n ≡ word s expr_count) (few : n < expr_limit) (begins : first ≡ word s (exprs_at + expr_row * n))
    (size : count ≡ length (drop base (waiting_of s))) (room : first + count ≤ item_limit) (took : Took base count first s u) (put : PutRow n (first + count) r p u t) where
  alloc_wrote : Wrote own s t
  unfolding Outside
  alloc_wrote = record {
    size = put.wrote.size ∙ took.wrote.size;
    other = λ j o.
        put.wrote.other j (o.0, (⊎_elim (λ z. inl (omega arith)) (λ z. inr (omega arith)) o.1.1.0, (⊎_elim (λ z. inl (omega arith)) (λ z. inr (omega arith)) o.1.1.0, tt)))
        ∙ took.wrote.other j (o.1.0, (⊎_elim (λ z. inl (omega arith)) (λ z. inr (omega arith)) o.1.1.0, tt));
  }

  alloc_still : Still s t
  alloc_still = still_then took.still put.still

  expr_length : length (state_of s).exprs ≡ cap (word s expr_count) expr_limit
  unfolding state_of
  expr_length = length_exprs s

  put_coarse : Wrote ((expr_count, expr_count + 4) ∷ (exprs_at, names_at) ∷ []) u t
  unfolding Outside
  put_coarse = record {
    size = put.wrote.size;
    other = λ j o. put.wrote.other j (o.0, (⊎_elim (λ z. inl (omega arith)) (λ z. inr (omega arith)) o.1.0, (⊎_elim (λ z. inl (omega arith)) (λ z. inr (omega arith)) o.1.0, tt)));
  }

  counted : cap (word s expr_count) expr_limit ≡ n
  counted = rw (← number) (cap_le n expr_limit (omega arith))

  counted_after : cap (word t expr_count) expr_limit ≡ n + 1
  counted_after = rw put.count (cap_le (n + 1) expr_limit (omega arith))

  -- where the row's items begin stays, and so do all rows before it
  rows_before : Same s t exprs_at (exprs_at + expr_row * n + 4)
  unfolding Outside
  rows_before j a b = put.wrote.other j (inr (omega arith), (inl (omega arith), (inl (omega arith), tt))) ∙ took.wrote.other j (inr (omega arith), (inl (omega arith), tt))

  pointers_before : Same s t expr_pointers_at (expr_pointers_at + pointer_row * n)
  unfolding Outside
  pointers_before j a b = put.wrote.other j (inr (omega arith), (inr (omega arith), (inl (omega arith), tt))) ∙ took.wrote.other j (inr (omega arith), (inl (omega arith), tt))

  items_before : Same s t items_at (items_at + item_row * first)
  unfolding Outside
  items_before j a b = put.wrote.other j (inr (omega arith), (inr (omega arith), (inr (omega arith), tt))) ∙ took.wrote.other j (inr (omega arith), (inl (omega arith), tt))

  -- the row's own items
  item_kept : (k : ℕ) → k < count → item_in t (first + k) ≡ item_in u (first + k)
  unfolding item_in Outside
  item_kept k h = item_same u t (items_at + item_row * (first + k)) put.still (λ j a b. put.wrote.other j (inr (omega arith), (inr (omega arith), (inr (omega arith), tt))))

  waiting_before : Same s t waiting_at sets_at
  unfolding Outside
  waiting_before j a b = put.wrote.other j (inr (omega arith), (inr (omega arith), (inr (omega arith), tt))) ∙ took.wrote.other j (inr (omega arith), (inr (omega arith), tt))

  sort_before : (e : ℕ) → e < n → sort_of t e ≡ sort_of s e
  unfolding sort_of
  sort_before e h = rows_before (exprs_at + expr_row * e + 4) (omega arith) (omega arith)

  own_row_coded : row_coded t n ≡ true
  unfolding row_coded
  own_row_coded = rw (put.sort, put.a, put.b) (fields_still s t alloc_still r.sort r.a r.b ∙ row_coded_lem)

  own_word : (i to at : ℕ) → i + 4 ≤ 12 * count → to ≡ items_at + item_row * first + i → at ≡ waiting_at + item_row * base + i → word t to ≡ word s at
  unfolding Outside
  own_word i to at h p q = rw (p, q) (put.wrote.other (items_at + item_row * first + i) (inr (omega arith), (inr (omega arith), (inr (omega arith), tt))) ∙ took.moved i h)

  -- what waits from `base` on: nothing, or all between it and the count
  waits : (m : ℕ) → cap (word s waiting_count) waiting_limit ≡ m → drop base (waiting_of s) ≡ rows_to (λ k. item_at s (waiting_at + item_row * (base + k))) count
  unfolding waiting_of rows_to
  waits m e =
      let l = length_waiting s in
      let d = length-drop base (waiting_of s) in
      go (leb base m) refl (omega (arith, l, d))
    where
      go : (b : Bool) → leb base m ≡ b → count ≡ m - base → drop base (rows_to (λ i. item_at s (waiting_at + item_row * i)) (cap (word s waiting_count) waiting_limit)) ≡ rows_to (λ k. item_at s (waiting_at + item_row * (base + k))) count
      go true h c =
          let q = leb-true base m h in
          let z : m ≡ base + count = omega arith in
          rw (e, z) (rows_drop (λ i. item_at s (waiting_at + item_row * i)) base count)
      go false h c =
          let q = leb-false base m h in
          let z : count ≡ 0 = omega arith in
          rw (e, z) (drop_of_length-le (rows_to (λ i. item_at s (waiting_at + item_row * i)) m) {i = base} (rw (length_rows (λ i. item_at s (waiting_at + item_row * i)) m) (omega arith)))

  items_own : items_of t n ≡ drop base (waiting_of s)
  unfolding items_of first_item rows_from
  items_own =
      let f : word t (exprs_at + expr_row * n) ≡ first = rows_before (exprs_at + expr_row * n) (omega arith) (omega arith) ∙ sym begins in
      let g : word t (exprs_at + expr_row * (n + 1)) ≡ first + count = put.next in
      let z : first + count - first ≡ count = omega arith in
      rw (f, g, cap_le first item_limit (omega arith), cap_le (first + count) item_limit room, z)
      (rows_same (λ k. item_in t (first + k)) (λ k. item_at s (waiting_at + item_row * (base + k))) count (λ k h. item_kept k h ∙ took.items k h) ∙ sym (waits (cap (word s waiting_count) waiting_limit) refl))

  made_own : made_in t n ≡ row_made s r p (drop base (waiting_of s))
  unfolding made_in row_made expr_of
  made_own = rw (put.sort, put.a, put.b, put.c, put.pointer, items_own, text_still s t r.a alloc_still)

  -- the rows before it
  first_kept : (i : ℕ) → i ≤ n → first_item t i ≡ first_item s i
  unfolding first_item
  first_kept i h = rows_before (exprs_at + expr_row * i) (omega arith) (omega arith)

  first_last : first_item s n ≡ first
  unfolding first_item
  first_last = sym begins

  used_is : used_of s ≡ first
  unfolding used_of
  used_is = rw (counted, first_last)

  used_after : used_of t ≡ first + count
  unfolding used_of
  used_after = rw (counted_after, put.next)

  module _ (fine : Fine s) where
    before : ExprsCoded s
    before = exprs_coded fine

    first_below : (i : ℕ) → i ≤ n → first_item s i ≤ first
    first_below i h = let q = firsts_rise before i n h (omega arith) in omega (arith, first_last)

    items_kept : (i : ℕ) → i < n → items_of t i ≡ items_of s i
    unfolding items_of
    items_kept i h =
        let a = first_below (i + 1) (omega arith) in
        let b = cap_le (first_item s (i + 1)) item_limit (omega arith) in
        rw (first_kept i (omega arith), first_kept (i + 1) (omega arith), b) (items_same s t (cap (first_item s i) item_limit) (first_item s (i + 1)) alloc_still (λ j p q. items_before j (omega arith) (omega arith)))

    made_before : (i : ℕ) → i < n → made_in t i ≡ made_in s i
    made_before i h = made_same s t i alloc_still (λ j a b. rows_before j (omega arith) (omega arith)) (λ j a b. pointers_before j (omega arith) (omega arith)) (items_kept i h)

    exprs_more : exprs_of t ≡ exprs_of s ++ (row_made s r p (drop base (waiting_of s)) ∷ [])
    unfolding exprs_of rows_to
    exprs_more =
        let e : n + 1 ≡ suc n = omega arith in
        rw (counted_after, counted, e, made_own) (ap (λ l. l ++ (row_made s r p (drop base (waiting_of s)) ∷ [])) (rows_same (made_in t) (made_in s) n made_before))

    state_more : state_of t ≡ (new_made (row_made s r p (drop base (waiting_of s))) (state_of s)).1
    unfolding state_of new_made
    state_more =
        rw (
          exprs_more,
          names_kept alloc_wrote alloc_still refl refl,
          diagnostics_kept alloc_wrote alloc_still refl refl,
          lost_kept alloc_wrote refl refl,
          sets_kept alloc_wrote refl refl,
          entries_kept alloc_wrote alloc_still refl refl,
        )

    waiting_cut : waiting_of t ≡ take base (waiting_of s)
    waiting_cut = waiting_kept put_coarse put.still refl refl ∙ took.waiting

    -- the row's own items: their tags are such as its sort may have, their texts in use
    own_coded : suits r.sort (drop base (waiting_of s)) ≡ true → (k : ℕ) → k < count → item_coded t r.sort (first + k) ≡ true
    unfolding item_coded wait_coded item_at
    own_coded fit k h =
        let tag : word t (items_at + item_row * (first + k)) ≡ word s (waiting_at + item_row * (base + k)) = own_word (12 * k) _ _ (omega arith) (omega arith) (omega arith) in
        let a : word t (items_at + item_row * (first + k) + 4) ≡ word s (waiting_at + item_row * (base + k) + 4) = own_word (12 * k + 4) _ _ (omega arith) (omega arith) (omega arith) in
        let few : base + k < cap (word s waiting_count) waiting_limit = omega (arith, length_waiting s, length-drop base (waiting_of s)) in
        let c = (and-eq-true_iff (leb (word s (waiting_at + item_row * (base + k))) 9) _).0 (fine.waits (base + k) few) in
        let low = leb-true (word s (waiting_at + item_row * (base + k))) 9 c.0 in
        let fits = suits_each r.sort (λ j. item_at s (waiting_at + item_row * (base + j))) count (rw (waits (cap (word s waiting_count) waiting_limit) refl) at fit) k h in
        rw (tag, a, part_still s t alloc_still (word s (waiting_at + item_row * (base + k))) (word s (waiting_at + item_row * (base + k) + 4)))
        (and_intro (sym (tag_class s (word s (waiting_at + item_row * (base + k))) _ _ r.sort low) ∙ fits) c.1)

    exprs_after : suits r.sort (drop base (waiting_of s)) ≡ true → ExprsCoded t
    exprs_after fit =
        record {
          few = rw put.count (omega arith);
          begins = first_kept 0 (omega arith) ∙ before.begins;
          rises = λ e h. rises e (rw put.count at h) (ltb e n) refl;
          few_items = rw (put.count, put.next) room;
          rows = λ e h. rows e (rw put.count at h) (ltb e n) refl;
          items = λ e j h l m. items e j (rw put.count at h) l m (ltb e n) refl;
        }
      where
        rises : (e : ℕ) → e < n + 1 → (b : Bool) → ltb e n ≡ b → first_item t e ≤ first_item t (e + 1)
        rises e h true k = let q = ltb-true e n k in rw (first_kept e (omega arith), first_kept (e + 1) (omega arith)) (before.rises e (omega arith))
        rises e h false k = let z : e ≡ n = omega (arith, ltb-false e n k) in rw (z, first_kept n (omega arith), first_last, put.next) (omega arith)

        rows : (e : ℕ) → e < n + 1 → (b : Bool) → ltb e n ≡ b → row_coded t e ≡ true
        rows e h true k = let q = ltb-true e n k in row_coded_same s t alloc_still e (λ j a b. rows_before j (omega arith) (omega arith)) ∙ before.rows e (omega arith)
        rows e h false k = let z : e ≡ n = omega (arith, ltb-false e n k) in rw z (own_row_coded)

        items : (e j : ℕ) → e < n + 1 → first_item t e ≤ j → j < first_item t (e + 1) → (b : Bool) → ltb e n ≡ b → item_coded t (sort_of t e) j ≡ true
        items e j h l m true k =
            let q = ltb-true e n k in
            let l' : first_item s e ≤ j = rw (first_kept e (omega arith)) at l in
            let m' : j < first_item s (e + 1) = rw (first_kept (e + 1) (omega arith)) at m in
            let top = first_below (e + 1) (omega arith) in
            rw (sort_before e q) (item_coded_same s t alloc_still (sort_of s e) j (λ i a b. items_before i (omega arith) (omega arith)) ∙ before.items e j (omega arith) l' m')
        items e j h l m false k =
            let z : e ≡ n = omega (arith, ltb-false e n k) in
            let l' : first ≤ j = rw (z, first_kept n (omega arith), first_last) at l in
            let m' : j < first + count = rw (z, put.next) at m in
            let i : j ≡ first + (j - first) = omega arith in
            rw (z, put.sort, i) (own_coded fit (j - first) (omega arith))

    waits_after : WaitsCoded t
    waits_after i h =
        let l = length_waiting s in
        let few : i < cap (word s waiting_count) waiting_limit = omega (arith, length_waiting t, ap length waiting_cut, length-take base (waiting_of s)) in
        let m = cap_lim (word s waiting_count) waiting_limit in
        wait_coded_same s t alloc_still i (λ j a b. waiting_before j (omega arith) (omega arith)) ∙ fine.waits i few

    fine_after : suits r.sort (drop base (waiting_of s)) ≡ true → Fine t
    fine_after fit =
        all_coded (exprs_after fit) (names_coded_kept alloc_wrote alloc_still refl refl (names_coded fine)) (diagnostics_coded_kept alloc_wrote alloc_still refl refl (diagnostics_coded fine)) waits_after

    pub alloc_is : (n, work_of t) ≡ take_row (row_made s r p) base (work_of s)
    unfolding work_of take_row
    alloc_is =
        let a : length (state_of s).exprs ≡ n = expr_length ∙ counted in
        let l : ltb n expr_limit ≡ true = lt-ltb n expr_limit few in
        let m : leb (first + count) item_limit ≡ true = le-leb (first + count) item_limit room in
        rw (a, l, used_is, ← size, m, state_more, waiting_cut, used_after, order_kept alloc_wrote refl refl)

  pub row_allocated : Takes r.sort (row_made s r p) base s n t
  row_allocated = record { wrote = own_lowering alloc_wrote; still = alloc_still; does = λ fine fit. (alloc_is fine, fine_after fine fit) }

-- ---- where there is no room
pub fits_not : (a b : Bool) → (a ≡ false) ⊎ (b ≡ false) → a && b ≡ false
fits_not true b (inl e) = differ e
fits_not true b (inr e) = e
fits_not false b o = refl

pub nothing_done : {A : Type 0} {p : Step Work A} {s : List ℕ} {a : A} → (Fine s → (a, work_of s) ≡ p (work_of s)) → Did p s a s
nothing_done h = record { wrote = record { size = refl; other = λ j o. refl }; still = record { same = refl; used = refl }; does = λ fine. (h fine, fine) }

-- a step that was done whatever is wanted
pub did_where : {A C : Type 0} {p : Step Work A} {s t : List ℕ} {a : A} → Did p s a t → DidWhere C p s a t
did_where d = record { wrote = d.wrote; still = d.still; does = λ fine c. d.does fine }

pub row_full : (s : List ℕ) (make : List Item → Made) (base n : ℕ) → n ≡ word s expr_count → expr_limit ≤ n → Did (take_row make base) s expr_limit s
unfolding work_of take_row state_of
row_full s make base n e h =
    let a : ltb (length (exprs_of s)) expr_limit ≡ false = le-ltb (length (exprs_of s)) expr_limit (omega (arith, length_exprs s, cap_over (word s expr_count) expr_limit (omega arith))) in
    nothing_done (λ fine. rw (fits_not (ltb (length (exprs_of s)) expr_limit) (leb (used_of s + length (drop base (waiting_of s))) item_limit) (inl a)))

pub row_crowded : (s : List ℕ) (make : List Item → Made) (base n first count : ℕ) → n ≡ word s expr_count → n < expr_limit → first ≡ word s (exprs_at + expr_row * n) → count ≡ length (drop base (waiting_of s)) → item_limit < first + count → Did (take_row make base) s expr_limit s
unfolding work_of take_row used_of first_item
row_crowded s make base n first count e h f c l =
    let a : cap (word s expr_count) expr_limit ≡ n = rw (← e) (cap_le n expr_limit (omega arith)) in
    let m : leb (first + count) item_limit ≡ false = lt-leb (first + count) item_limit l in
    nothing_done (λ fine. rw (a, ← f, ← c, fits_not (ltb (length (state_of s).exprs) expr_limit) (leb (first + count) item_limit) (inr m)))

-- ---- steps that leave the expressions alone
pub used_kept : {rs : List Range} {s t : List ℕ} → Wrote rs s t → apart (0, 4) rs ≡ true → apart (exprs_at, expr_pointers_at) rs ≡ true → used_of t ≡ used_of s
unfolding used_of first_item
used_kept {s = s} {t = t} w a b =
    let l = cap_lim (word s expr_count) expr_limit in
    rw (number_kept w expr_count a) (same_on exprs_at expr_pointers_at w b (exprs_at + expr_row * cap (word s expr_count) expr_limit) (omega arith) (omega arith))

-- ---- an item that waits
waiting_more : (s t : List ℕ) (n : ℕ) (i : Item) → n ≡ word s waiting_count → n < waiting_limit → word t waiting_count ≡ n + 1 → Still s t → Same s t waiting_at (waiting_at + item_row * n) → item_at t (waiting_at + item_row * n) ≡ i → waiting_of t ≡ waiting_of s ++ (i ∷ [])
unfolding waiting_of rows_to
waiting_more s t n i e few c still before is =
    let z : n + 1 ≡ suc n = omega arith in
    rw (c, ← e, cap_le (n + 1) waiting_limit (omega arith), cap_le n waiting_limit (omega arith), z, is) (ap (λ l. l ++ (i ∷ [])) (rows_same (λ k. item_at t (waiting_at + item_row * k)) (λ k. item_at s (waiting_at + item_row * k)) n (λ k h. item_same s t (waiting_at + item_row * k) still (λ j p q. before j (omega arith) (omega arith)))))

item_of_still : (s t : List ℕ) (tag a b : ℕ) → Still s t → item_of t tag a b ≡ item_of s tag a b
unfolding item_of
item_of_still s t tag a b e = rw (text_still s t a e)

wait_put : (s t : List ℕ) (n : ℕ) (r : ItemRow) → Still s t → word t (waiting_at + item_row * n) ≡ r.tag → word t (waiting_at + item_row * n + 4) ≡ r.a → leb r.tag 9 ≡ true → part_coded s r.tag r.a ≡ true → wait_coded t n ≡ true
unfolding wait_coded
wait_put s t n r still a b low part = rw (a, b, low) (part_still s t still r.tag r.a ∙ part)

waits_more : (s t : List ℕ) (n : ℕ) → n ≡ word s waiting_count → n < waiting_limit → word t waiting_count ≡ n + 1 → Still s t → Same s t waiting_at (waiting_at + item_row * n) → wait_coded t n ≡ true → WaitsCoded s → WaitsCoded t
waits_more s t n e few c still before own waits i h = by (ltb i n) refl
  where
    below : i < n + 1
    below = rw (c, cap_le (n + 1) waiting_limit (omega arith)) at h

    by : (b : Bool) → ltb i n ≡ b → wait_coded t i ≡ true
    by true k =
        let q = ltb-true i n k in
        wait_coded_same s t still i (λ j x y. before j (omega arith) (omega arith)) ∙ waits i (rw (← e, cap_le n waiting_limit (omega arith)) q)
    by false k = let z : i ≡ n = omega (arith, below, ltb-false i n k) in rw z own

pub item_pushed_lem : (s u t : List ℕ) (i : Item) (r : ItemRow) (n at : ℕ) → Long s → item_of s r.tag r.a r.b ≡ i → leb r.tag 9 ≡ true → part_coded s r.tag r.a ≡ true → Small (r.tag ∷ r.a ∷ r.b ∷ []) → n ≡ word s waiting_count → n < waiting_limit → at ≡ waiting_at + item_row * n
    → u ≡ set_all s at (r.tag ∷ r.a ∷ r.b ∷ []) → t ≡ set_word u waiting_count (n + 1) → Did (push_item i) s tt t
unfolding work_of push_item lowering Outside state_of item_at
item_pushed_lem s u t i r n at long says low part small e few ea eu et =
    let ws = r.tag ∷ r.a ∷ r.b ∷ [] in
    let lu : length u ≡ length s = rw eu (length_all s at ws) in
    let wrote : Wrote ((waiting_count, waiting_count + 4) ∷ (waiting_at, sets_at) ∷ []) s t = record {
      size = rw et (length_set_word u waiting_count (n + 1)) ∙ lu;
      other = λ j o. rw et (word_set_word_other u waiting_count (n + 1) j o.0 ∙ rw eu (all_other s at ws j (⊎_elim (λ z. inl (omega arith)) (λ z. inr (omega arith)) o.1.0)));
    } in
    let still : Still s t = still_then {u = u} (rw eu (still_all s at ws (omega arith) (λ z. omega arith))) (rw et (still_set_word u waiting_count (n + 1) (omega arith) (λ z. omega arith))) in
    let row : (k j : ℕ) → k < 3 → j ≡ at + 4 * k → word t j ≡ get_or ws k 0 = λ k j h q. rw et (word_set_word_other u waiting_count (n + 1) j (inr (omega arith)) ∙ rw eu (all_at s at ws small (omega arith) k j h q)) in
    let c : word t waiting_count ≡ n + 1 = rw et (word_set_word_same u waiting_count (n + 1) (omega arith) (omega arith)) in
    let before : Same s t waiting_at (waiting_at + item_row * n) = λ j p q. rw et (word_set_word_other u waiting_count (n + 1) j (inr (omega arith)) ∙ rw eu (all_other s at ws j (inl (omega arith)))) in
    let own : item_at t (waiting_at + item_row * n) ≡ i =
    rw (row 0 (waiting_at + item_row * n) (omega arith) (omega arith), row 1 (waiting_at + item_row * n + 4) (omega arith) (omega arith), row 2 (waiting_at + item_row * n + 8) (omega arith) (omega arith)) (item_of_still s t r.tag r.a r.b still ∙ says) in
    let q = waiting_more s t n i e few c still before own in
    let l : ltb (length (waiting_of s)) waiting_limit ≡ true = lt-ltb (length (waiting_of s)) waiting_limit (omega (arith, waiting_few s n e (omega arith))) in
    record {
      wrote = record { size = wrote.size; other = λ j o. wrote.other j (⊎_elim (λ z. inl (omega arith)) (λ z. inr (omega arith)) o.1.0, (⊎_elim (λ z. inl (omega arith)) (λ z. inr (omega arith)) o.1.1.1.0, tt)) };
      still = still;
      does = λ fine. (
        rw (
          l,
          q,
          exprs_kept wrote still refl refl,
          names_kept wrote still refl refl,
          diagnostics_kept wrote still refl refl,
          lost_kept wrote refl refl,
          sets_kept wrote refl refl,
          entries_kept wrote still refl refl,
          used_kept wrote refl refl,
          order_kept wrote refl refl,
        ),
        all_coded
            (exprs_coded_kept wrote still refl refl refl (exprs_coded fine))
            (names_coded_kept wrote still refl refl (names_coded fine))
            (diagnostics_coded_kept wrote still refl refl (diagnostics_coded fine))
            (waits_more s t n e few c still before (wait_put s t n r still (row 0 (waiting_at + item_row * n) (omega arith) (omega arith)) (row 1 (waiting_at + item_row * n + 4) (omega arith) (omega arith)) low part) fine.waits),
      );
    }

pub item_unpushed : (s : List ℕ) (i : Item) (n : ℕ) → n ≡ word s waiting_count → waiting_limit ≤ n → Did (push_item i) s tt s
unfolding work_of push_item
item_unpushed s i n e h =
    let a : ltb (length (waiting_of s)) waiting_limit ≡ false = le-ltb (length (waiting_of s)) waiting_limit (omega (arith, length_waiting s, cap_over (word s waiting_count) waiting_limit (omega arith))) in
    nothing_done (λ fine. rw a)

-- ---- one step for another that does the same
-- an expression by a row that says the same in the store
same_row : (s : List ℕ) (r x : Row) (e : Expr) (p : Pointer) (base : ℕ) → Says x e → HeldRow x s r → take_row (row_made s r p) base (work_of s) ≡ take_row (expr_made s e p) base (work_of s)
unfolding take_row row_made expr_made pointer_or
same_row s r x e p base says held = rw (held.same (drop base (work_of s).waiting), held.sort_same, says.same s (drop base (work_of s).waiting), says.pointed)

pub expr_allocated : (s t : List ℕ) (x r : Row) (e : Expr) (p : Pointer) (base n : ℕ) → Says x e → HeldRow x s r → Takes r.sort (row_made s r p) base s n t → Takes (sort_for e) (expr_made s e p) base s n t
expr_allocated s t x r e p base n says held d =
    record {
      wrote = d.wrote;
      still = d.still;
      does = λ fine fit. let z = d.does fine (rw (held.sort_same, says.sort_is) fit) in (z.0 ∙ same_row s r x e p base says held, z.1);
    }

-- a Missing, before which nothing waits that it could take
none_suit : (sort : ℕ) (is : List Item) (base : ℕ) → base ≡ length is → suits sort (drop base is) ≡ true
unfolding suits
none_suit sort is base e = rw (drop_of_length-le is {i = base} (omega arith))

same_missing : (s : List ℕ) (r : Row) (p : Pointer) (base : ℕ) → base ≡ length (waiting_of s) → r.sort ≡ 0 → take_row (row_made s r p) base (work_of s) ≡ take_lone hole_made (work_of s)
unfolding take_row take_lone row_made hole_made pointer_or expr_of work_of
same_missing s r p base e z = rw (z, e)

pub missing_allocated : (s t : List ℕ) (r : Row) (p : Pointer) (base n : ℕ) → base ≡ length (waiting_of s) → r.sort ≡ 0 → Takes r.sort (row_made s r p) base s n t → Did (take_lone hole_made) s n t
missing_allocated s t r p base n e z d =
    record {
      wrote = d.wrote;
      still = d.still;
      does = λ fine. let x = d.does fine (none_suit r.sort (waiting_of s) base e) in (x.0 ∙ same_missing s r p base e z, x.1);
    }
