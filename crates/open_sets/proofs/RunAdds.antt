-- What adding an entry does. Assumes nothing.
use mathlib.Core.Path.{◌≡◌, refl, sym, ap, ◌∙◌}
use mathlib.Core.Logic.{◌⊎◌, inl, inr, ⊎_elim}
use mathlib.Core.Bool.{Bool, true, false}
use mathlib.Core.List.{List, [], ◌∷◌, ◌++◌, append_assoc}
use Prim.Native.Nat.{ℕ, zero, suc, ◌+◌, ◌-◌, ◌*◌, ◌≤◌, ◌<◌}
use native.Mathlib.Omega.{arith}
use lib.ListN.{length, take, drop, drop_of_length-le}
use lib.Seq.{take-append-le, drop-append-le, take-length}
use lib.Dec.{ltb}
use borrow.Author.Tests.{lt-ltb, le-ltb, ltb-true, ltb-false}
use Rattle.words.specs.Order.{order}
use Rattle.words.specs.Runs.{run, splice}
use Rattle.words.specs.Words.{word, set_word}
use Rattle.words.proofs.RunLaws.{length_splice, length_run}
use Rattle.words.proofs.WordLaws.{length_set_word, word_set_word_same, word_set_word_other, word_splice_other, word_splice_within, word_run}
use Rattle.spec.specs.State.{MergingEntry, add_entry, set_entries}
use Rattle.spec.specs.Steps.{◌>>=◌, asks}
use Rattle.layout.specs.Layout.{entry_limit, entry_count, entries_at, run_at, sheet_at, Long}
use Rattle.layout.specs.Rows.{rows_to}
use Rattle.layout.specs.Changes.{Outside, Wrote, Still}
use Rattle.layout.specs.States.{entry_in, entries_of, state_of, order_of}
use Rattle.layout.proofs.RowLaws.{rows_same, length_rows, cap_le, cap_over}
use Rattle.layout.proofs.Frames.{entry_same, exprs_kept, names_kept, diagnostics_kept, lost_kept, sets_kept, waiting_kept}
use Rattle.layout.proofs.WriteLaws.{still_splice, still_set_word, still_then}
use Rattle.store.specs.Work.{lowering}
use Rattle.store.proofs.ExprLaws.{used_kept}
use Rattle.store.proofs.CodedLaws.{fine_kept}
use Rattle.open_sets.specs.declared.entry.Entry.{Entry}
use Rattle.open_sets.specs.declared.standing.Standing.{Standing}
use Rattle.open_sets.specs.Ranks.{standing, rank, after, InOrder, placed}
use Rattle.open_sets.specs.Entries.{entry_with, PutEntry}
use Rattle.open_sets.specs.Run.{Stands, stops_at, Place, put_entry, Inserted, Entered}
use Rattle.open_sets.proofs.RankLaws.{in_order_append}
use Rattle.open_sets.proofs.Halving.{Begins}
use Rattle.open_sets.proofs.EntryLaws.{length_entries}
use Rattle.open_sets.proofs.RunReads.{stops_past}

-- ---- the number
module _ (s u v t : List ℕ) (q n at rest : ℕ) (long : Long s) (h : q ≤ n) (few : n < entry_limit) (ea : at ≡ run_at + 4 * q) (er : rest ≡ n - q)
    (eu : u ≡ splice s (at + 4) (run s at (4 * rest))) (ev : v ≡ set_word u at n) (et : t ≡ set_word v entry_count (n + 1)) where
  size_of_run : length (run s at (4 * rest)) ≡ 4 * rest
  size_of_run = length_run s at (4 * rest) (omega arith)

  length_u : length u ≡ length s
  length_u = rw eu (length_splice s (at + 4) (run s at (4 * rest)))

  length_v : length v ≡ length s
  length_v = rw ev (length_set_word u at n) ∙ length_u

  -- after the run was moved
  later : (j : ℕ) → (j + 4 ≤ entry_count) ⊎ (entry_count + 4 ≤ j) → (j + 4 ≤ at) ⊎ (at + 4 ≤ j) → word t j ≡ word u j
  later j o p = rw et (word_set_word_other v entry_count (n + 1) j o ∙ rw ev (word_set_word_other u at n j p))

  unmoved : (j : ℕ) → (j + 4 ≤ at + 4) ⊎ (at + 4 + 4 * rest ≤ j) → word u j ≡ word s j
  unmoved j o = rw eu (word_splice_other s (at + 4) (run s at (4 * rest)) j (⊎_elim (λ z. inl z) (λ z. inr (omega (arith, size_of_run))) o))

  moved_up : (i : ℕ) → i + 4 ≤ 4 * rest → word u (at + 4 + i) ≡ word s (at + i)
  moved_up i k =
      rw eu (word_splice_within s (at + 4) (run s at (4 * rest)) i (omega (arith, size_of_run)) (omega (arith, size_of_run))
      ∙ word_run s at (4 * rest) i (omega arith) k)

  moved_word : (i to from : ℕ) → i + 4 ≤ 4 * rest → to ≡ at + 4 + i → from ≡ at + i → word t to ≡ word s from
  moved_word i to from k a b = rw (a, b) (later (at + 4 + i) (inr (omega arith)) (inr (omega arith)) ∙ moved_up i k)

  pub number_inserted : Inserted q n s t
  unfolding Outside
  number_inserted = record {
    wrote = record {
      size = rw et (length_set_word v entry_count (n + 1)) ∙ length_v;
      other = λ j o. later j o.0 (⊎_elim (λ z. inl (omega arith)) (λ z. inr (omega arith)) o.1.0) ∙ unmoved j (⊎_elim (λ z. inl (omega arith)) (λ z. inr (omega arith)) o.1.0);
    };
    still = still_then {u = u} (rw eu (still_splice s (at + 4) (run s at (4 * rest)) (omega (arith, size_of_run)) (λ z. omega (arith, size_of_run)))) (still_then {u = v} (rw ev (still_set_word u at n (omega arith) (λ z. omega arith))) (rw et (still_set_word v entry_count (n + 1) (omega arith) (λ z. omega arith))));
    count = rw et (word_set_word_same v entry_count (n + 1) (omega (arith, length_v)) (omega arith));
    own = rw (← ea, et) (word_set_word_other v entry_count (n + 1) at (inr (omega arith)) ∙ rw ev (word_set_word_same u at n (omega (arith, length_u)) (omega arith)));
    moved = λ j a b. moved_word (4 * (j - q)) (run_at + 4 * (j + 1)) (run_at + 4 * j) (omega arith) (omega arith) (omega arith);
  }

-- ---- rows with one put in between
rows_insert : {A : Type 0} (f g : ℕ → A) (n i : ℕ) (e : A) → i ≤ n → ((k : ℕ) → k < i → g k ≡ f k) → g i ≡ e → ((k : ℕ) → i ≤ k → k < n → g (k + 1) ≡ f k) → rows_to g (suc n) ≡ take i (rows_to f n) ++ (e ∷ drop i (rows_to f n))
unfolding rows_to
rows_insert {A} f g zero i e h a b c = let z : i ≡ 0 = omega arith in rw z (rw z at (ap (λ (y : A). y ∷ []) b))
rows_insert {A} f g (suc n) i e h a b c = go (rows_insert f g n i e) (ltb i (suc n)) refl
  where
    go : (i ≤ n → ((k : ℕ) → k < i → g k ≡ f k) → g i ≡ e → ((k : ℕ) → i ≤ k → k < n → g (k + 1) ≡ f k) → rows_to g (suc n) ≡ take i (rows_to f n) ++ (e ∷ drop i (rows_to f n))) → (x : Bool) → ltb i (suc n) ≡ x → rows_to g (suc (suc n)) ≡ take i (rows_to f (suc n)) ++ (e ∷ drop i (rows_to f (suc n)))
    go ih true q =
        let l = ltb-true i (suc n) q in
        let m : i ≤ length (rows_to f n) = rw (length_rows f n) (omega arith) in
        let z : n + 1 ≡ suc n = omega arith in
        let d : g (suc n) ≡ f n = rw z at (c n (omega arith) (omega arith)) in
        rw (take-append-le i (rows_to f n) (f n ∷ []) m, drop-append-le i (rows_to f n) (f n ∷ []) m, d, ih (omega arith) a b (λ k u v. c k u (omega arith))) (append_assoc (take i (rows_to f n)) (e ∷ drop i (rows_to f n)) (f n ∷ []))
    go ih false q =
        let l = ltb-false i (suc n) q in
        let z : i ≡ suc n = omega arith in
        let r : length (rows_to f (suc n)) ≡ i = length_rows f (suc n) ∙ sym z in
        let t1 : take i (rows_to f (suc n)) ≡ rows_to f (suc n) = rw r at (take-length (rows_to f (suc n))) in
        let d1 : drop i (rows_to f (suc n)) ≡ [] = drop_of_length-le (rows_to f (suc n)) {i = i} (omega arith) in
        let s1 : rows_to g (suc n) ≡ rows_to f (suc n) = rows_same g f (suc n) (λ k p. a k (omega arith)) in
        let b1 : g (suc n) ≡ e = rw z at b in
        rw (t1, d1, s1, b1)

-- ---- the entry
-- with room for one more, a place among the entries is at most their count
pub place_below : (s : List ℕ) (n q : ℕ) → n ≡ word s entry_count → n < entry_limit → q ≤ length (entries_of s) → q ≤ n
place_below s n q e few h = omega (arith, length_entries s, cap_le (word s entry_count) entry_limit (omega arith))

module _ (s u t : List ℕ) (e : Entry) (q n : ℕ) (counted : n ≡ word s entry_count) (few : n < entry_limit) (put : PutEntry n e s u) (ins : Inserted q n u t) (below : q ≤ length (entries_of s)) where
  count_is : word s entry_count ≡ n
  count_is = sym counted

  en : n ≡ length (entries_of s)
  en = omega (arith, count_is, length_entries s, cap_le (word s entry_count) entry_limit (omega arith))

  in_run : q ≤ n
  in_run = place_below s n q counted few below

  added_wrote : Wrote ((entry_count, entry_count + 4) ∷ (entries_at, sheet_at) ∷ []) s t
  unfolding Outside
  added_wrote = record {
    size = ins.wrote.size ∙ put.wrote.size;
    other = λ j o. ins.wrote.other j (o.0, (⊎_elim (λ z. inl (omega arith)) (λ z. inr (omega arith)) o.1.0, tt)) ∙ put.wrote.other j (⊎_elim (λ z. inl (omega arith)) (λ z. inr (omega arith)) o.1.0, tt);
  }

  added_still : Still s t
  added_still = still_then {u = u} put.still ins.still

  entries_added : entries_of t ≡ entries_of s ++ (entry_with s e ∷ [])
  unfolding entries_of rows_to Outside
  entries_added =
      let z : n + 1 ≡ suc n = omega arith in
      let own : entry_in t n ≡ entry_with s e = entry_same u t n ins.still (λ j a b. ins.wrote.other j (inr (omega arith), (inl (omega arith), tt))) ∙ put.row in
      rw (ins.count, count_is, cap_le (n + 1) entry_limit (omega arith), cap_le n entry_limit (omega arith), z, own)
      (ap (λ l. l ++ (entry_with s e ∷ [])) (rows_same (entry_in t) (entry_in s) n (λ i k. entry_same s t i added_still (λ j a b. ins.wrote.other j (inr (omega arith), (inl (omega arith), tt)) ∙ put.wrote.other j (inl (omega arith), tt)))))

  order_added : order_of t ≡ take q (order_of s) ++ (n ∷ drop q (order_of s))
  unfolding order_of Outside
  order_added =
      let z : n + 1 ≡ suc n = omega arith in
      let same : (j : ℕ) → j < n → word u (run_at + 4 * j) ≡ word s (run_at + 4 * j) = λ j k. put.wrote.other (run_at + 4 * j) (inr (omega arith), tt) in
      rw (ins.count, count_is, cap_le (n + 1) entry_limit (omega arith), cap_le n entry_limit (omega arith), z)
      (rows_insert (λ i. word s (run_at + 4 * i)) (λ i. word t (run_at + 4 * i)) n q n in_run
      (λ k a. ins.wrote.other (run_at + 4 * k) (inr (omega arith), (inl (omega arith), tt)) ∙ same k (omega (arith, in_run)))
      ins.own
      (λ k a b. ins.moved k a b ∙ same k b))

  -- in a run that is in order it comes to stand where those begin that are after it
  order_kept : (p : Standing) → Stands p e → Place true p s q → InOrder (entries_of s) (order_of s) → InOrder (entries_of t) (order_of t)
  unfolding stops_at after rank
  order_kept p stands place o =
      let test : (j : ℕ) → stops_at true p s j ≡ after (placed (entries_of s) (order_of s) j) (entry_with s e) = λ j. rw (stands.same s) (stops_past (order (standing (placed (entries_of s) (order_of s) j)) (standing (entry_with s e)))) in
      let begins : Begins (λ j. after (placed (entries_of s) (order_of s) j) (entry_with s e)) (length (entries_of s)) q = record {
        within = place.within;
        fails = λ j h. sym (test j) ∙ place.fails o j h;
        passes = λ j h l. sym (test j) ∙ place.passes o j h l;
      } in
      rw (entries_added, order_added, en) (in_order_append (entry_with s e) q o begins)

  pub entered : (p : Standing) → Stands p e → Place true p s q → Entered (entry_with s e) s t
  unfolding put_entry add_entry set_entries ◌>>=◌ asks state_of lowering Outside
  entered p stands place =
      let l : ltb (length (entries_of s)) entry_limit ≡ true = lt-ltb (length (entries_of s)) entry_limit (omega (arith, en)) in
      record {
        wrote = record { size = added_wrote.size; other = λ j o. added_wrote.other j (⊎_elim (λ z. inl (omega arith)) (λ z. inr (omega arith)) o.1.0, (⊎_elim (λ z. inl (omega arith)) (λ z. inr (omega arith)) o.1.1.1.0, tt)) };
        still = added_still;
        does = λ fine o. (
          rw (
            l,
            entries_added,
            exprs_kept added_wrote added_still refl refl,
            names_kept added_wrote added_still refl refl,
            diagnostics_kept added_wrote added_still refl refl,
            lost_kept added_wrote refl refl,
            sets_kept added_wrote refl refl,
          ),
          (waiting_kept added_wrote added_still refl refl, (used_kept added_wrote refl refl, (fine_kept added_wrote added_still refl fine, order_kept p stands place o))),
        );
      }

pub not_entered : (s : List ℕ) (e : MergingEntry) (n : ℕ) → n ≡ word s entry_count → entry_limit ≤ n → Entered e s s
unfolding put_entry state_of
not_entered s e n en h =
    let l : ltb (length (entries_of s)) entry_limit ≡ false = le-ltb (length (entries_of s)) entry_limit (omega (arith, length_entries s, cap_over (word s entry_count) entry_limit (omega arith))) in
    record { wrote = record { size = refl; other = λ j o. refl }; still = record { same = refl; used = refl }; does = λ fine o. (rw l, (refl, (refl, (fine, o)))) }
