-- What writing an entry's row, or words of it, does to the work. Assumes nothing.
use mathlib.Core.Path.{◌≡◌, refl, sym, ◌∙◌}
use mathlib.Core.Logic.{◌⊎◌, inl, inr, ⊎_elim}
use mathlib.Core.Bool.{Bool, true, false}
use mathlib.Core.List.{List, [], ◌∷◌}
use mathlib.Core.Option.{some}
use Prim.Native.Nat.{ℕ, ◌+◌, ◌*◌, ◌≤◌, ◌<◌, ◌^◌}
use native.Mathlib.Omega.{arith}
use lib.ListN.{length, get_or, set}
use lib.Seq.{set_out}
use lib.Dec.{eqb}
use borrow.Author.Tests.{ne_eqb}
use Rattle.words.specs.Words.{word, set_word}
use Rattle.words.proofs.WordLaws.{length_set_word, word_set_word_same, word_set_word_other}
use Rattle.spec.specs.Basics.{Text}
use Rattle.spec.specs.Module.{BindingValue}
use Rattle.spec.specs.Steps.{◌>>=◌, asks}
use Rattle.spec.specs.State.{MergingEntry, static, source, dynamic, set_entries, set_entry}
use Rattle.spec.specs.Merge.{entry_at, with_value, with_nested}
use Rattle.layout.specs.Layout.{absent, entry_limit, entry_row, entry_count, entries_at, run_at, Long}
use Rattle.layout.specs.Rows.{cap, marked, set_all}
use Rattle.layout.specs.Changes.{Outside, Wrote, Still}
use Rattle.layout.specs.Texts.{text_in}
use Rattle.layout.specs.States.{value_of, entry_of, entry_in, entries_of, state_of}
use Rattle.layout.proofs.RowLaws.{length_rows, rows_put, cap_lim}
use Rattle.layout.proofs.Frames.{Same, text_still, entry_same, number_kept, exprs_kept, names_kept, diagnostics_kept, lost_kept, sets_kept, waiting_kept, order_kept}
use Rattle.layout.proofs.WriteLaws.{still_set_word, still_all, still_then, Small, length_all, all_other, all_at}
use Rattle.store.specs.Work.{work_of, with_state, lowering, Did}
use Rattle.store.proofs.ExprLaws.{nothing_done, used_kept}
use Rattle.store.proofs.CodedLaws.{fine_kept}
use Rattle.open_sets.specs.declared.entry.Entry.{Entry}
use Rattle.open_sets.specs.declared.entry.Entry.TheVariants.{Static, Source, Dynamic}
use Rattle.open_sets.specs.declared.entry_rows.EntryRow.{EntryRow}
use Rattle.open_sets.specs.Entries.{entry_with, SaysEntry, PutEntry, change}
use Rattle.open_sets.proofs.EntryLaws.{length_entries, entry_in_lem}

-- ---- a whole row
entry_still : (s t : List ℕ) (e : Entry) → Still s t → entry_with t e ≡ entry_with s e
unfolding entry_with
entry_still s t (Static set key x nested value) still = rw (text_still s t key.0 still)
entry_still s t (Source set e) still = refl
entry_still s t (Dynamic set k v) still = refl

pub entry_put : (s u t : List ℕ) (r : EntryRow) (e : Entry) (n at : ℕ) → Long s → n < entry_limit → at ≡ entries_at + entry_row * n → SaysEntry r e → Small (r.tag ∷ r.set ∷ r.a ∷ r.b ∷ r.nested ∷ []) → Small (r.sort ∷ r.value ∷ [])
    → u ≡ set_all s at (r.tag ∷ r.set ∷ r.a ∷ r.b ∷ r.nested ∷ []) → t ≡ set_all u (at + 20) (r.sort ∷ r.value ∷ []) → PutEntry n e s t
unfolding Outside entry_in
entry_put s u t r e n at long few ea says h5 h2 eu et =
    let ws = r.tag ∷ r.set ∷ r.a ∷ r.b ∷ r.nested ∷ [] in
    let vs = r.sort ∷ r.value ∷ [] in
    let lu : length u ≡ length s = rw eu (length_all s at ws) in
    let still : Still s t = still_then {u = u} (rw eu (still_all s at ws (omega arith) (λ z. omega arith))) (rw et (still_all u (at + 20) vs (omega arith) (λ z. omega arith))) in
    let row : (i j : ℕ) → i < 5 → j ≡ at + 4 * i → word t j ≡ get_or ws i 0 = λ i j h q. rw et (all_other u (at + 20) vs j (inl (omega arith)) ∙ rw eu (all_at s at ws h5 (omega arith) i j h q)) in
    let end : (i j : ℕ) → i < 2 → j ≡ at + 20 + 4 * i → word t j ≡ get_or vs i 0 = λ i j h q. rw et (all_at u (at + 20) vs h2 (omega arith) i j h q) in
    let o = entries_at + entry_row * n in
    record {
      wrote = record {
        size = rw et (length_all u (at + 20) vs) ∙ lu;
        other = λ j o.
            rw et (all_other u (at + 20) vs j (⊎_elim (λ z. inl (omega arith)) (λ z. inr (omega arith)) o.0)
            ∙ rw eu (all_other s at ws j (⊎_elim (λ z. inl (omega arith)) (λ z. inr (omega arith)) o.0)));
      };
      still = still;
      row =
          rw (
            row 0 o (omega arith) (omega arith),
            row 1 (o + 4) (omega arith) (omega arith),
            row 2 (o + 8) (omega arith) (omega arith),
            row 3 (o + 12) (omega arith) (omega arith),
            row 4 (o + 16) (omega arith) (omega arith),
            end 0 (o + 20) (omega arith) (omega arith),
            end 1 (o + 24) (omega arith) (omega arith),
          ) (says.same t ∙ entry_still s t e still);
    }

-- ---- words of a row
of_still : (s t : List ℕ) (tag set a b nested sort e : ℕ) → Still s t → entry_of t tag set a b nested sort e ≡ entry_of s tag set a b nested sort e
unfolding entry_of
of_still s t tag set a b nested sort e still = rw (text_still s t a still)

-- A change that only a static entry feels: another nested set, another value. In a row of another sort these words are
-- free.
module _ (f : MergingEntry → MergingEntry) (sources : (x y : ℕ) → f (source x y) ≡ source x y) (dynamics : (x y z : ℕ) → f (dynamic x y z) ≡ dynamic x y z) where
  of_changed : (s : List ℕ) (tag set a b nested sort e nested_now sort_now e_now : ℕ) → f (static set (text_in s a) b (marked nested) (value_of sort e)) ≡ static set (text_in s a) b (marked nested_now) (value_of sort_now e_now) → entry_of s tag set a b nested_now sort_now e_now ≡ f (entry_of s tag set a b nested sort e)
  unfolding entry_of
  of_changed s tag set a b nested sort e nested_now sort_now e_now h = go (eqb tag 0) (eqb tag 1) refl refl
    where
      go : (x y : Bool) → eqb tag 0 ≡ x → eqb tag 1 ≡ y → entry_of s tag set a b nested_now sort_now e_now ≡ f (entry_of s tag set a b nested sort e)
      go true y p q = rw p (sym h)
      go false true p q = rw (p, q) (sym (sources set a))
      go false false p q = rw (p, q) (sym (dynamics set a b))

  row_changed : (s t : List ℕ) (i : ℕ) → Still s t → Same s t (entries_at + entry_row * i) (entries_at + entry_row * i + 16)
      → ((set : ℕ) (k : Text) (x : ℕ) → f (static set k x (marked (word s (entries_at + entry_row * i + 16))) (value_of (word s (entries_at + entry_row * i + 20)) (word s (entries_at + entry_row * i + 24)))) ≡ static set k x (marked (word t (entries_at + entry_row * i + 16))) (value_of (word t (entries_at + entry_row * i + 20)) (word t (entries_at + entry_row * i + 24))))
      → entry_in t i ≡ f (entry_in s i)
  unfolding entry_in
  row_changed s t i still w h =
      let o = entries_at + entry_row * i in
      rw (w o (omega arith) (omega arith), w (o + 4) (omega arith) (omega arith), w (o + 8) (omega arith) (omega arith), w (o + 12) (omega arith) (omega arith)) (
      of_still s t (word s o) (word s (o + 4)) (word s (o + 8)) (word s (o + 12)) (word t (o + 16)) (word t (o + 20)) (word t (o + 24)) still
      ∙ of_changed s (word s o) (word s (o + 4)) (word s (o + 8)) (word s (o + 12)) (word s (o + 16)) (word s (o + 20)) (word s (o + 24)) (word t (o + 16)) (word t (o + 20)) (word t (o + 24)) (h (word s (o + 4)) (text_in s (word s (o + 8))) (word s (o + 12))))

-- ---- a change in place
entries_set : (s t : List ℕ) (i : ℕ) → i < length (entries_of s) → Still s t → word t entry_count ≡ word s entry_count → Same s t entries_at (entries_at + entry_row * i) → Same s t (entries_at + entry_row * i + 32) run_at → entries_of t ≡ set (entries_of s) i (entry_in t i)
unfolding entries_of
entries_set s t i h still c before after =
    let l = cap_lim (word s entry_count) entry_limit in
    let k : i < cap (word s entry_count) entry_limit = omega (arith, length_rows (entry_in s) (cap (word s entry_count) entry_limit)) in
    rw c (rows_put (entry_in s) (entry_in t) (cap (word s entry_count) entry_limit) i k (λ m a. entry_same s t m still (λ j p q. before j (omega arith) (omega arith))) (λ m a b. entry_same s t m still (λ j p q. after j (omega arith) (omega arith))))

change_did : (s t : List ℕ) (f : MergingEntry → MergingEntry) (i n : ℕ) → n ≡ length (entries_of s) → i < n → Wrote ((entries_at + entry_row * i + 16, entries_at + entry_row * i + 28) ∷ []) s t → Still s t → entry_in t i ≡ f (entry_in s i) → Did (change i f) s tt t
unfolding work_of change with_state set_entry set_entries asks ◌>>=◌ state_of lowering Outside
change_did s t f i n size h w still row =
    let few : i < entry_limit = omega (arith, length_entries s, cap_lim (word s entry_count) entry_limit) in
    let wrote : Wrote ((entries_at, run_at) ∷ []) s t = record { size = w.size; other = λ j o. w.other j (⊎_elim (λ z. inl (omega arith)) (λ z. inr (omega arith)) o.0, tt) } in
    let entries = entries_set s t i (omega arith) still (number_kept wrote entry_count refl) (λ j a b. w.other j (inl (omega arith), tt)) (λ j a b. w.other j (inr (omega arith), tt)) in
    record {
      wrote = record { size = w.size; other = λ j o. wrote.other j (⊎_elim (λ z. inl (omega arith)) (λ z. inr (omega arith)) o.1.1.1.0, tt) };
      still = still;
      does = λ fine. (
        rw (
          entries,
          row,
          entry_in_lem s n i size h,
          exprs_kept wrote still refl refl,
          names_kept wrote still refl refl,
          diagnostics_kept wrote still refl refl,
          lost_kept wrote refl refl,
          sets_kept wrote refl refl,
          waiting_kept wrote still refl refl,
          used_kept wrote refl refl,
          order_kept wrote refl refl,
        ),
        fine_kept wrote still refl fine,
      );
    }

-- past the end there is nothing to change
pub change_out : (s : List ℕ) (f : MergingEntry → MergingEntry) (i n : ℕ) → n ≡ length (entries_of s) → n ≤ i → Did (change i f) s tt s
unfolding work_of change with_state set_entry set_entries asks ◌>>=◌ state_of
change_out s f i n size h = nothing_done (λ fine. rw (set_out (entries_of s) i (f (entry_at i (state_of s))) (omega arith)))

pub value_set : (s t : List ℕ) (v : BindingValue) (i n at sort e : ℕ) → Long s → n ≡ length (entries_of s) → i < n → at ≡ entries_at + entry_row * i → sort < 2 ^ 32 → e < 2 ^ 32 → value_of sort e ≡ some v → t ≡ set_all s (at + 20) (sort ∷ e ∷ []) → Did (change i (with_value v)) s tt t
unfolding with_value Outside
value_set s t v i n at sort e long size h ea hs he is et =
    let few : i < entry_limit = omega (arith, length_entries s, cap_lim (word s entry_count) entry_limit) in
    let ws = sort ∷ e ∷ [] in
    let other : (j : ℕ) → (j + 4 ≤ at + 20) ⊎ (at + 28 ≤ j) → word t j ≡ word s j = λ j o. rw et (all_other s (at + 20) ws j (⊎_elim (λ z. inl (omega arith)) (λ z. inr (omega arith)) o)) in
    let still : Still s t = rw et (still_all s (at + 20) ws (omega arith) (λ z. omega arith)) in
    let a : word t (entries_at + entry_row * i + 20) ≡ sort = rw et (all_at s (at + 20) ws (hs, (he, tt)) (omega arith) 0 (entries_at + entry_row * i + 20) (omega arith) (omega arith)) in
    let b : word t (entries_at + entry_row * i + 24) ≡ e = rw et (all_at s (at + 20) ws (hs, (he, tt)) (omega arith) 1 (entries_at + entry_row * i + 24) (omega arith) (omega arith)) in
    let c : word t (entries_at + entry_row * i + 16) ≡ word s (entries_at + entry_row * i + 16) = other (entries_at + entry_row * i + 16) (inl (omega arith)) in
    change_did s t (with_value v) i n size h
    (record { size = rw et (length_all s (at + 20) ws); other = λ j o. other j (⊎_elim (λ z. inl (omega arith)) (λ z. inr (omega arith)) o.0) })
    still
    (row_changed (with_value v) (λ x y. refl) (λ x y z. refl) s t i still (λ j p q. other j (inl (omega arith))) (λ set k x. rw (a, b, c, is)))

pub nested_set : (s t : List ℕ) (m i n at : ℕ) → Long s → n ≡ length (entries_of s) → i < n → at ≡ entries_at + entry_row * i → m < absent → t ≡ set_word s (at + 16) m → Did (change i (with_nested m)) s tt t
unfolding with_nested Outside marked
nested_set s t m i n at long size h ea hm et =
    let few : i < entry_limit = omega (arith, length_entries s, cap_lim (word s entry_count) entry_limit) in
    let other : (j : ℕ) → (j + 4 ≤ at + 16) ⊎ (at + 20 ≤ j) → word t j ≡ word s j = λ j o. rw et (word_set_word_other s (at + 16) m j (⊎_elim (λ z. inl (omega arith)) (λ z. inr (omega arith)) o)) in
    let still : Still s t = rw et (still_set_word s (at + 16) m (omega arith) (λ z. omega arith)) in
    let same : at + 16 ≡ entries_at + entry_row * i + 16 = omega arith in
    let a : word t (entries_at + entry_row * i + 16) ≡ m = rw (et, ← same) (word_set_word_same s (at + 16) m (omega arith) (omega arith)) in
    let b : word t (entries_at + entry_row * i + 20) ≡ word s (entries_at + entry_row * i + 20) = other (entries_at + entry_row * i + 20) (inr (omega arith)) in
    let c : word t (entries_at + entry_row * i + 24) ≡ word s (entries_at + entry_row * i + 24) = other (entries_at + entry_row * i + 24) (inr (omega arith)) in
    change_did s t (with_nested m) i n size h
    (record { size = rw et (length_set_word s (at + 16) m); other = λ j o. other j (⊎_elim (λ z. inl (omega arith)) (λ z. inr (omega arith)) o.0) })
    still
    (row_changed (with_nested m) (λ x y. refl) (λ x y z. refl) s t i still (λ j p q. other j (inl (omega arith))) (λ set k x. rw (a, b, c, ne_eqb m absent (λ z. omega arith))))
