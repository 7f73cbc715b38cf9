-- What opening, reading and cutting off sets does to the work. Assumes nothing.
use mathlib.Core.Path.{◌≡◌, refl, ap, ◌∙◌}
use mathlib.Core.Logic.{◌⊎◌, inl, inr, ⊎_elim}
use mathlib.Core.Bool.{Bool, true, false}
use mathlib.Core.List.{List, [], ◌∷◌, ◌++◌}
use Prim.Native.Nat.{ℕ, suc, ◌+◌, ◌*◌, ◌≤◌, ◌<◌, ◌^◌}
use native.Mathlib.Omega.{arith}
use lib.ListN.{length, take}
use lib.Seq.{take_all}
use lib.Dec.{ltb, leb}
use borrow.Author.Tests.{lt-ltb, le-ltb, leb-true, leb-false}
use Rattle.words.specs.Words.{word, set_word}
use Rattle.words.proofs.WordLaws.{length_set_word, word_set_word_same, word_set_word_other}
use Rattle.spec.specs.Module as spec
use Rattle.spec.specs.State.{MergingSet, new_set, cut}
use Rattle.spec.specs.Merge.{set_at}
use Rattle.module.specs.Ids.{pointer_of}
use Rattle.module.specs.Kinds.{kind_of, number_of_kind, kind_of_number, name_kind_of}
use Rattle.module.specs.declared.pointer.Pointer as code
use Rattle.module.specs.declared.kinds.NameKind as code_kinds
use Rattle.module.proofs.KindLaws.{name_kind_back}
use Rattle.layout.specs.Layout.{set_limit, entry_limit, set_row, set_count, entry_count, exprs_at, sets_at, entries_at, run_at, sheet_at, Long}
use Rattle.layout.specs.Rows.{cap, rows_to, set_all}
use Rattle.layout.specs.Changes.{Outside, Wrote, Still}
use Rattle.layout.specs.Exprs.{pointer_at}
use Rattle.layout.specs.States.{set_in, entry_in, sets_of, entries_of, state_of, order_of}
use Rattle.layout.proofs.RowLaws.{rows_same, rows_take, length_rows, get_d_rows, get_d_past, cap_le, cap_over, cap_lim, cap_less}
use Rattle.layout.proofs.Frames.{Same, same_on, pointer_same, set_same, entry_same, exprs_kept, names_kept, diagnostics_kept, lost_kept, entries_kept, waiting_kept, order_kept}
use Rattle.layout.proofs.WriteLaws.{still_set_word, still_all, still_then, Small, length_all, all_other, all_at}
use Rattle.store.specs.Work.{work_of, with_state, lowering, Did}
use Rattle.store.proofs.ExprLaws.{nothing_done, used_kept}
use Rattle.store.proofs.CodedLaws.{fine_kept}
use Rattle.store.proofs.NameLaws.{pointer_put}
use Rattle.open_sets.specs.Entries.{open_set, cut_to}
use Rattle.open_sets.proofs.EntryLaws.{length_entries}

-- ---- the table
length-sets : (s : List ℕ) → length (sets_of s) ≡ cap (word s set_count) set_limit
unfolding sets_of
length-sets s = length_rows (set_in s) (cap (word s set_count) set_limit)

pub sets_counted : (s : List ℕ) (n r : ℕ) → n ≡ word s set_count → (r ≡ cap n set_limit) × (r ≤ set_limit) → (r ≡ length (sets_of s)) × (r ≤ set_limit)
sets_counted s n r e h = (rw (length-sets s, ← e) h.0, h.1)

-- the set past the end
abbrev plain : MergingSet
plain = record { pointer = record { kind = 0; from = 0; to = 0 }; name_kind = spec.PlainAttrset }

module _ (s : List ℕ) (n i : ℕ) (size : n ≡ length (sets_of s)) where
  set_in_lem : i < n → set_at i (state_of s) ≡ set_in s i
  unfolding set_at state_of sets_of
  set_in_lem h = get_d_rows (set_in s) (cap (word s set_count) set_limit) i plain (omega (arith, length_rows (set_in s) (cap (word s set_count) set_limit)))

  pub set_out : n ≤ i → set_at i (state_of s) ≡ record { pointer = record { kind = 0; from = 0; to = 0 }; name_kind = spec.PlainAttrset }
  unfolding set_at state_of sets_of
  set_out h = get_d_past (set_in s) (cap (word s set_count) set_limit) i plain (omega (arith, length_rows (set_in s) (cap (word s set_count) set_limit)))

  pub set_kind_in : (v : ℕ) (k : code_kinds.NameKind) → i < n → v ≡ word s (sets_at + set_row * i + 12) → k ≡ kind_of_number v → kind_of k ≡ (set_at i (state_of s)).name_kind
  unfolding set_in name_kind_of
  set_kind_in v k h a b = rw (set_in_lem h, b, a)

  pub set_pointer_in : (p : spec.Pointer) → i < n → p ≡ pointer_at s (sets_at + set_row * i) → p ≡ (set_at i (state_of s)).pointer
  unfolding set_in
  set_pointer_in p h a = rw (set_in_lem h, a)

-- ---- a set more
set_own : (t : List ℕ) (k : code_kinds.NameKind) (p : spec.Pointer) (number n : ℕ) → number ≡ number_of_kind k → word t (sets_at + set_row * n + 12) ≡ number → pointer_at t (sets_at + set_row * n) ≡ p → set_in t n ≡ record { pointer = p; name_kind = kind_of k }
unfolding set_in
set_own t k p number n e a q = rw (a, q, e, name_kind_back k)

sets_more : (s t : List ℕ) (n : ℕ) (x : MergingSet) → n ≡ word s set_count → n < set_limit → word t set_count ≡ n + 1 → Same s t sets_at (sets_at + set_row * n) → set_in t n ≡ x → sets_of t ≡ sets_of s ++ (x ∷ [])
unfolding sets_of rows_to
sets_more s t n x e few c before own =
    let z : n + 1 ≡ suc n = omega arith in
    rw (c, ← e, cap_le (n + 1) set_limit (omega arith), cap_le n set_limit (omega arith), z, own) (ap (λ l. l ++ (x ∷ [])) (rows_same (set_in t) (set_in s) n (λ i h. set_same s t i (λ j a b. before j (omega arith) (omega arith)))))

pub set_opened : (s u v t : List ℕ) (k : code_kinds.NameKind) (p : code.Pointer) (number n at : ℕ) → Long s → n ≡ word s set_count → n < set_limit → number ≡ number_of_kind k → number < 2 ^ 32 → Small (p.kind ∷ p.from ∷ p.to ∷ []) → at ≡ sets_at + set_row * n
    → u ≡ set_all s at (p.kind ∷ p.from ∷ p.to ∷ []) → v ≡ set_word u (at + 12) number → t ≡ set_word v set_count (n + 1) → Did (open_set (kind_of k) (pointer_of p)) s n t
unfolding work_of open_set new_set with_state state_of lowering Outside
set_opened s u v t k p number n at long e few en hn hp ea eu ev et =
    let ps = p.kind ∷ p.from ∷ p.to ∷ [] in
    let lu : length u ≡ length s = rw eu (length_all s at ps) in
    let lv : length v ≡ length u = rw ev (length_set_word u (at + 12) number) in
    let other : (j : ℕ) → (j + 4 ≤ set_count) ⊎ (set_count + 4 ≤ j) → (j + 4 ≤ at) ⊎ (at + 16 ≤ j) → word t j ≡ word s j = λ j o q. rw et (word_set_word_other v set_count (n + 1) j o ∙ rw ev (word_set_word_other u (at + 12) number j (⊎_elim (λ z. inl (omega arith)) (λ z. inr (omega arith)) q) ∙ rw eu (all_other s at ps j (⊎_elim (λ z. inl (omega arith)) (λ z. inr (omega arith)) q)))) in
    let wrote : Wrote ((set_count, set_count + 4) ∷ (sets_at, entries_at) ∷ []) s t = record {
      size = rw et (length_set_word v set_count (n + 1)) ∙ lv ∙ lu;
      other = λ j o. other j o.0 (⊎_elim (λ z. inl (omega arith)) (λ z. inr (omega arith)) o.1.0);
    } in
    let still : Still s t = still_then {u = u} (rw eu (still_all s at ps (omega arith) (λ z. omega arith))) (still_then {u = v} (rw ev (still_set_word u (at + 12) number (omega arith) (λ z. omega arith))) (rw et (still_set_word v set_count (n + 1) (omega arith) (λ z. omega arith)))) in
    let c : word t set_count ≡ n + 1 = rw et (word_set_word_same v set_count (n + 1) (omega arith) (omega arith)) in
    let same : at + 12 ≡ sets_at + set_row * n + 12 = omega arith in
    let kind : word t (sets_at + set_row * n + 12) ≡ number = rw et (word_set_word_other v set_count (n + 1) (sets_at + set_row * n + 12) (inr (omega arith)) ∙ rw (ev, ← same) (word_set_word_same u (at + 12) number (omega arith) hn)) in
    let pointer : pointer_at t (sets_at + set_row * n) ≡ pointer_of p = pointer_same u t (sets_at + set_row * n) (λ j a b. rw et (word_set_word_other v set_count (n + 1) j (inr (omega arith)) ∙ rw ev (word_set_word_other u (at + 12) number j (inl (omega arith))))) ∙ pointer_put s u at (sets_at + set_row * n) p ea (omega arith) hp eu in
    let more = sets_more s t n _ e few c (λ j a b. other j (inr (omega arith)) (inl (omega arith))) (set_own t k (pointer_of p) number n en kind pointer) in
    let l : ltb (length (sets_of s)) set_limit ≡ true = lt-ltb (length (sets_of s)) set_limit (omega (arith, length-sets s, cap_le (word s set_count) set_limit (omega arith))) in
    let size : length (sets_of s) ≡ n = omega (arith, length-sets s, cap_le (word s set_count) set_limit (omega arith)) in
    record {
      wrote = record { size = wrote.size; other = λ j o. wrote.other j (⊎_elim (λ z. inl (omega arith)) (λ z. inr (omega arith)) o.1.0, (⊎_elim (λ z. inl (omega arith)) (λ z. inr (omega arith)) o.1.1.1.0, tt)) };
      still = still;
      does = λ fine. (
        rw (
          l,
          size,
          more,
          exprs_kept wrote still refl refl,
          names_kept wrote still refl refl,
          diagnostics_kept wrote still refl refl,
          lost_kept wrote refl refl,
          entries_kept wrote still refl refl,
          waiting_kept wrote still refl refl,
          used_kept wrote refl refl,
          order_kept wrote refl refl,
        ),
        fine_kept wrote still refl fine,
      );
    }

pub sets_full : (s : List ℕ) (k : spec.NameKind) (p : spec.Pointer) (n : ℕ) → n ≡ word s set_count → set_limit ≤ n → Did (open_set k p) s set_limit s
unfolding work_of open_set state_of
sets_full s k p n e h =
    let a : ltb (length (sets_of s)) set_limit ≡ false = le-ltb (length (sets_of s)) set_limit (omega (arith, length-sets s, cap_over (word s set_count) set_limit (omega arith))) in
    nothing_done (λ fine. rw a)

-- ---- fewer sets and entries
rows_cut : {A : Type 0} (f : ℕ → A) (n k : ℕ) → take k (rows_to f n) ≡ rows_to f (cap n k)
rows_cut f n k = go (leb n k) refl
  where
    go : (b : Bool) → leb n k ≡ b → take k (rows_to f n) ≡ rows_to f (cap n k)
    go true e =
        let l = leb-true n k e in
        let m : length (rows_to f n) ≤ k = rw (length_rows f n) l in
        rw (cap_le n k l) (take_all k (rows_to f n) m)
    go false e =
        let l = leb-false n k e in
        rw (cap_over n k (omega arith)) (rows_take f n k (omega arith))

-- so many rows of a table as its count says now, which was n before
cut_rows : {A : Type 0} (f g : ℕ → A) (n k r limit now : ℕ) → n ≤ limit → r ≡ cap n k → now ≡ r → ((i : ℕ) → i < n → g i ≡ f i) → rows_to g (cap now limit) ≡ take k (rows_to f n)
cut_rows f g n k r limit now few er en same =
    let l = cap_less n k n (inr (omega arith)) in
    rw (en, er, cap_le (cap n k) limit (omega arith), rows_cut f n k) (rows_same g f (cap n k) (λ i h. same i (omega arith)))

pub cut_done : (s t : List ℕ) (sets entries n m a b : ℕ) → Long s → n ≡ length (sets_of s) → m ≡ length (entries_of s) → a ≡ cap n sets → b ≡ cap m entries → a < 2 ^ 32 → b < 2 ^ 32 → t ≡ set_all s 36 (a ∷ b ∷ []) → Did (cut_to sets entries) s tt t
unfolding work_of cut_to cut state_of sets_of entries_of order_of lowering Outside
cut_done s t sets entries n m a b long en em ea eb ha hb et =
    let ws = a ∷ b ∷ [] in
    let em_is : m ≡ cap (word s entry_count) entry_limit = em ∙ length_entries s in
    let en_is : n ≡ cap (word s set_count) set_limit = en ∙ length-sets s in
    let ls = cap_lim (word s set_count) set_limit in
    let le = cap_lim (word s entry_count) entry_limit in
    let wrote : Wrote ((set_count, entry_count + 4) ∷ []) s t = record { size = rw et (length_all s set_count ws); other = λ j o. rw et (all_other s set_count ws j (⊎_elim (λ z. inl (omega arith)) (λ z. inr (omega arith)) o.0)) } in
    let still : Still s t = rw et (still_all s set_count ws (omega arith) (λ z. omega arith)) in
    let v : Same s t exprs_at sheet_at = same_on exprs_at sheet_at wrote refl in
    let wa : word t set_count ≡ a = rw et (all_at s set_count ws (ha, (hb, tt)) (omega arith) 0 36 (omega arith) (omega arith)) in
    let wb : word t entry_count ≡ b = rw et (all_at s set_count ws (ha, (hb, tt)) (omega arith) 1 40 (omega arith) (omega arith)) in
    let cs = cut_rows (set_in s) (set_in t) (cap (word s set_count) set_limit) sets a set_limit (word t set_count) ls (rw (← en_is) ea) wa (λ i h. set_same s t i (λ j p q. v j (omega arith) (omega arith))) in
    let ce = cut_rows (entry_in s) (entry_in t) (cap (word s entry_count) entry_limit) entries b entry_limit (word t entry_count) le (rw (← em_is) eb) wb (λ i h. entry_same s t i still (λ j p q. v j (omega arith) (omega arith))) in
    let co = cut_rows (λ i. word s (run_at + 4 * i)) (λ i. word t (run_at + 4 * i)) (cap (word s entry_count) entry_limit) entries b entry_limit (word t entry_count) le (rw (← em_is) eb) wb (λ i h. v (run_at + 4 * i) (omega arith) (omega arith)) in
    record {
      wrote = record { size = wrote.size; other = λ j o. wrote.other j (⊎_elim (λ z. inl (omega arith)) (λ z. inr (omega arith)) o.1.0, tt) };
      still = still;
      does = λ fine. (
        rw (
          cs,
          ce,
          co,
          exprs_kept wrote still refl refl,
          names_kept wrote still refl refl,
          diagnostics_kept wrote still refl refl,
          lost_kept wrote refl refl,
          waiting_kept wrote still refl refl,
          used_kept wrote refl refl,
        ),
        fine_kept wrote still refl fine,
      );
    }
