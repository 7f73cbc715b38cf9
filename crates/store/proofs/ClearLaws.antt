-- A store that was emptied. Assumes nothing.
use mathlib.Core.Path.{◌≡◌, refl, ap, ◌∙◌}
use mathlib.Core.Logic.{◌⊎◌, inl, inr, ⊎_elim}
use mathlib.Core.List.{List, [], ◌∷◌}
use Prim.Native.Nat.{ℕ, zero, suc, ◌+◌, ◌*◌, ◌≤◌, ◌<◌}
use native.Mathlib.Omega.{arith}
use lib.ListN.{length, get_or, drop}
use Rattle.words.specs.Words.{word, set_word}
use Rattle.words.proofs.WordLaws.{length_set_word, word_set_word_same, word_set_word_other}
use Rattle.layout.specs.Layout.{waiting_limit, expr_count, scope_count, entry_count, exprs_at, scopes_at, firsts_at, sheet_at, Long}
use Rattle.layout.specs.Rows.{cap, rows_to, set_all}
use Rattle.layout.specs.Changes.{Outside}
use Rattle.layout.specs.Exprs.{first_item}
use Rattle.layout.specs.States.{exprs_of, names_of, diagnostics_of, lost_of, sets_of, entries_of, state_of, waiting_of, used_of, order_of}
use Rattle.store.specs.Work.{work_of, no_work, clearing, Fine, NoRows, Cleared}
use Rattle.layout.proofs.RowLaws.{cap_le}
use Rattle.layout.proofs.WriteLaws.{drop_set_word, drop_all, Small, length_all, all_other, all_at}
use Rattle.store.proofs.CodedLaws.{all_coded}

abbrev zeros : List ℕ
zeros = 0 ∷ 0 ∷ 0 ∷ 0 ∷ 0 ∷ []

small : Small zeros
small = (omega arith, (omega arith, (omega arith, (omega arith, (omega arith, tt)))))

zero_in : (i : ℕ) → get_or zeros i 0 ≡ 0
zero_in zero = refl
zero_in (suc zero) = refl
zero_in (suc (suc zero)) = refl
zero_in (suc (suc (suc zero))) = refl
zero_in (suc (suc (suc (suc zero)))) = refl
zero_in (suc (suc (suc (suc (suc i))))) = refl

zero_at : (s : List ℕ) (at i j : ℕ) → i < 5 → j ≡ at + 4 * i → at + 20 ≤ length s → word (set_all s at zeros) j ≡ 0
zero_at s at i j h q l = all_at s at zeros small (omega arith) i j h q ∙ zero_in i

-- with no row in use
pub work_none : (t : List ℕ) → NoRows t → work_of t ≡ no_work
unfolding work_of no_work state_of exprs_of names_of diagnostics_of lost_of sets_of entries_of waiting_of used_of order_of first_item cap rows_to
work_none t z = rw (z.exprs, z.names, z.diagnostics, z.lost, z.waiting, z.sets, z.entries, z.first_item_lem)

none_below : {A : Type 0} {i n : ℕ} → n ≡ 0 → i < n → A
none_below e h = absurd (omega arith)

pub fine_none : (t : List ℕ) → NoRows t → Fine t
unfolding first_item
fine_none t z =
    let a : word t expr_count ≡ 0 = z.exprs in
    let h : word t exprs_at ≡ 0 = z.first_item_lem in
    all_coded
    (record { few = rw a (omega arith); begins = h; rises = λ e k. none_below a k; few_items = rw (a, h) (omega arith); rows = λ e k. none_below a k; items = λ e j k l m. none_below a k })
    (record { few = rw z.names (omega arith); rows = λ x k. none_below z.names k })
    (record { few = rw z.diagnostics (omega arith); few_lost = rw z.lost (omega arith); rows = λ i k. none_below z.diagnostics k })
    (λ i k. none_below (rw z.waiting (cap_le 0 waiting_limit (omega arith))) k)

pub cleared : (s a b c d e t : List ℕ) → Long s → a ≡ set_all s 0 zeros → b ≡ set_all a 20 zeros → c ≡ set_word b entry_count 0 → d ≡ set_word c exprs_at 0 → e ≡ set_word d scopes_at 0 → t ≡ set_word e firsts_at 0 → Cleared s t
unfolding Outside clearing
cleared s a b c d e t long ea eb ec ed ee et =
    let la : length a ≡ length s = rw ea (length_all s expr_count zeros) in
    let lb : length b ≡ length a = rw eb (length_all a scope_count zeros) in
    let lc : length c ≡ length b = rw ec (length_set_word b entry_count 0) in
    let ld : length d ≡ length c = rw ed (length_set_word c exprs_at 0) in
    let le : length e ≡ length d = rw ee (length_set_word d scopes_at 0) in
    let lt : length t ≡ length e = rw et (length_set_word e firsts_at 0) in
    -- the words below 44 are those of c, and so are all but three
    let late : (j : ℕ) → (j + 4 ≤ exprs_at) ⊎ (exprs_at + 4 ≤ j) → (j + 4 ≤ scopes_at) ⊎ (scopes_at + 4 ≤ j) → (j + 4 ≤ firsts_at) ⊎ (firsts_at + 4 ≤ j) → word t j ≡ word c j = λ j x y z.
    rw et (word_set_word_other e firsts_at 0 j z ∙ rw ee (word_set_word_other d scopes_at 0 j y ∙ rw ed (word_set_word_other c exprs_at 0 j x))) in
    let low : (j : ℕ) → j + 4 ≤ 44 → word t j ≡ word c j = λ j h. late j (inl (omega arith)) (inl (omega arith)) (inl (omega arith)) in
    let first : (i j : ℕ) → i < 5 → j ≡ 0 + 4 * i → word t j ≡ 0 = λ i j h q. low j (omega arith) ∙ rw ec (word_set_word_other b entry_count 0 j (inl (omega arith)) ∙ rw eb (all_other a scope_count zeros j (inl (omega arith)) ∙ rw ea (zero_at s 0 i j h q (omega arith)))) in
    let second : (i j : ℕ) → i < 5 → j ≡ 20 + 4 * i → word t j ≡ 0 = λ i j h q. low j (omega arith) ∙ rw ec (word_set_word_other b entry_count 0 j (inl (omega arith)) ∙ rw eb (zero_at a 20 i j h q (omega arith))) in
    let w40 : word t entry_count ≡ 0 = low 40 (omega arith) ∙ rw ec (word_set_word_same b entry_count 0 (omega arith) (omega arith)) in
    let w64 : word t exprs_at ≡ 0 = rw et (word_set_word_other e firsts_at 0 exprs_at (inl (omega arith)) ∙ rw ee (word_set_word_other d scopes_at 0 exprs_at (inl (omega arith)) ∙ rw ed (word_set_word_same c exprs_at 0 (omega arith) (omega arith)))) in
    let none : NoRows t =
    record {
      exprs = first 0 0 (omega arith) (omega arith);
      names = first 1 4 (omega arith) (omega arith);
      diagnostics = first 2 8 (omega arith) (omega arith);
      lost = first 3 12 (omega arith) (omega arith);
      waiting = second 3 32 (omega arith) (omega arith);
      sets = second 4 36 (omega arith) (omega arith);
      entries = w40;
      first_item_lem = w64;
    } in
    record {
      wrote = record {
        size = lt ∙ le ∙ ld ∙ lc ∙ lb ∙ la;
        other = λ j o.
            late j o.1.0 o.1.1.0 o.1.1.1.0
            ∙ rw ec (word_set_word_other b entry_count 0 j (⊎_elim (λ z. inl (omega arith)) (λ z. inr (omega arith)) o.0)
            ∙ rw eb (all_other a scope_count zeros j (⊎_elim (λ z. inl (omega arith)) (λ z. inr (omega arith)) o.0)
            ∙ rw ea (all_other s expr_count zeros j (⊎_elim (λ z. absurd (omega arith)) (λ z. inr (omega arith)) o.0))));
      };
      same =
          ap (drop sheet_at) et ∙ drop_set_word e firsts_at 0 sheet_at (omega arith)
          ∙ (ap (drop sheet_at) ee ∙ drop_set_word d scopes_at 0 sheet_at (omega arith))
          ∙ (ap (drop sheet_at) ed ∙ drop_set_word c exprs_at 0 sheet_at (omega arith))
          ∙ (ap (drop sheet_at) ec ∙ drop_set_word b entry_count 0 sheet_at (omega arith))
          ∙ (ap (drop sheet_at) eb ∙ drop_all a 20 zeros sheet_at (omega arith))
          ∙ (ap (drop sheet_at) ea ∙ drop_all s 0 zeros sheet_at (omega arith));
      rows = none;
      work = work_none t none;
      fine = fine_none t none;
      entry = first 4 16 (omega arith) (omega arith);
      scopes = second 0 20 (omega arith) (omega arith);
      spent = second 1 24 (omega arith) (omega arith);
      texts = second 2 28 (omega arith) (omega arith);
      first_entered_lem = rw et (word_set_word_other e firsts_at 0 scopes_at (inl (omega arith)) ∙ rw ee (word_set_word_same d scopes_at 0 (omega arith) (omega arith)));
      first_reference_lem = rw et (word_set_word_same e firsts_at 0 (omega arith) (omega arith));
    }
