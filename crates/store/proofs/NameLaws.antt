-- What appending names and diagnostics does to the work. Assumes nothing.
use mathlib.Core.Path.{◌≡◌, refl, ap, ◌∙◌}
use mathlib.Core.Logic.{◌⊎◌, inl, inr, ⊎_elim}
use mathlib.Core.Bool.{Bool, true, false}
use mathlib.Core.List.{List, [], ◌∷◌, ◌++◌}
use Prim.Native.Nat.{ℕ, suc, ◌+◌, ◌*◌, ◌≤◌, ◌<◌, ◌^◌}
use native.Mathlib.Omega.{arith}
use lib.ListN.{length, get_or}
use lib.Dec.{ltb, leb}
use borrow.Author.Tests.{lt-ltb, le-ltb, ltb-true, ltb-false, leb-true}
use Rattle.words.specs.Words.{word, set_word}
use Rattle.words.proofs.WordLaws.{length_set_word, word_set_word_same, word_set_word_other}
use Rattle.spec.specs.Basics.{Text}
use Rattle.spec.specs.Module.{Pointer, Name, NameKind, DuplicateKey}
use Rattle.spec.specs.State.{add_duplicate}
use Rattle.module.specs.Ids.{pointer_of}
use Rattle.module.specs.Kinds.{kind_of, number_of_kind}
use Rattle.module.specs.declared.pointer.Pointer as code
use Rattle.module.specs.declared.kinds.NameKind as code_kinds
use Rattle.module.specs.declared.kinds.NameKind.TheVariants as kinds
use Rattle.module.proofs.KindLaws.{name_kind_back}
use Rattle.layout.specs.Layout.{name_limit, diagnostic_limit, pointer_row, name_row, diagnostic_row, name_count, diagnostic_count, lost_count, entry_place, names_at, name_pointers_at, diagnostics_at, lost_at, uses_at, Long}
use Rattle.layout.specs.Rows.{cap, rows_to, set_all}
use Rattle.layout.specs.Changes.{Outside, Wrote, Still}
use Rattle.layout.specs.Texts.{text_in}
use Rattle.layout.specs.Exprs.{pointer_at}
use Rattle.layout.specs.States.{name_in, diagnostic_in, names_of, diagnostics_of, lost_of, state_of}
use Rattle.store.specs.Work.{work_of, with_state, name_with, put_name, put_duplicate, lowering, Did, PutDiagnostic, PutLost}
use Rattle.layout.proofs.RowLaws.{rows_same, length_rows, cap_le, cap_over}
use Rattle.layout.proofs.Frames.{Same, text_still, pointer_same, name_same, diagnostic_same, exprs_kept, names_kept, diagnostics_kept, lost_kept, sets_kept, entries_kept, waiting_kept, order_kept}
use Rattle.layout.proofs.WriteLaws.{still_set_word, still_all, still_then, Small, length_all, all_other, all_at}
use Rattle.texts.specs.Fits.{text_fits, Held}
use Rattle.soundness.specs.Sound.{name_row_fits}
use Rattle.store.proofs.ExprLaws.{fits_not, nothing_done, used_kept}
use Rattle.store.proofs.CodedLaws.{NamesCoded, DiagnosticsCoded, exprs_coded, names_coded, diagnostics_coded, all_coded, fits_still, name_coded_same, exprs_coded_kept, names_coded_kept, diagnostics_coded_kept, waits_coded_kept}

-- ---- pointers
-- a pointer that was written
pub pointer_put : (s t : List ℕ) (at to : ℕ) (p : code.Pointer) → at ≡ to → at + 12 ≤ length s → Small (p.kind ∷ p.from ∷ p.to ∷ []) → t ≡ set_all s at (p.kind ∷ p.from ∷ p.to ∷ []) → pointer_at t to ≡ pointer_of p
unfolding pointer_at pointer_of
pointer_put s t at to p e l small w =
    let ps = p.kind ∷ p.from ∷ p.to ∷ [] in
    rw (w, all_at s at ps small (omega arith) 0 to (omega arith) (omega arith), all_at s at ps small (omega arith) 1 (to + 4) (omega arith) (omega arith), all_at s at ps small (omega arith) 2 (to + 8) (omega arith) (omega arith))

-- ---- names
length_names : (s : List ℕ) → length (names_of s) ≡ cap (word s name_count) name_limit
unfolding names_of
length_names s = length_rows (name_in s) (cap (word s name_count) name_limit)

name_own : (s t : List ℕ) (k : code_kinds.NameKind) (p : Pointer) (text number n : ℕ) → number ≡ number_of_kind k → word t (names_at + name_row * n) ≡ text → word t (names_at + name_row * n + 4) ≡ number → pointer_at t (name_pointers_at + pointer_row * n) ≡ p → Still s t → name_in t n ≡ name_with (text_in s text) (kind_of k) p
unfolding name_in name_with
name_own s t k p text number n e a b q st = rw (a, b, q, e, name_kind_back k, text_still s t text st)

names_more : (s t : List ℕ) (n : ℕ) (x : Name) → n ≡ word s name_count → n < name_limit → word t name_count ≡ n + 1 → Still s t → Same s t names_at (names_at + name_row * n) → Same s t name_pointers_at (name_pointers_at + pointer_row * n) → name_in t n ≡ x → names_of t ≡ names_of s ++ (x ∷ [])
unfolding names_of rows_to
names_more s t n x e few c still names pointers own =
    let z : n + 1 ≡ suc n = omega arith in
    rw (c, ← e, cap_le (n + 1) name_limit (omega arith), cap_le n name_limit (omega arith), z, own) (ap (λ l. l ++ (x ∷ [])) (rows_same (name_in t) (name_in s) n (λ i h. name_same s t i still (λ j a b. names j (omega arith) (omega arith)) (λ j a b. pointers j (omega arith) (omega arith)))))

-- a kind has one of five numbers
kind_low : (k : code_kinds.NameKind) → leb (number_of_kind k) 4 ≡ true
unfolding number_of_kind
kind_low kinds.LetIn = refl
kind_low kinds.PlainAttrset = refl
kind_low kinds.RecAttrset = refl
kind_low kinds.Param = refl
kind_low kinds.PatField = refl

name_row_put : (s t : List ℕ) (k : code_kinds.NameKind) (text number n : ℕ) → Still s t → number ≡ number_of_kind k → word t (names_at + name_row * n) ≡ text → word t (names_at + name_row * n + 4) ≡ number → text_fits s text ≡ true → name_row_fits t n ≡ true
unfolding name_row_fits
name_row_put s t k text number n still e a b fits = rw (a, b, e, fits_still s t still text, fits, kind_low k)

names_coded_more : (s t : List ℕ) (n : ℕ) → n ≡ word s name_count → n < name_limit → word t name_count ≡ n + 1 → Still s t → Same s t names_at (names_at + name_row * n) → name_row_fits t n ≡ true → NamesCoded s → NamesCoded t
names_coded_more s t n e few c still before own x = record { few = rw c (omega arith); rows = λ y h. by y (rw c at h) (ltb y n) refl }
  where
    by : (y : ℕ) → y < n + 1 → (b : Bool) → ltb y n ≡ b → name_row_fits t y ≡ true
    by y h true k = let q = ltb-true y n k in name_coded_same s t still y (λ j a b. before j (omega arith) (omega arith)) ∙ x.rows y (omega arith)
    by y h false k = let z : y ≡ n = omega (arith, ltb-false y n k) in rw z own

pub name_put : (s : List ℕ) (k : code_kinds.NameKind) (p : code.Pointer) (text n : ℕ) → text_fits s text ≡ true → Long s → n ≡ word s name_count → n < name_limit → text < 2 ^ 32 → p.kind < 2 ^ 32 → p.from < 2 ^ 32 → p.to < 2 ^ 32
    → Did (put_name (name_with (text_in s text) (kind_of k) (pointer_of p))) s n (set_word (set_all (set_all s (names_at + name_row * n) (text ∷ number_of_kind k ∷ [])) (name_pointers_at + pointer_row * n) (p.kind ∷ p.from ∷ p.to ∷ [])) name_count (n + 1))
unfolding work_of put_name with_state state_of lowering Outside name_with
name_put s k p text n fits long e few ht pk pf pt =
    let number = number_of_kind k in
    let low = leb-true number 4 (kind_low k) in
    let ws = text ∷ number ∷ [] in
    let ps = p.kind ∷ p.from ∷ p.to ∷ [] in
    let at = names_at + name_row * n in
    let to = name_pointers_at + pointer_row * n in
    let u : List ℕ = set_all s at ws in
    let v : List ℕ = set_all u to ps in
    let t : List ℕ = set_word v name_count (n + 1) in
    let lu : length u ≡ length s = length_all s at ws in
    let lv : length v ≡ length u = length_all u to ps in
    let wrote : Wrote ((name_count, name_count + 4) ∷ (names_at, diagnostics_at) ∷ []) s t = record {
      size = length_set_word v name_count (n + 1) ∙ lv ∙ lu;
      other = λ j o. word_set_word_other v name_count (n + 1) j o.0 ∙ all_other u to ps j (⊎_elim (λ z. inl (omega arith)) (λ z. inr (omega arith)) o.1.0) ∙ all_other s at ws j (⊎_elim (λ z. inl (omega arith)) (λ z. inr (omega arith)) o.1.0);
    } in
    let still : Still s t = still_then {u = u} (still_all s at ws (omega arith) (λ z. omega arith)) (still_then {u = v} (still_all u to ps (omega arith) (λ z. omega arith)) (still_set_word v name_count (n + 1) (omega arith) (λ z. omega arith))) in
    let c : word t name_count ≡ n + 1 = word_set_word_same v name_count (n + 1) (omega arith) (omega arith) in
    let row : (i j : ℕ) → i < 2 → j ≡ at + 4 * i → word t j ≡ get_or ws i 0 = λ i j h q. word_set_word_other v name_count (n + 1) j (inr (omega arith)) ∙ all_other u to ps j (inl (omega arith)) ∙ all_at s at ws (ht, (omega arith, tt)) (omega arith) i j h q in
    let pointer : pointer_at t (name_pointers_at + pointer_row * n) ≡ pointer_of p = pointer_same v t (name_pointers_at + pointer_row * n) (λ j a b. word_set_word_other v name_count (n + 1) j (inr (omega arith))) ∙ pointer_put u v to to p refl (omega arith) (pk, (pf, (pt, tt))) refl in
    let names : Same s t names_at (names_at + name_row * n) = λ j a b. word_set_word_other v name_count (n + 1) j (inr (omega arith)) ∙ all_other u to ps j (inl (omega arith)) ∙ all_other s at ws j (inl (omega arith)) in
    let pointers : Same s t name_pointers_at (name_pointers_at + pointer_row * n) = λ j a b. word_set_word_other v name_count (n + 1) j (inr (omega arith)) ∙ all_other u to ps j (inl (omega arith)) ∙ all_other s at ws j (inr (omega arith)) in
    let own : name_in t n ≡ name_with (text_in s text) (kind_of k) (pointer_of p) = name_own s t k (pointer_of p) text number n refl (row 0 (names_at + name_row * n) (omega arith) (omega arith)) (row 1 (names_at + name_row * n + 4) (omega arith) (omega arith)) pointer still in
    let more = names_more s t n _ e few c still names pointers own in
    let l : ltb (length (names_of s)) name_limit ≡ true = lt-ltb (length (names_of s)) name_limit (omega (arith, length_names s, cap_le (word s name_count) name_limit (omega arith))) in
    let size : length (names_of s) ≡ n = omega (arith, length_names s, cap_le (word s name_count) name_limit (omega arith)) in
    record {
      wrote = record { size = wrote.size; other = λ j o. wrote.other j (⊎_elim (λ z. inl (omega arith)) (λ z. inr (omega arith)) o.0, (⊎_elim (λ z. inl (omega arith)) (λ z. inr (omega arith)) o.1.1.0, tt)) };
      still = still;
      does = λ fine. (
        rw (
          l,
          size,
          more,
          exprs_kept wrote still refl refl,
          diagnostics_kept wrote still refl refl,
          lost_kept wrote refl refl,
          sets_kept wrote refl refl,
          entries_kept wrote still refl refl,
          waiting_kept wrote still refl refl,
          used_kept wrote refl refl,
          order_kept wrote refl refl,
        ),
        all_coded
            (exprs_coded_kept wrote still refl refl refl (exprs_coded fine))
            (names_coded_more s t n e few c still names (name_row_put s t k text number n still refl (row 0 (names_at + name_row * n) (omega arith) (omega arith)) (row 1 (names_at + name_row * n + 4) (omega arith) (omega arith)) fits) (names_coded fine))
            (diagnostics_coded_kept wrote still refl refl (diagnostics_coded fine))
            (waits_coded_kept wrote still refl refl fine.waits),
      );
    }

-- the same by a number that the text has within the bytes in use
pub name_held : {s t : List ℕ} (k : NameKind) (p : Pointer) {given text n : ℕ} → Held given s text → Did (put_name (name_with (text_in s text) k p)) s n t → Did (put_name (name_with (text_in s given) k p)) s n t
name_held k p h d = rw h.same at d

pub name_full : (s : List ℕ) (x : Name) (n : ℕ) → n ≡ word s name_count → name_limit ≤ n → Did (put_name x) s name_limit s
unfolding work_of put_name state_of
name_full s x n e h =
    let a : ltb (length (names_of s)) name_limit ≡ false = le-ltb (length (names_of s)) name_limit (omega (arith, length_names s, cap_over (word s name_count) name_limit (omega arith))) in
    nothing_done (λ fine. rw a)

-- ---- diagnostics and the lost list
pub diagnostic_put : (s : List ℕ) (first second : code.Pointer) (key n : ℕ) → Long s → n < diagnostic_limit → key < 2 ^ 32 → first.kind < 2 ^ 32 → first.from < 2 ^ 32 → first.to < 2 ^ 32 → second.kind < 2 ^ 32 → second.from < 2 ^ 32 → second.to < 2 ^ 32
    → PutDiagnostic n key (pointer_of first) (pointer_of second) s (set_word (set_all (set_all (set_word s (diagnostics_at + diagnostic_row * n) key) (diagnostics_at + diagnostic_row * n + 4) (first.kind ∷ first.from ∷ first.to ∷ [])) (diagnostics_at + diagnostic_row * n + 16) (second.kind ∷ second.from ∷ second.to ∷ [])) diagnostic_count (n + 1))
unfolding Outside
diagnostic_put s first second key n long few hk f0 f1 f2 s0 s1 s2 =
    let fs = first.kind ∷ first.from ∷ first.to ∷ [] in
    let ss = second.kind ∷ second.from ∷ second.to ∷ [] in
    let a = diagnostics_at + diagnostic_row * n in
    let u : List ℕ = set_word s a key in
    let v : List ℕ = set_all u (a + 4) fs in
    let w : List ℕ = set_all v (a + 16) ss in
    let t : List ℕ = set_word w diagnostic_count (n + 1) in
    let lu : length u ≡ length s = length_set_word s a key in
    let lv : length v ≡ length u = length_all u (a + 4) fs in
    let lw : length w ≡ length v = length_all v (a + 16) ss in
    record {
      wrote = record {
        size = length_set_word w diagnostic_count (n + 1) ∙ lw ∙ lv ∙ lu;
        other = λ j o.
            word_set_word_other w diagnostic_count (n + 1) j o.0
            ∙ all_other v (a + 16) ss j (⊎_elim (λ z. inl (omega arith)) (λ z. inr (omega arith)) o.1.0)
            ∙ all_other u (a + 4) fs j (⊎_elim (λ z. inl (omega arith)) (λ z. inr (omega arith)) o.1.0)
            ∙ word_set_word_other s a key j (⊎_elim (λ z. inl (omega arith)) (λ z. inr (omega arith)) o.1.0);
      };
      still = still_then {u = u} (still_set_word s a key (omega arith) (λ z. omega arith)) (still_then {u = v} (still_all u (a + 4) fs (omega arith) (λ z. omega arith)) (still_then {u = w} (still_all v (a + 16) ss (omega arith) (λ z. omega arith)) (still_set_word w diagnostic_count (n + 1) (omega arith) (λ z. omega arith))));
      count = word_set_word_same w diagnostic_count (n + 1) (omega arith) (omega arith);
      key_is = word_set_word_other w diagnostic_count (n + 1) a (inr (omega arith)) ∙ all_other v (a + 16) ss a (inl (omega arith)) ∙ all_other u (a + 4) fs a (inl (omega arith)) ∙ word_set_word_same s a key (omega arith) hk;
      first_is = pointer_same v t (a + 4) (λ j x y. word_set_word_other w diagnostic_count (n + 1) j (inr (omega arith)) ∙ all_other v (a + 16) ss j (inl (omega arith))) ∙ pointer_put u v (a + 4) (a + 4) first refl (omega arith) (f0, (f1, (f2, tt))) refl;
      second_is = pointer_same w t (a + 16) (λ j x y. word_set_word_other w diagnostic_count (n + 1) j (inr (omega arith))) ∙ pointer_put v w (a + 16) (a + 16) second refl (omega arith) (s0, (s1, (s2, tt))) refl;
    }

length_diagnostics : (s : List ℕ) → length (diagnostics_of s) ≡ cap (word s diagnostic_count) diagnostic_limit
unfolding diagnostics_of
length_diagnostics s = length_rows (diagnostic_in s) (cap (word s diagnostic_count) diagnostic_limit)

length_lost : (s : List ℕ) → length (lost_of s) ≡ cap (word s lost_count) diagnostic_limit
unfolding lost_of
length_lost s = length_rows (λ i. pointer_at s (lost_at + pointer_row * i)) (cap (word s lost_count) diagnostic_limit)

abbrev duplicate : Text → Pointer → Pointer → DuplicateKey
duplicate key first second = record { key = key; first = first; second = second }

diagnostics_more : (s t : List ℕ) (n : ℕ) (d : DuplicateKey) → n ≡ word s diagnostic_count → n < diagnostic_limit → word t diagnostic_count ≡ n + 1 → Still s t → Same s t diagnostics_at (diagnostics_at + diagnostic_row * n) → diagnostic_in t n ≡ d → diagnostics_of t ≡ diagnostics_of s ++ (d ∷ [])
unfolding diagnostics_of rows_to
diagnostics_more s t n d e few c still before own =
    let z : n + 1 ≡ suc n = omega arith in
    rw (c, ← e, cap_le (n + 1) diagnostic_limit (omega arith), cap_le n diagnostic_limit (omega arith), z, own) (ap (λ l. l ++ (d ∷ [])) (rows_same (diagnostic_in t) (diagnostic_in s) n (λ i h. diagnostic_same s t i still (λ j a b. before j (omega arith) (omega arith)))))

lost_more : (s t : List ℕ) (n : ℕ) (p : Pointer) → n ≡ word s lost_count → n < diagnostic_limit → word t lost_count ≡ n + 1 → Same s t lost_at (lost_at + pointer_row * n) → pointer_at t (lost_at + pointer_row * n) ≡ p → lost_of t ≡ lost_of s ++ (p ∷ [])
unfolding lost_of rows_to
lost_more s t n p e few c before own =
    let z : n + 1 ≡ suc n = omega arith in
    rw (c, ← e, cap_le (n + 1) diagnostic_limit (omega arith), cap_le n diagnostic_limit (omega arith), z, own) (ap (λ l. l ++ (p ∷ [])) (rows_same (λ i. pointer_at t (lost_at + pointer_row * i)) (λ i. pointer_at s (lost_at + pointer_row * i)) n (λ i h. pointer_same s t (lost_at + pointer_row * i) (λ j a b. before j (omega arith) (omega arith)))))

diagnostic_own : (s t : List ℕ) (first second : Pointer) (key n : ℕ) → Still s t → word t (diagnostics_at + diagnostic_row * n) ≡ key → pointer_at t (diagnostics_at + diagnostic_row * n + 4) ≡ first → pointer_at t (diagnostics_at + diagnostic_row * n + 16) ≡ second → diagnostic_in t n ≡ duplicate (text_in s key) first second
unfolding diagnostic_in
diagnostic_own s t first second key n still a b c = rw (a, b, c, text_still s t key still)

diagnostics_coded_more : (s t : List ℕ) (n m key : ℕ) → n ≡ word s diagnostic_count → n < diagnostic_limit → word t diagnostic_count ≡ n + 1 → m < diagnostic_limit → word t lost_count ≡ m + 1 → Still s t → Same s t diagnostics_at (diagnostics_at + diagnostic_row * n)
    → word t (diagnostics_at + diagnostic_row * n) ≡ key → text_fits s key ≡ true → DiagnosticsCoded s → DiagnosticsCoded t
diagnostics_coded_more s t n m key e few c fewer d still before own fits x = record { few = rw c (omega arith); few_lost = rw d (omega arith); rows = λ i h. by i (rw c at h) (ltb i n) refl }
  where
    by : (i : ℕ) → i < n + 1 → (b : Bool) → ltb i n ≡ b → text_fits t (word t (diagnostics_at + diagnostic_row * i)) ≡ true
    by i h true k = let q = ltb-true i n k in rw (before (diagnostics_at + diagnostic_row * i) (omega arith) (omega arith)) (fits_still s t still (word s (diagnostics_at + diagnostic_row * i)) ∙ x.rows i (omega arith))
    by i h false k = let z : i ≡ n = omega (arith, ltb-false i n k) in rw (z, own) (fits_still s t still key ∙ fits)

pub lost_put : (s : List ℕ) (p : code.Pointer) (n : ℕ) → Long s → n < diagnostic_limit → p.kind < 2 ^ 32 → p.from < 2 ^ 32 → p.to < 2 ^ 32 → PutLost n (pointer_of p) s (set_word (set_all s (lost_at + pointer_row * n) (p.kind ∷ p.from ∷ p.to ∷ [])) lost_count (n + 1))
unfolding Outside
lost_put s p n long few hk hf ht =
    let ps = p.kind ∷ p.from ∷ p.to ∷ [] in
    let at = lost_at + pointer_row * n in
    let u : List ℕ = set_all s at ps in
    let t : List ℕ = set_word u lost_count (n + 1) in
    let lu : length u ≡ length s = length_all s at ps in
    record {
      wrote = record {
        size = length_set_word u lost_count (n + 1) ∙ lu;
        other = λ j o. word_set_word_other u lost_count (n + 1) j o.0 ∙ all_other s at ps j (⊎_elim (λ z. inl (omega arith)) (λ z. inr (omega arith)) o.1.0);
      };
      still = still_then {u = u} (still_all s at ps (omega arith) (λ z. omega arith)) (still_set_word u lost_count (n + 1) (omega arith) (λ z. omega arith));
      count = word_set_word_same u lost_count (n + 1) (omega arith) (omega arith);
      is = pointer_same u t at (λ j a b. word_set_word_other u lost_count (n + 1) j (inr (omega arith))) ∙ pointer_put s u at at p refl (omega arith) (hk, (hf, (ht, tt))) refl;
    }

pub duplicate_put : (s u t : List ℕ) (first second : Pointer) (given key n m : ℕ) → Held given s key → Long s → n ≡ word s diagnostic_count → n < diagnostic_limit → m ≡ word s lost_count → m < diagnostic_limit
    → PutDiagnostic n key first second s u → PutLost m first u t → Did (put_duplicate (text_in s given) first second) s tt t
unfolding work_of put_duplicate with_state add_duplicate state_of lowering Outside
duplicate_put s u t first second given key n m held long en few em fewer put lost =
    let after : (j : ℕ) → (j + 4 ≤ lost_count) ⊎ (lost_count + 4 ≤ j) → (j + 4 ≤ lost_at + pointer_row * m) ⊎ (lost_at + pointer_row * m + 12 ≤ j) → word t j ≡ word u j = λ j o q. lost.wrote.other j (o, (q, tt)) in
    let wrote : Wrote ((diagnostic_count, entry_place) ∷ (diagnostics_at, uses_at) ∷ []) s t = record {
      size = lost.wrote.size ∙ put.wrote.size;
      other = λ j o.
          after j (⊎_elim (λ z. inl (omega arith)) (λ z. inr (omega arith)) o.0) (⊎_elim (λ z. inl (omega arith)) (λ z. inr (omega arith)) o.1.0)
          ∙ put.wrote.other j (⊎_elim (λ z. inl (omega arith)) (λ z. inr (omega arith)) o.0, (⊎_elim (λ z. inl (omega arith)) (λ z. inr (omega arith)) o.1.0, tt));
    } in
    let still : Still s t = still_then {u = u} put.still lost.still in
    let dc : word t diagnostic_count ≡ n + 1 = after 8 (inl (omega arith)) (inl (omega arith)) ∙ put.count in
    let lc : word t lost_count ≡ m + 1 = lost.count in
    let in_diagnostics : Same u t diagnostics_at lost_at = λ j a b. after j (inr (omega arith)) (inl (omega arith)) in
    let key_is : word t (diagnostics_at + diagnostic_row * n) ≡ key = in_diagnostics (diagnostics_at + diagnostic_row * n) (omega arith) (omega arith) ∙ put.key_is in
    let d_own : diagnostic_in t n ≡ duplicate (text_in s given) first second = rw held.same at (diagnostic_own s t first second key n still
    (in_diagnostics (diagnostics_at + diagnostic_row * n) (omega arith) (omega arith) ∙ put.key_is)
    (pointer_same u t (diagnostics_at + diagnostic_row * n + 4) (λ j a b. in_diagnostics j (omega arith) (omega arith)) ∙ put.first_is)
    (pointer_same u t (diagnostics_at + diagnostic_row * n + 16) (λ j a b. in_diagnostics j (omega arith) (omega arith)) ∙ put.second_is)) in
    let above : Same s t diagnostics_at (diagnostics_at + diagnostic_row * n) = λ j a b. in_diagnostics j (omega arith) (omega arith) ∙ put.wrote.other j (inr (omega arith), (inl (omega arith), tt)) in
    let ds = diagnostics_more s t n (duplicate (text_in s given) first second) en few dc still (λ j a b. in_diagnostics j (omega arith) (omega arith) ∙ put.wrote.other j (inr (omega arith), (inl (omega arith), tt))) d_own in
    let ls = lost_more s t m first em fewer lc (λ j a b. after j (inr (omega arith)) (inl (omega arith)) ∙ put.wrote.other j (inr (omega arith), (inr (omega arith), tt))) lost.is in
    let r1 : ltb (length (diagnostics_of s)) diagnostic_limit ≡ true = lt-ltb (length (diagnostics_of s)) diagnostic_limit (omega (arith, length_diagnostics s, cap_le (word s diagnostic_count) diagnostic_limit (omega arith))) in
    let r2 : ltb (length (lost_of s)) diagnostic_limit ≡ true = lt-ltb (length (lost_of s)) diagnostic_limit (omega (arith, length_lost s, cap_le (word s lost_count) diagnostic_limit (omega arith))) in
    record {
      wrote = record { size = wrote.size; other = λ j o. wrote.other j (⊎_elim (λ z. inl (omega arith)) (λ z. inr (omega arith)) o.0, (⊎_elim (λ z. inl (omega arith)) (λ z. inr (omega arith)) o.1.1.0, tt)) };
      still = still;
      does = λ fine. (
        rw (
          r1,
          r2,
          ds,
          ls,
          exprs_kept wrote still refl refl,
          names_kept wrote still refl refl,
          sets_kept wrote refl refl,
          entries_kept wrote still refl refl,
          waiting_kept wrote still refl refl,
          used_kept wrote refl refl,
          order_kept wrote refl refl,
        ),
        all_coded
            (exprs_coded_kept wrote still refl refl refl (exprs_coded fine))
            (names_coded_kept wrote still refl refl (names_coded fine))
            (diagnostics_coded_more s t n m key en few dc fewer lc still above key_is held.fits (diagnostics_coded fine))
            (waits_coded_kept wrote still refl refl fine.waits),
      );
    }

pub duplicate_full : (s : List ℕ) (key : Text) (first second : Pointer) (n m : ℕ) → n ≡ word s diagnostic_count → m ≡ word s lost_count → (diagnostic_limit ≤ n) ⊎ (diagnostic_limit ≤ m) → Did (put_duplicate key first second) s tt s
unfolding work_of put_duplicate state_of
duplicate_full s key first second n m en em (inl h) =
    let a : ltb (length (diagnostics_of s)) diagnostic_limit ≡ false = le-ltb (length (diagnostics_of s)) diagnostic_limit (omega (arith, length_diagnostics s, cap_over (word s diagnostic_count) diagnostic_limit (omega arith))) in
    nothing_done (λ fine. rw (fits_not (ltb (length (diagnostics_of s)) diagnostic_limit) (ltb (length (lost_of s)) diagnostic_limit) (inl a)))
duplicate_full s key first second n m en em (inr h) =
    let a : ltb (length (lost_of s)) diagnostic_limit ≡ false = le-ltb (length (lost_of s)) diagnostic_limit (omega (arith, length_lost s, cap_over (word s lost_count) diagnostic_limit (omega arith))) in
    nothing_done (λ fine. rw (fits_not (ltb (length (diagnostics_of s)) diagnostic_limit) (ltb (length (lost_of s)) diagnostic_limit) (inr a)))
