-- What is said of a module's bytes beside what they say: it stays where nothing of its part is written. Assumes
-- nothing.
use mathlib.Core.Path.{◌≡◌, refl, sym, ◌∙◌}
use mathlib.Core.Bool.{Bool, true, false, ◌&&◌, and-eq-true_iff}
use mathlib.Core.List.{List}
use Prim.Native.Nat.{ℕ, zero, suc, ◌+◌, ◌*◌, ◌≤◌, ◌<◌}
use native.Mathlib.Numerals.{add-one}
use native.Mathlib.Omega.{arith}
use lib.Dec.{leb}
use borrow.Author.Tests.{leb-true, leb-false}
use Rattle.words.specs.Words.{word}
use Rattle.spec.specs.Basics.{ExprId, NameId}
use Rattle.layout.specs.Layout.{expr_limit, item_limit, name_limit, diagnostic_limit, waiting_limit, expr_row, item_row, name_row, diagnostic_row, expr_count, name_count, diagnostic_count, lost_count, waiting_count, exprs_at, expr_pointers_at, items_at, names_at, name_pointers_at, diagnostics_at, lost_at, waiting_at, sets_at, texts_at}
use Rattle.layout.specs.Rows.{cap}
use Rattle.layout.specs.Changes.{Range, Wrote, Still}
use Rattle.layout.specs.Exprs.{first_item, sort_of}
use Rattle.layout.proofs.RowLaws.{cap_lim}
use Rattle.layout.proofs.Frames.{Same, apart, same_on, number_kept, word_still}
use Rattle.texts.specs.Fits.{text_fits}
use Rattle.soundness.specs.Sound.{name_row_fits}
use Rattle.soundness.specs.Coded.{fields_coded, row_coded, part_coded, item_coded}
use Rattle.store.specs.Work.{wait_coded, Fine}

-- ---- the parts
pub record ExprsCoded (s : List ℕ) : Type 0 where
  pub few : word s expr_count ≤ expr_limit
  pub begins : first_item s 0 ≡ 0
  pub rises : (e : ExprId) → e < word s expr_count → first_item s e ≤ first_item s (e + 1)
  pub few_items : first_item s (word s expr_count) ≤ item_limit
  pub rows : (e : ExprId) → e < word s expr_count → row_coded s e ≡ true
  pub items : (e : ExprId) (j : ℕ) → e < word s expr_count → first_item s e ≤ j → j < first_item s (e + 1) → item_coded s (sort_of s e) j ≡ true

pub record NamesCoded (s : List ℕ) : Type 0 where
  pub few : word s name_count ≤ name_limit
  pub rows : (x : NameId) → x < word s name_count → name_row_fits s x ≡ true

pub record DiagnosticsCoded (s : List ℕ) : Type 0 where
  pub few : word s diagnostic_count ≤ diagnostic_limit
  pub few_lost : word s lost_count ≤ diagnostic_limit
  pub rows : (i : ℕ) → i < word s diagnostic_count → text_fits s (word s (diagnostics_at + diagnostic_row * i)) ≡ true

abbrev pub WaitsCoded : List ℕ → Type 0
WaitsCoded s = (i : ℕ) → i < cap (word s waiting_count) waiting_limit → wait_coded s i ≡ true

pub exprs_coded : {s : List ℕ} → Fine s → ExprsCoded s
exprs_coded f =
    record {
      few = f.coded.few_exprs;
      begins = f.coded.begins;
      rises = f.coded.rises;
      few_items = f.coded.few_items;
      rows = f.coded.rows;
      items = f.coded.items;
    }

pub names_coded : {s : List ℕ} → Fine s → NamesCoded s
names_coded f = record { few = f.coded.few_names; rows = f.coded.names }

pub diagnostics_coded : {s : List ℕ} → Fine s → DiagnosticsCoded s
diagnostics_coded f = record { few = f.coded.few_diagnostics; few_lost = f.coded.few_lost; rows = f.coded.diagnostics }

pub all_coded : {s : List ℕ} → ExprsCoded s → NamesCoded s → DiagnosticsCoded s → WaitsCoded s → Fine s
all_coded e n d w =
    record {
      coded =
          record {
            few_exprs = e.few;
            few_names = n.few;
            few_diagnostics = d.few;
            few_lost = d.few_lost;
            begins = e.begins;
            rises = e.rises;
            few_items = e.few_items;
            rows = e.rows;
            items = e.items;
            names = n.rows;
            diagnostics = d.rows;
          };
      waits = w;
    }

-- ---- where the items of an expression begin
pub firsts_rise : {s : List ℕ} → ExprsCoded s → (i j : ℕ) → i ≤ j → j ≤ word s expr_count → first_item s i ≤ first_item s j
firsts_rise {s} c i zero h k = let z : i ≡ 0 = omega arith in rw z (omega arith)
firsts_rise {s} c i (suc j) h k = by (λ l. firsts_rise c i j l (omega arith)) (leb i j) refl
  where
    one : first_item s j ≤ first_item s (suc j)
    one = rw (sym (add-one j)) (c.rises j (omega arith))

    by : (i ≤ j → first_item s i ≤ first_item s j) → (b : Bool) → leb i j ≡ b → first_item s i ≤ first_item s (suc j)
    by before true e = omega (arith, one, before (leb-true i j e))
    by before false e = let z : i ≡ suc j = omega (arith, leb-false i j e) in rw z (omega arith)

pub firsts_few : {s : List ℕ} → ExprsCoded s → (i : ℕ) → i ≤ word s expr_count → first_item s i ≤ item_limit
firsts_few {s} c i h = omega (arith, firsts_rise c i (word s expr_count) h (omega arith), c.few_items)

-- ---- a row that is as it was
module _ (s t : List ℕ) (still : Still s t) where
  pub fits_still : (k : ℕ) → text_fits t k ≡ text_fits s k
  unfolding text_fits
  fits_still k = rw (word_still s t (texts_at + k) still (omega arith), still.used)

  pub fields_still : (sort a b : ℕ) → fields_coded t sort a b ≡ fields_coded s sort a b
  unfolding fields_coded
  fields_still sort a b = rw (fits_still a)

  pub part_still : (tag a : ℕ) → part_coded t tag a ≡ part_coded s tag a
  unfolding part_coded
  part_still tag a = rw (fits_still a)

  pub row_coded_same : (e : ExprId) → Same s t (exprs_at + expr_row * e + 4) (exprs_at + expr_row * e + 16) → row_coded t e ≡ row_coded s e
  unfolding row_coded sort_of
  row_coded_same e w =
      rw (
        w (exprs_at + expr_row * e + 4) (omega arith) (omega arith),
        w (exprs_at + expr_row * e + 8) (omega arith) (omega arith),
        w (exprs_at + expr_row * e + 12) (omega arith) (omega arith),
        fields_still (word s (exprs_at + expr_row * e + 4)) (word s (exprs_at + expr_row * e + 8)) (word s (exprs_at + expr_row * e + 12)),
      )

  pub item_coded_same : (sort j : ℕ) → Same s t (items_at + item_row * j) (items_at + item_row * j + 8) → item_coded t sort j ≡ item_coded s sort j
  unfolding item_coded
  item_coded_same sort j w =
      rw (
        w (items_at + item_row * j) (omega arith) (omega arith),
        w (items_at + item_row * j + 4) (omega arith) (omega arith),
        part_still (word s (items_at + item_row * j)) (word s (items_at + item_row * j + 4)),
      )

  pub name_coded_same : (x : NameId) → Same s t (names_at + name_row * x) (names_at + name_row * x + 8) → name_row_fits t x ≡ name_row_fits s x
  unfolding name_row_fits
  name_coded_same x w = rw (w (names_at + name_row * x) (omega arith) (omega arith), w (names_at + name_row * x + 4) (omega arith) (omega arith), fits_still (word s (names_at + name_row * x)))

  pub wait_coded_same : (i : ℕ) → Same s t (waiting_at + item_row * i) (waiting_at + item_row * i + 8) → wait_coded t i ≡ wait_coded s i
  unfolding wait_coded
  wait_coded_same i w =
      rw (
        w (waiting_at + item_row * i) (omega arith) (omega arith),
        w (waiting_at + item_row * i + 4) (omega arith) (omega arith),
        part_still (word s (waiting_at + item_row * i)) (word s (waiting_at + item_row * i + 4)),
      )

-- ---- parts that are as they were
module _ {rs : List Range} {s t : List ℕ} (w : Wrote rs s t) (still : Still s t) where
  pub exprs_coded_kept : apart (0, 4) rs ≡ true → apart (exprs_at, expr_pointers_at) rs ≡ true → apart (items_at, names_at) rs ≡ true → ExprsCoded s → ExprsCoded t
  unfolding first_item sort_of
  exprs_coded_kept a b c x =
      let n : word t expr_count ≡ word s expr_count = number_kept w expr_count a in
      let v = same_on exprs_at expr_pointers_at w b in
      let u = same_on items_at names_at w c in
      let few = x.few in
      let first : (e : ℕ) → e ≤ word s expr_count → first_item t e ≡ first_item s e = λ e h. v (exprs_at + expr_row * e) (omega arith) (omega arith) in
      record {
        few = rw n few;
        begins = first 0 (omega arith) ∙ x.begins;
        rises = λ e h. let k : e < word s expr_count = rw n at h in rw (first e (omega arith), first (e + 1) (omega arith)) (x.rises e k);
        few_items = rw (n, first (word s expr_count) (omega arith)) x.few_items;
        rows = λ e h.
            let k : e < word s expr_count = rw n at h in
            row_coded_same s t still e (λ j p q. v j (omega arith) (omega arith)) ∙ x.rows e k;
        items = λ e j h l m.
            let k : e < word s expr_count = rw n at h in
            let few_items_lem = firsts_few x (e + 1) (omega arith) in
            let l' : first_item s e ≤ j = rw (first e (omega arith)) at l in
            let m' : j < first_item s (e + 1) = rw (first (e + 1) (omega arith)) at m in
            rw (v (exprs_at + expr_row * e + 4) (omega arith) (omega arith))
            (item_coded_same s t still (sort_of s e) j (λ i p q. u i (omega arith) (omega arith)) ∙ x.items e j k l' m');
      }

  pub names_coded_kept : apart (4, 8) rs ≡ true → apart (names_at, name_pointers_at) rs ≡ true → NamesCoded s → NamesCoded t
  names_coded_kept a b x =
      let n : word t name_count ≡ word s name_count = number_kept w name_count a in
      let v = same_on names_at name_pointers_at w b in
      let few = x.few in
      record {
        few = rw n few;
        rows = λ e h. let k : e < word s name_count = rw n at h in name_coded_same s t still e (λ j p q. v j (omega arith) (omega arith)) ∙ x.rows e k;
      }

  pub diagnostics_coded_kept : apart (8, 16) rs ≡ true → apart (diagnostics_at, lost_at) rs ≡ true → DiagnosticsCoded s → DiagnosticsCoded t
  diagnostics_coded_kept a b x =
      let c = same_on 8 16 w a in
      let n : word t diagnostic_count ≡ word s diagnostic_count = c diagnostic_count (omega arith) (omega arith) in
      let m : word t lost_count ≡ word s lost_count = c lost_count (omega arith) (omega arith) in
      let v = same_on diagnostics_at lost_at w b in
      let few = x.few in
      record {
        few = rw n few;
        few_lost = rw m x.few_lost;
        rows = λ i h.
            let k : i < word s diagnostic_count = rw n at h in
            rw (v (diagnostics_at + diagnostic_row * i) (omega arith) (omega arith)) (fits_still s t still (word s (diagnostics_at + diagnostic_row * i)) ∙ x.rows i k);
      }

  pub waits_coded_kept : apart (32, 36) rs ≡ true → apart (waiting_at, sets_at) rs ≡ true → WaitsCoded s → WaitsCoded t
  waits_coded_kept a b x i h =
      let v = same_on waiting_at sets_at w b in
      let k : i < cap (word s waiting_count) waiting_limit = rw (number_kept w waiting_count a) at h in
      let l = cap_lim (word s waiting_count) waiting_limit in
      wait_coded_same s t still i (λ j p q. v j (omega arith) (omega arith)) ∙ x i k

-- ---- all of it
-- a write that meets no part
abbrev pub aside : List Range → Bool
aside rs =
    apart (0, 4) rs && (apart (4, 8) rs && (apart (8, 16) rs && (apart (32, 36) rs && (apart (exprs_at, expr_pointers_at) rs && (apart (items_at, names_at) rs && (apart (names_at, name_pointers_at) rs && (apart (diagnostics_at, lost_at) rs && apart (waiting_at, sets_at) rs)))))))

pub fine_kept : {rs : List Range} {s t : List ℕ} → Wrote rs s t → Still s t → aside rs ≡ true → Fine s → Fine t
fine_kept {rs} w still e f =
    let a = (and-eq-true_iff (apart (0, 4) rs) _).0 e in
    let b = (and-eq-true_iff (apart (4, 8) rs) _).0 a.1 in
    let c = (and-eq-true_iff (apart (8, 16) rs) _).0 b.1 in
    let d = (and-eq-true_iff (apart (32, 36) rs) _).0 c.1 in
    let g = (and-eq-true_iff (apart (exprs_at, expr_pointers_at) rs) _).0 d.1 in
    let h = (and-eq-true_iff (apart (items_at, names_at) rs) _).0 g.1 in
    let i = (and-eq-true_iff (apart (names_at, name_pointers_at) rs) _).0 h.1 in
    let j = (and-eq-true_iff (apart (diagnostics_at, lost_at) rs) _).0 i.1 in
    all_coded
    (exprs_coded_kept w still a.0 g.0 h.0 (exprs_coded f))
    (names_coded_kept w still b.0 i.0 (names_coded f))
    (diagnostics_coded_kept w still c.0 j.0 (diagnostics_coded f))
    (waits_coded_kept w still d.0 j.1 f.waits)
