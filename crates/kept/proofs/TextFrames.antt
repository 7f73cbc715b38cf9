-- Adding a text leaves all that a sound store keeps as it was: every number of a text there is one that fits. Assumes
-- nothing.
use mathlib.Core.Path.{◌≡◌, refl}
use mathlib.Core.Logic.{inr}
use mathlib.Core.Bool.{Bool, true, false, ◌&&◌, and-eq-true_iff}
use mathlib.Core.List.{List}
use Prim.Native.Nat.{ℕ, ◌+◌, ◌*◌, ◌≤◌, ◌<◌}
use native.Mathlib.Omega.{arith}
use lib.Dec.{eqb, leb}
use borrow.Author.Tests.{eqb-true}
use Rattle.words.specs.Words.{word}
use Rattle.spec.specs.Basics.{Text}
use Rattle.spec.specs.Lower.{module_of}
use Rattle.layout.specs.Layout.{expr_limit, item_limit, name_limit, diagnostic_limit, expr_row, pointer_row, item_row, name_row, diagnostic_row, expr_count, name_count, diagnostic_count, exprs_at, expr_pointers_at, items_at, names_at, name_pointers_at, diagnostics_at, uses_at}
use Rattle.layout.specs.Rows.{cap}
use Rattle.layout.specs.Changes.{Wrote}
use Rattle.layout.specs.Texts.{text_in}
use Rattle.layout.specs.Exprs.{Item, item_of, item_at, item_in, expr_of, first_item, items_of, sort_of, made_in}
use Rattle.layout.specs.States.{name_in, diagnostic_in, exprs_of, names_of, diagnostics_of, state_of, module_in}
use Rattle.layout.specs.Keeps.{kept_in}
use Rattle.texts.specs.Fits.{text_fits}
use Rattle.texts.specs.Adds.{texting, Texted}
use Rattle.soundness.specs.Sound.{all_to, all_from, fields_fit, tag_fits, numbers_fit, item_fits, row_fits, ascends, counts_fit, entry_fits, exprs_fit, name_row_fits, names_fit, diagnostics_fit, scopes_fit, kept_fits, sound}
use Rattle.layout.proofs.RowLaws.{rows_same, between_same, cap_lim, cap_less}
use Rattle.layout.proofs.Frames.{Same, same_on, number_kept, pointer_same, lost_kept}
use Rattle.soundness.proofs.FrameLaws.{between_each}
use Rattle.soundness.proofs.SoundLaws.{all_each}
use Rattle.kept.proofs.KeepFrames.{scopes_kept, answers_kept, references_kept}

-- ---- tests of all rows
-- a row in use is one of those that are tested
in_use : (n l i : ℕ) → i < cap n l → i < n
in_use n l i h = omega (arith, cap_less n l n (inr (omega arith)))

-- from the first item of a list on, where that is below its limit
from_first : (n l k : ℕ) → cap n l ≤ k → k < l → n ≤ k
unfolding cap
from_first n l k a b = go (leb n l) refl
  where
    go : (x : Bool) → leb n l ≡ x → n ≤ k
    go true q = (rw q at a)
    go false q = let z : l ≤ k = (rw q at a) in absurd (omega arith)

-- ---- texts that fit are as they were
module _ (s t : List ℕ) (texts : (j : ℕ) → text_fits s j ≡ true → text_in t j ≡ text_in s j) where
  item_worded : (e tag a b : ℕ) → numbers_fit s e tag a b ≡ true → item_of t tag a b ≡ item_of s tag a b
  unfolding item_of numbers_fit
  item_worded e tag a b h = go (eqb tag 1) refl
    where
      go : (x : Bool) → eqb tag 1 ≡ x → item_of t tag a b ≡ item_of s tag a b
      go true q =
          let z = eqb-true tag 1 q in
          let f : text_fits s a ≡ true = (rw z at h) in
          rw (z, texts a f)
      go false q = rw q

  expr_worded : (e sort a b c : ℕ) (is : List Item) → fields_fit s e sort a b c ≡ true → expr_of t sort a b c is ≡ expr_of s sort a b c is
  unfolding expr_of fields_fit
  expr_worded e sort a b c is h = go (eqb sort 6) (eqb sort 7) (eqb sort 21) refl refl refl
    where
      go : (x y z : Bool) → eqb sort 6 ≡ x → eqb sort 7 ≡ y → eqb sort 21 ≡ z → expr_of t sort a b c is ≡ expr_of s sort a b c is
      go true y z p q r =
          let n = eqb-true sort 6 p in
          let f : text_fits s a ≡ true = (rw n at h) in
          rw (n, texts a f)
      go false true z p q r =
          let n = eqb-true sort 7 q in
          let f : text_fits s a ≡ true = (rw n at h) in
          rw (n, texts a f)
      go false false true p q r =
          let n = eqb-true sort 21 r in
          let f : text_fits s a ≡ true = (rw n at h) in
          rw (n, texts a f)
      go false false false p q r = rw (p, q, r)

  module _ (w : Wrote texting s t) where
    rows : Same s t exprs_at uses_at
    unfolding texting
    rows = same_on exprs_at uses_at w refl

    items_worded : (e : ℕ) → e < expr_limit → all_from (item_fits s e (sort_of s e)) (first_item s e) (first_item s (e + 1)) ≡ true → items_of t e ≡ items_of s e
    unfolding items_of first_item item_in item_at item_fits
    items_worded e l h =
        let a = rows (exprs_at + expr_row * e) (omega arith) (omega arith) in
        let b = rows (exprs_at + expr_row * (e + 1)) (omega arith) (omega arith) in
        let lo = cap (word s (exprs_at + expr_row * e)) item_limit in
        let hi = cap (word s (exprs_at + expr_row * (e + 1))) item_limit in
        let m = cap_lim (word s (exprs_at + expr_row * (e + 1))) item_limit in
        rw (a, b) (between_same (item_in t) (item_in s) lo hi (λ k p q.
        let at = items_at + item_row * k in
        let f = between_each (item_fits s e (sort_of s e)) (word s (exprs_at + expr_row * e)) (word s (exprs_at + expr_row * (e + 1))) k h (from_first (word s (exprs_at + expr_row * e)) item_limit k p (omega arith)) (in_use (word s (exprs_at + expr_row * (e + 1))) item_limit k q) in
        let g = (and-eq-true_iff (tag_fits (sort_of s e) (word s at)) (numbers_fit s e (word s at) (word s (at + 4)) (word s (at + 8)))).0 f in
        rw (rows at (omega arith) (omega arith), rows (at + 4) (omega arith) (omega arith), rows (at + 8) (omega arith) (omega arith)) (item_worded e (word s at) (word s (at + 4)) (word s (at + 8)) g.1)))

    made_worded : (e : ℕ) → e < expr_limit → row_fits s e ≡ true → made_in t e ≡ made_in s e
    unfolding made_in row_fits sort_of
    made_worded e l h =
        let at = exprs_at + expr_row * e in
        let f = (and-eq-true_iff (fields_fit s e (word s (at + 4)) (word s (at + 8)) (word s (at + 12)) (word s (at + 16))) (all_from (item_fits s e (word s (at + 4))) (first_item s e) (first_item s (e + 1)))).0 h in
        rw (
          rows (at + 4) (omega arith) (omega arith),
          rows (at + 8) (omega arith) (omega arith),
          rows (at + 12) (omega arith) (omega arith),
          rows (at + 16) (omega arith) (omega arith),
          items_worded e l f.1,
          pointer_same s t (expr_pointers_at + pointer_row * e) (λ j p q. rows j (omega arith) (omega arith)),
          expr_worded e (word s (at + 4)) (word s (at + 8)) (word s (at + 12)) (word s (at + 16)) (items_of s e) f.0,
        )

    exprs_worded : exprs_fit s ≡ true → exprs_of t ≡ exprs_of s
    unfolding exprs_of exprs_fit texting
    exprs_worded h =
        let f = (and-eq-true_iff (ascends (first_item s) (word s expr_count) item_limit) (all_to (row_fits s) (word s expr_count))).0 h in
        let l = cap_lim (word s expr_count) expr_limit in
        rw (number_kept w expr_count refl) (rows_same (made_in t) (made_in s) (cap (word s expr_count) expr_limit) (λ i q. made_worded i (omega arith) (all_each (row_fits s) (word s expr_count) i f.1 (in_use (word s expr_count) expr_limit i q))))

    name_worded : (x : ℕ) → x < name_limit → name_row_fits s x ≡ true → name_in t x ≡ name_in s x
    unfolding name_in name_row_fits
    name_worded x l h =
        let at = names_at + name_row * x in
        let f = (and-eq-true_iff (text_fits s (word s at)) (leb (word s (at + 4)) 4)).0 h in
        rw (
          rows at (omega arith) (omega arith),
          rows (at + 4) (omega arith) (omega arith),
          pointer_same s t (name_pointers_at + pointer_row * x) (λ j p q. rows j (omega arith) (omega arith)),
          texts (word s at) f.0,
        )

    names_worded : names_fit s ≡ true → names_of t ≡ names_of s
    unfolding names_of names_fit texting
    names_worded h =
        let l = cap_lim (word s name_count) name_limit in
        rw (number_kept w name_count refl) (rows_same (name_in t) (name_in s) (cap (word s name_count) name_limit) (λ i q. name_worded i (omega arith) (all_each (name_row_fits s) (word s name_count) i h (in_use (word s name_count) name_limit i q))))

    diagnostic_worded : (i : ℕ) → i < diagnostic_limit → text_fits s (word s (diagnostics_at + diagnostic_row * i)) ≡ true → diagnostic_in t i ≡ diagnostic_in s i
    unfolding diagnostic_in
    diagnostic_worded i l h =
        rw (
          rows (diagnostics_at + diagnostic_row * i) (omega arith) (omega arith),
          pointer_same s t (diagnostics_at + diagnostic_row * i + 4) (λ j p q. rows j (omega arith) (omega arith)),
          pointer_same s t (diagnostics_at + diagnostic_row * i + 16) (λ j p q. rows j (omega arith) (omega arith)),
          texts (word s (diagnostics_at + diagnostic_row * i)) h,
        )

    diagnostics_worded : diagnostics_fit s ≡ true → diagnostics_of t ≡ diagnostics_of s
    unfolding diagnostics_of diagnostics_fit texting
    diagnostics_worded h =
        let l = cap_lim (word s diagnostic_count) diagnostic_limit in
        rw (number_kept w diagnostic_count refl) (rows_same (diagnostic_in t) (diagnostic_in s) (cap (word s diagnostic_count) diagnostic_limit) (λ i q. diagnostic_worded i (omega arith) (all_each (λ k. text_fits s (word s (diagnostics_at + diagnostic_row * k))) (word s diagnostic_count) i h (in_use (word s diagnostic_count) diagnostic_limit i q))))

    module_worded : sound s ≡ true → module_in t ≡ module_in s
    unfolding module_in module_of state_of sound texting
    module_worded h =
        let a = (and-eq-true_iff (counts_fit s) (entry_fits s && (exprs_fit s && (names_fit s && (diagnostics_fit s && (scopes_fit s && kept_fits s)))))).0 h in
        let b = (and-eq-true_iff (entry_fits s) (exprs_fit s && (names_fit s && (diagnostics_fit s && (scopes_fit s && kept_fits s))))).0 a.1 in
        let c = (and-eq-true_iff (exprs_fit s) (names_fit s && (diagnostics_fit s && (scopes_fit s && kept_fits s)))).0 b.1 in
        let d = (and-eq-true_iff (names_fit s) (diagnostics_fit s && (scopes_fit s && kept_fits s))).0 c.1 in
        let e = (and-eq-true_iff (diagnostics_fit s) (scopes_fit s && kept_fits s)).0 d.1 in
        rw (number_kept w 16 refl, exprs_worded c.0, names_worded d.0, diagnostics_worded e.0, lost_kept w refl refl)

    kept_worded : sound s ≡ true → kept_in t ≡ kept_in s
    unfolding kept_in texting
    kept_worded h = rw (module_worded h, scopes_kept w refl refl refl, answers_kept w refl refl refl refl, references_kept w refl refl, number_kept w 24 refl)

pub texted_kept : {bytes : Text} {s : List ℕ} {k : ℕ} {t : List ℕ} → Texted bytes s k t → sound s ≡ true → kept_in t ≡ kept_in s
texted_kept {s = s} {t = t} d = kept_worded s t (λ j z. (d.others j z).0) d.wrote
