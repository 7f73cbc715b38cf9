-- Bytes that say a sound module, and are what decoding takes them for, pass the module's part of the test. Assumes
-- nothing.
use mathlib.Core.Path.{◌≡◌, refl, ap, subst, ◌∙◌}
use mathlib.Core.Bool.{true, or-true}
use mathlib.Core.List.{List, []}
use mathlib.Core.Option.{none}
use mathlib.Mathlib.Data.Bool.Basic.{and_elim_left, and_elim_right, and_intro}
use Prim.Native.Nat.{ℕ, ◌+◌, ◌-◌, ◌*◌, ◌≤◌, ◌<◌}
use native.Mathlib.Omega.{arith}
use lib.Dec.{eqb}
use lib.ListN.{length, get_or}
use borrow.Author.Tests.{lt-ltb}
use Rattle.words.specs.Words.{word}
use Rattle.spec.specs.Basics.{ExprId}
use Rattle.spec.specs.Module.{Expr, Made, missing}
use Rattle.spec.specs.Lower.{module_of}
use Rattle.spec.specs.Scopes.{made_at, expr_at}
use Rattle.layout.specs.Layout.{expr_limit, item_limit, name_limit, expr_row, item_row, diagnostic_row, expr_count, name_count, diagnostic_count, entry_place, exprs_at, items_at, diagnostics_at}
use Rattle.layout.specs.Rows.{cap}
use Rattle.layout.specs.Exprs.{text, item_of, item_at, item_in, expr_of, first_item, items_of, sort_of, made_in}
use Rattle.layout.specs.States.{name_in, exprs_of, names_of, state_of, module_in}
use Rattle.layout.proofs.RowLaws.{length_rows, get_d_rows, get_d_between, cap_le}
use Rattle.texts.specs.Fits.{text_fits}
use Rattle.soundness.specs.Sound.{ascends, expr_fits, entry_fits, tag_fits, item_fits, row_fits, exprs_fit, name_row_fits, names_fit, diagnostics_fit}
use Rattle.soundness.specs.Coded.{row_coded, item_coded, Coded, ModuleFits}
use Rattle.soundness.proofs.SoundLaws.{all_from_each, from_each, ascends_from, below_limit}
use Rattle.spec.proofs.sound.Lowered.{InRow, SoundModule, in_row}
use Rattle.soundness.proofs.FieldLaws.{sort_in, fields_fit_lem}
use Rattle.soundness.proofs.ItemSortLaws.{item_fits_lem}

module _ (s : List ℕ) (c : Coded s) where
  -- ---- what decoding finds
  exprs_there : length (module_in s).exprs ≡ word s expr_count
  unfolding module_in module_of state_of exprs_of
  exprs_there = length_rows (made_in s) (cap (word s expr_count) expr_limit) ∙ cap_le (word s expr_count) expr_limit c.few_exprs

  names_there : length (module_in s).names ≡ word s name_count
  unfolding module_in module_of state_of names_of
  names_there = length_rows (name_in s) (cap (word s name_count) name_limit) ∙ cap_le (word s name_count) name_limit c.few_names

  entry_there : (module_in s).entry ≡ word s entry_place
  unfolding module_in module_of
  entry_there = refl

  expr_there : (e : ExprId) → e < word s expr_count
      → expr_at (module_in s) e ≡ expr_of s (sort_of s e) (word s (exprs_at + expr_row * e + 8)) (word s (exprs_at + expr_row * e + 12)) (word s (exprs_at + expr_row * e + 16)) (items_of s e)
  unfolding expr_at made_at module_in module_of state_of exprs_of made_in
  expr_there e l =
      let below : e < cap (word s expr_count) expr_limit = rw (cap_le (word s expr_count) expr_limit c.few_exprs) l in
      ap (λ (m : Made). m.expr) (get_d_rows (made_in s) (cap (word s expr_count) expr_limit) e (record { expr = missing; pointer = none }) below)

  firsts_ascend : ascends (first_item s) (word s expr_count) item_limit ≡ true
  firsts_ascend = ascends_from (first_item s) (word s expr_count) item_limit c.begins c.rises c.few_items

  first_in : (e : ExprId) → e ≤ word s expr_count → first_item s e ≤ item_limit
  first_in e l = below_limit (first_item s) (word s expr_count) item_limit firsts_ascend e l

  item_there : (e : ExprId) (j : ℕ) → e < word s expr_count → first_item s e ≤ j → j < first_item s (e + 1)
      → get_or (items_of s e) (j - first_item s e) (text []) ≡ item_of s (word s (items_at + item_row * j)) (word s (items_at + item_row * j + 4)) (word s (items_at + item_row * j + 8))
  unfolding items_of item_in item_at
  item_there e j l from to =
      let back : first_item s e + (j - first_item s e) ≡ j = omega arith in
      rw (cap_le (first_item s e) item_limit (first_in e (omega arith)), cap_le (first_item s (e + 1)) item_limit (first_in (e + 1) (omega arith)))
      (get_d_between (item_in s) (first_item s e) (first_item s (e + 1)) (j - first_item s e) (text []) (omega arith) ∙ ap (item_in s) back)

  -- ---- a row, where the module is sound
  module _ (m : SoundModule (module_in s)) where
    module _ (e : ExprId) (l : e < word s expr_count) where
      known : InRow e (word s name_count) (expr_of s (sort_of s e) (word s (exprs_at + expr_row * e + 8)) (word s (exprs_at + expr_row * e + 12)) (word s (exprs_at + expr_row * e + 16)) (items_of s e))
      known = subst (λ (x : Expr). InRow e (word s name_count) x) (expr_there e l) (subst (λ (n : ℕ). InRow e n (expr_at (module_in s) e)) names_there (in_row (module_in s) m e))

      sort_there : sort_of s e ≤ 28
      unfolding row_coded
      sort_there = sort_in s (sort_of s e) (word s (exprs_at + expr_row * e + 8)) (word s (exprs_at + expr_row * e + 12)) (c.rows e l)

      one_item_lem : (j : ℕ) → first_item s e ≤ j → j < first_item s (e + 1) → item_fits s e (sort_of s e) j ≡ true
      unfolding item_fits item_coded
      one_item_lem j from to =
          let at = items_at + item_row * j in
          let coded = c.items e j l from to in
          let tagged = and_elim_left (tag_fits (sort_of s e) (word s at)) _ coded in
          and_intro tagged
          (item_fits_lem s e _ _ _ (items_of s e) (j - first_item s e) (word s at) (word s (at + 4)) (word s (at + 8)) (item_there e j l from to) (sort_of s e) sort_there known tagged
          (and_elim_right (tag_fits (sort_of s e) (word s at)) _ coded))

      row_fits_lem : row_fits s e ≡ true
      unfolding row_fits row_coded
      row_fits_lem =
          and_intro (fields_fit_lem s e _ _ _ (items_of s e) (sort_of s e) known (c.rows e l)) (from_each (item_fits s e (sort_of s e)) (first_item s e) (first_item s (e + 1)) one_item_lem)

    -- ---- all of it
    entry_fits_lem : entry_fits s ≡ true
    unfolding entry_fits expr_fits
    entry_fits_lem =
        let there : word s entry_place < word s expr_count = rw (← entry_there, ← exprs_there) m.entry in
        rw (lt-ltb (word s entry_place) (word s expr_count) there) (or-true (eqb (word s expr_count) 0))

    exprs_fit_lem : exprs_fit s ≡ true
    unfolding exprs_fit
    exprs_fit_lem = and_intro firsts_ascend (all_from_each (row_fits s) (word s expr_count) row_fits_lem)

-- THEOREM. A sound module in bytes that are coded for it fits.
pub coded_fits : (s : List ℕ) → Coded s → SoundModule (module_in s) → ModuleFits s
unfolding names_fit diagnostics_fit
coded_fits s c m =
    record {
      few_exprs = c.few_exprs;
      few_names = c.few_names;
      few_diagnostics = c.few_diagnostics;
      few_lost = c.few_lost;
      entry = entry_fits_lem s c m;
      exprs = exprs_fit_lem s c m;
      names = all_from_each (name_row_fits s) (word s name_count) c.names;
      diagnostics = all_from_each (λ i. text_fits s (word s (diagnostics_at + diagnostic_row * i))) (word s diagnostic_count) c.diagnostics;
    }
