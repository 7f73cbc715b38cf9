-- A name or a Reference gets another text: what is kept then, and what fits goes on to fit. Assumes nothing.
use mathlib.Core.Path.{◌≡◌, refl}
use mathlib.Core.Logic.{inl, inr}
use mathlib.Core.Bool.{Bool, true, false}
use mathlib.Core.List.{List, [], ◌∷◌}
use mathlib.Mathlib.Data.Bool.Basic.{and_elim_right, and_intro}
use Prim.Native.Nat.{ℕ, ◌+◌, ◌*◌, ◌<◌}
use native.Mathlib.Omega.{arith}
use lib.Dec.{leb, ltb}
use borrow.Author.Tests.{leb-true, leb-false, ltb-true, ltb-false}
use Rattle.words.specs.Words.{word}
use Rattle.spec.specs.Basics.{ExprId, NameId}
use Rattle.spec.specs.Module.{Module}
use Rattle.spec.specs.Calls.{set_name}
use Rattle.spec.proofs.general.Sums.{compared}
use Rattle.layout.specs.Layout.{expr_limit, name_limit, expr_row, item_row, name_row, diagnostic_row, use_row, expr_count, name_count, spent_place, exprs_at, expr_pointers_at, items_at, names_at, name_pointers_at, diagnostics_at, uses_at, firsts_at}
use Rattle.layout.specs.Rows.{cap, rows_to}
use Rattle.layout.specs.Changes.{Wrote}
use Rattle.layout.specs.Texts.{text_in}
use Rattle.layout.specs.Exprs.{first_item, sort_of}
use Rattle.layout.specs.States.{module_in}
use Rattle.layout.specs.Keeps.{scopes_in, answer_in, references_of, kept_in}
use Rattle.layout.proofs.RowLaws.{rows_same, cap_lim}
use Rattle.layout.proofs.Frames.{Same, same_on, number_kept}
use Rattle.texts.specs.Fits.{text_fits}
use Rattle.soundness.specs.Sound.{fields_fit, row_fits, name_row_fits}
use Rattle.soundness.specs.Coded.{ModuleFits}
use Rattle.soundness.proofs.FrameLaws.{TextsFit, texts_still, row_from, row_kept, name_kept, Onward, module_on, items_low}
use Rattle.store.specs.TextChanges.{Renamed, set_if_reference, Reworded}
use Rattle.kept.specs.TextChanges.{with_module}
use Rattle.kept.proofs.KeepFrames.{answer_same, scopes_kept, answers_kept, references_kept}
use Rattle.kept.proofs.SoundChanges.{by_use, within, same_wrote, beside}

-- all that is kept, but for the module
module_changed : (s t : List ℕ) (m : Module) → module_in t ≡ m → scopes_in t ≡ scopes_in s → rows_to (answer_in t) (cap (word t expr_count) expr_limit) ≡ rows_to (answer_in s) (cap (word s expr_count) expr_limit) → rows_to (references_of t) (cap (word t name_count) name_limit) ≡ rows_to (references_of s) (cap (word s name_count) name_limit) → word t spent_place ≡ word s spent_place → kept_in t ≡ with_module m (kept_in s)
unfolding kept_in with_module
module_changed s t m a b c d e = rw (a, b, c, d, e)

-- ---- a name
pub renamed_wrote : (x : NameId) (k : ℕ) (s t : List ℕ) → Renamed x k s t → Wrote ((names_at, name_pointers_at) ∷ []) s t
renamed_wrote x k s t d =
    by_use x (word s name_count) name_limit
    (λ l. let lim = cap_lim (word s name_count) name_limit in within (names_at + name_row * x) (names_at + name_row * x + 4) names_at name_pointers_at (omega arith) (omega arith) d.wrote)
    (λ l. same_wrote _ s t (d.past l))

pub renamed_kept : (x : NameId) (k : ℕ) (s t : List ℕ) → Renamed x k s t → kept_in t ≡ with_module (set_name x (text_in s k) (module_in s)) (kept_in s)
renamed_kept x k s t d =
    let w = renamed_wrote x k s t d in
    module_changed s t (set_name x (text_in s k) (module_in s)) d.does (scopes_kept w refl refl refl) (answers_kept w refl refl refl refl) (references_kept w refl refl) (number_kept w 24 refl)

module _ (x : NameId) (k : ℕ) (s t : List ℕ) (d : Renamed x k s t) (f : text_fits s k ≡ true) (m : ModuleFits s) where
  renamed_texts : TextsFit s t
  renamed_texts = texts_still s t d.still (same_on 28 32 (renamed_wrote x k s t d) refl 28 (omega arith) (omega arith))

  renamed_names : word t name_count ≡ word s name_count
  renamed_names = same_on 4 8 (renamed_wrote x k s t d) refl 4 (omega arith) (omega arith)

  renamed_row : x < cap (word s name_count) name_limit → name_row_fits s x ≡ true → name_row_fits t x ≡ true
  unfolding name_row_fits
  renamed_row l h =
      let at = names_at + name_row * x in
      let b = and_elim_right (text_fits s (word s at)) (leb (word s (at + 4)) 4) h in
      rw (d.row l, beside d.wrote (at + 4) (inr (omega arith))) (and_intro (renamed_texts k f) b)

  renamed_onward : x < cap (word s name_count) name_limit → Onward s t
  unfolding first_item
  renamed_onward l =
      let lim = cap_lim (word s name_count) name_limit in
      let few = m.few_exprs in
      let low = same_on exprs_at names_at (renamed_wrote x k s t d) refl in
      record {
        header = same_on 0 20 (renamed_wrote x k s t d) refl;
        texts = renamed_texts;
        firsts = λ e q. low (exprs_at + expr_row * e) (omega arith) (omega arith);
        rows = λ e q.
            let end = items_low s m (e + 1) (omega arith) in
            row_kept s t renamed_texts renamed_names e (λ j a b. low j (omega arith) (omega arith)) (λ i r j a b. low j (omega arith) (omega arith));
        names = λ y q. compared y x (λ z. rw z (renamed_row l)) (λ z. name_kept s t renamed_texts renamed_names y (name_beside y z));
        keys = λ i q. let n = m.few_diagnostics in same_on name_pointers_at uses_at (renamed_wrote x k s t d) refl (diagnostics_at + diagnostic_row * i) (omega arith) (omega arith);
      }
    where
      name_beside : (y : NameId) → (y ≡ x → ⊥) → Same s t (names_at + name_row * y) (names_at + name_row * y + 8)
      name_beside y ne j a b = go (ltb y x) refl
        where
          go : (c : Bool) → ltb y x ≡ c → word t j ≡ word s j
          go true h = let z = ltb-true y x h in beside d.wrote j (inl (omega arith))
          go false h = let z = ltb-false y x h in beside d.wrote j (inr (omega (arith, ne)))

  pub renamed_module : ModuleFits t
  renamed_module = by_use x (word s name_count) name_limit (λ l. module_on s t (renamed_onward l) m) (λ l. rw (d.past l) m)

-- ---- a Reference
pub reworded_wrote : (e : ExprId) (k : ℕ) (s t : List ℕ) → Reworded e k s t → Wrote ((exprs_at, expr_pointers_at) ∷ []) s t
reworded_wrote e k s t d =
    by_use e (word s expr_count) expr_limit
    (λ l. let lim = cap_lim (word s expr_count) expr_limit in within (exprs_at + expr_row * e + 8) (exprs_at + expr_row * e + 12) exprs_at expr_pointers_at (omega arith) (omega arith) d.wrote)
    (λ l. same_wrote _ s t (d.past l))

module _ (e : ExprId) (k : ℕ) (s t : List ℕ) (d : Reworded e k s t) where
  reworded_sort : (i : ExprId) → sort_of t i ≡ sort_of s i
  unfolding sort_of
  reworded_sort i = go (ltb e i) refl
    where
      go : (b : Bool) → ltb e i ≡ b → word t (exprs_at + expr_row * i + 4) ≡ word s (exprs_at + expr_row * i + 4)
      go true q = beside d.wrote (exprs_at + expr_row * i + 4) (inr (omega (arith, ltb-true e i q)))
      go false q = beside d.wrote (exprs_at + expr_row * i + 4) (inl (omega (arith, ltb-false e i q)))

  reworded_answers : rows_to (answer_in t) (cap (word t expr_count) expr_limit) ≡ rows_to (answer_in s) (cap (word s expr_count) expr_limit)
  reworded_answers =
      let w = reworded_wrote e k s t d in
      let v = same_on uses_at firsts_at w refl in
      let lim = cap_lim (word s expr_count) expr_limit in
      rw (number_kept w expr_count refl) (rows_same (answer_in t) (answer_in s) (cap (word s expr_count) expr_limit) (λ i q. answer_same s t i (scopes_kept w refl refl refl) (reworded_sort i) (v (uses_at + use_row * i) (omega arith) (omega arith)) (v (uses_at + use_row * i + 4) (omega arith) (omega arith))))

  pub reworded_kept : kept_in t ≡ with_module (set_if_reference e (text_in s k) (module_in s)) (kept_in s)
  reworded_kept =
      let w = reworded_wrote e k s t d in
      module_changed s t (set_if_reference e (text_in s k) (module_in s)) d.does (scopes_kept w refl refl refl) reworded_answers (references_kept w refl refl) (number_kept w 24 refl)

module _ (e : ExprId) (k : ℕ) (s t : List ℕ) (d : Reworded e k s t) (f : text_fits s k ≡ true) (m : ModuleFits s) where
  reworded_texts : TextsFit s t
  reworded_texts = texts_still s t d.still (same_on 28 32 (reworded_wrote e k s t d) refl 28 (omega arith) (omega arith))

  reworded_names : word t name_count ≡ word s name_count
  reworded_names = same_on 4 8 (reworded_wrote e k s t d) refl 4 (omega arith) (omega arith)

  reworded_first : (i : ExprId) → first_item t i ≡ first_item s i
  unfolding first_item
  reworded_first i = go (leb i e) refl
    where
      go : (c : Bool) → leb i e ≡ c → word t (exprs_at + expr_row * i) ≡ word s (exprs_at + expr_row * i)
      go true h = let z = leb-true i e h in beside d.wrote (exprs_at + expr_row * i) (inl (omega arith))
      go false h = let z = leb-false i e h in beside d.wrote (exprs_at + expr_row * i) (inr (omega arith))

  reworded_items : (i : ExprId) → i < word s expr_count → (j : ℕ) → j < first_item s (i + 1) → Same s t (items_at + item_row * j) (items_at + item_row * j + 12)
  reworded_items i l j q p a b =
      let end = items_low s m (i + 1) (omega arith) in
      same_on expr_pointers_at uses_at (reworded_wrote e k s t d) refl p (omega arith) (omega arith)

  module _ (is : sort_of s e ≡ 21) (l : e < cap (word s expr_count) expr_limit) where
    -- the sort stands before the text
    sort_on : sort_of t e ≡ sort_of s e
    unfolding sort_of
    sort_on = beside d.wrote (exprs_at + expr_row * e + 4) (inl (omega arith))

    text_on : fields_fit t e (sort_of t e) (word t (exprs_at + expr_row * e + 8)) (word t (exprs_at + expr_row * e + 12)) (word t (exprs_at + expr_row * e + 16)) ≡ true
    unfolding fields_fit
    text_on = rw (sort_on, is, d.row l is) (reworded_texts k f)

    reworded_row : e < word s expr_count → row_fits s e ≡ true → row_fits t e ≡ true
    reworded_row q = row_from s t reworded_texts reworded_names e (reworded_first e) (reworded_first (e + 1)) sort_on (reworded_items e q) text_on

    other_row : (i : ExprId) → (i ≡ e → ⊥) → Same s t (exprs_at + expr_row * i) (exprs_at + expr_row * i + 24)
    other_row i ne j a b = go (ltb i e) refl
      where
        go : (c : Bool) → ltb i e ≡ c → word t j ≡ word s j
        go true h = let z = ltb-true i e h in beside d.wrote j (inl (omega arith))
        go false h = let z = ltb-false i e h in beside d.wrote j (inr (omega (arith, ne)))

    reworded_onward : Onward s t
    reworded_onward =
        let rest = same_on expr_pointers_at uses_at (reworded_wrote e k s t d) refl in
        record {
          header = same_on 0 20 (reworded_wrote e k s t d) refl;
          texts = reworded_texts;
          firsts = λ i q. reworded_first i;
          rows = λ i q. compared i e (λ z. let r : e < word s expr_count = rw z at q in rw z (reworded_row r)) (λ z. row_kept s t reworded_texts reworded_names i (other_row i z) (reworded_items i q));
          names = λ x q. let n = m.few_names in name_kept s t reworded_texts reworded_names x (λ j a b. rest j (omega arith) (omega arith));
          keys = λ i q. let n = m.few_diagnostics in rest (diagnostics_at + diagnostic_row * i) (omega arith) (omega arith);
        }

  pub reworded_module : ModuleFits t
  reworded_module =
      by_use e (word s expr_count) expr_limit
      (λ l. compared (sort_of s e) 21 (λ is. module_on s t (reworded_onward is l) m) (λ ne. rw (d.other ne) m))
      (λ l. rw (d.past l) m)
