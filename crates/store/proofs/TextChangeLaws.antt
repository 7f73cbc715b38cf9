-- What giving a name or a Reference another text does. Assumes nothing.
use mathlib.Core.Path.{◌≡◌, refl, sym, ap, ◌∙◌}
use mathlib.Core.Logic.{◌⊎◌, inl, inr, ⊎_elim}
use mathlib.Core.Bool.{Bool, true, false}
use mathlib.Core.List.{List, [], ◌∷◌}
use mathlib.Core.Option.{none, some}
use Prim.Native.Nat.{ℕ, ◌+◌, ◌*◌, ◌≤◌, ◌<◌, ◌^◌}
use native.Mathlib.Omega.{arith}
use lib.ListN.{length, set}
use lib.Seq.{set_out}
use lib.Dec.{ltb}
use borrow.Author.Tests.{ltb-true, ltb-false}
use Rattle.words.specs.Words.{word, set_word}
use Rattle.words.proofs.WordLaws.{length_set_word, word_set_word_same, word_set_word_other}
use Rattle.spec.specs.Module.{Made, reference, PlainAttrset}
use Rattle.spec.specs.Lower.{module_of}
use Rattle.spec.specs.Scopes.{made_at, expr_at, name_at}
use Rattle.spec.specs.Answer.{reference_text}
use Rattle.spec.specs.Calls.{set_name, set_reference}
use Rattle.layout.specs.Layout.{expr_limit, name_limit, expr_row, pointer_row, name_row, expr_count, name_count, exprs_at, expr_pointers_at, names_at, name_pointers_at, Long}
use Rattle.layout.specs.Rows.{cap, rows_to}
use Rattle.layout.specs.Changes.{Outside, Wrote, Still}
use Rattle.layout.specs.Texts.{text_in}
use Rattle.layout.specs.Exprs.{pointer_at, sort_of, made_in}
use Rattle.layout.specs.States.{name_in, exprs_of, names_of, state_of, module_in}
use Rattle.layout.proofs.RowLaws.{length_rows, get_d_rows, rows_put, cap_lim}
use Rattle.layout.proofs.Frames.{Same, clear_of, number_kept, wrote_none, text_still, pointer_same, made_same, own_items_same, exprs_kept, names_kept, diagnostics_kept, lost_kept}
use Rattle.layout.proofs.WriteLaws.{still_set_word}
use Rattle.store.specs.TextChanges.{Renamed, where_text, set_if_reference, Reworded}
use Rattle.rows.specs.Readers.{NoReference, ReferenceAt}
use Rattle.rows.proofs.ReferenceLaws.{no_text, made_at_lem, reference_made}

-- how many names there are
pub names_cap : (s : List ℕ) (n : ℕ) → n ≡ length (names_of s) → n ≡ cap (word s name_count) name_limit
unfolding names_of
names_cap s n e = e ∙ length_rows (name_in s) (cap (word s name_count) name_limit)

-- ---- a name
name_in_lem : (s : List ℕ) (x : ℕ) → x < cap (word s name_count) name_limit → name_at (module_in s) x ≡ name_in s x
unfolding name_at module_in module_of state_of names_of
name_in_lem s x h = get_d_rows (name_in s) (cap (word s name_count) name_limit) x (record { text = []; kind = PlainAttrset; pointer = record { kind = 0; from = 0; to = 0 } }) h

pub no_name : (s : List ℕ) (x k n : ℕ) → n ≡ cap (word s name_count) name_limit → n ≤ x → Renamed x k s s
unfolding set_name module_in module_of state_of names_of
no_name s x k n en h =
    let z : length (rows_to (name_in s) (cap (word s name_count) name_limit)) ≤ x = rw (length_rows (name_in s) (cap (word s name_count) name_limit), ← en) h in
    record {
      wrote = wrote_none ((names_at + name_row * x, names_at + name_row * x + 4) ∷ []) s;
      still = record { same = refl; used = refl };
      row = λ l. absurd (omega (arith, en));
      past = λ l. refl;
      does = rw (set_out (rows_to (name_in s) (cap (word s name_count) name_limit)) x (record { text = text_in s k; kind = (name_at (module_in s) x).kind; pointer = (name_at (module_in s) x).pointer }) z);
    }

module _ (s t : List ℕ) (x k n : ℕ) (l : Long s) (en : n ≡ cap (word s name_count) name_limit) (h : x < n) (hk : k < 2 ^ 32) (et : t ≡ set_word s (names_at + name_row * x) k) where
  low_name : x < name_limit
  low_name = omega (arith, cap_lim (word s name_count) name_limit)

  name_other : (j : ℕ) → (j + 4 ≤ names_at + name_row * x) ⊎ (names_at + name_row * x + 4 ≤ j) → word t j ≡ word s j
  name_other j o = rw et (word_set_word_other s (names_at + name_row * x) k j o)

  name_wrote : Wrote ((names_at, name_pointers_at) ∷ []) s t
  unfolding Outside
  name_wrote =
      let f = low_name in
      record { size = rw et (length_set_word s (names_at + name_row * x) k); other = λ j o. name_other j (clear_of (names_at + name_row * x) 4 names_at name_pointers_at j (omega arith) (omega arith) o.0) }

  name_still : Still s t
  name_still = let f = low_name in rw et (still_set_word s (names_at + name_row * x) k (omega arith) (λ z. omega arith))

  name_pointer_lem : (i : ℕ) → i < name_limit → pointer_at t (name_pointers_at + pointer_row * i) ≡ pointer_at s (name_pointers_at + pointer_row * i)
  name_pointer_lem i q = let f = low_name in pointer_same s t (name_pointers_at + pointer_row * i) (λ j a b. name_other j (inr (omega arith)))

  name_kept : (i : ℕ) → i < name_limit → word t (names_at + name_row * i) ≡ word s (names_at + name_row * i) → word t (names_at + name_row * i + 4) ≡ word s (names_at + name_row * i + 4) → name_in t i ≡ name_in s i
  unfolding name_in
  name_kept i q a b = rw (a, b, name_pointer_lem i q, text_still s t (word s (names_at + name_row * i)) name_still)

  name_word : word t (names_at + name_row * x) ≡ k
  name_word = let f = low_name in rw et (word_set_word_same s (names_at + name_row * x) k (omega arith) hk)

  name_here : name_in t x ≡ record { text = text_in s k; kind = (name_at (module_in s) x).kind; pointer = (name_at (module_in s) x).pointer }
  unfolding name_in
  name_here =
      let f = low_name in
      let m : x < cap (word s name_count) name_limit = rw (← en) h in
      rw (name_in_lem s x m, name_word, name_other (names_at + name_row * x + 4) (inr (omega arith)), name_pointer_lem x f, text_still s t k name_still)

  names_now : names_of t ≡ set (names_of s) x (record { text = text_in s k; kind = (name_at (module_in s) x).kind; pointer = (name_at (module_in s) x).pointer })
  unfolding names_of
  names_now =
      let f = low_name in
      let m : x < cap (word s name_count) name_limit = rw (← en) h in
      let lim = cap_lim (word s name_count) name_limit in
      let c : word t name_count ≡ word s name_count = name_other name_count (inl (omega arith)) in
      rw (c, ← name_here) (rows_put (name_in s) (name_in t) (cap (word s name_count) name_limit) x m
      (λ i q. name_kept i (omega arith) (name_other (names_at + name_row * i) (inl (omega arith))) (name_other (names_at + name_row * i + 4) (inl (omega arith))))
      (λ i q r. name_kept i (omega arith) (name_other (names_at + name_row * i) (inr (omega arith))) (name_other (names_at + name_row * i + 4) (inr (omega arith)))))

  name_module : module_in t ≡ set_name x (text_in s k) (module_in s)
  unfolding module_in module_of state_of set_name
  name_module =
      let w = name_wrote in
      rw (number_kept w 16 refl, exprs_kept w name_still refl refl, names_now, diagnostics_kept w name_still refl refl, lost_kept w refl refl)

  one_name_wrote : Wrote ((names_at + name_row * x, names_at + name_row * x + 4) ∷ []) s t
  unfolding Outside
  one_name_wrote = record { size = name_wrote.size; other = λ j o. name_other j o.0 }

  pub renamed : Renamed x k s t
  renamed = record { wrote = one_name_wrote; still = name_still; row = λ l. name_word; past = λ l. absurd (omega (arith, en)); does = name_module }

-- ---- a Reference
unworded : (s : List ℕ) (e k : ℕ) → reference_text (expr_at (module_in s) e) ≡ none → (e < cap (word s expr_count) expr_limit → sort_of s e ≡ 21 → ⊥) → Reworded e k s s
unfolding set_if_reference where_text
unworded s e k h unfit =
    record {
      wrote = wrote_none ((exprs_at + expr_row * e + 8, exprs_at + expr_row * e + 12) ∷ []) s;
      still = record { same = refl; used = refl };
      does = rw h;
      row = λ l q. absurd (unfit l q);
      past = λ l. refl;
      other = λ q. refl;
    }

pub no_reference : (s : List ℕ) (e k : ℕ) → NoReference s e → Reworded e k s s
no_reference s e k h = unworded s e k (sym (no_text s e h)) h.other

module _ (s t : List ℕ) (e k n sort : ℕ) (l : Long s) (en : n ≡ cap (word s expr_count) expr_limit) (h : e < n) (es : sort ≡ word s (exprs_at + expr_row * e + 4)) (eq : sort ≡ 21) (hk : k < 2 ^ 32) (et : t ≡ set_word s (exprs_at + expr_row * e + 8) k) where
  low_expr : e < expr_limit
  low_expr = omega (arith, cap_lim (word s expr_count) expr_limit)

  in_use : e < cap (word s expr_count) expr_limit
  in_use = rw (← en) h

  expr_other : (j : ℕ) → (j + 4 ≤ exprs_at + expr_row * e + 8) ⊎ (exprs_at + expr_row * e + 8 + 4 ≤ j) → word t j ≡ word s j
  expr_other j o = rw et (word_set_word_other s (exprs_at + expr_row * e + 8) k j o)

  expr_wrote : Wrote ((exprs_at, expr_pointers_at) ∷ []) s t
  unfolding Outside
  expr_wrote =
      let f = low_expr in
      record { size = rw et (length_set_word s (exprs_at + expr_row * e + 8) k); other = λ j o. expr_other j (clear_of (exprs_at + expr_row * e + 8) 4 exprs_at expr_pointers_at j (omega arith) (omega arith) o.0) }

  expr_still : Still s t
  expr_still = let f = low_expr in rw et (still_set_word s (exprs_at + expr_row * e + 8) k (omega arith) (λ z. omega arith))

  sort_same : (i : ℕ) → sort_of t i ≡ sort_of s i
  unfolding sort_of
  sort_same i = go (ltb e i) refl
    where
      go : (b : Bool) → ltb e i ≡ b → word t (exprs_at + expr_row * i + 4) ≡ word s (exprs_at + expr_row * i + 4)
      go true q = expr_other (exprs_at + expr_row * i + 4) (inr (omega (arith, ltb-true e i q)))
      go false q = expr_other (exprs_at + expr_row * i + 4) (inl (omega (arith, ltb-false e i q)))

  is_reference : sort_of s e ≡ 21
  unfolding sort_of
  is_reference = sym es ∙ eq

  expr_pointer_lem : (i : ℕ) → i < expr_limit → Same s t (expr_pointers_at + pointer_row * i) (expr_pointers_at + pointer_row * i + 12)
  expr_pointer_lem i q j a b = let f = low_expr in expr_other j (inr (omega arith))

  made_kept : (i : ℕ) → i < expr_limit → Same s t (exprs_at + expr_row * i) (exprs_at + expr_row * i + 24) → made_in t i ≡ made_in s i
  made_kept i q row =
      let f = low_expr in
      made_same s t i expr_still row (expr_pointer_lem i q) (own_items_same s t i expr_still row (λ j a b. expr_other j (inr (omega arith))))

  word_here : word t (exprs_at + expr_row * e + 8) ≡ k
  word_here = let f = low_expr in rw et (word_set_word_same s (exprs_at + expr_row * e + 8) k (omega arith) hk)

  made_here : made_in t e ≡ record { expr = reference (text_in s k); pointer = (made_at (module_in s) e).pointer }
  made_here =
      let f = low_expr in
      let p : pointer_at t (expr_pointers_at + pointer_row * e) ≡ pointer_at s (expr_pointers_at + pointer_row * e) = pointer_same s t (expr_pointers_at + pointer_row * e) (expr_pointer_lem e f) in
      rw (made_at_lem s e in_use, reference_made s e is_reference, reference_made t e (sort_same e ∙ is_reference), word_here, p, text_still s t k expr_still)

  exprs_now : exprs_of t ≡ set (exprs_of s) e (record { expr = reference (text_in s k); pointer = (made_at (module_in s) e).pointer })
  unfolding exprs_of
  exprs_now =
      let f = low_expr in
      let lim = cap_lim (word s expr_count) expr_limit in
      let c : word t expr_count ≡ word s expr_count = expr_other expr_count (inl (omega arith)) in
      rw (c, ← made_here) (rows_put (made_in s) (made_in t) (cap (word s expr_count) expr_limit) e in_use
      (λ i q. made_kept i (omega arith) (λ j a b. expr_other j (inl (omega arith))))
      (λ i q r. made_kept i (omega arith) (λ j a b. expr_other j (inr (omega arith)))))

  reference_module : module_in t ≡ set_reference e (text_in s k) (module_in s)
  unfolding module_in module_of state_of set_reference
  reference_module =
      let w = expr_wrote in
      rw (number_kept w 16 refl, exprs_now, names_kept w expr_still refl refl, diagnostics_kept w expr_still refl refl, lost_kept w refl refl)

  has_text_lem : reference_text (expr_at (module_in s) e) ≡ some (text_in s (word s (exprs_at + expr_row * e + 8)))
  unfolding expr_at reference_text
  has_text_lem = ap (λ (d : Made). reference_text d.expr) (made_at_lem s e in_use ∙ reference_made s e is_reference)

  sets_it : set_if_reference e (text_in s k) (module_in s) ≡ set_reference e (text_in s k) (module_in s)
  unfolding set_if_reference where_text
  sets_it = rw has_text_lem

  one_word_wrote : Wrote ((exprs_at + expr_row * e + 8, exprs_at + expr_row * e + 12) ∷ []) s t
  unfolding Outside
  one_word_wrote = record { size = expr_wrote.size; other = λ j o. expr_other j (⊎_elim (λ z. inl z) (λ z. inr (omega arith)) o.0) }

  pub reworded : Reworded e k s t
  reworded =
      record {
        wrote = one_word_wrote;
        still = expr_still;
        row = λ l q. word_here;
        past = λ l. absurd (omega (arith, en));
        other = λ q. absurd (q is_reference);
        does = reference_module ∙ sym sets_it;
      }

pub reworded_at : (s t : List ℕ) (e k at : ℕ) → Long s → ReferenceAt s e at → k < 2 ^ 32 → t ≡ set_word s at k → Reworded e k s t
unfolding sort_of
reworded_at s t e k at l h hk et = reworded s t e k _ _ l refl h.used refl h.sort hk (rw h.place at et)
