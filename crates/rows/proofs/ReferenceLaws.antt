-- Which expressions are References, by their rows, and what text each bears. Assumes nothing.
use mathlib.Core.Path.{◌≡◌, refl, sym, ap, ◌∙◌}
use mathlib.Core.Bool.{Bool, true, false}
use mathlib.Core.List.{List}
use mathlib.Core.Option.{none, some}
use Prim.Native.Nat.{ℕ, ◌+◌, ◌*◌, ◌≤◌, ◌<◌}
use lib.ListN.{length}
use lib.Dec.{eqb, leb}
use borrow.Author.Tests.{ne_eqb}
use Rattle.words.specs.Words.{word}
use Rattle.words.specs.Order.{pick}
use Rattle.spec.specs.Module.{Expr, missing, reference, Made}
use Rattle.spec.specs.Lower.{module_of}
use Rattle.spec.specs.Scopes.{made_at, expr_at}
use Rattle.spec.specs.Answer.{reference_text}
use Rattle.layout.specs.Layout.{expr_limit, expr_row, pointer_row, expr_count, exprs_at, expr_pointers_at}
use Rattle.layout.specs.Rows.{cap}
use Rattle.layout.specs.Texts.{text_in}
use Rattle.layout.specs.Exprs.{Item, wide, pointer_at, pointer_or, float_or, integer_or, expr_of, sort_of, made_in, items_of}
use Rattle.layout.specs.States.{exprs_of, state_of, module_in}
use Rattle.layout.proofs.RowLaws.{length_rows, get_d_rows, get_d_past, cap_lim}
use Rattle.layout.specs.Layout.{Long}
use Rattle.rows.specs.Readers.{NoReference, ReferenceAt}
use native.Mathlib.Omega.{arith}
use lib.Dec.{ltb}
use borrow.Author.Tests.{ltb-true, ltb-false}

-- how many expressions there are
pub length_exprs : (s : List ℕ) → length (exprs_of s) ≡ cap (word s expr_count) expr_limit
unfolding exprs_of
length_exprs s = length_rows (made_in s) (cap (word s expr_count) expr_limit)

pub exprs_cap : (s : List ℕ) (n : ℕ) → n ≡ length (exprs_of s) → n ≡ cap (word s expr_count) expr_limit
unfolding exprs_of
exprs_cap s n e = e ∙ length_rows (made_in s) (cap (word s expr_count) expr_limit)

record NoText (x : Expr) : Type 0 where
  is : reference_text x ≡ none

no_text_lem : (b : Bool) {x y : Expr} → NoText x → NoText y → NoText (pick b x y)
no_text_lem true a c = a
no_text_lem false a c = c

other_sort : (s : List ℕ) (sort a b c : ℕ) (is : List Item) → (sort ≡ 21 → ⊥) → NoText (expr_of s sort a b c is)
unfolding expr_of reference_text float_or integer_or
other_sort s sort a b c is h =
    rw (ne_eqb sort 21 h)
    (no_text_lem (leb sort 1) (record { is = refl })
    (no_text_lem (eqb sort 2) (record { is = refl })
    (no_text_lem (eqb sort 3) (record { is = refl })
    (no_text_lem (eqb sort 4) (no_text_lem (leb (wide a b) 9218868437227405312) (record { is = refl }) (record { is = refl }))
    (no_text_lem (eqb sort 5) (no_text_lem (leb (wide a b) 9223372036854775807) (record { is = refl }) (record { is = refl }))
    (no_text_lem (eqb sort 6) (record { is = refl })
    (no_text_lem (eqb sort 7) (record { is = refl })
    (no_text_lem (eqb sort 8) (record { is = refl })
    (no_text_lem (eqb sort 9) (record { is = refl })
    (no_text_lem (eqb sort 10) (record { is = refl })
    (no_text_lem (eqb sort 11) (record { is = refl })
    (no_text_lem (eqb sort 12) (record { is = refl })
    (no_text_lem (eqb sort 13) (record { is = refl })
    (no_text_lem (eqb sort 14) (record { is = refl })
    (no_text_lem (eqb sort 15) (record { is = refl })
    (no_text_lem (eqb sort 16) (record { is = refl })
    (no_text_lem (eqb sort 17) (record { is = refl })
    (no_text_lem (eqb sort 18) (record { is = refl })
    (no_text_lem (eqb sort 19) (record { is = refl })
    (no_text_lem (eqb sort 20) (record { is = refl })
    (no_text_lem (eqb sort 22) (record { is = refl })
    (no_text_lem (eqb sort 23) (record { is = refl })
    (no_text_lem (eqb sort 24) (record { is = refl })
    (no_text_lem (eqb sort 25) (record { is = refl })
    (no_text_lem (eqb sort 26) (record { is = refl })
    (no_text_lem (eqb sort 27) (record { is = refl })
    (record { is = refl })))))))))))))))))))))))))))

pub made_at_lem : (s : List ℕ) (e : ℕ) → e < cap (word s expr_count) expr_limit → made_at (module_in s) e ≡ made_in s e
unfolding made_at module_in module_of state_of exprs_of
made_at_lem s e h = get_d_rows (made_in s) (cap (word s expr_count) expr_limit) e (record { expr = missing; pointer = none }) h

pub no_made : (s : List ℕ) (e : ℕ) → cap (word s expr_count) expr_limit ≤ e → made_at (module_in s) e ≡ record { expr = missing; pointer = none }
unfolding made_at module_in module_of state_of exprs_of
no_made s e h = get_d_past (made_in s) (cap (word s expr_count) expr_limit) e (record { expr = missing; pointer = none }) h

-- an expression of the sort 21
pub reference_made : (s : List ℕ) (e : ℕ) → sort_of s e ≡ 21 → made_in s e ≡ record { expr = reference (text_in s (word s (exprs_at + expr_row * e + 8))); pointer = some (pointer_at s (expr_pointers_at + pointer_row * e)) }
unfolding made_in expr_of pointer_or
reference_made s e h = rw h

-- ---- the text of a row
pub text_past : (s : List ℕ) (e n : ℕ) → n ≡ cap (word s expr_count) expr_limit → n ≤ e → reference_text (expr_at (module_in s) e) ≡ none
unfolding expr_at reference_text
text_past s e n en h = ap (λ (d : Made). reference_text d.expr) (no_made s e (rw (← en) h))

pub text_other : (s : List ℕ) (e n sort : ℕ) → n ≡ cap (word s expr_count) expr_limit → e < n → sort ≡ word s (exprs_at + expr_row * e + 4) → (sort ≡ 21 → ⊥) → reference_text (expr_at (module_in s) e) ≡ none
unfolding expr_at made_in sort_of
text_other s e n sort en h es ne =
    let z : word s (exprs_at + expr_row * e + 4) ≡ 21 → ⊥ = λ q. ne (es ∙ q) in
    ap (λ (d : Made). reference_text d.expr) (made_at_lem s e (rw (← en) h)) ∙ (other_sort s (word s (exprs_at + expr_row * e + 4)) (word s (exprs_at + expr_row * e + 8)) (word s (exprs_at + expr_row * e + 12)) (word s (exprs_at + expr_row * e + 16)) (items_of s e) z).is

pub text_there : (s : List ℕ) (e n sort : ℕ) → n ≡ cap (word s expr_count) expr_limit → e < n → sort ≡ word s (exprs_at + expr_row * e + 4) → sort ≡ 21 → reference_text (expr_at (module_in s) e) ≡ some (text_in s (word s (exprs_at + expr_row * e + 8)))
unfolding expr_at reference_text sort_of
text_there s e n sort en h es eq = ap (λ (d : Made). reference_text d.expr) (made_at_lem s e (rw (← en) h) ∙ reference_made s e (sym es ∙ eq))

-- ---- where the text stands
pub no_row : (s : List ℕ) (e n : ℕ) → n ≡ cap (word s expr_count) expr_limit → n ≤ e → NoReference s e
no_row s e n en h = record { other = λ l _. omega (arith, en, h, l) }

pub other_row : (s : List ℕ) (e sort : ℕ) → sort ≡ word s (exprs_at + expr_row * e + 4) → (sort ≡ 21 → ⊥) → NoReference s e
unfolding sort_of
other_row s e sort es ne = record { other = λ _ q. ne (es ∙ q) }

pub reference_row : (s : List ℕ) (e n sort : ℕ) → n ≡ cap (word s expr_count) expr_limit → e < n → sort ≡ word s (exprs_at + expr_row * e + 4) → sort ≡ 21 → ReferenceAt s e (exprs_at + expr_row * e + 8)
unfolding sort_of
reference_row s e n sort en h es q = record { used = rw (← en) h; sort = sym es ∙ q; place = refl }

pub place_within : (s : List ℕ) (e at : ℕ) → Long s → ReferenceAt s e at → at + 4 ≤ length s
place_within s e at l h = omega (arith, l, h.used, h.place, cap_lim (word s expr_count) expr_limit)

pub no_text : (s : List ℕ) (e : ℕ) → NoReference s e → none ≡ reference_text (expr_at (module_in s) e)
unfolding sort_of
no_text s e h = go (ltb e (cap (word s expr_count) expr_limit)) refl
  where
    go : (b : Bool) → ltb e (cap (word s expr_count) expr_limit) ≡ b → none ≡ reference_text (expr_at (module_in s) e)
    go true q = let l = ltb-true e (cap (word s expr_count) expr_limit) q in sym (text_other s e _ _ refl l refl (h.other l))
    go false q = sym (text_past s e _ refl (ltb-false e (cap (word s expr_count) expr_limit) q))

pub text_placed : (s : List ℕ) (e at t : ℕ) → ReferenceAt s e at → t ≡ word s at → some (text_in s t) ≡ reference_text (expr_at (module_in s) e)
unfolding sort_of
text_placed s e at t h x = rw (x, h.place) (sym (text_there s e _ _ refl h.used refl h.sort))
