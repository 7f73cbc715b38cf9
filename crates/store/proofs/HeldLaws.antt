-- Rows and items with texts by numbers within the bytes in use. Assumes nothing.
use mathlib.Core.Path.{◌≡◌, refl, sym, ◌∙◌}
use mathlib.Core.Bool.{Bool, true, false}
use mathlib.Core.List.{List}
use Prim.Native.Nat.{ℕ}
use lib.Dec.{eqb}
use borrow.Author.Tests.{eqb-true, ne_eqb}
use Rattle.spec.proofs.general.BoolLaws.{differ}
use Rattle.layout.specs.Texts.{text_in}
use Rattle.layout.specs.Exprs.{Item, item_of, expr_of}
use Rattle.texts.specs.Fits.{text_fits, Held}
use Rattle.soundness.specs.Coded.{fields_coded, part_coded}
use Rattle.rows.specs.declared.row.Row.{Row}
use Rattle.rows.specs.declared.row.ItemRow.{ItemRow}
use Rattle.store.specs.Codes.{has_text, ranged, HeldRow, HeldItem}

-- ---- sorts
-- which sorts have a text
text_sorts : (P : ℕ → Type 0) → P 6 → P 7 → P 21 → (sort : ℕ) → has_text sort ≡ true → P sort
unfolding has_text
text_sorts P p q r sort h = first (eqb sort 6) refl
  where
    third : eqb sort 6 ≡ false → eqb sort 7 ≡ false → (z : Bool) → eqb sort 21 ≡ z → P sort
    third d e true f = let i = eqb-true sort 21 f in rw i r
    third d e false f = let i : false ≡ true = rw (d, e, f) at h in differ (sym i)

    second : eqb sort 6 ≡ false → (y : Bool) → eqb sort 7 ≡ y → P sort
    second d true e = let i = eqb-true sort 7 e in rw i q
    second d false e = third d e (eqb sort 21) refl

    first : (x : Bool) → eqb sort 6 ≡ x → P sort
    first true d = let i = eqb-true sort 6 d in rw i p
    first false d = second d (eqb sort 7) refl

-- ---- rows
like : (s : List ℕ) (a k b c : ℕ) (is : List Item) → text_in s a ≡ text_in s k → (expr_of s 6 a b c is ≡ expr_of s 6 k b c is) × ((expr_of s 7 a b c is ≡ expr_of s 7 k b c is) × (expr_of s 21 a b c is ≡ expr_of s 21 k b c is))
unfolding expr_of
like s a k b c is e = (rw e, (rw e, rw e))

fits_coded : (s : List ℕ) (a b : ℕ) → text_fits s a ≡ true → (fields_coded s 6 a b ≡ true) × ((fields_coded s 7 a b ≡ true) × (fields_coded s 21 a b ≡ true))
unfolding fields_coded
fits_coded s a b e = (e, (e, e))

coded_other : (s : List ℕ) (sort a b : ℕ) → has_text sort ≡ false → fields_coded s sort a b ≡ ranged sort a b
unfolding fields_coded has_text ranged
coded_other s sort a b e = rw e

module _ (s : List ℕ) (x : Row) where
  pub row_held : (a : ℕ) → has_text x.sort ≡ true → Held x.a s a → HeldRow x s (record { sort = x.sort; a = a; b = x.b; c = x.c })
  row_held a e d =
      record {
        sort_same = refl;
        same = λ is.
            let l = like s a x.a x.b x.c is d.same in
            text_sorts (λ k. expr_of s k a x.b x.c is ≡ expr_of s k x.a x.b x.c is) l.0 l.1.0 l.1.1 x.sort e;
        coded = λ _. let l = fits_coded s a x.b d.fits in text_sorts (λ k. fields_coded s k a x.b ≡ true) l.0 l.1.0 l.1.1 x.sort e;
      }

  pub row_itself : has_text x.sort ≡ false → HeldRow x s x
  row_itself e = record { sort_same = refl; same = λ is. refl; coded = λ r. coded_other s x.sort x.a x.b e ∙ r }

-- ---- items
pub item_held : (s : List ℕ) (x : ItemRow) (a : ℕ) → x.tag ≡ 1 → Held x.a s a → HeldItem x s (record { tag = x.tag; a = a; b = x.b })
unfolding item_of part_coded
item_held s x a e d = record { tag_same = refl; same = rw (e, d.same); coded = rw (e, d.fits) }

pub item_itself : (s : List ℕ) (x : ItemRow) → (x.tag ≡ 1 → ⊥) → HeldItem x s x
unfolding part_coded
item_itself s x e = record { tag_same = refl; same = refl; coded = rw (ne_eqb x.tag 1 e) }
