-- The list of what moves, as far as it is counted or written. Assumes nothing.
use mathlib.Core.Path.{◌≡◌, refl, sym, ap, ◌∙◌}
use mathlib.Core.Bool.{Bool, true, false}
use mathlib.Core.List.{List, []}
use mathlib.Core.Option.{none}
use Prim.Native.Nat.{ℕ, suc, ◌+◌, ◌*◌, ◌≤◌, ◌<◌}
use native.Mathlib.Nat.{zero-add}
use native.Mathlib.Omega.{arith}
use lib.ListN.{length, drop, drop_of_length-le}
use lib.Seq.{drop-cons}
use Rattle.spec.specs.Basics.{Text, ExprId}
use Rattle.spec.specs.Module.{missing}
use Rattle.spec.specs.Calls.{Place}
use Rattle.spec.specs.Moved.{cons_if, passing, differing}
use Rattle.spec.specs.Kept.{Kept, moved_by}
use Rattle.spec.proofs.change.MovedLaws.{passing_single}
use Rattle.layout.specs.Rows.{set_all}
use Rattle.layout.proofs.WriteLaws.{length_all}
use Rattle.moving.specs.Moving.{differs}

-- ---- one more or none
cons_length : (b : Bool) (e : ℕ) (es : List ℕ) → length (cons_if b e es) ≡ length (cons_if b e []) + length es
unfolding cons_if
cons_length true e es = omega arith
cons_length false e es = omega arith

cons_write : (b : Bool) (e : ℕ) (es buffer : List ℕ) (at : ℕ) → set_all buffer at (cons_if b e es) ≡ set_all (set_all buffer at (cons_if b e [])) (at + 4 * length (cons_if b e [])) es
unfolding cons_if set_all
cons_write true e es buffer at = refl
cons_write false e es buffer at = let z : at + 4 * 0 ≡ at = omega arith in rw z

module _ (k : Kept) (p : Place) (t : Text) where
  -- what moves among the expressions from e on
  abbrev pub left : ℕ → List ExprId
  left e = passing (differs k p t) e (drop e k.lowered.exprs)

  all_left : moved_by k p t ≡ left 0
  unfolding moved_by differing differs
  all_left = refl

  left_next : (e : ℕ) → e < length k.lowered.exprs → left e ≡ cons_if (differs k p t e) e (left (e + 1))
  unfolding passing
  left_next e h =
      ap (passing (differs k p t) e) (drop-cons k.lowered.exprs e (record { expr = missing; pointer = none }) h)
      ∙ ap (λ (j : ℕ). cons_if (differs k p t e) e (left j)) (let n : suc e ≡ e + 1 = omega arith in n)

  left_none : (e : ℕ) → length k.lowered.exprs ≤ e → left e ≡ []
  unfolding passing
  left_none e h = rw (drop_of_length-le k.lowered.exprs h)

-- ---- counting
pub record Counting (k : Kept) (p : Place) (t : Text) (e n : ℕ) : Type 0 where
  pub sum : n + length (left k p t e) ≡ length (moved_by k p t)
  pub low : n ≤ e

pub counting_none : (k : Kept) (p : Place) (t : Text) → Counting k p t 0 0
counting_none k p t = record { sum = rw (all_left k p t) (zero-add _); low = omega arith }

module _ (k : Kept) (p : Place) (t : Text) (e n : ℕ) (c : Counting k p t e n) where
  one_low : (b : Bool) → length (cons_if b e []) ≤ 1
  unfolding cons_if
  one_low true = omega arith
  one_low false = omega arith

  pub counting_low : (r : ℕ) → r ≡ length (cons_if (differs k p t e) e []) → n + r ≤ e + 1
  counting_low r h = omega (arith, one_low (differs k p t e), c.low)

  pub counting_on : (r : ℕ) → r ≡ length (cons_if (differs k p t e) e []) → e < length k.lowered.exprs → Counting k p t (e + 1) (n + r)
  counting_on r h l =
      let s : length (left k p t e) ≡ length (cons_if (differs k p t e) e []) + length (left k p t (e + 1)) = rw (left_next k p t e l) (cons_length (differs k p t e) e (left k p t (e + 1))) in
      record { sum = omega (arith, c.sum); low = counting_low r h }

  pub counting_done : length k.lowered.exprs ≤ e → n ≡ length (moved_by k p t)
  counting_done l =
      let s : length (left k p t e) ≡ 0 = rw (left_none k p t e l) in
      omega (arith, c.sum)

-- ---- writing: what is left to be written from here is what there was to write
pub record Writing (k : Kept) (p : Place) (t : Text) (b₀ : List ℕ) (e n : ℕ) (b : List ℕ) : Type 0 where
  pub rest : set_all b₀ 0 (moved_by k p t) ≡ set_all b (4 * n) (left k p t e)
  pub sum : n + length (left k p t e) ≡ length (moved_by k p t)
  pub size : length b ≡ length b₀

pub writing_none : (k : Kept) (p : Place) (t : Text) (b : List ℕ) → Writing k p t b 0 0 b
writing_none k p t b = record { rest = rw (all_left k p t); sum = rw (all_left k p t) (zero-add _); size = refl }

module _ (k : Kept) (p : Place) (t : Text) (b₀ : List ℕ) (e n : ℕ) (b : List ℕ) (w : Writing k p t b₀ e n b) where
  pub writing_fits : 4 * length (moved_by k p t) ≤ length b₀ → e < length k.lowered.exprs → differs k p t e ≡ true → 4 * n + 4 ≤ length b
  unfolding cons_if
  writing_fits room l d =
      let s : length (left k p t e) ≡ suc (length (left k p t (e + 1))) = rw (left_next k p t e l, d) in
      omega (arith, w.sum, w.size)

  pub writing_on : (r : ℕ) (c : List ℕ) → c ≡ set_all b (4 * n) (cons_if (differs k p t e) e []) → r ≡ n + length (cons_if (differs k p t e) e []) → e < length k.lowered.exprs
      → Writing k p t b₀ (e + 1) r c
  writing_on r c q h l =
      let s : length (left k p t e) ≡ length (cons_if (differs k p t e) e []) + length (left k p t (e + 1)) = rw (left_next k p t e l) (cons_length (differs k p t e) e (left k p t (e + 1))) in
      let at : 4 * n + 4 * length (cons_if (differs k p t e) e []) ≡ 4 * r = omega arith in
      let one : set_all b (4 * n) (left k p t e) ≡ set_all (set_all b (4 * n) (cons_if (differs k p t e) e [])) (4 * n + 4 * length (cons_if (differs k p t e) e [])) (left k p t (e + 1)) =
      rw (left_next k p t e l) (cons_write (differs k p t e) e (left k p t (e + 1)) b (4 * n)) in
      record {
        rest = w.rest ∙ one ∙ rw (at, ← q);
        sum = omega (arith, w.sum);
        size = rw q (length_all b (4 * n) (cons_if (differs k p t e) e [])) ∙ w.size;
      }

  pub writing_done : length k.lowered.exprs ≤ e → b ≡ set_all b₀ 0 (moved_by k p t)
  unfolding set_all
  writing_done l = sym (w.rest ∙ rw (left_none k p t e l))

-- ---- of a Reference
pub single_moved : (k : Kept) (p : Place) (t : Text) (n : ExprId) → ((e : ExprId) → differs k p t e ≡ true → e ≡ n) → n < length k.lowered.exprs → moved_by k p t ≡ cons_if (differs k p t n) n []
single_moved k p t n only l = all_left k p t ∙ passing_single (differs k p t) n only 0 k.lowered.exprs (omega arith) (omega arith)
