-- The four ways of a load: the reply or the store is too short, the sheet is refused, or the store is filled. Assumes
-- nothing.
use Rattle.std.specs.Prelude as rust
use mathlib.Core.Path.{◌≡◌, refl, sym, ap, ◌∙◌}
use mathlib.Core.Bool.{or-true}
use mathlib.Core.List.{List, []}
use Prim.Native.Nat.{ℕ, ◌≤◌, ◌<◌}
use native.Mathlib.Omega.{arith}
use lib.ListN.{length}
use lib.Dec.{ltb}
use borrow.Author.Tests.{le-ltb, lt-ltb}
use Rattle.spec.specs.Sheet.{Judged}
use Rattle.spec.specs.Tree.{judge}
use Rattle.spec.specs.Calls.{refusal, reply_bytes, loading}
use Rattle.spec.proofs.reading.Refusals.{refused_place}
use Rattle.refusals.specs.Numbers.{number_of}
use Rattle.sheet.specs.Sheets.{answer, numbered}
use Rattle.sheet.specs.declared.position.Position.{Position}
use Rattle.sheet.specs.declared.faults.SheetRefused.{SheetRefused}
use Rattle.layout.specs.Layout.{Long, store_bytes}
use Rattle.soundness.specs.Sound.{condition_of}
use Rattle.replies.specs.Replies.{returned, reply_after, load_outcome, Told, ToldMoved}
use Rattle.replies.proofs.ReplyLaws.{reply_short}
use Rattle.load.specs.Loads.{judged_in, Leaves}
use Rattle.load.specs.Filled.{Fills}

same_error : {A B : Type 0} {x y : B} → ◌≡◌ {A = rust.Result A B} (rust.Err x) (rust.Err y) → x ≡ y
same_error e = cc

-- the three clauses of a load
abbrev pub Promise : List ℕ → List ℕ → List ℕ → ℕ → List ℕ → List ℕ → Type 0
Promise sheet s p r t q =
    (r ≡ returned (load_outcome (judged_in sheet s p))) × ((q ≡ reply_after (load_outcome (judged_in sheet s p)) p) × Leaves (judged_in sheet s p) s t)

-- a place fits the four bytes of a word
pub place_fits : (sheet : List ℕ) (a : rust.Result (ℕ × Position) SheetRefused) → numbered a ≡ answer sheet (judge sheet) → (x : SheetRefused) → a ≡ rust.Err x → x.place < 4294967296
unfolding answer
place_fits sheet a e x h = by_judged (judge sheet) refl (sym (ap numbered h) ∙ e)
  where
    by_judged : (j : Judged) → judge sheet ≡ j → rust.Err (number_of x.why, x.place) ≡ answer sheet j → x.place < 4294967296
    by_judged (Judged.accepted ns) i k = let z : ◌≡◌ {A = ℕ} 0 1 = cc in absurd (omega arith)
    by_judged (Judged.refused n v) i k = omega (arith, ap (λ (k : ℕ × ℕ). k.1) (same_error k), refused_place sheet n v i)

-- what becomes of the sheet
module _ (sheet s p : List ℕ) where
  short_reply : length p < reply_bytes → judged_in sheet s p ≡ Judged.refused 21 0
  unfolding judged_in loading condition_of
  short_reply h = rw (lt-ltb (length p) reply_bytes h, or-true (ltb (length s) store_bytes))

  short_store : length s < store_bytes → judged_in sheet s p ≡ Judged.refused 21 0
  unfolding judged_in loading condition_of
  short_store h = rw (lt-ltb (length s) store_bytes h)

  by_sheet : Long s → reply_bytes ≤ length p → judged_in sheet s p ≡ judge sheet
  unfolding judged_in loading condition_of
  by_sheet l h = rw (le-ltb (length s) store_bytes l, le-ltb (length p) reply_bytes h)

  promised : {r : ℕ} {q : List ℕ} (t : List ℕ) (j : Judged) → judged_in sheet s p ≡ j → Told (load_outcome j) p r q → Leaves j s t → Promise sheet s p r t q
  promised t j e told leaves = rw e (told.number, (told.reply, leaves))

  -- 21
  pub reply_too_short : length p < reply_bytes → Promise sheet s p 21 s p
  unfolding load_outcome Leaves returned
  reply_too_short h = promised s (Judged.refused 21 0) (short_reply h) (record { number = refl; reply = reply_short (refusal 21 0) p h }) refl

  pub store_too_short : {r : ℕ} {q : List ℕ} → length s < store_bytes → Told (refusal 21 0) p r q → Promise sheet s p r s q
  unfolding load_outcome Leaves
  store_too_short h told = promised s (Judged.refused 21 0) (short_store h) told refl

  -- 1 to 7 or 31 to 33, or none
  module _ (long : Long s) (room : reply_bytes ≤ length p) (a : rust.Result (ℕ × Position) SheetRefused) (e : numbered a ≡ answer sheet (judge sheet)) where
    pub sheet_refused : (x : SheetRefused) (number : ℕ) {r : ℕ} {q : List ℕ} → a ≡ rust.Err x → number ≡ number_of x.why → Told (refusal number x.place) p r q → Promise sheet s p r s q
    unfolding answer load_outcome Leaves
    sheet_refused x number {r} {q} h same told = by_judged (judge sheet) refl (sym (ap numbered h) ∙ e)
      where
        by_judged : (j : Judged) → judge sheet ≡ j → rust.Err (number_of x.why, x.place) ≡ answer sheet j → Promise sheet s p r s q
        by_judged (Judged.accepted ns) i k = let z : ◌≡◌ {A = ℕ} 0 1 = cc in absurd (omega arith)
        by_judged (Judged.refused n v) i k =
            let number_is : number ≡ n = same ∙ ap (λ (k : ℕ × ℕ). k.0) (same_error k) in
            let place_is : x.place ≡ v = ap (λ (k : ℕ × ℕ). k.1) (same_error k) in
            promised s (Judged.refused n v) (by_sheet long room ∙ i) (rw (number_is, place_is) at told) refl

    pub sheet_accepted : (count : ℕ) (first : Position) {r : ℕ} {t q : List ℕ} → a ≡ rust.Ok (count, first) → Fills sheet s t → ToldMoved 0 p r q → Promise sheet s p r t q
    unfolding answer load_outcome Leaves
    sheet_accepted count first {r} {t} {q} h fills told = by_judged (judge sheet) refl (sym (ap numbered h) ∙ e)
      where
        by_judged : (j : Judged) → judge sheet ≡ j → rust.Ok (count, first) ≡ answer sheet j → Promise sheet s p r t q
        by_judged (Judged.accepted ns) i k = promised t (Judged.accepted ns) (by_sheet long room ∙ i) (told.says [] refl) (fills.does ns i)
        by_judged (Judged.refused n v) i k = let z : ◌≡◌ {A = ℕ} 0 1 = cc in absurd (omega arith)
