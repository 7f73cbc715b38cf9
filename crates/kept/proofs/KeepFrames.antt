-- What a write leaves as it was of the whole module, of scopes, of kept answers and of kept references: if it lies
-- outside what they are read from. Assumes nothing.
use mathlib.Core.Path.{◌≡◌, refl}
use mathlib.Core.Bool.{Bool, true, false, ◌||◌, and-eq-true_iff, or-true}
use mathlib.Core.List.{List, [], ◌∷◌}
use Prim.Native.Nat.{ℕ, ◌+◌, ◌*◌, ◌≤◌}
use native.Mathlib.Omega.{arith}
use lib.Dec.{leb}
use borrow.Author.Tests.{le-leb, leb-true}
use Rattle.words.specs.Words.{word}
use Rattle.spec.specs.Lower.{module_of}
use Rattle.layout.specs.Layout.{expr_limit, name_limit, reference_limit, expr_row, use_row, expr_count, name_count, scope_count, exprs_at, expr_pointers_at, names_at, diagnostics_at, lost_at, uses_at, firsts_at, references_at, waiting_at}
use Rattle.layout.specs.Rows.{cap, rows_to}
use Rattle.layout.specs.Changes.{Range, Wrote, Still}
use Rattle.layout.specs.Exprs.{sort_of}
use Rattle.layout.specs.States.{state_of, module_in}
use Rattle.layout.specs.Keeps.{first_entered, scope_of, scopes_in, answer_in, first_reference, references_of}
use Rattle.layout.proofs.RowLaws.{rows_same, between_same, cap_lim}
use Rattle.layout.proofs.Frames.{Same, apart, same_on, number_kept, exprs_kept, names_kept, diagnostics_kept, lost_kept}
use Rattle.kept.proofs.ScopeLaws.{scopes_same, placed_same, scopes_are}

-- a part of a range that meets none of some others meets none of them
pub apart_part : (rs : List Range) (lo hi a b : ℕ) → lo ≤ a → b ≤ hi → apart (lo, hi) rs ≡ true → apart (a, b) rs ≡ true
apart_part [] lo hi a b h k e = refl
apart_part (r ∷ rs) lo hi a b h k e =
    let z = (and-eq-true_iff (leb hi r.0 || leb r.1 lo) (apart (lo, hi) rs)).0 e in
    rw (side (leb hi r.0) refl z.0) (apart_part rs lo hi a b h k z.1)
  where
    side : (x : Bool) → leb hi r.0 ≡ x → (x || leb r.1 lo) ≡ true → (leb b r.0 || leb r.1 a) ≡ true
    side true p q = let l = leb-true hi r.0 p in rw (le-leb b r.0 (omega arith))
    side false p q = let l = leb-true r.1 lo q in rw (le-leb r.1 a (omega arith)) (or-true (leb b r.0))

-- the kept references of a name are told by where they begin and end, and by themselves
pub references_same : (s t : List ℕ) (x m : ℕ) → Same s t (firsts_at + 4 * x) (firsts_at + 4 * x + 8) → Same s t references_at (references_at + 4 * m) → cap (first_reference s (x + 1)) reference_limit ≤ m → references_of t x ≡ references_of s x
unfolding references_of first_reference
references_same s t x m w v h =
    let a = w (firsts_at + 4 * x) (omega arith) (omega arith) in
    let b = w (firsts_at + 4 * (x + 1)) (omega arith) (omega arith) in
    rw (a, b) (between_same (λ j. word t (references_at + 4 * j)) (λ j. word s (references_at + 4 * j)) (cap (word s (firsts_at + 4 * x)) reference_limit) (cap (word s (firsts_at + 4 * (x + 1))) reference_limit) (λ k p q. v (references_at + 4 * k) (omega arith) (omega arith)))

-- the kept answer of an expression by the scopes, its sort and its row
pub answer_same : (s t : List ℕ) (e : ℕ) → scopes_in t ≡ scopes_in s → sort_of t e ≡ sort_of s e → word t (uses_at + use_row * e) ≡ word s (uses_at + use_row * e) → word t (uses_at + use_row * e + 4) ≡ word s (uses_at + use_row * e + 4) → answer_in t e ≡ answer_in s e
unfolding answer_in scope_of
answer_same s t e a b c d = rw (a, b, c, d)

module _ {rs : List Range} {s t : List ℕ} (w : Wrote rs s t) where
  pub module_kept : Still s t → apart (0, 20) rs ≡ true → apart (exprs_at, uses_at) rs ≡ true → module_in t ≡ module_in s
  unfolding module_in module_of state_of
  module_kept still c e =
      let within : (a b : ℕ) → exprs_at ≤ a → b ≤ uses_at → apart (a, b) rs ≡ true = λ a b h k. apart_part rs exprs_at uses_at a b h k e in
      let header : (a b : ℕ) → b ≤ 20 → apart (a, b) rs ≡ true = λ a b k. apart_part rs 0 20 a b (omega arith) k c in
      rw (
        number_kept w 16 (header 16 20 (omega arith)),
        exprs_kept w still (header 0 4 (omega arith)) (within exprs_at names_at (omega arith) (omega arith)),
        names_kept w still (header 4 8 (omega arith)) (within names_at diagnostics_at (omega arith) (omega arith)),
        diagnostics_kept w still (header 8 12 (omega arith)) (within diagnostics_at lost_at (omega arith) (omega arith)),
        lost_kept w (header 12 16 (omega arith)) (within lost_at uses_at (omega arith) (omega arith)),
      )

  pub scopes_kept : apart (0, 4) rs ≡ true → apart (20, 24) rs ≡ true → apart (uses_at, firsts_at) rs ≡ true → scopes_in t ≡ scopes_in s
  scopes_kept c d e =
      let v = same_on uses_at firsts_at w e in
      scopes_are (scopes_in t) (scopes_in s)
      (scopes_same s t name_limit (number_kept w scope_count d) (λ j p q. v j (omega arith) (omega arith)) (λ j p q. v j (omega arith) (omega arith)) (λ i h. cap_lim (first_entered s (i + 1)) name_limit))
      (placed_same s t (number_kept w expr_count c) (λ j p q. v j (omega arith) (omega arith)))

  pub references_kept : apart (4, 8) rs ≡ true → apart (firsts_at, waiting_at) rs ≡ true → rows_to (references_of t) (cap (word t name_count) name_limit) ≡ rows_to (references_of s) (cap (word s name_count) name_limit)
  references_kept c e =
      let v = same_on firsts_at waiting_at w e in
      let l = cap_lim (word s name_count) name_limit in
      rw (number_kept w name_count c) (rows_same (references_of t) (references_of s) (cap (word s name_count) name_limit) (λ x h. references_same s t x reference_limit (λ j p q. v j (omega arith) (omega arith)) (λ j p q. v j (omega arith) (omega arith)) (cap_lim (first_reference s (x + 1)) reference_limit)))

  pub answers_kept : apart (0, 4) rs ≡ true → apart (20, 24) rs ≡ true → apart (exprs_at, expr_pointers_at) rs ≡ true → apart (uses_at, firsts_at) rs ≡ true → rows_to (answer_in t) (cap (word t expr_count) expr_limit) ≡ rows_to (answer_in s) (cap (word s expr_count) expr_limit)
  unfolding sort_of
  answers_kept c d a e =
      let v = same_on uses_at firsts_at w e in
      let u = same_on exprs_at expr_pointers_at w a in
      let l = cap_lim (word s expr_count) expr_limit in
      let k = scopes_kept c d e in
      rw (number_kept w expr_count c) (rows_same (answer_in t) (answer_in s) (cap (word s expr_count) expr_limit) (λ i h. answer_same s t i k (u (exprs_at + expr_row * i + 4) (omega arith) (omega arith)) (v (uses_at + use_row * i) (omega arith) (omega arith)) (v (uses_at + use_row * i + 4) (omega arith) (omega arith))))
