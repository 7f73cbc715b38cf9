-- The expressions that are answered with a name: from which number on they are, what one expression more adds, and that
-- an expression is in one list at most. Assumes nothing.
use mathlib.Core.Path.{◌≡◌, refl, sym, ◌∙◌}
use mathlib.Core.Bool.{Bool, true, false}
use mathlib.Core.List.{List, [], ◌∷◌}
use mathlib.Core.Option.{Option, none, some}
use Prim.Native.Nat.{ℕ, zero, suc, ◌+◌, ◌≤◌, ◌<◌}
use native.Mathlib.Omega.{arith}
use native.Mathlib.Numerals.{add-one}
use lib.ListN.{length, get_or, drop, length-drop, get_or-eq_default, drop_of_length-le}
use lib.Seq.{drop-cons}
use lib.Dec.{eqb, ltb}
use borrow.Author.Tests.{eq-eqb, ne_eqb, eqb-true, ltb-true, ltb-false}
use Rattle.words.specs.Order.{pick}
use Rattle.words.specs.Words.{word}
use Rattle.spec.specs.Answer.{Answer, unresolved, definition, builtin, withs, means}
use Rattle.spec.specs.Kept.{kept_answer, answered_with}
use Rattle.layout.specs.Layout.{expr_limit, reference_limit, expr_count}
use Rattle.layout.specs.Rows.{cap, rows_to}
use Rattle.layout.specs.Keeps.{answer_in, kept_in}
use Rattle.layout.proofs.RowLaws.{length_rows, cap_lim}
use Rattle.kept.specs.References.{listed_by}
use Rattle.kept.proofs.ReferenceLaws.{listed_more}
use Rattle.answer.specs.Answers.{meant}
use Rattle.listing.specs.Links.{answered_from}

-- ---- numbers from lo on, before hi
abbrev pub Within : ℕ → ℕ → List ℕ → Type 0
Within lo hi [] = Unit {0}
Within lo hi (e ∷ es) = ((lo ≤ e) × (e < hi)) × Within lo hi es

within_less : (lo hi : ℕ) (es : List ℕ) → Within (suc lo) hi es → Within lo hi es
within_less lo hi [] w = tt
within_less lo hi (e ∷ es) w = let h = w.0 in ((omega arith, omega arith), within_less lo hi es w.1)

answered_within : (x e hi : ℕ) (as' : List (Option Answer)) → e + length as' ≤ hi → Within e hi (answered_with x e as')
unfolding answered_with
answered_within x e hi [] h = tt
answered_within x e hi (a ∷ as') h = go (means x a) (within_less e hi (answered_with x (suc e) as') (answered_within x (suc e) hi as' (omega arith)))
  where
    go : (b : Bool) → Within e hi (answered_with x (suc e) as') → Within e hi (pick b (e ∷ answered_with x (suc e) as') (answered_with x (suc e) as'))
    go true w = ((omega arith, omega arith), w)
    go false w = w

-- ---- the answers of a store
pub length_answers : (s : List ℕ) → length (kept_in s).answers ≡ cap (word s expr_count) expr_limit
unfolding kept_in
length_answers s = length_rows (answer_in s) (cap (word s expr_count) expr_limit)

pub from_within : (s : List ℕ) (e x : ℕ) → e ≤ expr_limit → Within e expr_limit (answered_from s e x)
unfolding answered_from
from_within s e x h =
    let as' = (kept_in s).answers in
    let l = length_answers s in
    let c = cap_lim (word s expr_count) expr_limit in
    let d = length-drop e as' in
    answered_within x e expr_limit (drop e as') (omega arith)

-- each of them is an expression in use
pub from_used : (s : List ℕ) (x k : ℕ) → k < length (answered_from s 0 x) → get_or (answered_from s 0 x) k 0 < cap (word s expr_count) expr_limit
unfolding answered_from
from_used s x k h =
    let as' = (kept_in s).answers in
    let l = length_answers s in
    let d = length-drop 0 as' in
    within_at 0 (cap (word s expr_count) expr_limit) (answered_with x 0 (drop 0 as')) (answered_within x 0 (cap (word s expr_count) expr_limit) (drop 0 as') (omega arith)) k h
  where
    within_at : (lo hi : ℕ) (es : List ℕ) → Within lo hi es → (i : ℕ) → i < length es → get_or es i 0 < hi
    within_at lo hi [] w i q = absurd (omega arith)
    within_at lo hi (e ∷ es) w zero q = w.0.1
    within_at lo hi (e ∷ es) w (suc i) q = within_at lo hi es w.1 i (omega arith)

-- past the last expression nothing is answered
pub from_end : (s : List ℕ) (e x : ℕ) → cap (word s expr_count) expr_limit ≤ e → answered_from s e x ≡ []
unfolding answered_from answered_with
from_end s e x h =
    let z : length (kept_in s).answers ≤ e = rw (length_answers s) h in
    rw (drop_of_length-le (kept_in s).answers z)

-- ---- one expression more, by the name that it means
means_none : (x : ℕ) (a : Option Answer) → meant a ≡ none → means x a ≡ false
unfolding meant means
means_none x none h = refl
means_none x (some unresolved) h = refl
means_none x (some (definition y)) h = let z : ◌≡◌ {A = ℕ} 0 1 = cc in absurd (omega arith)
means_none x (some (builtin i)) h = refl
means_none x (some (withs es)) h = refl

means_some : (x y : ℕ) (a : Option Answer) → meant a ≡ some y → means x a ≡ eqb x y
unfolding meant means
means_some x y none h = let z : ◌≡◌ {A = ℕ} 0 1 = cc in absurd (omega arith)
means_some x y (some unresolved) h = let z : ◌≡◌ {A = ℕ} 0 1 = cc in absurd (omega arith)
means_some x y (some (definition z)) h = let q : z ≡ y = cc in rw q
means_some x y (some (builtin i)) h = let z : ◌≡◌ {A = ℕ} 0 1 = cc in absurd (omega arith)
means_some x y (some (withs es)) h = let z : ◌≡◌ {A = ℕ} 0 1 = cc in absurd (omega arith)

past_answers : (s : List ℕ) (e : ℕ) → length (kept_in s).answers ≤ e → kept_answer (kept_in s) e ≡ none
unfolding kept_answer
past_answers s e l = get_or-eq_default (kept_in s).answers none l

no_name : (x : ℕ) (a : Option Answer) → a ≡ none → meant a ≡ some x → ⊥
unfolding meant
no_name x none q z = let y : ◌≡◌ {A = ℕ} 0 1 = cc in omega arith
no_name x (some a) q z = let y : ◌≡◌ {A = ℕ} 0 1 = cc in omega arith

module _ (s : List ℕ) (e : ℕ) where
  from_step : (x : ℕ) → e < length (kept_in s).answers → answered_from s e x ≡ pick (means x (kept_answer (kept_in s) e)) (e ∷ answered_from s (e + 1) x) (answered_from s (e + 1) x)
  unfolding answered_from answered_with kept_answer
  from_step x h = rw (drop-cons (kept_in s).answers e none h, add-one e)

  -- one that does not mean x
  pub from_other : (x : ℕ) → means x (kept_answer (kept_in s) e) ≡ false → answered_from s e x ≡ answered_from s (e + 1) x
  from_other x h = go (ltb e (length (kept_in s).answers)) refl
    where
      go : (b : Bool) → ltb e (length (kept_in s).answers) ≡ b → answered_from s e x ≡ answered_from s (e + 1) x
      go true q = from_step x (ltb-true e (length (kept_in s).answers) q) ∙ rw h
      go false q =
          let l : cap (word s expr_count) expr_limit ≤ e = rw (length_answers s) at (ltb-false e (length (kept_in s).answers) q) in
          from_end s e x l ∙ sym (from_end s (e + 1) x (omega arith))

  pub from_none : (x : ℕ) → meant (kept_answer (kept_in s) e) ≡ none → answered_from s e x ≡ answered_from s (e + 1) x
  from_none x h = from_other x (means_none x (kept_answer (kept_in s) e) h)

  pub from_else : (x y : ℕ) → meant (kept_answer (kept_in s) e) ≡ some y → (x ≡ y → ⊥) → answered_from s e x ≡ answered_from s (e + 1) x
  from_else x y h ne = from_other x (means_some x y (kept_answer (kept_in s) e) h ∙ ne_eqb x y ne)

  -- one that means it
  pub from_own : (x : ℕ) → meant (kept_answer (kept_in s) e) ≡ some x → answered_from s e x ≡ e ∷ answered_from s (e + 1) x
  from_own x h = go (ltb e (length (kept_in s).answers)) refl
    where
      go : (b : Bool) → ltb e (length (kept_in s).answers) ≡ b → answered_from s e x ≡ e ∷ answered_from s (e + 1) x
      go true q = from_step x (ltb-true e (length (kept_in s).answers) q) ∙ rw (means_some x x (kept_answer (kept_in s) e) h, eq-eqb x x refl)
      go false q = absurd (no_name x (kept_answer (kept_in s) e) (past_answers s e (ltb-false e (length (kept_in s).answers) q)) h)

-- ---- all lists together have no more than there are answers
-- how many of the first n names an answer means
hits : Option Answer → ℕ → ℕ
hits a zero = 0
hits a (suc n) = hits a n + pick (means n a) 1 0

hits_none : (a : Option Answer) → ((x : ℕ) → means x a ≡ false) → (n : ℕ) → hits a n ≡ 0
unfolding hits
hits_none a h zero = refl
hits_none a h (suc n) = let k = hits_none a h n in rw (h n) (omega arith)

hits_one : (y n : ℕ) → (hits (some (definition y)) n ≤ 1) × (n ≤ y → hits (some (definition y)) n ≡ 0)
unfolding hits means
hits_one y zero = (omega arith, λ l. refl)
hits_one y (suc n) = go (eqb n y) refl (hits_one y n)
  where
    go : (b : Bool) → eqb n y ≡ b → (hits (some (definition y)) n ≤ 1) × (n ≤ y → hits (some (definition y)) n ≡ 0)
        → (hits (some (definition y)) n + pick (eqb n y) 1 0 ≤ 1) × (suc n ≤ y → hits (some (definition y)) n + pick (eqb n y) 1 0 ≡ 0)
    go true q h =
        let e = eqb-true n y q in
        let z = h.1 (omega arith) in
        rw q (omega arith, λ l. absurd (omega arith))
    go false q h = let z = h.0 in rw q (omega arith, λ l. let k = h.1 (omega arith) in omega arith)

hits_few : (a : Option Answer) (n : ℕ) → hits a n ≤ 1
unfolding means
hits_few none n = let z = hits_none none (λ x. refl) n in omega arith
hits_few (some unresolved) n = let z = hits_none (some unresolved) (λ x. refl) n in omega arith
hits_few (some (definition y)) n = (hits_one y n).0
hits_few (some (builtin i)) n = let z = hits_none (some (builtin i)) (λ x. refl) n in omega arith
hits_few (some (withs es)) n = let z = hits_none (some (withs es)) (λ x. refl) n in omega arith

one_more_lem : (e : ℕ) (a : Option Answer) (as' : List (Option Answer)) (n : ℕ)
    → listed_by (rows_to (λ x. answered_with x e (a ∷ as')) n) ≡ hits a n + listed_by (rows_to (λ x. answered_with x (suc e) as') n)
unfolding rows_to hits answered_with listed_by
one_more_lem e a as' zero = refl
one_more_lem e a as' (suc n) =
    let h = one_more_lem e a as' n in
    let p = listed_more (rows_to (λ x. answered_with x e (a ∷ as')) n) (answered_with n e (a ∷ as')) in
    let q = listed_more (rows_to (λ x. answered_with x (suc e) as') n) (answered_with n (suc e) as') in
    let r : length (pick (means n a) (e ∷ answered_with n (suc e) as') (answered_with n (suc e) as')) ≡ pick (means n a) 1 0 + length (answered_with n (suc e) as') = go (means n a) in
    omega arith
  where
    go : (b : Bool) → length (pick b (e ∷ answered_with n (suc e) as') (answered_with n (suc e) as')) ≡ pick b 1 0 + length (answered_with n (suc e) as')
    go true = omega arith
    go false = omega arith

no_more : (n : ℕ) → listed_by (rows_to (λ x. []) n) ≡ 0
unfolding rows_to listed_by
no_more zero = refl
no_more (suc n) = let h = no_more n in let p = listed_more (rows_to (λ x. []) n) [] in omega arith

answered_few : (e : ℕ) (as' : List (Option Answer)) (n : ℕ) → listed_by (rows_to (λ x. answered_with x e as') n) ≤ length as'
unfolding answered_with
answered_few e [] n = let h = no_more n in omega arith
answered_few e (a ∷ as') n =
    let h = one_more_lem e a as' n in
    let k = hits_few a n in
    let l = answered_few (suc e) as' n in
    omega arith

-- THEOREM. The references of all names together fit.
pub references_fit : (s : List ℕ) (x : ℕ) → listed_by (rows_to (answered_from s 0) x) + length (answered_from s 0 x) ≤ reference_limit
unfolding answered_from rows_to
references_fit s x =
    let as' = (kept_in s).answers in
    let h = answered_few 0 as' (suc x) in
    let p = listed_more (rows_to (λ y. answered_with y 0 as') x) (answered_with x 0 as') in
    let l = length_answers s in
    let c = cap_lim (word s expr_count) expr_limit in
    omega arith
