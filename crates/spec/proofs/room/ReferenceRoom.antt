-- All names together keep no more references than there are References, each being answered with one name at most.
-- Assumes nothing.
use mathlib.Core.Path.{◌≡◌, refl, sym, ap, ◌∙◌}
use mathlib.Core.Bool.{Bool, true, false}
use mathlib.Core.List.{List, [], ◌∷◌}
use mathlib.Core.Option.{Option, none, some}
use Prim.Native.Nat.{ℕ, suc, ◌+◌, ◌≤◌, ◌<◌}
use native.Mathlib.Nat.{zero-add, add-zero, add-suc, suc-add}
use native.Mathlib.Omega.{arith}
use lib.ListN.{length, get_or}
use Rattle.words.specs.Order.{pick}
use Rattle.spec.specs.Basics.{Text, ExprId, NameId, maybe}
use Rattle.spec.specs.Module.{missing, Made, Module}
use Rattle.spec.specs.Scopes.{Scopes, made_at, expr_at}
use Rattle.spec.specs.Answer.{Answer, unresolved, definition, builtin, withs, reference_text, means, answer_of, answer, references}
use Rattle.spec.specs.Kept.{Kept, tabulate, answers_afresh, references_afresh, answered_with}
use Rattle.spec.proofs.general.ListLaws.{tabulate_same}
use Rattle.spec.proofs.general.Sums.{sum_by, same, same_le, same_not, compared}
use Rattle.spec.proofs.change.Incremental.{Afresh, references_are}
use Rattle.spec.proofs.steps.Filling.{referring, references_in}

-- all that the names keep
abbrev pub kept_count : List (List ExprId) → ℕ
kept_count rs = sum_by length rs

-- 1 for an answer
abbrev present : Option Answer → ℕ
present a = maybe a 0 (λ _. 1)

-- ---- a function's values from j on, as many as there are items in a list, summed
abbrev span : {A : Type 0} → (ℕ → ℕ) → ℕ → List A → ℕ
span g j [] = 0
span g j (x ∷ xs) = g j + span g (suc j) xs

module _ {A : Type 0} where
  span_tabulate : {B : Type 0} (c : B → ℕ) (f : ℕ → B) (j : ℕ) (xs : List A) → sum_by c (tabulate f j xs) ≡ span (λ i. c (f i)) j xs
  unfolding tabulate
  span_tabulate c f j [] = refl
  span_tabulate c f j (x ∷ xs) = let h = span_tabulate c f (suc j) xs in omega arith

  span_add : (f g h : ℕ → ℕ) → ((i : ℕ) → f i ≡ g i + h i) → (j : ℕ) (xs : List A) → span f j xs ≡ span g j xs + span h j xs
  span_add f g h e j [] = refl
  span_add f g h e j (x ∷ xs) = let k = span_add f g h e (suc j) xs in let l = e j in omega arith

  span_zero : (f : ℕ → ℕ) → ((i : ℕ) → f i ≡ 0) → (j : ℕ) (xs : List A) → span f j xs ≡ 0
  span_zero f e j [] = refl
  span_zero f e j (x ∷ xs) = let k = span_zero f e (suc j) xs in let l = e j in omega arith

  -- a number is one of those at most once
  span_same : (y j : ℕ) (xs : List A) → (span (λ x. same x y) j xs ≤ 1) × (y < j → span (λ x. same x y) j xs ≤ 0)
  span_same y j [] = (omega arith, λ l. omega arith)
  span_same y j (x ∷ xs) =
      let h = span_same y (suc j) xs in
      compared j y
      (λ p. let b = h.1 (omega arith) in let c = same_le j y in (omega arith, λ l. absurd (omega arith)))
      (λ p. let c = same_not j y p in let a = h.0 in (omega arith, λ l. let b = h.1 (omega arith) in omega arith))

-- ---- an answer is the definition of one name at most
abbrev meant : NameId → Option Answer → ℕ
meant x a = pick (means x a) 1 0

meant_once : {A : Type 0} (a : Option Answer) (j : ℕ) (xs : List A) → span (λ x. meant x a) j xs ≤ present a
unfolding means
meant_once none j xs = let h = span_zero (λ x. 0) (λ i. refl) j xs in omega arith
meant_once (some unresolved) j xs = let h = span_zero (λ x. 0) (λ i. refl) j xs in omega arith
meant_once (some (definition y)) j xs = (span_same y j xs).0
meant_once (some (builtin i)) j xs = let h = span_zero (λ x. 0) (λ i. refl) j xs in omega arith
meant_once (some (withs es)) j xs = let h = span_zero (λ x. 0) (λ i. refl) j xs in omega arith

answered_first : (x : NameId) (e : ExprId) (a : Option Answer) (as' : List (Option Answer))
    → length (answered_with x e (a ∷ as')) ≡ meant x a + length (answered_with x (suc e) as')
unfolding answered_with
answered_first x e a as' = go (means x a)
  where
    go : (b : Bool) → length (pick b (e ∷ answered_with x (suc e) as') (answered_with x (suc e) as')) ≡ pick b 1 0 + length (answered_with x (suc e) as')
    go true = omega arith
    go false = omega arith

answered_few : {A : Type 0} (e : ExprId) (as' : List (Option Answer)) (j : ℕ) (xs : List A) → span (λ x. length (answered_with x e as')) j xs ≤ sum_by present as'
unfolding answered_with
answered_few e [] j xs = let h = span_zero (λ x. 0) (λ i. refl) j xs in omega arith
answered_few e (a ∷ as') j xs =
    let h = span_add (λ x. length (answered_with x e (a ∷ as'))) (λ x. meant x a) (λ x. length (answered_with x (suc e) as')) (λ x. answered_first x e a as') j xs in
    let k = meant_once a j xs in
    let l = answered_few (suc e) as' j xs in
    omega arith

-- ---- only a Reference is answered
answers_few : (m : Module) (w : Scopes) (e : ExprId) (ds : List Made) → ((j : ℕ) → get_or ds j (record { expr = missing; pointer = none }) ≡ made_at m (e + j))
    → sum_by present (tabulate (answer m w) e ds) ≡ references_in ds
unfolding tabulate answer answer_of expr_at
answers_few m w e [] h = refl
answers_few m w e (d ∷ ds) h =
    let here : made_at m e ≡ d = ap (made_at m) (sym (add-zero e)) ∙ sym (h 0) in
    let p : present (answer m w e) ≡ referring d.expr = go (reference_text (expr_at m e)) ∙ ap (λ (q : Made). referring q.expr) here in
    let k = answers_few m w (suc e) ds (λ j. h (suc j) ∙ rw (add-suc, ← suc-add)) in
    omega arith
  where
    go : (o : Option Text) → present (answer_of m w e o) ≡ maybe o 0 (λ _. 1)
    go none = refl
    go (some t) = refl

-- THEOREM. What the names keep, as it is worked out afresh, is at most as much as there are References.
pub references_room : (k : Kept) → Afresh k → kept_count k.references ≤ references_in k.lowered.exprs
unfolding references_afresh answers_afresh made_at
references_room k fresh =
    let m = k.lowered in
    let w = k.scopes in
    let r : kept_count k.references ≡ span (λ x. length (answered_with x 0 (answers_afresh m w))) 0 m.names =
    ap kept_count (fresh.references ∙ tabulate_same (references m w) (λ x. answered_with x 0 (answers_afresh m w)) (references_are m w) 0 m.names)
    ∙ span_tabulate length (λ x. answered_with x 0 (answers_afresh m w)) 0 m.names in
    let a = answered_few 0 (answers_afresh m w) 0 m.names in
    let b : sum_by present (answers_afresh m w) ≡ references_in m.exprs = answers_few m w 0 m.exprs (λ j. rw zero-add) in
    omega arith
