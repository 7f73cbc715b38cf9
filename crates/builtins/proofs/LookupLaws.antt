-- The first of a list of names that a text equals, as `position` says it, and as the definitions count. Assumes nothing.
use Rattle.std.specs.Prelude as rust
use Rattle.std.specs.Prelude.{Some, None, map}
use Rattle.std.specs.List.{AllWithin, HoldsAt}
use Rattle.std.specs.Option.{MatchOption}
use Rattle.std.proofs.lemmas.List.{length-map}
use denote.Ref.{Bor}
use mathlib.Core.Path.{◌≡◌, refl, sym, ap, ◌∙◌}
use mathlib.Core.Bool.{true, false}
use mathlib.Core.List.{List, [], ◌∷◌}
use mathlib.Core.Option.{none, some}
use Prim.Native.Nat.{ℕ, zero, suc, ◌+◌, ◌<◌}
use native.Mathlib.Omega.{arith}
use lib.ListN.{length}
use Rattle.words.specs.Equality.{equalb}
use Rattle.words.proofs.EqualityLaws.{equalb_refl, equalb_other}
use Rattle.spec.specs.Basics.{Text}
use Rattle.spec.specs.Answer.{builtins, index_from}
use Rattle.builtins.specs.Lookup.{builtin_of, Looked}
use Rattle.builtins.proofs.TableLaws.{count}

module _ (t : Text) where
  abbrev pub Is : Bor Text → Type 0
  Is name = name.now ≡ t

  abbrev pub IsNot : Bor Text → Type 0
  IsNot name = name.now ≡ t → ⊥

  found_at : (xs : List (Bor Text)) (k i : ℕ) → i < length xs → HoldsAt Is xs i → AllWithin IsNot xs 0 i → index_from k t (map (λ name. name.now) xs) ≡ some (k + i)
  unfolding index_from
  found_at [] k i l h n = absurd (omega arith)
  found_at (x ∷ xs) k zero l h n =
      let same : equalb x.now t ≡ true = rw (h x) (equalb_refl t) in
      let at : k ≡ k + 0 = omega arith in
      rw same (ap some at)
  found_at (x ∷ xs) k (suc i) l h n =
      let other : equalb x.now t ≡ false = equalb_other x.now t (n 0 x (omega arith) (omega arith)) in
      let at : suc k + i ≡ k + suc i = omega arith in
      rw other (found_at xs (suc k) i (omega arith) h (λ j d a b. n (suc j) d (omega arith) (omega arith)) ∙ ap some at)

  found_nowhere : (xs : List (Bor Text)) (k : ℕ) → AllWithin IsNot xs 0 (length xs) → index_from k t (map (λ name. name.now) xs) ≡ none
  unfolding index_from
  found_nowhere [] k n = refl
  found_nowhere (x ∷ xs) k n =
      let other : equalb x.now t ≡ false = equalb_other x.now t (n 0 x (omega arith) (omega arith)) in
      rw other (found_nowhere xs (suc k) (λ j d a b. n (suc j) d (omega arith) (omega arith)))

  -- of the names that there are
  pub looked : (xs : List (Bor Text)) → map (λ name. name.now) xs ≡ builtins → (r : rust.Option ℕ) → MatchOption r (AllWithin IsNot xs 0 (length xs)) (λ i. (i < length xs) × HoldsAt Is xs i × AllWithin IsNot xs 0 i) → Looked r t
  unfolding builtin_of
  looked xs says None h = record { is = sym (found_nowhere xs 0 h) ∙ ap (index_from 0 t) says; low = λ i e. cc }
  looked xs says (Some i) (l, h, n) =
      record { is = sym (found_at xs 0 i l h n ∙ ap some from_zero) ∙ ap (index_from 0 t) says; low = λ j e. rw (same e) at within }
    where
      from_zero : 0 + i ≡ i
      from_zero = omega arith

      same : {j k : ℕ} → some j ≡ some k → j ≡ k
      same z = cc

      within : i < 22
      within = omega (arith, count, ap length says, length-map xs (λ (name : Bor Text). name.now))
