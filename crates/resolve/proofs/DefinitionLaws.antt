-- The search for a text among the names of a scope, from the last one down. Assumes nothing.
use Rattle.std.specs.Prelude.{if◌then◌else◌}
use mathlib.Core.Path.{◌≡◌, refl, sym, ap, ◌∙◌}
use mathlib.Core.Bool.{Bool, true, false}
use mathlib.Core.List.{List, [], ◌∷◌, ◌++◌}
use mathlib.Core.Option.{Option, none, some}
use Prim.Native.Nat.{ℕ, zero, suc, ◌-◌, ◌≤◌, ◌<◌}
use native.Mathlib.Omega.{arith}
use lib.ListN.{length, take, get_or, get_elem?}
use lib.Seq.{take-suc, take-length}
use Rattle.words.specs.Equality.{equalb}
use Rattle.spec.specs.Basics.{Text}
use Rattle.spec.specs.Scopes.{ScopeKind, definitions, with_expr}
use Rattle.spec.specs.Answer.{last_with, defined_in}
use Rattle.kept.specs.Walks.{names_entered}
use Rattle.resolve.specs.Definitions.{only_with}

module _ (text_of : ℕ → Text) (t : Text) where
  last_more : (found : Option ℕ) (ys : List ℕ) (x : ℕ) → last_with text_of t found (ys ++ (x ∷ [])) ≡ (if equalb (text_of x) t then some x else last_with text_of t found ys)
  unfolding last_with
  last_more found [] x = refl
  last_more found (y ∷ ys) x = last_more (if equalb (text_of y) t then some y else found) ys x

  element : (xs : List ℕ) (i : ℕ) → i < length xs → get_elem? xs i ≡ some (get_or xs i 0)
  element [] i h = absurd (omega arith)
  element (x ∷ xs) zero h = refl
  element (x ∷ xs) (suc i) h = element xs i (omega arith)

  module _ (k : ScopeKind) where
    -- the first n names have to be looked at, and those after them were
    pub record Seeking (n : ℕ) : Type 0 where
      pub rest : defined_in text_of t k ≡ last_with text_of t none (take n (names_entered k))
      pub all : n ≤ length (names_entered k)

    pub from_last : (n : ℕ) → n ≡ length (names_entered k) → Seeking n
    unfolding defined_in last_with names_entered
    from_last n e =
        let a : take n (names_entered k) ≡ names_entered k = rw e (take-length (names_entered k)) in
        record { rest = names k ∙ ap (last_with text_of t none) (sym a); all = omega arith }
      where
        names : (l : ScopeKind) → defined_in text_of t l ≡ last_with text_of t none (names_entered l)
        names (definitions xs) = refl
        names (with_expr e) = refl

    module _ (n : ℕ) (w : Seeking n) where
      module _ (h : 0 < n) where
        -- the next name to look at
        name : ℕ
        name = get_or (names_entered k) (n - 1) 0

        here : defined_in text_of t k ≡ (if equalb (text_of name) t then some name else last_with text_of t none (take (n - 1) (names_entered k)))
        unfolding name
        here =
            let e : n ≡ suc (n - 1) = omega arith in
            let l = w.all in
            let q : take n (names_entered k) ≡ take (n - 1) (names_entered k) ++ (name ∷ []) = ap (λ m. take m (names_entered k)) e ∙ take-suc (names_entered k) (n - 1) 0 (omega arith) in
            w.rest ∙ ap (last_with text_of t none) q ∙ last_more none (take (n - 1) (names_entered k)) name

        only : (o : Option ℕ) → o ≡ only_with text_of t (get_elem? (names_entered k) (n - 1)) → o ≡ (if equalb (text_of name) t then some name else none)
        unfolding name only_with
        only o e = let l = w.all in e ∙ rw (element (names_entered k) (n - 1) (omega arith))

        pub name_found : (o : Option ℕ) (x : ℕ) → o ≡ only_with text_of t (get_elem? (names_entered k) (n - 1)) → o ≡ some x → some x ≡ defined_in text_of t k
        name_found o x e q = go (equalb (text_of name) t) refl
          where
            go : (b : Bool) → equalb (text_of name) t ≡ b → some x ≡ defined_in text_of t k
            go true z = sym q ∙ (rw z at (only o e)) ∙ sym (rw z at here)
            go false z = let v : some x ≡ none = sym q ∙ (rw z at (only o e)) in cc

        pub name_passed : (o : Option ℕ) → o ≡ only_with text_of t (get_elem? (names_entered k) (n - 1)) → o ≡ none → Seeking (n - 1)
        name_passed o e q = let l = w.all in record { rest = go (equalb (text_of name) t) refl; all = omega arith }
          where
            go : (b : Bool) → equalb (text_of name) t ≡ b → defined_in text_of t k ≡ last_with text_of t none (take (n - 1) (names_entered k))
            go true z = let v : some name ≡ none = sym (rw z at (only o e)) ∙ q in cc
            go false z = rw z at here

      pub name_lacked : n ≤ 0 → none ≡ defined_in text_of t k
      unfolding last_with
      name_lacked h = let e : n ≡ 0 = omega arith in sym (rw e at w.rest)
