-- Steps on a state, in do-notation: lowering goes in steps on what has been lowered so far, walking in steps on the
-- scopes so far.
use Rattle.std.specs.Prelude.{Bool, true, false, List, [], ◌∷◌}

-- from a state to a result and the state after it
abbrev pub Step : Type 0 → Type 0 → Type 0
Step S A = S → A × S

infixl 1 ◌>>=◌
unfoldable pub ◌>>=◌ : {S A B : Type 0} → Step S A → (A → Step S B) → Step S B
◌>>=◌ p f st = f (p st).0 (p st).1

unfoldable pub give : {S A : Type 0} → A → Step S A
give a st = (a, st)

unfoldable pub asks : {S A : Type 0} → (S → A) → Step S A
asks f st = (f st, st)

-- one of two steps
unfoldable pub when : {S A : Type 0} → Bool → Step S A → Step S A → Step S A
when true p q = p
when false p q = q

-- a step for each item of a list in turn, and what they gave
unfoldable pub each : {S A B : Type 0} → (A → Step S B) → List A → Step S (List B)
each f [] = give []
each f (x ∷ xs) = do
  y ← f x
  ys ← each f xs
  give (y ∷ ys)

-- the same where nothing is given
unfoldable pub each_of : {S A : Type 0} → (A → Step S (Unit {0})) → List A → Step S (Unit {0})
each_of f [] = give tt
each_of f (x ∷ xs) = f x >>= λ _. each_of f xs
