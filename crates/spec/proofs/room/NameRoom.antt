-- All scopes of a lowered module together hold no more names than there are. Assumes nothing.
use mathlib.Core.Path.{◌≡◌, refl}
use mathlib.Core.List.{List, [], ◌∷◌}
use Prim.Native.Nat.{ℕ, zero, suc, ◌+◌, ◌≤◌, ◌<◌}
use native.Mathlib.Omega.{arith}
use lib.ListN.{length}
use Rattle.spec.specs.Basics.{NameId}
use Rattle.spec.specs.Sheet.{Node}
use Rattle.spec.specs.Lower.{lower_module}
use Rattle.spec.specs.Scopes.{ScopeKind, definitions, with_expr, Scope, scopes_of}
use Rattle.spec.specs.Kept.{kept_of, loaded}
use Rattle.spec.proofs.general.Sums.{sum_by, All, same, same_is, compared}
use Rattle.spec.proofs.once.Weights.{up_to}
use Rattle.spec.proofs.once.Once.{held_by, held, held_few}
use Rattle.spec.proofs.once.Linear.{lowered_entered_once}
use Rattle.spec.proofs.sound.Ordered.{AllBelow}
use Rattle.spec.proofs.sound.ScopeRange.{KindIn}
use Rattle.spec.proofs.sound.Sound.{lowered_sound}

-- the names that a scope holds, and that all hold
abbrev pub entered_in : ScopeKind → ℕ
entered_in (definitions xs) = length xs
entered_in (with_expr e) = 0

abbrev pub names_entered : List Scope → ℕ
names_entered ss = sum_by (λ s. entered_in s.kind) ss

-- ---- each counted by its number
up_to_add : (f g : ℕ → ℕ) (n : ℕ) → up_to (λ x. f x + g x) n ≡ up_to f n + up_to g n
up_to_add f g zero = refl
up_to_add f g (suc n) = let h = up_to_add f g n in omega arith

up_to_one : (y n : ℕ) → y < n → 1 ≤ up_to (λ x. same x y) n
up_to_one y zero l = absurd (omega arith)
up_to_one y (suc n) l = compared n y (λ p. rw p (let h = same_is y in omega arith)) (λ p. let h = up_to_one y n (omega arith) in omega arith)

up_to_few : (f : ℕ → ℕ) → ((x : ℕ) → f x ≤ 1) → (n : ℕ) → up_to f n ≤ n
up_to_few f h zero = omega arith
up_to_few f h (suc n) = let k = up_to_few f h n in let l = h n in omega arith

names_counted : (n : ℕ) (xs : List NameId) → AllBelow n xs → length xs ≤ up_to (λ x. sum_by (same x) xs) n
names_counted n [] a = omega arith
names_counted n (y ∷ ys) a =
    let h = names_counted n ys a.1 in
    let k = up_to_one y n a.0 in
    let l = up_to_add (λ x. same x y) (λ x. sum_by (same x) ys) n in
    omega arith

scopes_counted : (n e : ℕ) (ss : List Scope) → All (λ s. KindIn n e s.kind) ss → names_entered ss ≤ up_to (λ x. held x ss) n
scopes_counted n e [] a = omega arith
scopes_counted n e (s ∷ ss) a =
    let h = scopes_counted n e ss a.1 in
    let k = one s.kind a.0 in
    let l = up_to_add (λ x. held_by x s.kind) (λ x. held x ss) n in
    omega arith
  where
    one : (k : ScopeKind) → KindIn n e k → entered_in k ≤ up_to (λ x. held_by x k) n
    one (definitions xs) b = names_counted n xs b
    one (with_expr d) b = omega arith

-- THEOREM. The scopes of a lowered module hold together at most as many names as there are.
pub entered_room : (nodes : List Node) → names_entered (scopes_of (lower_module nodes)).scopes ≤ length (lower_module nodes).names
unfolding loaded kept_of
entered_room nodes =
    let m = lower_module nodes in
    let ss = (scopes_of m).scopes in
    let h = scopes_counted (length m.names) (length m.exprs) ss (lowered_sound nodes).scopes.kinds in
    let k = up_to_few (λ x. held x ss) (λ x. held_few m x (lowered_entered_once nodes x)) (length m.names) in
    omega arith
