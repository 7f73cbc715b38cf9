-- Which slots take a kind. Assumes nothing.
use mathlib.Core.Path.{◌≡◌, refl, ap, ◌∙◌}
use mathlib.Core.Bool.{Bool, true, false, ◌&&◌, not}
use mathlib.Core.List.{[], ◌∷◌}
use Prim.Native.Nat.{ℕ, zero, suc, ◌+◌, ◌-◌, ◌<◌, ◌≤◌}
use native.Mathlib.Omega.{arith}
use lib.Dec.{T, leb, lit<}
use lib.ListN.{get_or}
use borrow.Author.Tests.{ne_eqb, lt-leb, le-leb}
use denote.Enum.Bare.{sameb}
use Rattle.spec.specs.Kinds.{takes}
use Rattle.tree.specs.Slots.{slot_of}
use Rattle.tree.specs.contracts.slots.Slot.{the_type}
use Rattle.tree.specs.declared.slots.Slot.{Slot}
use Rattle.tree.specs.declared.slots.Slot.TheVariants.{Expression, Path, Attribute, Entry, Part, Parameter, From, Ident, Bind, PatternEntry}
use Rattle.words.proofs.Tests.{all_up_to, at_number}

abbrev same : Bool → Bool → Bool
same true b = b
same false b = not b

same_eq : (a b : Bool) → T (same a b) → a ≡ b
same_eq true true h = refl
same_eq true false h = absurd h
same_eq false true h = absurd h
same_eq false false h = refl

-- a test that passes at every slot
abbrev slot_at : ℕ → Slot
slot_at n = get_or (Expression ∷ Path ∷ Attribute ∷ Entry ∷ Part ∷ Parameter ∷ From ∷ Ident ∷ Bind ∷ PatternEntry ∷ []) n Expression

abbrev all_slots : (Slot → Bool) → Bool
all_slots P = all_up_to 10 (λ n. P (slot_at n))

at_slot : (P : Slot → Bool) → T (all_slots P) → (x : Slot) → T (P x)
at_slot P h Expression = at_number 10 (λ n. P (slot_at n)) h 0 (lit< tt)
at_slot P h Path = at_number 10 (λ n. P (slot_at n)) h 1 (lit< tt)
at_slot P h Attribute = at_number 10 (λ n. P (slot_at n)) h 2 (lit< tt)
at_slot P h Entry = at_number 10 (λ n. P (slot_at n)) h 3 (lit< tt)
at_slot P h Part = at_number 10 (λ n. P (slot_at n)) h 4 (lit< tt)
at_slot P h Parameter = at_number 10 (λ n. P (slot_at n)) h 5 (lit< tt)
at_slot P h From = at_number 10 (λ n. P (slot_at n)) h 6 (lit< tt)
at_slot P h Ident = at_number 10 (λ n. P (slot_at n)) h 7 (lit< tt)
at_slot P h Bind = at_number 10 (λ n. P (slot_at n)) h 8 (lit< tt)
at_slot P h PatternEntry = at_number 10 (λ n. P (slot_at n)) h 9 (lit< tt)

-- the kind k is taken by the slot y and by no other
abbrev pub only : Slot → ℕ → Bool
only y k = all_slots (λ x. same (sameb the_type x y) (takes (slot_of x) k))

-- so it is with all kinds of a range
pub taken_alone : (y : Slot) (from n : ℕ) → T (all_up_to n (λ i. only y (from + i))) → (k : ℕ) → from ≤ k → k < from + n → (x : Slot) (b : Bool)
    → b ≡ sameb the_type x y → b ≡ takes (slot_of x) k
taken_alone y from n h k l u x b q =
    let e : from + (k - from) ≡ k = omega arith in
    let one = at_number n (λ i. only y (from + i)) h (k - from) (omega arith) in
    q ∙ (same_eq _ _ (at_slot (λ x. same (sameb the_type x y) (takes (slot_of x) (from + (k - from)))) one x) ∙ ap (takes (slot_of x)) e)

-- a string, and a name
pub no_string : (x : Slot) (k : ℕ) → k ≡ 6 → (x ≡ Expression → ⊥) → (x ≡ Attribute → ⊥) → false ≡ takes (slot_of x) k
unfolding slot_of takes
no_string Expression k e a b = absurd (a refl)
no_string Path k e a b = rw e refl
no_string Attribute k e a b = absurd (b refl)
no_string Entry k e a b = rw e refl
no_string Part k e a b = rw e refl
no_string Parameter k e a b = rw e refl
no_string From k e a b = rw e refl
no_string Ident k e a b = rw e refl
no_string Bind k e a b = rw e refl
no_string PatternEntry k e a b = rw e refl

pub no_name : (x : Slot) (k : ℕ) → k ≡ 18 → (x ≡ Expression → ⊥) → (x ≡ Attribute → ⊥) → (x ≡ Ident → ⊥)
    → false ≡ takes (slot_of x) k
unfolding slot_of takes
no_name Expression k e a b d = absurd (a refl)
no_name Path k e a b d = rw e refl
no_name Attribute k e a b d = absurd (b refl)
no_name Entry k e a b d = rw e refl
no_name Part k e a b d = rw e refl
no_name Parameter k e a b d = rw e refl
no_name From k e a b d = rw e refl
no_name Ident k e a b d = absurd (d refl)
no_name Bind k e a b d = rw e refl
no_name PatternEntry k e a b d = rw e refl

-- the other kinds up to 22 are expressions alone
pub expression_alone : (k : ℕ) → 1 ≤ k → k ≤ 22 → (k ≡ 6 → ⊥) → (k ≡ 18 → ⊥) → (x : Slot) (b : Bool) → b ≡ sameb the_type x Expression
    → b ≡ takes (slot_of x) k
unfolding slot_of takes
expression_alone k l u s i Expression b e = e ∙ rw (le-leb 1 k l, le-leb k 22 u) refl
expression_alone k l u s i Path b e = e ∙ rw (ne_eqb k 23 (λ e. omega arith)) refl
expression_alone k l u s i Attribute b e =
    e ∙ rw (ne_eqb k 6 s, ne_eqb k 18 i, ne_eqb k 24 (λ e. omega arith)) refl
expression_alone k l u s i Entry b e =
    e ∙ rw (ne_eqb k 25 (λ e. omega arith), ne_eqb k 26 (λ e. omega arith)) refl
expression_alone k l u s i Part b e =
    e ∙ rw (ne_eqb k 32 (λ e. omega arith), ne_eqb k 33 (λ e. omega arith)) refl
expression_alone k l u s i Parameter b e =
    e ∙ rw (ne_eqb k 28 (λ e. omega arith), ne_eqb k 29 (λ e. omega arith)) refl
expression_alone k l u s i From b e = e ∙ rw (ne_eqb k 27 (λ e. omega arith)) refl
expression_alone k l u s i Ident b e = e ∙ rw (ne_eqb k 18 i) refl
expression_alone k l u s i Bind b e = e ∙ rw (ne_eqb k 30 (λ e. omega arith)) refl
expression_alone k l u s i PatternEntry b e = e ∙ rw (ne_eqb k 31 (λ e. omega arith)) refl

-- no slot takes a number that is no kind
pub beyond : (x : Slot) (k : ℕ) → (0 < k → 33 < k) → false ≡ takes (slot_of x) k
unfolding slot_of takes
beyond Expression zero h = refl
beyond Expression (suc k) h = rw (lt-leb (suc k) 22 (omega arith)) (never (leb 1 (suc k)))
  where
    never : (b : Bool) → false ≡ (b && false)
    never true = refl
    never false = refl
beyond Path k h = rw (ne_eqb k 23 (λ e. omega arith))
beyond Attribute k h = rw (ne_eqb k 6 (λ e. omega arith), ne_eqb k 18 (λ e. omega arith), ne_eqb k 24 (λ e. omega arith))
beyond Entry k h = rw (ne_eqb k 25 (λ e. omega arith), ne_eqb k 26 (λ e. omega arith))
beyond Part k h = rw (ne_eqb k 32 (λ e. omega arith), ne_eqb k 33 (λ e. omega arith))
beyond Parameter k h = rw (ne_eqb k 28 (λ e. omega arith), ne_eqb k 29 (λ e. omega arith))
beyond From k h = rw (ne_eqb k 27 (λ e. omega arith))
beyond Ident k h = rw (ne_eqb k 18 (λ e. omega arith))
beyond Bind k h = rw (ne_eqb k 30 (λ e. omega arith))
beyond PatternEntry k h = rw (ne_eqb k 31 (λ e. omega arith))
