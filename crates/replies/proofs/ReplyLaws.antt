-- A reply that is too short, and a number held against how many there are. Assumes nothing.
use mathlib.Core.Path.{◌≡◌, refl, ◌∙◌}
use mathlib.Core.Bool.{Bool, true, false}
use mathlib.Core.List.{List}
use Prim.Native.Nat.{ℕ, ◌≤◌, ◌<◌}
use native.Mathlib.Omega.{arith}
use lib.ListN.{length}
use lib.Dec.{ltb}
use borrow.Author.Tests.{ltb-true, ltb-false, lt-ltb}
use Rattle.spec.specs.Calls.{Outcome, reply_bytes}
use Rattle.refusals.specs.declared.refusal.Refusal.TheVariants.{NoSuchNumber}
use Rattle.replies.specs.declared.Refused.{Refused}
use Rattle.replies.specs.Replies.{reply_after, in_count}
use Rattle.std.specs.Prelude as rust

-- it is not written
pub reply_short : (o : Outcome) (p : List ℕ) → length p < reply_bytes → p ≡ reply_after o p
unfolding reply_after
reply_short o p h = rw (lt-ltb (length p) reply_bytes h)

-- what it means that the number n is refused, or is not
module _ (n k : ℕ) (r : rust.Result (Unit {0}) Refused) (says : r ≡ in_count n k) where
  pub count_refuses : (x : Refused) → r ≡ rust.Err x → (k ≤ n) × (◌≡◌ {A = Refused} x (record { 0 = NoSuchNumber; 1 = n }))
  count_refuses x u = go (ltb n k) refl
    where
      go : (t : Bool) → ltb n k ≡ t → (k ≤ n) × (◌≡◌ {A = Refused} x (record { 0 = NoSuchNumber; 1 = n }))
      go true t =
          let told : r ≡ rust.Ok tt = says ∙ rw t in
          let z : ◌≡◌ {A = ℕ} 0 1 = cc in
          absurd (omega arith)
      go false t =
          let told : r ≡ rust.Err (record { 0 = NoSuchNumber; 1 = n }) = says ∙ rw t in
          let same : ◌≡◌ {A = Refused} x (record { 0 = NoSuchNumber; 1 = n }) = cc in
          (ltb-false n k t, same)

  pub count_passes : (u : Unit {0}) → r ≡ rust.Ok u → n < k
  count_passes u q = go (ltb n k) refl
    where
      go : (t : Bool) → ltb n k ≡ t → n < k
      go true t = ltb-true n k t
      go false t =
          let told : r ≡ rust.Err (record { 0 = NoSuchNumber; 1 = n }) = says ∙ rw t in
          let z : ◌≡◌ {A = ℕ} 0 1 = cc in
          absurd (omega arith)
