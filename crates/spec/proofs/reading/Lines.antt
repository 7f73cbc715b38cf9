-- A line that was read says its value, that it passed its test, and where the next line begins. Assumes nothing.
use mathlib.Core.Path.{◌≡◌, refl, sym, ap, ◌∙◌}
use mathlib.Core.Bool.{Bool, true, false, ◌&&◌, and-eq-true_iff}
use mathlib.Core.List.{List}
use mathlib.Core.Option.{Option, none, some}
use Prim.Native.Nat.{ℕ, ◌+◌, ◌≤◌}
use Prim.Native.String.{String}
use native.Mathlib.Omega.{arith}
use lib.ListN.{length, drop}
use lib.Dec.{leb}
use borrow.Author.Tests.{leb-true}
use Rattle.words.specs.Order.{pick}
use Rattle.spec.specs.Basics.{Text, bytes, maybe}
use Rattle.spec.specs.Sheet.{Fault, malformed, Got, got, bad, Reader, next, after, up_to_end, line, field, decimal, number}

-- ---- what a reader gave
pub record Read {A B : Type 0} (f : A → Reader B) (s : List ℕ) (r : Got A) (b : B) (at : ℕ) : Type 0 where
  pub value : A
  pub place : ℕ
  pub first : r ≡ got value place
  pub rest : f value s place ≡ got b at

pub read : {A B : Type 0} (f : A → Reader B) (s : List ℕ) (r : Got A) (b : B) (at : ℕ) → next f s r ≡ got b at → Read f s r b at
unfolding next
read f s (got a place) b at e = record { value = a; place = place; first = refl; rest = e }
read f s (bad w place) b at e = let z : ◌≡◌ {A = ℕ} 0 1 = cc in absurd (omega arith)

-- ---- a line that was read
line_place : (key : String) (s : List ℕ) (at : ℕ) (v : Text) (to : ℕ) → line key s at ≡ got v to → to ≡ at + length (bytes key) + length v + 1
unfolding line
line_place key s at v to e = after_key_lem (after (bytes key) (drop at s)) e
  where
    value : (r : Option Text) → ◌≡◌ {A = Got Text} (maybe r (bad malformed at) (λ v. got v (at + length (bytes key) + length v + 1))) (got v to)
        → to ≡ at + length (bytes key) + length v + 1
    value none e = let z : ◌≡◌ {A = ℕ} 0 1 = cc in absurd (omega arith)
    value (some u) e = let same : u ≡ v = cc in let place : at + length (bytes key) + length u + 1 ≡ to = cc in omega (arith, ap length same)

    after_key_lem : (r : Option (List ℕ))
        → ◌≡◌ {A = Got Text} (maybe r (bad malformed at) (λ rest. maybe (up_to_end rest) (bad malformed at) (λ v. got v (at + length (bytes key) + length v + 1)))) (got v to)
        → to ≡ at + length (bytes key) + length v + 1
    after_key_lem none e = let z : ◌≡◌ {A = ℕ} 0 1 = cc in absurd (omega arith)
    after_key_lem (some rest) e = value (up_to_end rest) e

-- what stands in a line that was read, that it passed its test, and where the next one is
pub record Line {A : Type 0} (key : String) (parse : Text → Option A) (test : A → Bool) (at : ℕ) (a : A) (to : ℕ) : Type 0 where
  pub value : Text
  pub parsed : parse value ≡ some a
  pub passed : test a ≡ true
  pub place : to ≡ at + length (bytes key) + length value + 1

pub field_line : {A : Type 0} (key : String) (parse : Text → Option A) (why : Fault) (test : A → Bool) (s : List ℕ) (at : ℕ) (a : A) (to : ℕ)
    → field key parse why test s at ≡ got a to → Line key parse test at a to
unfolding field
field_line {A} key parse why test s at a to e =
    let z = read _ s (line key s at) a to e in
    let l = line_place key s at z.value z.place z.first in
    go z.value z.place l (parse z.value) refl z.rest
  where
    tested : (v : Text) (place : ℕ) → place ≡ at + length (bytes key) + length v + 1 → (b : A) → parse v ≡ some b → (t : Bool) → test b ≡ t
        → ◌≡◌ {A = Got A} (pick t (got b place) (bad why at)) (got a to) → Line key parse test at a to
    tested v place l b p true h e =
        let same : b ≡ a = cc in
        let there : place ≡ to = cc in
        record { value = v; parsed = p ∙ ap some same; passed = ap test (sym same) ∙ h; place = sym there ∙ l }
    tested v place l b p false h e = let z : ◌≡◌ {A = ℕ} 0 1 = cc in absurd (omega arith)

    go : (v : Text) (place : ℕ) → place ≡ at + length (bytes key) + length v + 1 → (r : Option A) → parse v ≡ r
        → ◌≡◌ {A = Got A} (maybe r (bad malformed at) (λ a. pick (test a) (got a place) (bad why at))) (got a to) → Line key parse test at a to
    go v place l none p e = let z : ◌≡◌ {A = ℕ} 0 1 = cc in absurd (omega arith)
    go v place l (some b) p e = tested v place l b p (test b) refl e

-- a number is within its limits
pub number_within : (key : String) (why : Fault) (lo hi : ℕ) (s : List ℕ) (at v to : ℕ) → number key why lo hi s at ≡ got v to → (lo ≤ v) × (v ≤ hi)
unfolding number
number_within key why lo hi s at v to e =
    let l = field_line key decimal why (λ n. leb lo n && leb n hi) s at v to e in
    let z = (and-eq-true_iff (leb lo v) (leb v hi)).0 l.passed in
    (leb-true lo v z.0, leb-true v hi z.1)
