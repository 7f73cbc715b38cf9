-- Laws of a line: its key, its end, and what a field makes of its value. Assumes nothing.
use Rattle.std.specs.Prelude.{if◌then◌else◌}
use Rattle.std.specs.Prelude as rust
use Rattle.std.specs.Prelude.{MatchOption, position}
use Rattle.std.specs.List.{position_or_len}
use Rattle.std.specs.Borrow.{Bor}
use lib.Pointwise.{pointwise}
use mathlib.Core.Path.{◌≡◌, refl, sym, ap, ◌∙◌}
use mathlib.Core.Bool.{Bool, true, false, ◌&&◌, cond, not}
use mathlib.Core.List.{List, [], ◌∷◌}
use mathlib.Core.Option.{Option, none, some, map}
use Prim.Native.Nat.{ℕ, suc, ◌+◌, ◌-◌, ◌≤◌, ◌<◌}
use Prim.Native.String.{String}
use native.Mathlib.Omega.{arith}
use lib.ListN.{length, take, drop, length-drop}
use lib.Seq.{drop-drop, take_all, length-take-le}
use lib.Dec.{eqb, ltb}
use borrow.Author.Tests.{ltb-true, ltb-false}
use Rattle.words.specs.Runs.{run}
use Rattle.spec.specs.Basics.{Text, bytes, maybe}
use Rattle.spec.specs.Sheet.{Fault, malformed, Got, got, bad, next, after, up_to_end, line, field, number}
use Rattle.spec.proofs.reading.Places.{after_rest, end_inside}
use Rattle.sheet.specs.Keyed.{line_of, field_of, number_of}
use Rattle.sheet.specs.Lines.{rest_of}

-- ---- the key as bytes
pub number_is : (key : String) (why : Fault) (lo hi : ℕ) (s : List ℕ) (at : ℕ) → number_of (bytes key) why lo hi s at ≡ number key why lo hi s at
unfolding line_of line field_of field number_of number
number_is key why lo hi s at = refl

-- ---- the key
after_is : (key l : List ℕ) → after key l ≡ (if pointwise eqb (take (length key) l) key then some (drop (length key) l) else none)
unfolding after
after_is [] l = refl
after_is (k ∷ ks) [] = refl
after_is (k ∷ ks) (c ∷ l) = go (eqb c k) (after_is ks l)
  where
    go : (t : Bool) → after ks l ≡ (if pointwise eqb (take (length ks) l) ks then some (drop (length ks) l) else none)
        → (if t then after ks l else none) ≡ (if t && pointwise eqb (take (length ks) l) ks then some (drop (length ks) l) else none)
    go true e = e
    go false e = refl

pub key_is : (key l m : List ℕ) → m ≡ l → (r : rust.Option (Bor (List ℕ)))
    → MatchOption r (pointwise eqb (take (length key) m) key ≡ false) (λ x. (pointwise eqb (take (length key) m) key ≡ true) × (x.now ≡ drop (length key) m) × (length x.now + length key ≡ length m))
    → rest_of r ≡ after key l
key_is key l m e rust.None h = sym (after_is key l ∙ rw (← e, h))
key_is key l m e (rust.Some x) h = sym (after_is key l ∙ rw (← e, h.0, h.1))

after_drop : (key l rest : List ℕ) → after key l ≡ some rest → rest ≡ drop (length key) l
after_drop key l rest e = go (pointwise eqb (take (length key) l) key) (sym (after_is key l) ∙ e)
  where
    go : (t : Bool) → (if t then some (drop (length key) l) else none) ≡ some rest → rest ≡ drop (length key) l
    go true f = cc
    go false f = let z : ◌≡◌ {A = ℕ} 0 1 = cc in absurd (omega arith)

-- what a slice from a place on has
pub slice_from : (s : List ℕ) (at : ℕ) → at ≤ length s → take (length s - at) (drop at s) ≡ drop at s
slice_from s at h = take_all (length s - at) (drop at s) (omega (arith, length-drop at s))

-- ---- the first place that passes a test
module _ (p : ℕ → Bool) (l : List ℕ) where
  pub first_some : (n : ℕ) → rust.Some n ≡ position p l → (n ≡ position_or_len p l) × (n < length l)
  first_some n e = go (ltb (position_or_len p l) (length l)) refl e
    where
      go : (t : Bool) → ltb (position_or_len p l) (length l) ≡ t → rust.Some n ≡ cond t (rust.Some (position_or_len p l)) rust.None → (n ≡ position_or_len p l) × (n < length l)
      go true f q = let same : n ≡ position_or_len p l = cc in (same, omega (arith, same, ltb-true (position_or_len p l) (length l) f))
      go false f q = let z : ◌≡◌ {A = ℕ} 0 1 = cc in absurd (omega arith)

  pub first_none : rust.None ≡ position p l → length l ≤ position_or_len p l
  first_none e = go (ltb (position_or_len p l) (length l)) refl e
    where
      go : (t : Bool) → ltb (position_or_len p l) (length l) ≡ t → rust.None ≡ cond t (rust.Some (position_or_len p l)) rust.None → length l ≤ position_or_len p l
      go true f q = let z : ◌≡◌ {A = ℕ} 0 1 = cc in absurd (omega arith)
      go false f q = ltb-false (position_or_len p l) (length l) f

-- ---- the end
abbrev is_end : ℕ → Bool
is_end b = eqb b 10

pub end_found : (l : List ℕ) → position_or_len is_end l < length l → up_to_end l ≡ some (take (position_or_len is_end l) l)
unfolding up_to_end
end_found [] h = absurd (omega (arith, h))
end_found (c ∷ l) h = go (eqb c 10) (end_found l) h
  where
    go : (t : Bool) → (position_or_len is_end l < length l → up_to_end l ≡ some (take (position_or_len is_end l) l)) → cond (not t) (1 + position_or_len is_end l) 0 < length (c ∷ l)
        → elim t [ true ↦ some [] | false ↦ map (λ v. c ∷ v) (up_to_end l) ] ≡ some (take (cond (not t) (1 + position_or_len is_end l) 0) (c ∷ l))
    go true f k = refl
    go false f k = let e : 1 + position_or_len is_end l ≡ suc (position_or_len is_end l) = omega arith in rw (f (omega (arith, k)), e)

pub end_missing : (l : List ℕ) → length l ≤ position_or_len is_end l → up_to_end l ≡ none
unfolding up_to_end
end_missing [] h = refl
end_missing (c ∷ l) h = go (eqb c 10) (end_missing l) h
  where
    go : (t : Bool) → (length l ≤ position_or_len is_end l → up_to_end l ≡ none) → length (c ∷ l) ≤ cond (not t) (1 + position_or_len is_end l) 0
        → ◌≡◌ {A = Option Text} (elim t [ true ↦ some [] | false ↦ map (λ v. c ∷ v) (up_to_end l) ]) none
    go true f k = absurd (omega (arith, k))
    go false f k = rw (f (omega (arith, k)))

-- ---- the whole line, by what follows its key
pub line_at : (key s : List ℕ) (at : ℕ) (rest : List ℕ) → after key (drop at s) ≡ some rest → (o : Option Text) → up_to_end rest ≡ o
    → line_of key s at ≡ maybe o (bad malformed at) (λ v. got v (at + length key + length v + 1))
unfolding line_of
line_at key s at rest e o f = rw (e, f)

-- ---- the whole line, by what was found of its key and its end
module _ (key s : List ℕ) (at : ℕ) (h : at ≤ length s) (r : rust.Option (Bor (List ℕ))) (e : rest_of r ≡ after key (drop at s)) where
  pub line_other : r ≡ rust.None → bad malformed at ≡ line_of key s at
  unfolding line_of
  line_other q = let g : none ≡ after key (drop at s) = rw q at e in rw (← g)

  module _ (rest : Bor (List ℕ)) (q : r ≡ rust.Some rest) where
    there : after key (drop at s) ≡ some rest.now
    there = sym (rw q at e)

    pub rest_is : rest.now ≡ drop (at + length key) s
    rest_is = after_drop key (drop at s) rest.now there ∙ drop-drop (length key) at s

    pub line_endless : rust.None ≡ position is_end rest.now → bad malformed at ≡ line_of key s at
    unfolding line_of
    line_endless f = rw (there, end_missing rest.now (first_none is_end rest.now f))

    pub line_long : (n : ℕ) → rust.Some n ≡ position is_end rest.now → at + length key + n < length s
    line_long n f = let k = first_some is_end rest.now n f in omega (arith, k.1, ap length rest_is, length-drop (at + length key) s)

    pub line_value : (n : ℕ) → rust.Some n ≡ position is_end rest.now
        → got (run s (at + length key) (at + length key + n - (at + length key))) (at + length key + n + 1) ≡ line_of key s at
    unfolding line_of run
    line_value n f =
        let k = first_some is_end rest.now n f in
        let found = end_found rest.now (omega (arith, k.0, k.1)) in
        let size = length-take-le n rest.now (omega (arith, k.1)) in
        let a : at + length key + n - (at + length key) ≡ n = omega arith in
        rw (there, found, ← k.0, size, a) (ap (λ (l : List ℕ). got (take n l) (at + length key + n + 1)) (sym rest_is))

-- ---- a field: by what its value gives, tested
module _ {A : Type 0} (key : Text) (parse : Text → Option A) (why : Fault) (test : A → Bool) (s : List ℕ) (at : ℕ) where
  pub field_other : (w : Fault) (place : ℕ) → line_of key s at ≡ bad w place → field_of key parse why test s at ≡ bad w place
  unfolding field_of next
  field_other w place e = rw e

  module _ (v : Text) (place : ℕ) (e : line_of key s at ≡ got v place) where
    pub field_malformed : parse v ≡ none → field_of key parse why test s at ≡ bad malformed at
    unfolding field_of next
    field_malformed f = rw (e, f)

    pub field_wrong : (a : A) → parse v ≡ some a → test a ≡ false → field_of key parse why test s at ≡ bad why at
    unfolding field_of next
    field_wrong a f t = rw (e, f, t)

    pub field_right : (a : A) → parse v ≡ some a → test a ≡ true → field_of key parse why test s at ≡ got a place
    unfolding field_of next
    field_right a f t = rw (e, f, t)

-- ---- a line that was read ends inside
pub line_inside : (key s : List ℕ) (at place : ℕ) (v : Text) → line_of key s at ≡ got v place → place ≤ length s
unfolding line_of
line_inside key s at place v e = go (after key (drop at s)) refl e
  where
    ended : (rest : List ℕ) → after key (drop at s) ≡ some rest → (o : Option Text) → up_to_end rest ≡ o
        → maybe o (bad malformed at) (λ v. got v (at + length key + length v + 1)) ≡ got v place → place ≤ length s
    ended rest p none q f = let z : ◌≡◌ {A = ℕ} 0 1 = cc in absurd (omega arith)
    ended rest p (some w) q f =
        let g : at + length key + length w + 1 ≡ place = cc in
        omega (arith, g, after_rest key (drop at s) rest p, end_inside rest w q, length-drop at s)

    go : (o : Option (List ℕ)) → after key (drop at s) ≡ o
        → maybe o (bad malformed at) (λ rest. maybe (up_to_end rest) (bad malformed at) (λ v. got v (at + length key + length v + 1))) ≡ got v place → place ≤ length s
    go none p f = let z : ◌≡◌ {A = ℕ} 0 1 = cc in absurd (omega arith)
    go (some rest) p f = ended rest p (up_to_end rest) refl f

pub field_inside : {A : Type 0} (key : Text) (parse : Text → Option A) (why : Fault) (test : A → Bool) (s : List ℕ) (at : ℕ) (a : A) (place : ℕ)
    → field_of key parse why test s at ≡ got a place → place ≤ length s
unfolding field_of next
field_inside {A} key parse why test s at a place e = go (line_of key s at) refl e
  where
    tested : (t : Bool) (b : A) (p : ℕ) → p ≤ length s → (if t then got b p else bad why at) ≡ got a place → place ≤ length s
    tested true b p h q = let g : p ≡ place = cc in omega (arith, g, h)
    tested false b p h q = let z : ◌≡◌ {A = ℕ} 0 1 = cc in absurd (omega arith)

    parsed : (o : Option A) (p : ℕ) → p ≤ length s → maybe o (bad malformed at) (λ b. if test b then got b p else bad why at) ≡ got a place → place ≤ length s
    parsed none p h q = let z : ◌≡◌ {A = ℕ} 0 1 = cc in absurd (omega arith)
    parsed (some b) p h q = tested (test b) b p h q

    go : (g : Got Text) → line_of key s at ≡ g
        → next (λ v _ p. maybe (parse v) (bad malformed at) (λ b. if test b then got b p else bad why at)) s g ≡ got a place → place ≤ length s
    go (got v p) f q = parsed (parse v) p (line_inside key s at p v f) q
    go (bad w p) f q = let z : ◌≡◌ {A = ℕ} 0 1 = cc in absurd (omega arith)
