-- Laws of hex, and of the rules for texts. Assumes nothing.
use Rattle.std.specs.Prelude as rust
use Rattle.std.specs.Prelude.{position}
use Rattle.std.specs.List.{position_or_len}
use Rattle.std.specs.Borrow.{Bor}
use Rattle.std.specs.Bool.{MatchBool}
use Rattle.std.specs.List.{AllWithin, HoldsAt}
use Rattle.std.specs.Simd.{first_chunks}
use Rattle.std.specs.Int.{from_be_bytes}
use Rattle.std.proofs.lemmas.List.Sums.{position_or_len_is, fails_before_first, passes_at_first}
use Rattle.std.proofs.lemmas.List.{get_or-take, get_or-map, take_more, take_all}
use mathlib.Core.Path.{◌≡◌, refl, sym, ap, ◌∙◌}
use mathlib.Core.Bool.{Bool, true, false, ◌&&◌, not}
use mathlib.Core.List.{List, [], ◌∷◌, append-nil}
use mathlib.Core.List.{map as mapped}
use mir.Syntax.{w64}
use mathlib.Core.Option.{Option, none, some, map}
use Prim.Native.Nat.{ℕ, zero, suc, ◌+◌, ◌-◌, ◌*◌, ◌/◌, ◌%◌, ◌≤◌, ◌<◌}
use native.Mathlib.Omega.{arith}
use native.Mathlib.Decide.{dec_lt}
use lib.ListN.{length, get_or, take, drop, set, length-drop, drop_of_length-le}
use lib.Seq.{length-take-le, drop-cons}
use lib.Dec.{eqb, leb, ltb}
use borrow.Author.Tests.{le-leb, leb-true, ltb-true, ltb-false, le-ltb, eq-eqb, ne_eqb, eqb-true, eqb-false}
use Rattle.words.specs.Runs.{run, splice}
use Rattle.words.proofs.RunLaws.{splice_is, splice_after}
use Rattle.spec.specs.Basics.{Text, bytes, maybe}
use Rattle.spec.specs.Kinds.{TextRule, no_text, any_text, digits, float, named}
use Rattle.spec.specs.Sheet.{is_digit, all_digits, hex_digit, hex, bits_from, is_float, is_empty, text_fits, malformed, got, bad, after, up_to_end, wrong_text}
use Rattle.sheet.specs.Keyed.{field_of}
use Rattle.sheet.specs.Lines.{rest_of}
use Rattle.sheet.specs.Verdicts.{Formed}
use Rattle.sheet.specs.Texts.{is_there, is_hex, digit_of, decoded}
use Rattle.sheet.proofs.DecimalLaws.{digit_is}
use Rattle.sheet.proofs.LineLaws.{line_at, line_other, rest_is, field_other, field_malformed, field_right, first_some, first_none, end_found, end_missing}

-- ---- a digit
hex_number : (c : ℕ) → 48 ≤ c → c ≤ 57 → hex_digit c ≡ some (c - 48)
unfolding hex_digit
hex_number c h k = rw (digit_is c h k)

outside : (a b c : ℕ) → (a ≤ c → c ≤ b → ⊥) → (leb a c && leb c b) ≡ false
outside a b c n = go (leb a c) (leb c b) refl refl
  where
    go : (x y : Bool) → leb a c ≡ x → leb c b ≡ y → (x && y) ≡ false
    go true true e f = absurd (n (leb-true a c e) (leb-true c b f))
    go true false e f = refl
    go false y e f = refl

hex_letter : (c : ℕ) → 97 ≤ c → c ≤ 102 → hex_digit c ≡ some (c - 87)
unfolding hex_digit is_digit
hex_letter c h k = rw (outside 48 57 c (λ a b. omega arith), le-leb 97 c h, le-leb c 102 k)

hex_other : (c : ℕ) → (48 ≤ c → c ≤ 57 → ⊥) → (97 ≤ c → c ≤ 102 → ⊥) → hex_digit c ≡ none
unfolding hex_digit is_digit
hex_other c n m = rw (outside 48 57 c n, outside 97 102 c m)

module _ (c : ℕ) where
  pub is_number : 48 ≤ c → c ≤ 57 → true ≡ is_hex c
  unfolding is_hex
  is_number h k = rw (hex_number c h k)

  pub is_letter : 97 ≤ c → c ≤ 102 → true ≡ is_hex c
  unfolding is_hex
  is_letter h k = rw (hex_letter c h k)

  pub is_other : (48 ≤ c → c ≤ 57 → ⊥) → (97 ≤ c → c ≤ 102 → ⊥) → false ≡ is_hex c
  unfolding is_hex
  is_other n m = rw (hex_other c n m)

  pub of_number : 48 ≤ c → c ≤ 57 → (c - 48 ≡ digit_of c) × (c - 48 < 16)
  unfolding digit_of
  of_number h k = (rw (hex_number c h k), omega arith)

  pub of_letter : 97 ≤ c → c ≤ 102 → (10 + (c - 97) ≡ digit_of c) × (10 + (c - 97) < 16)
  unfolding digit_of
  of_letter h k = (rw (hex_letter c h k) (omega arith), omega arith)

  pub of_other : (48 ≤ c → c ≤ 57 → ⊥) → (97 ≤ c → c ≤ 102 → ⊥) → (0 ≡ digit_of c) × (0 < 16)
  unfolding digit_of
  of_other n m = (rw (hex_other c n m), omega arith)

-- ---- hex gives the decoded bytes, where the text is hex
there_pair : (a b : ℕ) (l : Text) → is_there (hex (a ∷ b ∷ l)) ≡ (is_hex a && (is_hex b && is_there (hex l)))
unfolding hex is_hex
there_pair a b l = go (hex_digit a) (hex_digit b) (hex l)
  where
    go : (x y : Option ℕ) (z : Option Text)
        → is_there (maybe x none (λ x. maybe y none (λ y. map (λ t. (16 * x + y) ∷ t) z))) ≡ (is_there x && (is_there y && is_there z))
    go none y z = refl
    go (some x) none z = refl
    go (some x) (some y) none = refl
    go (some x) (some y) (some z) = refl

pub text_agree : (v t : Text) → hex v ≡ some t → t ≡ decoded v
unfolding hex decoded digit_of
text_agree [] t e = cc
text_agree (a ∷ []) t e = cc
text_agree (a ∷ b ∷ l) t e = go (hex_digit a) (hex_digit b) (hex l) (text_agree l) e
  where
    go : (x y : Option ℕ) (z : Option Text) → ((u : Text) → z ≡ some u → u ≡ decoded l)
        → maybe x none (λ x. maybe y none (λ y. map (λ t. (16 * x + y) ∷ t) z)) ≡ some t
        → t ≡ (16 * maybe x 0 (λ x. x) + maybe y 0 (λ x. x)) ∷ decoded l
    go none y z f q = cc
    go (some x) none z f q = cc
    go (some x) (some y) none f q = cc
    go (some x) (some y) (some z) f q = let w : (16 * x + y) ∷ z ≡ t = cc in sym w ∙ ap (λ (u : Text). (16 * x + y) ∷ u) (f z refl)

pub hex_decoded : (v : Text) → is_there (hex v) ≡ true → hex v ≡ some (decoded v)
hex_decoded v e = go (hex v) refl e
  where
    go : (o : Option Text) → hex v ≡ o → is_there o ≡ true → o ≡ some (decoded v)
    go none f q = cc
    go (some t) f q = ap some (text_agree v t f)

-- ---- which texts are hex
abbrev AllHex : Text → Type 0
AllHex v = (k : ℕ) → k < length v → is_hex (get_or v k 0) ≡ true

-- one byte that is no digit spoils a text
pub hex_spoiled : (v : Text) (i : ℕ) → i < length v → is_hex (get_or v i 0) ≡ false → is_there (hex v) ≡ false
unfolding hex
hex_spoiled [] i h e = absurd (omega (arith, h))
hex_spoiled (a ∷ []) i h e = refl
hex_spoiled (a ∷ b ∷ l) zero h e = there_pair a b l ∙ rw e
hex_spoiled (a ∷ b ∷ l) (suc zero) h e = there_pair a b l ∙ rw e (go (is_hex a))
  where
    go : (t : Bool) → (t && false) ≡ false
    go true = refl
    go false = refl
hex_spoiled (a ∷ b ∷ l) (suc (suc i)) h e = there_pair a b l ∙ rw (hex_spoiled l i (omega (arith, h)) e) (go (is_hex a) (is_hex b))
  where
    go : (t u : Bool) → (t && (u && false)) ≡ false
    go true true = refl
    go true false = refl
    go false u = refl

-- and so does a digit alone
pub hex_odd : (v : Text) (n : ℕ) → length v ≡ 2 * n + 1 → is_there (hex v) ≡ false
unfolding hex
hex_odd [] n e = absurd (omega (arith, e))
hex_odd (a ∷ []) n e = refl
hex_odd (a ∷ b ∷ l) zero e = absurd (omega (arith, e))
hex_odd (a ∷ b ∷ l) (suc n) e = there_pair a b l ∙ rw (hex_odd l n (omega (arith, e))) (go (is_hex a) (is_hex b))
  where
    go : (t u : Bool) → (t && (u && false)) ≡ false
    go true true = refl
    go true false = refl
    go false u = refl

pub hex_even : (v : Text) (n : ℕ) → length v ≡ 2 * n → AllHex v → is_there (hex v) ≡ true
unfolding hex
hex_even [] n e d = refl
hex_even (a ∷ []) n e d = absurd (omega (arith, e))
hex_even (a ∷ b ∷ l) zero e d = absurd (omega (arith, e))
hex_even (a ∷ b ∷ l) (suc n) e d =
    there_pair a b l ∙ rw (d 0 (omega arith), d 1 (omega arith), hex_even l n (omega (arith, e)) (λ k h. d (suc (suc k)) (omega (arith, h))))

pub hex_none : (v : Text) → is_there (hex v) ≡ false → hex v ≡ none
hex_none v e = go (hex v) e
  where
    go : (o : Option Text) → is_there o ≡ false → o ≡ none
    go none q = refl
    go (some t) q = cc

-- ---- the line of a text: where the digits end
abbrev is_none : ℕ → Bool
is_none c = not (is_hex c)

abbrev is_end : ℕ → Bool
is_end b = eqb b 10

not_false : (t : Bool) → not t ≡ false → t ≡ true
not_false true e = refl
not_false false e = cc

not_true : (t : Bool) → not t ≡ true → t ≡ false
not_true true e = cc
not_true false e = refl

-- byte 10 is no digit
end_other : (c : ℕ) → c ≡ 10 → is_hex c ≡ true → ⊥
end_other c e q =
    let f : false ≡ is_hex c = is_other c (λ a b. omega arith) (λ a b. omega arith) in
    let g : false ≡ true = f ∙ q in
    let z : ◌≡◌ {A = ℕ} 0 1 = cc in
    omega arith

some_same : {A : Type 0} {x y : A} → some x ≡ some y → x ≡ y
some_same e = cc

module _ (rest : Text) where
  -- no end: all bytes are digits
  pub text_endless : rust.None ≡ position is_none rest → up_to_end rest ≡ none
  text_endless e = end_missing rest (go (ltb (position_or_len is_end rest) (length rest)) refl)
    where
      go : (t : Bool) → ltb (position_or_len is_end rest) (length rest) ≡ t → length rest ≤ position_or_len is_end rest
      go true f =
          let k = ltb-true (position_or_len is_end rest) (length rest) f in
          let all = first_none is_none rest e in
          absurd (end_other _ (eqb-true _ 10 (passes_at_first is_end rest 0 k))
          (not_false _ (fails_before_first is_none rest (position_or_len is_end rest) 0 (omega arith))))
      go false f = ltb-false (position_or_len is_end rest) (length rest) f

  module _ (n : ℕ) (e : rust.Some n ≡ position is_none rest) where
    at_n : (n ≡ position_or_len is_none rest) × (n < length rest)
    at_n = first_some is_none rest n e

    digit_before : (k : ℕ) → k < n → is_hex (get_or rest k 0) ≡ true
    digit_before k h = not_false _ (fails_before_first is_none rest k 0 (omega (arith, at_n.0)))

    none_here : is_hex (get_or rest n 0) ≡ false
    none_here = rw (at_n.0) (not_true _ (passes_at_first is_none rest 0 (omega (arith, at_n.0, at_n.1))))

    long : length (take n rest) ≡ n
    long = length-take-le n rest (omega (arith, at_n.1))

    pub text_ended : get_or rest n 0 ≡ 10 → up_to_end rest ≡ some (take n rest)
    text_ended q =
        let p = position_or_len_is is_end rest n 0 (omega (arith, at_n.1)) (λ k h. ne_eqb (get_or rest k 0) 10 (λ z. end_other _ z (digit_before k h))) (λ h. eq-eqb (get_or rest n 0) 10 q) in
        end_found rest (omega (arith, p, at_n.1)) ∙ rw p

    pub text_odd : (m : ℕ) → n ≡ 2 * m + 1 → hex (take n rest) ≡ none
    text_odd m q = hex_none (take n rest) (hex_odd (take n rest) m (long ∙ q))

    pub text_even : (m : ℕ) → n ≡ 2 * m → hex (take n rest) ≡ some (decoded (take n rest))
    text_even m q = hex_decoded (take n rest) (hex_even (take n rest) m (long ∙ q) (λ k h. ap is_hex (get_or-take n rest k 0 (omega (arith, long))) ∙ digit_before k (omega (arith, long))))

    -- another byte: the line does not end, or its text has that byte
    pub text_spoiled : (get_or rest n 0 ≡ 10 → ⊥) → (v : Text) → up_to_end rest ≡ some v → hex v ≡ none
    text_spoiled q v f = go (ltb (position_or_len is_end rest) (length rest)) refl
      where
        below : (e : ℕ) → get_or rest e 0 ≡ 10 → n < e
        below e z = by (dec_lt n e) (dec_lt e n)
          where
            by : Dec (n < e) → Dec (e < n) → n < e
            by (yes h) m = h
            by (no l) (yes h) = absurd (end_other _ z (digit_before e h))
            by (no l) (no m) = let s : n ≡ e = omega (arith, l, m) in absurd (q (rw s z))

        go : (t : Bool) → ltb (position_or_len is_end rest) (length rest) ≡ t → hex v ≡ none
        go true g =
            let k = ltb-true (position_or_len is_end rest) (length rest) g in
            let ten : get_or rest (position_or_len is_end rest) 0 ≡ 10 = eqb-true _ 10 (passes_at_first is_end rest 0 k) in
            let same : take (position_or_len is_end rest) rest ≡ v = some_same (sym (end_found rest k) ∙ f) in
            let size = length-take-le (position_or_len is_end rest) rest (omega arith) in
            let before = below (position_or_len is_end rest) ten in
            rw (← same) (hex_none _ (hex_spoiled _ n (omega (arith, before, size)) (ap is_hex (get_or-take (position_or_len is_end rest) rest n 0 before) ∙ none_here)))
        go false g = let w : none ≡ some v = sym (end_missing rest (ltb-false (position_or_len is_end rest) (length rest) g)) ∙ f in cc

-- ---- the line of a text, whatever its kind
abbrev any : Text → Bool
any t = true

abbrev key : Text
key = bytes "text="

module _ (s : List ℕ) (at : ℕ) (h : at ≤ length s) where
  -- no text: malformed
  text_bad : (rest : Text) → after key (drop at s) ≡ some rest → ((v : Text) → up_to_end rest ≡ some v → hex v ≡ none) → bad malformed at ≡ field_of key hex wrong_text any s at
  text_bad rest e f = go (up_to_end rest) refl
    where
      go : (o : Option Text) → up_to_end rest ≡ o → bad malformed at ≡ field_of key hex wrong_text any s at
      go none g = sym (field_other key hex wrong_text any s at malformed at (line_at key s at rest e none g))
      go (some v) g = sym (field_malformed key hex wrong_text any s at v _ (line_at key s at rest e (some v) g) (f v g))

  module _ (r : rust.Option (Bor (List ℕ))) (e : rest_of r ≡ after key (drop at s)) where
    pub text_other : r ≡ rust.None → bad malformed at ≡ field_of key hex wrong_text any s at
    text_other q = sym (field_other key hex wrong_text any s at malformed at (sym (line_other key s at h r e q)))

    module _ (rest : Bor (List ℕ)) (q : r ≡ rust.Some rest) where
      there : after key (drop at s) ≡ some rest.now
      there = sym (rw q at e)

      pub text_no_end : rust.None ≡ position is_none rest.now → bad malformed at ≡ field_of key hex wrong_text any s at
      text_no_end f = text_bad rest.now there (λ v g. let z : none ≡ some v = sym (text_endless rest.now f) ∙ g in cc)

      module _ (n : ℕ) (f : rust.Some n ≡ position is_none rest.now) where
        pub text_half : n % 2 ≡ 1 → bad malformed at ≡ field_of key hex wrong_text any s at
        text_half g = text_bad rest.now there (λ v k. by v k (eqb (get_or rest.now n 0) 10) refl)
          where
            by : (v : Text) → up_to_end rest.now ≡ some v → (t : Bool) → eqb (get_or rest.now n 0) 10 ≡ t → hex v ≡ none
            by v k true ten =
                let w : take n rest.now ≡ v = some_same (sym (text_ended rest.now n f (eqb-true (get_or rest.now n 0) 10 ten)) ∙ k) in
                rw (← w) (text_odd rest.now n f (n / 2) (omega arith))
            by v k false other = text_spoiled rest.now n f (eqb-false (get_or rest.now n 0) 10 other) v k

        pub text_other_byte : (get_or rest.now n 0 ≡ 10 → ⊥) → bad malformed at ≡ field_of key hex wrong_text any s at
        text_other_byte g = text_bad rest.now there (text_spoiled rest.now n f g)

        pub text_inside : n < length rest.now
        text_inside = (at_n rest.now n f).1

        pub text_long : at + 5 + n < length s
        text_long = omega (arith, text_inside, ap length (rest_is key s at h r e rest q), length-drop (at + 5) s)

        module _ (even : n % 2 ≡ 1 → ⊥) (ten : get_or rest.now n 0 ≡ 10) where
          spanned : run s (at + 5) (at + 5 + n - (at + 5)) ≡ take n rest.now
          unfolding run
          spanned = let a : at + 5 + n - (at + 5) ≡ n = omega arith in rw a (ap (take n) (sym (rest_is key s at h r e rest q)))

          is_text : hex (take n rest.now) ≡ some (decoded (take n rest.now))
          is_text = text_even rest.now n f (n / 2) (omega arith)

          pub text_value : got (decoded (run s (at + 5) (at + 5 + n - (at + 5)))) (at + 5 + n + 1) ≡ field_of key hex wrong_text any s at
          text_value =
              let l = length-take-le n rest.now (omega (arith, text_inside)) in
              let line = line_at key s at rest.now there _ (text_ended rest.now n f ten) in
              rw spanned (sym (field_right key hex wrong_text any s at (take n rest.now) _ (rw l at line) (decoded (take n rest.now)) is_text refl))

          pub text_formed : Formed hex decoded any s (record { start = at + 5; end = at + 5 + n })
          text_formed = record { ordered = omega arith; within = text_long; formed = rw spanned is_text; fits = refl }

pub length_decoded : (v : Text) → length (decoded v) ≡ length v / 2
unfolding decoded
length_decoded [] = refl
length_decoded (a ∷ []) = refl
length_decoded (a ∷ b ∷ v) = let e = length_decoded v in omega arith

-- ---- two digits each
abbrev pub byte_of : List ℕ → ℕ
byte_of p = 16 * digit_of (get_or p 0 0) + digit_of (get_or p 1 0)

length-first_chunks : (n : ℕ) (v : Text) → length (first_chunks 2 n v) ≡ n
length-first_chunks zero v = refl
length-first_chunks (suc n) v = ap suc (length-first_chunks n (drop 2 v))

decoded_pairs : (v : Text) (n : ℕ) → n ≡ length v / 2 → decoded v ≡ mapped byte_of (first_chunks 2 n v)
unfolding decoded
decoded_pairs [] zero e = refl
decoded_pairs [] (suc n) e = absurd (omega (arith, e))
decoded_pairs (a ∷ []) zero e = refl
decoded_pairs (a ∷ []) (suc n) e = absurd (omega (arith, e))
decoded_pairs (a ∷ b ∷ v) zero e = absurd (omega (arith, e))
decoded_pairs (a ∷ b ∷ v) (suc n) e = ap (λ (t : Text). (16 * digit_of a + digit_of b) ∷ t) (decoded_pairs v n (omega (arith, e)))

-- ---- the rules
pub empty_is : (v : Text) → ltb (length v) 2 ≡ is_empty (decoded v)
unfolding is_empty decoded
empty_is [] = refl
empty_is (a ∷ []) = refl
empty_is (a ∷ b ∷ v) = rw (le-ltb (length (a ∷ b ∷ v)) 2 (omega arith))

-- all bytes of a text are digits, by what `all` says of its pairs
numbers_all : (ps : List (List ℕ)) → ((k : ℕ) (d : List ℕ) → 0 ≤ k → k < length ps → is_digit (byte_of (get_or ps k d)) ≡ true)
    → true ≡ all_digits (mapped byte_of ps)
unfolding all_digits
numbers_all [] h = refl
numbers_all (p ∷ ps) h = rw (h 0 [] (omega arith) (omega arith)) (numbers_all ps (λ k d l m. h (suc k) d (omega arith) (omega arith)))

numbers_other : (ps : List (List ℕ)) (k : ℕ) → k < length ps → is_digit (byte_of (get_or ps k [])) ≡ false → false ≡ all_digits (mapped byte_of ps)
unfolding all_digits
numbers_other [] k l h = absurd (omega (arith, l))
numbers_other (p ∷ ps) zero l h = rw h
numbers_other (p ∷ ps) (suc k) l h = go (is_digit (byte_of p)) (numbers_other ps k (omega arith) h)
  where
    go : (t : Bool) → false ≡ all_digits (mapped byte_of ps) → false ≡ (t && all_digits (mapped byte_of ps))
    go true e = e
    go false e = refl

pub numbers_told : (v : Text) (n : ℕ) → n ≡ length v / 2 → (r : Bool)
    → MatchBool r (AllWithin (λ p. is_digit (byte_of p) ≡ true) (first_chunks 2 n v) 0 (length (first_chunks 2 n v)))
    ((k : ℕ) × (k < length (first_chunks 2 n v)) × HoldsAt (λ p. is_digit (byte_of p) ≡ false) (first_chunks 2 n v) k)
    → r ≡ all_digits (decoded v)
numbers_told v n e true h = rw (decoded_pairs v n e) (numbers_all (first_chunks 2 n v) h)
numbers_told v n e false (k, l, h) = rw (decoded_pairs v n e) (numbers_other (first_chunks 2 n v) k l (h []))

module _ (t : Text) where
  pub number_none : true ≡ is_empty t → false ≡ text_fits digits 0 t
  unfolding text_fits
  number_none e = rw (← e)

  pub number_some : false ≡ is_empty t → (r : Bool) → r ≡ all_digits t → r ≡ text_fits digits 0 t
  unfolding text_fits
  number_some e r q = rw (← e) q

-- ---- a float
pub float_long : (t : Text) → (length t / 2 ≡ 8 → ⊥) → false ≡ is_float (decoded t)
unfolding is_float
float_long t n = rw (ne_eqb (length (decoded t)) 8 (λ e. n (sym (length_decoded t) ∙ e)))

bits_more : (xs : List ℕ) (i v : ℕ) → i < length xs → bits_from v (drop i xs) ≡ bits_from (256 * v + get_or xs i 0) (drop (suc i) xs)
unfolding bits_from
bits_more xs i v h = rw (drop-cons xs i 0 h)

bits_end : (xs : List ℕ) (i v : ℕ) → length xs ≤ i → bits_from v (drop i xs) ≡ v
unfolding bits_from
bits_end xs i v h = rw (drop_of_length-le xs {i = i} h)

module _ (text : Text) (e : length text / 2 ≡ 8) where
  eight : length (decoded text) ≡ 8
  eight = length_decoded text ∙ e

  bits_eight : (xs : List ℕ) → length xs ≡ 8 → bits_from 0 xs ≡ from_be_bytes w64 xs
  bits_eight xs l =
      bits_more xs 0 0 (omega arith) ∙ bits_more xs 1 _ (omega arith) ∙ bits_more xs 2 _ (omega arith) ∙ bits_more xs 3 _ (omega arith)
      ∙ bits_more xs 4 _ (omega arith) ∙ bits_more xs 5 _ (omega arith) ∙ bits_more xs 6 _ (omega arith) ∙ bits_more xs 7 _ (omega arith)
      ∙ bits_end xs 8 _ (omega arith) ∙ omega arith

  -- eight bytes are written over eight, and nothing is left of those
  written_over : (d bytes : List ℕ) → length d ≡ 8 → bytes ≡ splice d 0 (decoded text) → bytes ≡ decoded text
  written_over d bytes l f =
      let parts = splice_is d 0 (decoded text) 8 (sym eight) (omega arith) in
      let rest = drop_of_length-le d {i = 8} (omega arith) in
      f ∙ parts ∙ rw rest (append-nil (decoded text))

  pub float_told : (d bytes : List ℕ) (bits : ℕ) → length d ≡ 8 → bytes ≡ splice d 0 (decoded text) → bits ≡ from_be_bytes w64 bytes
      → leb bits 9218868437227405312 ≡ is_float (decoded text)
  unfolding is_float
  float_told d bytes bits l f g =
      rw (eq-eqb (length (decoded text)) 8 eight, g, written_over d bytes l f, bits_eight (decoded text) eight) refl

-- ---- the rule of a kind
module _ (t : Text) (flag : ℕ) where
  pub fits_none : (x : TextRule) → x ≡ no_text → (r : Bool) → r ≡ is_empty t → r ≡ text_fits x flag t
  unfolding text_fits
  fits_none x e r q = rw e q

  pub fits_any : (x : TextRule) → x ≡ any_text → true ≡ text_fits x flag t
  unfolding text_fits
  fits_any x e = rw e

  pub fits_digits : (x : TextRule) → x ≡ digits → (r : Bool) → r ≡ text_fits digits 0 t → r ≡ text_fits x flag t
  unfolding text_fits
  fits_digits x e r q = rw e q

  pub fits_float : (x : TextRule) → x ≡ float → flag ≡ 1 → (r : Bool) → r ≡ is_float t → r ≡ text_fits x flag t
  unfolding text_fits
  fits_float x e f r q = rw (e, eq-eqb flag 1 f) q

  pub fits_no_float : (x : TextRule) → x ≡ float → (flag ≡ 1 → ⊥) → (r : Bool) → r ≡ is_empty t → r ≡ text_fits x flag t
  unfolding text_fits
  fits_no_float x e f r q = rw (e, ne_eqb flag 1 f) q

  pub fits_named : (x : TextRule) → x ≡ named → flag ≡ 1 → true ≡ text_fits x flag t
  unfolding text_fits
  fits_named x e f = rw (e, eq-eqb flag 1 f)

  pub fits_no_name : (x : TextRule) → x ≡ named → (flag ≡ 1 → ⊥) → (r : Bool) → r ≡ is_empty t → r ≡ text_fits x flag t
  unfolding text_fits
  fits_no_name x e f r q = rw (e, ne_eqb flag 1 f) q

-- ---- the loop that writes the bytes: the first i of them are written
pub written_none : (d : List ℕ) (at : ℕ) (text : Text) → d ≡ splice d at (take 0 (decoded text))
unfolding splice
written_none d at text = refl

module _ (text : Text) (n : ℕ) (e : n ≡ length text / 2) where
  pub written_more : (d₀ d : List ℕ) (at i : ℕ) → d ≡ splice d₀ at (take i (decoded text)) → i < n → (b : ℕ) → b ≡ byte_of (get_or (first_chunks 2 n text) i [])
      → set d (at + i) b ≡ splice d₀ at (take (i + 1) (decoded text))
  written_more d₀ d at i w h b f =
      let long : i < length (decoded text) = omega (arith, length_decoded text) in
      let some_written = length-take-le i (decoded text) (omega arith) in
      let one = get_or-map byte_of (first_chunks 2 n text) i [] 0 (rw (length-first_chunks n text) h) in
      let byte : get_or (decoded text) i 0 ≡ b = rw (decoded_pairs text n e) one ∙ sym f in
      let after = splice_after d₀ at (take i (decoded text)) b in
      rw (w, take_more (decoded text) i 0 long, byte) (rw some_written at after)

  pub written_all : (d₀ d : List ℕ) (at i : ℕ) → d ≡ splice d₀ at (take i (decoded text)) → n ≤ i → d ≡ splice d₀ at (decoded text)
  written_all d₀ d at i w h = w ∙ ap (splice d₀ at) (take_all i (decoded text) (omega (arith, length_decoded text)))
