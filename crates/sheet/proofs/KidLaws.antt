-- Laws of lists of kids. Assumes nothing.
use Rattle.std.specs.Prelude.{if◌then◌else◌}
use Rattle.std.specs.Prelude as rust
use Rattle.std.specs.Prelude.{position}
use Rattle.std.specs.Option as rust_option
use Rattle.std.specs.List.{position_or_len}
use Rattle.std.proofs.lemmas.List.Sums.{prefix_len-le-length}
use mathlib.Core.Path.{◌≡◌, refl, sym, ap, ◌∙◌}
use mathlib.Core.Bool.{Bool, true, false, ◌&&◌, cond, not, and-true, and-false, and_assoc}
use mathlib.Core.List.{List, [], ◌∷◌, map}
use mathlib.Core.Option
use mathlib.Core.Option.{Option, none, some}
use mathlib.Mathlib.Data.Bool.Basic.{and_elim_right}
use Prim.Native.Nat.{ℕ, suc, ◌+◌, ◌-◌, ◌≤◌, ◌<◌, min}
use native.Mathlib.Omega.{arith}
use native.Mathlib.Decide.{dec_lt}
use lib.ListN.{length, take, drop, length-drop, drop_of_length-le}
use lib.Seq.{take_all, drop-drop}
use lib.Dec.{eqb, ltb}
use lib.Pointwise.{pointwise}
use borrow.Author.Tests.{lt-ltb, le-ltb, ltb-true, ltb-false, false-eqb}
use Rattle.spec.specs.Basics.{Text, NodeId, maybe}
use Rattle.spec.specs.Sheet.{kid, cut_before, cut_at_commas, all_kids, kid_list, all_below, decimal}
use Rattle.sheet.specs.Decimals.{capped, got_decimal}
use Rattle.sheet.specs.Kids.{short_kid, short_kids, Rest, below, kids_of}
use Rattle.sheet.proofs.DecimalLaws.{spelled_none}

-- ---- the first part: up to the first comma, or the whole list
abbrev pub is_comma : ℕ → Bool
is_comma b = eqb b 44

abbrev pub part : Text → ℕ
part v = position_or_len is_comma v

pub part_is : (v : Text) → rust_option.unwrap_or (position is_comma v) (length v) ≡ part v
part_is v = go (ltb (part v) (length v)) refl
  where
    go : (t : Bool) → ltb (part v) (length v) ≡ t → rust_option.unwrap_or (cond t (rust.Some (part v)) rust.None) (length v) ≡ part v
    go true e = refl
    go false e = omega (arith, ltb-false (part v) (length v) e, prefix_len-le-length (λ x. not (is_comma x)) v)

cut_more : (v : Text) → part v < length v → cut_at_commas v ≡ take (part v) v ∷ cut_at_commas (drop (part v + 1) v)
unfolding cut_at_commas cut_before
cut_more [] h = absurd (omega (arith, h))
cut_more (c ∷ v) h = go (eqb c 44) (cut_more v) h
  where
    go : (t : Bool) → (part v < length v → cut_at_commas v ≡ take (part v) v ∷ cut_at_commas (drop (part v + 1) v)) → cond (not t) (1 + part v) 0 < length (c ∷ v)
        → cut_before t c (cut_at_commas v) ≡ take (cond (not t) (1 + part v) 0) (c ∷ v) ∷ cut_at_commas (drop (cond (not t) (1 + part v) 0 + 1) (c ∷ v))
    go true f k = refl
    go false f k =
        let a : 1 + part v ≡ suc (part v) = omega arith in
        let b : 1 + part v + 1 ≡ suc (part v + 1) = omega arith in
        rw (f (omega (arith, k)), b, a)

cut_last : (v : Text) → length v ≤ part v → cut_at_commas v ≡ v ∷ []
unfolding cut_at_commas cut_before
cut_last [] h = refl
cut_last (c ∷ v) h = go (eqb c 44) (cut_last v) h
  where
    go : (t : Bool) → (length v ≤ part v → cut_at_commas v ≡ v ∷ []) → length (c ∷ v) ≤ cond (not t) (1 + part v) 0 → cut_before t c (cut_at_commas v) ≡ (c ∷ v) ∷ []
    go true f k = absurd (omega (arith, k))
    go false f k = rw (f (omega (arith, k)))

-- ---- one kid
pub kid_dash : (v : Text) → true ≡ pointwise eqb v (45 ∷ []) → some none ≡ Option.map short_kid (kid v)
unfolding kid
kid_dash [] e = let z : ◌≡◌ {A = ℕ} 0 1 = cc in absurd (omega arith)
kid_dash (c ∷ []) e = go (eqb c 45) e
  where
    go : (t : Bool) → true ≡ (t && true) → some none ≡ Option.map short_kid (if t then some none else Option.map some (decimal (c ∷ [])))
    go true q = refl
    go false q = let z : ◌≡◌ {A = ℕ} 0 1 = cc in absurd (omega arith)
kid_dash (c ∷ d ∷ v) e = go (eqb c 45) e
  where
    go : (t : Bool) → true ≡ (t && false) → some none ≡ Option.map short_kid (Option.map some (decimal (c ∷ d ∷ v)))
    go true q = let z : ◌≡◌ {A = ℕ} 0 1 = cc in absurd (omega arith)
    go false q = let z : ◌≡◌ {A = ℕ} 0 1 = cc in absurd (omega arith)

counted : (v : Text) → false ≡ pointwise eqb v (45 ∷ []) → kid v ≡ Option.map some (decimal v)
unfolding kid decimal
counted [] n = refl
counted (c ∷ []) n = go (eqb c 45) n
  where
    go : (t : Bool) → false ≡ (t && true) → (if t then some none else Option.map some (decimal (c ∷ []))) ≡ Option.map some (decimal (c ∷ []))
    go true q = let z : ◌≡◌ {A = ℕ} 0 1 = cc in absurd (omega arith)
    go false q = refl
counted (c ∷ d ∷ v) n = refl

module _ (v : Text) (n : false ≡ pointwise eqb v (45 ∷ [])) (x : rust.Option ℕ) (d : got_decimal x ≡ Option.map capped (decimal v)) where
  pub kid_malformed : x ≡ rust.None → none ≡ Option.map short_kid (kid v)
  kid_malformed p =
      let f : none ≡ Option.map capped (decimal v) = rw p at d in
      let g = spelled_none (decimal v) f in
      sym (rw (counted v n, g))

  pub kid_number : (k y : ℕ) → x ≡ rust.Some k → y ≡ min k 4294967295 → some (some y) ≡ Option.map short_kid (kid v)
  kid_number k y p z =
      let f : some k ≡ Option.map capped (decimal v) = rw p at d in
      rw (counted v n) (go (decimal v) f)
    where
      go : (o : Option ℕ) → some k ≡ Option.map capped o → some (some y) ≡ Option.map short_kid (Option.map some o)
      go none f = cc
      go (some w) f = let u : k ≡ capped w = cc in ap (λ (m : ℕ). some (some m)) (omega arith)

-- ---- the first kid of a list
list_some : (v : Text) → 0 < length v → kid_list v ≡ all_kids (cut_at_commas v)
unfolding kid_list
list_some [] h = absurd (omega (arith, h))
list_some (c ∷ v) h = refl

shortened : (o : Option (Option NodeId)) (x : Option (List (Option NodeId)))
    → Option.map (map short_kid) (maybe o none (λ k. Option.map (λ ks. k ∷ ks) x))
    ≡ maybe (Option.map short_kid o) none (λ k. Option.map (λ ks. k ∷ ks) (Option.map (map short_kid) x))
shortened none x = refl
shortened (some k) none = refl
shortened (some k) (some ks) = refl

pub step_none : (v : Text) → length v ≡ 0 → some [] ≡ short_kids v
unfolding short_kids kid_list
step_none [] h = refl
step_none (c ∷ v) h = absurd (omega (arith, h))

module _ (v : Text) (k : 0 < length v) where
  -- the list ends with a comma
  pub step_comma : length (drop (part v) v) ≡ 1 → none ≡ short_kids v
  unfolding short_kids all_kids kid cut_at_commas
  step_comma e =
      let l : part v + 1 ≡ length v = omega (arith, e, length-drop (part v) v) in
      sym (rw (list_some v k, cut_more v (omega arith), drop_of_length-le v {i = part v + 1} (omega arith)) (go (kid (take (part v) v))))
    where
      go : (o : Option (Option NodeId)) → Option.map (map short_kid) (maybe o none (λ k. Option.map (λ ks. k ∷ ks) none)) ≡ none
      go none = refl
      go (some k) = refl

  module _ (n : length (drop (part v) v) ≡ 1 → ⊥) (rest : Text) (z : rest ≡ drop (part v + 1) v) where
    stepped : short_kids v ≡ maybe (Option.map short_kid (kid (take (part v) v))) none (λ k. Option.map (λ ks. k ∷ ks) (short_kids rest))
    unfolding short_kids all_kids kid_list
    stepped = ap (Option.map (map short_kid)) (go (dec_lt (part v) (length v))) ∙ shortened (kid (take (part v) v)) (kid_list rest)
      where
        go : Dec (part v < length v) → kid_list v ≡ maybe (kid (take (part v) v)) none (λ k. Option.map (λ ks. k ∷ ks) (kid_list rest))
        go (yes l) =
            let more : 0 < length rest = omega (arith, ap length z, length-drop (part v + 1) v, length-drop (part v) v, n) in
            rw (list_some v k, cut_more v l, ← z, list_some rest more)
        go (no l) =
            let whole : length v ≤ part v = omega (arith, l) in
            let none_left : rest ≡ [] = z ∙ drop_of_length-le v {i = part v + 1} (omega arith) in
            rw (list_some v k, cut_last v whole, none_left, take_all (part v) v whole)

    pub step_malformed : none ≡ Option.map short_kid (kid (take (part v) v)) → none ≡ short_kids v
    step_malformed g = sym (stepped ∙ rw (← g))

    pub step_kid : (x : Option NodeId) → some x ≡ Option.map short_kid (kid (take (part v) v)) → Option.map (λ ks. x ∷ ks) (short_kids rest) ≡ short_kids v
    step_kid x g = sym (stepped ∙ rw (← g))

pub part_inside : (v : Text) → part v ≤ length v
part_inside v = prefix_len-le-length (λ x. not (is_comma x)) v

-- the two halves of a list, cut where its first part ends
module _ (v front from : Text) (p : ℕ) (e : p ≡ part v) (f : front ≡ take p v) (b : from ≡ drop p v) (k : false ≡ eqb (length v) 0) where
  some_there : 0 < length v
  some_there = let n : length v ≡ 0 → ⊥ = false-eqb (length v) 0 k in omega arith

  from_is : from ≡ drop (part v) v
  from_is = b ∙ ap (λ (n : ℕ). drop n v) e

  front_is : take (part v) v ≡ front
  front_is = sym (f ∙ ap (λ (n : ℕ). take n v) e)

  pub at_comma : length from ≡ 1 → none ≡ short_kids v
  at_comma h = step_comma v some_there (sym (ap length from_is) ∙ h)

  module _ (rest : Text) (a : (length from ≡ 1 → ⊥) × (rest ≡ drop 1 from)) where
    after_it : rest ≡ drop (part v + 1) v
    after_it = a.1 ∙ ap (drop 1) from_is ∙ drop-drop 1 (part v) v

    not_one : length (drop (part v) v) ≡ 1 → ⊥
    not_one h = a.0 (ap length from_is ∙ h)

    pub no_kid : none ≡ Option.map short_kid (kid front) → none ≡ short_kids v
    no_kid g = step_malformed v some_there not_one rest after_it (rw front_is g)

    pub one_kid : (x : Option NodeId) → some x ≡ Option.map short_kid (kid front) → Option.map (λ ks. x ∷ ks) (short_kids rest) ≡ short_kids v
    one_kid x g = step_kid v some_there not_one rest after_it x (rw front_is g)

    pub rest_left : Rest v rest
    rest_left =
        let size : length rest ≡ length v - (part v + 1) = ap length after_it ∙ length-drop (part v + 1) v in
        record { less = omega (arith, size, some_there); same = go size (dec_lt (part v) (length v)) }
      where
        go : length rest ≡ length v - (part v + 1) → Dec (part v < length v) → rest ≡ drop (length v - length rest) v
        go size (yes l) = let n : length v - length rest ≡ part v + 1 = omega arith in rw n after_it
        go size (no l) =
            let n : length v - length rest ≡ length v = omega (arith, l) in
            rw n (after_it ∙ drop_of_length-le v {i = part v + 1} (omega (arith, l)) ∙ sym (drop_of_length-le v {i = length v} (omega arith)))

-- ---- all kids below a limit
below_short : (nodes : ℕ) → nodes ≤ 4294967295 → (ks : List (Option NodeId)) → all_below nodes (map short_kid ks) ≡ all_below nodes ks
unfolding all_below
below_short nodes l [] = refl
below_short nodes l (none ∷ ks) = below_short nodes l ks
below_short nodes l (some k ∷ ks) = go (below_short nodes l ks) (dec_lt k nodes)
  where
    go : all_below nodes (map short_kid ks) ≡ all_below nodes ks → Dec (k < nodes) → (ltb (min k 4294967295) nodes && all_below nodes (map short_kid ks)) ≡ (ltb k nodes && all_below nodes ks)
    go e (yes h) = let i : min k 4294967295 < nodes = omega arith in rw (lt-ltb k nodes h, lt-ltb (min k 4294967295) nodes i) e
    go e (no h) = let i : nodes ≤ min k 4294967295 = omega (arith, h) in rw (le-ltb k nodes (omega (arith, h)), le-ltb (min k 4294967295) nodes i)

-- ---- the loop: whether all are below, of a list that is left, if all before were
abbrev left : Text → ℕ → Bool → Option Bool
left v nodes low = Option.map (λ b. low && b) (Option.map (all_below nodes) (kid_list v))

left_short : (v : Text) (nodes : ℕ) (low : Bool) → nodes ≤ 4294967295 → left v nodes low ≡ Option.map (λ b. low && b) (Option.map (all_below nodes) (short_kids v))
unfolding short_kids
left_short v nodes low l = go (kid_list v)
  where
    go : (o : Option (List (Option NodeId))) → Option.map (λ b. low && b) (Option.map (all_below nodes) o)
        ≡ Option.map (λ b. low && b) (Option.map (all_below nodes) (Option.map (map short_kid) o))
    go none = refl
    go (some ks) = ap (λ (b : Bool). some (low && b)) (sym (below_short nodes l ks))

pub record Judging (kids : Text) (nodes : ℕ) (low : Bool) (v : Text) : Type 0 where
  pub same : left v nodes low ≡ Option.map (all_below nodes) (kid_list kids)

module _ {kids : Text} {nodes : ℕ} {low : Bool} {v : Text} (j : Judging kids nodes low v) (l : nodes ≤ 4294967295) where
  pub judging_malformed : none ≡ short_kids v → none ≡ Option.map (all_below nodes) (kid_list kids)
  judging_malformed f = sym (sym j.same ∙ left_short v nodes low l ∙ rw (← f))

  pub judging_end : some [] ≡ short_kids v → some low ≡ Option.map (all_below nodes) (kid_list kids)
  unfolding all_below
  judging_end f = sym (sym j.same ∙ left_short v nodes low l ∙ rw (← f) (ap some (and-true low)))

  pub judging_more : (rest : Text) (x : Option NodeId) → Option.map (λ ks. x ∷ ks) (short_kids rest) ≡ short_kids v → (still : Bool) → still ≡ (low && below x nodes) → Judging kids nodes still rest
  unfolding all_below
  judging_more rest x f still w =
      record {
        same =
            left_short rest nodes still l ∙ ap (λ (b : Bool). Option.map (λ c. b && c) (Option.map (all_below nodes) (short_kids rest))) w ∙ go x (short_kids rest)
            ∙ sym (left_short v nodes low l ∙ rw (← f)) ∙ j.same;
      }
    where
      go : (x : Option NodeId) (o : Option (List (Option NodeId))) → Option.map (λ b. (low && below x nodes) && b) (Option.map (all_below nodes) o)
          ≡ Option.map (λ b. low && b) (Option.map (all_below nodes) (Option.map (λ ks. x ∷ ks) o))
      go none none = refl
      go none (some ks) = ap (λ (b : Bool). some (b && all_below nodes ks)) (and-true low)
      go (some x) none = refl
      go (some x) (some ks) = ap some (and_assoc low (ltb x nodes) (all_below nodes ks))

  pub judging_low : (rest : Text) (x : Option NodeId) → Option.map (λ ks. x ∷ ks) (short_kids rest) ≡ short_kids v → true ≡ below x nodes → Judging kids nodes low rest
  judging_low rest x f w = judging_more rest x f low (rw (← w) (sym (and-true low)))

  pub judging_high : (rest : Text) (x : Option NodeId) → Option.map (λ ks. x ∷ ks) (short_kids rest) ≡ short_kids v → false ≡ below x nodes → Judging kids nodes false rest
  judging_high rest x f w = judging_more rest x f false (rw (← w) (sym (and-false low)))

-- ---- the kids that a judged list stands for
pub kids_agree : (v : Text) (ks : List (Option NodeId)) → kid_list v ≡ some ks → ks ≡ kids_of v
kids_agree v ks e = rw e

-- ---- going through a list that was judged right, kid by kid: a kid, and those of the list after it
pub record Before (rest : Text) (nodes : ℕ) (k : Option NodeId) (ks : List (Option NodeId)) : Type 0 where
  pub others : List (Option NodeId)
  pub these : ks ≡ k ∷ others
  pub listed : kid_list rest ≡ some others
  pub below : all_below nodes others ≡ true

under : (nodes : ℕ) (x : Option NodeId) (js : List (Option NodeId)) → all_below nodes (x ∷ js) ≡ true → all_below nodes js ≡ true
unfolding all_below
under nodes none js h = h
under nodes (some x) js h = and_elim_right (ltb x nodes) (all_below nodes js) h

short_same : (nodes : ℕ) → nodes ≤ 4294967295 → (ks : List (Option NodeId)) → all_below nodes ks ≡ true → map short_kid ks ≡ ks
unfolding all_below
short_same nodes l [] b = refl
short_same nodes l (none ∷ ks) b = ap (λ (js : List (Option NodeId)). none ∷ js) (short_same nodes l ks b)
short_same nodes l (some k ∷ ks) b = go (short_same nodes l ks) (ltb k nodes) refl b
  where
    go : (all_below nodes ks ≡ true → map short_kid ks ≡ ks) → (t : Bool) → ltb k nodes ≡ t → (t && all_below nodes ks) ≡ true → some (min k 4294967295) ∷ map short_kid ks ≡ some k ∷ ks
    go f true e q =
        let h = ltb-true k nodes e in
        let m : min k 4294967295 ≡ k = omega arith in
        rw (m, f q)
    go f false e q = cc

module _ (v : Text) (nodes : ℕ) (l : nodes ≤ 4294967295) (ks : List (Option NodeId)) (f : kid_list v ≡ some ks) (b : all_below nodes ks ≡ true) where
  walked : short_kids v ≡ some ks
  unfolding short_kids
  walked = rw f (ap some (short_same nodes l ks b))

  pub walk_end : some [] ≡ short_kids v → ks ≡ []
  walk_end q = let w : some [] ≡ some ks = q ∙ walked in cc

  pub walk_malformed : none ≡ short_kids v → ⊥
  walk_malformed q = let w : none ≡ some ks = q ∙ walked in let z : ◌≡◌ {A = ℕ} 0 1 = cc in omega arith

  -- whatever the kid is
  pub walk_kid : (k : Option NodeId) (rest : Text) → Option.map (λ js. k ∷ js) (short_kids rest) ≡ short_kids v → Before rest nodes k ks
  unfolding short_kids
  walk_kid k rest q = go (kid_list rest) refl (q ∙ walked)
    where
      go : (o : Option (List (Option NodeId))) → kid_list rest ≡ o → Option.map (λ js. k ∷ js) (Option.map (map short_kid) o) ≡ some ks → Before rest nodes k ks
      go none u v = let z : ◌≡◌ {A = ℕ} 0 1 = cc in absurd (omega arith)
      go (some js) u v =
          let c : k ∷ map short_kid js ≡ ks = cc in
          let a : all_below nodes js ≡ true = sym (below_short nodes l js) ∙ under nodes k (map short_kid js) (ap (all_below nodes) c ∙ b) in
          record { others = js; these = sym (rw (short_same nodes l js a) at c); listed = u; below = a }
