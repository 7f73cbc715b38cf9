-- References linked in the work room: what stays linked, and what clearing, linking one expression and linking all of
-- them do. Assumes nothing.
use mathlib.Core.Path.{◌≡◌, refl, ◌∙◌}
use mathlib.Core.Logic.{◌⊎◌, inl, inr}
use mathlib.Core.Bool.{Bool, true, false}
use mathlib.Core.List.{List, [], ◌∷◌}
use mathlib.Core.Option.{none, some}
use Prim.Native.Nat.{ℕ, ◌+◌, ◌-◌, ◌*◌, ◌≤◌, ◌<◌, ◌^◌}
use native.Mathlib.Omega.{arith}
use lib.ListN.{length}
use lib.Dec.{eqb, ltb}
use borrow.Author.Tests.{eqb-true, eqb-false, ltb-true, ltb-false}
use Rattle.words.specs.Words.{word, set_word}
use Rattle.words.proofs.WordLaws.{word_lt, length_set_word, word_set_word_same, word_set_word_other}
use Rattle.spec.specs.Kept.{kept_answer}
use Rattle.layout.specs.Layout.{expr_limit, name_limit, expr_count, name_count, exprs_at, expr_pointers_at, uses_at, firsts_at, nexts_at, heads_at, sets_at, Long}
use Rattle.layout.specs.Rows.{cap}
use Rattle.layout.specs.Changes.{Range, Outside, Wrote, Still}
use Rattle.layout.specs.Keeps.{kept_in}
use Rattle.layout.proofs.Frames.{apart, clear_of, same_on, wrote_none, wrote_then}
use Rattle.layout.proofs.WriteLaws.{still_set_word, still_then}
use Rattle.kept.specs.Zeroes.{Zeroed}
use Rattle.kept.proofs.KeepFrames.{answers_kept}
use Rattle.answer.specs.Answers.{meant}
use Rattle.listing.specs.Links.{linking, next_of, head_of, Chained, answered_from, Linked, LinksOne, LinksAll, Links}
use Rattle.listing.proofs.AnsweredLaws.{Within, from_within, from_end, from_none, from_else, from_own}

-- ---- what stays linked
-- where the links of these numbers are as they were
pub chained_same : (s t : List ℕ) (lo hi at : ℕ) (es : List ℕ) → ((e : ℕ) → lo ≤ e → e < hi → next_of t e ≡ next_of s e) → Within lo hi es → Chained s at es → Chained t at es
unfolding Chained
chained_same s t lo hi at [] f w c = c
chained_same s t lo hi at (e ∷ es) f w c = (c.0, rw (f e w.0.0 w.0.1) (chained_same s t lo hi (next_of s e) es f w.1 c.1))

module _ {rs : List Range} {s t : List ℕ} (w : Wrote rs s t) (c : apart (0, 4) rs ≡ true) (d : apart (20, 24) rs ≡ true) (a : apart (exprs_at, expr_pointers_at) rs ≡ true) (u : apart (uses_at, firsts_at) rs ≡ true) where
  -- where no answer is another
  pub answers_same : (kept_in t).answers ≡ (kept_in s).answers
  unfolding kept_in
  answers_same = answers_kept w c d a u

  pub from_same : (e x : ℕ) → answered_from t e x ≡ answered_from s e x
  unfolding answered_from
  from_same e x = rw answers_same

  -- and no link
  module _ (v : apart (nexts_at, sets_at) rs ≡ true) where
    pub next_same : (e : ℕ) → e < expr_limit → next_of t e ≡ next_of s e
    unfolding next_of
    next_same e h = same_on nexts_at sets_at w v (nexts_at + 4 * e) (omega arith) (omega arith)

    head_same : (x : ℕ) → x < name_limit → head_of t x ≡ head_of s x
    unfolding head_of
    head_same x h = same_on nexts_at sets_at w v (heads_at + 4 * x) (omega arith) (omega arith)

    pub still_chained : (at : ℕ) (es : List ℕ) → Within 0 expr_limit es → Chained s at es → Chained t at es
    still_chained at es i p = chained_same s t 0 expr_limit at es (λ e y z. next_same e z) i p

    pub still_linked : (n : ℕ) → n ≤ name_limit → Linked n 0 s → Linked n 0 t
    still_linked n h p = record { chain = λ x k. rw (head_same x (omega arith), from_same 0 x) (still_chained (head_of s x) (answered_from s 0 x) (from_within s 0 x (omega arith)) (p.chain x k)) }

-- ---- one expression
-- that means no name, or none of the first n
pub links_none : (s : List ℕ) (n e : ℕ) → meant (kept_answer (kept_in s) e) ≡ none → LinksOne n e s s
links_none s n e m =
    record {
      wrote = wrote_none linking s;
      still = record { same = refl; used = refl };
      links = λ p. record { chain = λ x h. rw (from_none s e x m) (p.chain x h) };
    }

pub links_past : (s : List ℕ) (n e y : ℕ) → meant (kept_answer (kept_in s) e) ≡ some y → n ≤ y → LinksOne n e s s
links_past s n e y m k =
    record {
      wrote = wrote_none linking s;
      still = record { same = refl; used = refl };
      links = λ p. record { chain = λ x h. rw (from_else s e x y m (λ q. omega arith)) (p.chain x h) };
    }

-- that means one of them
module _ (s u t : List ℕ) (n e x head : ℕ) (l : Long s) (he : e < expr_limit) (hn : n ≤ name_limit) (m : meant (kept_answer (kept_in s) e) ≡ some x) (hx : x < n)
    (eh : head ≡ word s (heads_at + 4 * x)) (eu : u ≡ set_word s (nexts_at + 4 * e) head) (et : t ≡ set_word u (heads_at + 4 * x) (e + 1)) where
  size_u : length u ≡ length s
  size_u = rw eu (length_set_word s (nexts_at + 4 * e) head)

  link_other : (j : ℕ) → (j + 4 ≤ nexts_at + 4 * e) ⊎ (nexts_at + 4 * e + 4 ≤ j) → (j + 4 ≤ heads_at + 4 * x) ⊎ (heads_at + 4 * x + 4 ≤ j) → word t j ≡ word s j
  link_other j o q =
      let a : word u j ≡ word s j = rw eu (word_set_word_other s (nexts_at + 4 * e) head j o) in
      rw et (word_set_word_other u (heads_at + 4 * x) (e + 1) j q ∙ a)

  link_wrote : Wrote linking s t
  unfolding linking Outside
  link_wrote =
      record {
        size = rw et (length_set_word u (heads_at + 4 * x) (e + 1) ∙ size_u);
        other = λ j o. link_other j (clear_of (nexts_at + 4 * e) 4 nexts_at sets_at j (omega arith) (omega arith) o.0) (clear_of (heads_at + 4 * x) 4 nexts_at sets_at j (omega arith) (omega arith) o.0);
      }

  link_still : Still s t
  link_still = still_then {u = u} (rw eu (still_set_word s (nexts_at + 4 * e) head (omega arith) (λ z. omega arith))) (rw et (still_set_word u (heads_at + 4 * x) (e + 1) (omega arith) (λ z. omega arith)))

  link_from : (k y : ℕ) → answered_from t k y ≡ answered_from s k y
  unfolding linking
  link_from k y = from_same link_wrote refl refl refl refl k y

  -- the links of those after e, of e, and the beginnings
  later_next : (k : ℕ) → e + 1 ≤ k → k < expr_limit → next_of t k ≡ next_of s k
  unfolding next_of
  later_next k a b = link_other (nexts_at + 4 * k) (inr (omega arith)) (inl (omega arith))

  own_next : next_of t e ≡ head_of s x
  unfolding next_of head_of
  own_next =
      let f : head < 2 ^ 32 = rw eh (word_lt s (heads_at + 4 * x)) in
      let a : word u (nexts_at + 4 * e) ≡ head = rw eu (word_set_word_same s (nexts_at + 4 * e) head (omega arith) f) in
      let b : word t (nexts_at + 4 * e) ≡ word u (nexts_at + 4 * e) = rw et (word_set_word_other u (heads_at + 4 * x) (e + 1) (nexts_at + 4 * e) (inl (omega arith))) in
      b ∙ a ∙ eh

  own_head : head_of t x ≡ e + 1
  unfolding head_of
  own_head = rw et (word_set_word_same u (heads_at + 4 * x) (e + 1) (omega (arith, size_u)) (omega arith))

  other_head : (y : ℕ) → (y ≡ x → ⊥) → y < name_limit → head_of t y ≡ head_of s y
  unfolding head_of
  other_head y ne h = go (ltb y x) refl
    where
      go : (b : Bool) → ltb y x ≡ b → word t (heads_at + 4 * y) ≡ word s (heads_at + 4 * y)
      go true q = link_other (heads_at + 4 * y) (inr (omega arith)) (inl (omega (arith, ltb-true y x q)))
      go false q = link_other (heads_at + 4 * y) (inr (omega arith)) (inr (omega (arith, ltb-false y x q)))

  -- what was linked after e stays so
  later : (y : ℕ) → Chained s (head_of s y) (answered_from s (e + 1) y) → Chained t (head_of s y) (answered_from s (e + 1) y)
  later y p = chained_same s t (e + 1) expr_limit (head_of s y) (answered_from s (e + 1) y) later_next (from_within s (e + 1) y (omega arith)) p

  linked : Linked n (e + 1) s → (y : ℕ) → y < n → Chained t (head_of t y) (answered_from t e y)
  unfolding Chained
  linked p y h = go (eqb y x) refl
    where
      go : (b : Bool) → eqb y x ≡ b → Chained t (head_of t y) (answered_from t e y)
      go true q =
          let own : Chained t (head_of t x) (answered_from t e x) = rw (link_from e x, from_own s e x m, own_head, own_next) (refl, later x (p.chain x hx)) in
          rw (eqb-true y x q) own
      go false q =
          let ne = eqb-false y x q in
          rw (link_from e y, from_else s e y x m ne, other_head y ne (omega arith)) (later y (p.chain y h))

  pub links_one : LinksOne n e s t
  links_one = record { wrote = link_wrote; still = link_still; links = λ p. record { chain = linked p } }

-- ---- all of them, from the last one down
pub record Linking (n left : ℕ) (s t : List ℕ) : Type 0 where
  pub wrote : Wrote linking s t
  pub still : Still s t
  pub links : ((x : ℕ) → x < n → head_of s x ≡ 0) → Linked n left t

pub linking_none : (s : List ℕ) (n count k : ℕ) → k ≡ word s expr_count → count ≡ cap k expr_limit → Linking n count s s
unfolding Chained
linking_none s n count k ek e =
    let h : cap (word s expr_count) expr_limit ≤ count = rw (e, ek) (omega arith) in
    record {
      wrote = wrote_none linking s;
      still = record { same = refl; used = refl };
      links = λ z. record { chain = λ x l. rw (from_end s count x h) (z x l) };
    }

pub linking_more : (s u t : List ℕ) (n left : ℕ) → 0 < left → Linking n left s u → LinksOne n (left - 1) u t → Linking n (left - 1) s t
linking_more s u t n left h d o =
    let e : left - 1 + 1 ≡ left = omega arith in
    record {
      wrote = wrote_then d.wrote o.wrote;
      still = still_then d.still o.still;
      links = λ z. o.links (rw e (d.links z));
    }

pub linking_done : (s t : List ℕ) (n left : ℕ) → Linking n left s t → left ≤ 0 → LinksAll n s t
linking_done s t n left d h = let q : left ≡ 0 = omega arith in record { wrote = d.wrote; still = d.still; links = rw q at d.links }

pub links_every : (s u t : List ℕ) (k n : ℕ) → k ≡ word s name_count → n ≡ cap k name_limit → n ≤ name_limit → Zeroed heads_at 4 n s u → LinksAll n u t → Links s t
unfolding Outside linking head_of
links_every s u t k n ek en h d l =
    let e : n ≡ cap (word s name_count) name_limit = rw ek at en in
    let cleared : Wrote linking s u = record { size = d.wrote.size; other = λ j o. d.wrote.other j (clear_of heads_at (4 * n) nexts_at sets_at j (omega arith) (omega arith) o.0, tt) } in
    record { wrote = wrote_then cleared l.wrote; still = still_then d.still l.still; linked = rw e at (l.links d.gone) }
