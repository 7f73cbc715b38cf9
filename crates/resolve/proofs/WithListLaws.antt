-- Writing the Withs of a chain into a buffer. Assumes nothing.
use mathlib.Core.Path.{◌≡◌, refl, sym, ap, ◌∙◌}
use mathlib.Core.List.{List, [], ◌∷◌}
use mathlib.Core.Bool.{Bool}
use mir.Val.{bool_byte}
use mathlib.Core.Option.{none, some}
use Prim.Native.Nat.{ℕ, ◌+◌, ◌*◌, ◌≤◌, ◌<◌}
use native.Mathlib.Omega.{arith}
use lib.ListN.{length, length-append}
use Rattle.words.specs.Words.{set_word}
use Rattle.words.proofs.WordLaws.{length_set_word}
use Rattle.spec.specs.Scopes.{Scope, Scopes, ScopeKind, definitions, with_expr}
use Rattle.spec.specs.Answer.{scope_at, chain, if_with, withs_of, scope_of_expr}
use Rattle.layout.specs.Rows.{set_all}
use Rattle.kept.specs.Walks.{with_of}
use Rattle.kept.specs.Answers.{withs_in, withs_at}
use Rattle.resolve.specs.Withs.{Lists, some_of}
use Rattle.resolve.proofs.WithLaws.{with_is, with_none}

-- ---- one scope
module _ (scopes : List Scope) {ss rest : List ℕ} {i : ℕ} (comes : ss ≡ i ∷ rest) where
  pub with_next : {e : ℕ} → some e ≡ with_of (scope_at scopes i).kind → withs_of scopes ss ≡ e ∷ withs_of scopes rest
  unfolding withs_of
  with_next h = rw (comes, with_is (scope_at scopes i).kind h) refl

  pub with_past : none ≡ with_of (scope_at scopes i).kind → withs_of scopes ss ≡ withs_of scopes rest
  unfolding withs_of
  with_past h = rw (comes, with_none (scope_at scopes i).kind h) refl

-- ---- counted one after the other
-- Of all the numbers es are still to be counted, after n.
pub record Counting (all es : List ℕ) (n : ℕ) : Type 0 where
  pub count : n + length es ≡ length all

pub counting_none : {all es : List ℕ} → es ≡ all → Counting all es 0
counting_none e = let m = ap length e in record { count = omega (arith, m) }

own_count : (k : ScopeKind) (b : Bool) → b ≡ some_of (if_with k) → length (if_with k) ≡ bool_byte b
unfolding some_of if_with
own_count (definitions xs) b h = rw h refl
own_count (with_expr e) b h = rw h refl

module _ (scopes : List Scope) {all ss : List ℕ} {n : ℕ} (w : Counting all (withs_of scopes ss) n) where
  module _ {i : ℕ} {rest : List ℕ} (comes : ss ≡ i ∷ rest) (b : Bool) (is : b ≡ some_of (if_with (scope_at scopes i).kind)) where
    counting_next : length (withs_of scopes ss) ≡ bool_byte b + length (withs_of scopes rest)
    unfolding withs_of
    counting_next = rw comes (rw (← own_count (scope_at scopes i).kind b is) (length-append (if_with (scope_at scopes i).kind) (withs_of scopes rest)))

    pub counting_low : n + bool_byte b ≤ length all
    counting_low = omega (arith, w.count, counting_next)

    pub counting_on : Counting all (withs_of scopes rest) (n + bool_byte b)
    counting_on = record { count = omega (arith, w.count, counting_next) }

  pub counting_done : ss ≡ [] → n ≡ length all
  unfolding withs_of
  counting_done q = let m : length (withs_of scopes ss) ≡ 0 = rw q refl in omega (arith, w.count, m)

-- ---- one number after the other
-- Of all the numbers es are still to be written, from place k on.
pub record Writing (all es : List ℕ) (b₀ : List ℕ) (k : ℕ) (b : List ℕ) : Type 0 where
  pub rest : set_all b₀ 0 all ≡ set_all b (4 * k) es
  pub count : k + length es ≡ length all
  pub size : length b ≡ length b₀

pub writing_none : {all es : List ℕ} (b : List ℕ) → es ≡ all → Writing all es b 0 b
writing_none b e = rw e (record { rest = refl; count = omega arith; size = refl })

module _ {all es : List ℕ} {b₀ : List ℕ} {k : ℕ} {b : List ℕ} (w : Writing all es b₀ k b) where
  pub writing_room : {e : ℕ} {rest : List ℕ} → es ≡ e ∷ rest → k < length all
  writing_room q = let n = ap length q in omega (arith, w.count)

  pub writing_on : {e : ℕ} {rest c : List ℕ} → es ≡ e ∷ rest → c ≡ set_word b (4 * k) e → Writing all rest b₀ (k + 1) c
  unfolding set_all
  writing_on {e} q h =
      let at : 4 * (k + 1) ≡ 4 * k + 4 = omega arith in
      record {
        rest = w.rest ∙ rw (q, h, at) refl;
        count = let n = ap length q in omega (arith, w.count);
        size = ap length h ∙ length_set_word b (4 * k) e ∙ w.size;
      }

  pub writing_done : es ≡ [] → b ≡ set_all b₀ 0 all
  unfolding set_all
  writing_done q = sym (w.rest ∙ ap (set_all b (4 * k)) q)

-- ---- by the scope of an expression
withs_are : (w : Scopes) (e i : ℕ) → some i ≡ scope_of_expr w e → withs_at w e ≡ withs_of w.scopes (chain w.scopes i)
unfolding withs_at withs_in
withs_are w e i h = rw (← h)

pub lists_none : (w : Scopes) (e : ℕ) (b : List ℕ) → none ≡ scope_of_expr w e → Lists (withs_at w e) b 0 b
unfolding withs_at withs_in set_all
lists_none w e b h = let z : withs_at w e ≡ [] = rw (← h) in rw z (record { count = refl; wrote = λ l. refl; kept = λ l. refl })

module _ (w : Scopes) (e i : ℕ) (h : some i ≡ scope_of_expr w e) (n : ℕ) (count : n ≡ length (withs_of w.scopes (chain w.scopes i))) where
  pub lists_short : (b : List ℕ) → length b < 4 * n → Lists (withs_at w e) b n b
  lists_short b l = rw (withs_are w e i h) (record { count = count; wrote = λ k. absurd (omega arith); kept = λ k. refl })

  pub lists_all : (b c : List ℕ) → 4 * n ≤ length b → c ≡ set_all b 0 (withs_of w.scopes (chain w.scopes i)) → Lists (withs_at w e) b n c
  lists_all b c l q = rw (withs_are w e i h) (record { count = count; wrote = λ k. q; kept = λ k. absurd (omega arith) })
