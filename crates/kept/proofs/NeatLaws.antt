-- What follows of scopes that are neat: where their names begin, and how many they are. Assumes nothing.
use mathlib.Core.Path.{◌≡◌, ap, ◌∙◌}
use mathlib.Core.List.{List, [], ◌∷◌, ◌++◌}
use Prim.Native.Nat.{ℕ, zero, suc, ◌+◌, ◌-◌, ◌≤◌, ◌<◌}
use native.Mathlib.Omega.{arith}
use lib.ListN.{length}
use Rattle.words.specs.Words.{word}
use Rattle.spec.specs.Scopes.{Scope}
use Rattle.layout.specs.Layout.{scope_count, scope_limit}
use Rattle.layout.specs.Rows.{cap, rows_to}
use Rattle.layout.specs.Keeps.{first_entered, scope_in, scopes_in}
use Rattle.kept.specs.Walks.{names_entered, entered_by, used_names, Neat}
use Rattle.layout.proofs.RowLaws.{cap_le}

pub entered_more : (ss : List Scope) (x : Scope) → entered_by (ss ++ (x ∷ [])) ≡ entered_by ss + length (names_entered x.kind)
unfolding entered_by
entered_more [] x = omega arith
entered_more (y ∷ ss) x = rw (entered_more ss x) (omega arith)

module _ (s : List ℕ) (neat : Neat s) where
  -- the count is the number that stands there
  pub neat_count : cap (word s scope_count) scope_limit ≡ word s scope_count
  neat_count = cap_le (word s scope_count) scope_limit neat.counted

  neat_used : used_names s ≡ first_entered s (word s scope_count)
  unfolding used_names
  neat_used = rw neat_count

  -- no scope's names begin before those of the scope ahead of it
  pub neat_rises : (i : ℕ) → i < word s scope_count → first_entered s i ≤ first_entered s (i + 1)
  neat_rises i l = omega (arith, neat.follows i l)

  neat_up : (n i : ℕ) → i + n ≡ word s scope_count → first_entered s i ≤ used_names s
  neat_up zero i e = let q : i ≡ word s scope_count = omega arith in rw q (omega (arith, neat_used))
  neat_up (suc n) i e = omega (arith, neat_rises i (omega arith), neat_up n (i + 1) (omega arith))

  -- no scope reaches past the names that are entered
  pub neat_below : (i : ℕ) → i ≤ word s scope_count → first_entered s i ≤ used_names s
  neat_below i l = neat_up (word s scope_count - i) i (omega arith)

  neat_sum : (n : ℕ) → n ≤ word s scope_count → first_entered s n ≡ entered_by (rows_to (scope_in s) n)
  unfolding rows_to entered_by
  neat_sum zero l = neat.begins
  neat_sum (suc n) l =
      let z : suc n ≡ n + 1 = omega arith in
      let a : first_entered s (n + 1) ≡ first_entered s n + length (names_entered (scope_in s n).kind) = neat.follows n (omega arith) in
      let b = entered_more (rows_to (scope_in s) n) (scope_in s n) in
      ap (first_entered s) z ∙ omega (arith, a, b, neat_sum n (omega arith))

  -- none of the names entered is in no scope
  pub neat_all : used_names s ≡ entered_by (scopes_in s).scopes
  unfolding used_names scopes_in
  neat_all = rw neat_count (neat_sum (word s scope_count) (omega arith))
