-- The last row that has a pointer. Assumes nothing.
use denote.Param.Members.{Mut}
use denote.Ref.{Bor}
use Rattle.std.specs.Prelude as rust
use Rattle.std.specs.Prelude.{if◌then◌else◌}
use Rattle.std.specs.Bool.{⊤}
use Rattle.std.specs.Fn.{CalledAt}
use Rattle.std.specs.Iterator.{Yields, FindsItem}
use Rattle.std.specs.List.{FoldsTo}
use Rattle.std.specs.Option.{MatchOption}
use Rattle.std.specs.declared.ops.Range.{Range}
use Rattle.std.specs.Range.{range_steps_back}
use mathlib.Core.Path.{◌≡◌, refl, sym, ap, subst, ◌∙◌}
use mathlib.Core.Bool.{Bool, true, false}
use mathlib.Core.List.{List, [], ◌∷◌, ◌++◌}
use mathlib.Core.Option.{Option, none, some}
use Prim.Native.Nat.{ℕ, zero, suc, ◌+◌, ◌-◌, ◌*◌}
use native.Mathlib.Omega.{arith}
use lib.ListN.{length}
use borrow.Author.Tests.{ne_eqb}
use Rattle.words.specs.Words.{word}
use Rattle.spec.specs.Module.{Pointer, Made, Name, same_pointer, points_to, last_at, expr_pointers, name_pointers, expr_for_node, name_for_node}
use Rattle.spec.specs.Lower.{module_of}
use Rattle.layout.specs.Layout.{expr_limit, name_limit, expr_row, pointer_row, expr_count, name_count, exprs_at, expr_pointers_at}
use Rattle.layout.specs.Rows.{cap, rows_to}
use Rattle.layout.specs.Exprs.{pointer_at, pointer_or, sort_of, made_in}
use Rattle.layout.specs.States.{name_in, exprs_of, names_of, state_of, module_in}
use Rattle.layout.proofs.RowLaws.{length_rows}
use Rattle.module.specs.Ids.{pointer_of}
use Rattle.module.specs.declared.pointer.Pointer as code_pointer
use Rattle.rows.specs.Readers.{maybe_pointer_of}

-- the number that a search found
unfoldable pub as_found : rust.Option ℕ → Option ℕ
as_found rust.None = none
as_found (rust.Some x) = some x

-- ---- the last of a list with one more at its end
last_more : (p : Pointer) (i : ℕ) (found : Option ℕ) (qs : List (Option Pointer)) (q : Option Pointer) → last_at p i found (qs ++ (q ∷ [])) ≡ (if points_to p q then some (i + length qs) else last_at p i found qs)
unfolding last_at
last_more p i found [] q = let e : i + 0 ≡ i = omega arith in rw e
last_more p i found (x ∷ qs) q =
    let e : i + suc (length qs) ≡ suc i + length qs = omega arith in
    rw e (last_more p (suc i) (if points_to p x then some i else found) qs q)

-- what is asked of the first n rows
unfoldable pub last_of : Pointer → (ℕ → Option Pointer) → ℕ → Option ℕ
last_of p f n = last_at p 0 none (rows_to f n)

last_none : (p : Pointer) (f : ℕ → Option Pointer) (n : ℕ) → n ≡ 0 → last_of p f n ≡ none
unfolding last_of last_at rows_to
last_none p f n e = rw e

last_step : (p : Pointer) (f : ℕ → Option Pointer) (n : ℕ) → last_of p f (suc n) ≡ (if points_to p (f n) then some n else last_of p f n)
unfolding last_of rows_to
last_step p f n = let e : 0 + length (rows_to f n) ≡ n = omega (arith, length_rows f n) in rw e at (last_more p 0 none (rows_to f n) (f n))

-- a row that the range gave from behind: it has the pointer and is the last, or those before it are asked
last_taken : (p : Pointer) (f : ℕ → Option Pointer) (n x : ℕ) → n ≡ x + 1 → last_of p f n ≡ (if points_to p (f x) then some x else last_of p f x)
last_taken p f n x e = let q : n ≡ suc x = omega arith in rw q (last_step p f x)

-- a call of `next_back`: from behind the end moves down by one and comes
abbrev backwards : Range ℕ → rust.Option ℕ → Range ℕ → Type 0
backwards = range_steps_back (λ a b. b - a) (λ a b. b ≡ a + 1)

-- what `rfind` over the numbers below n comes to, where a closure c that no call changes answers whether a row has the pointer
module _ {F : Type 0} {g : Mut F (Bor ℕ × Unit {0}) Bool} (p : Pointer) (f : ℕ → Option Pointer) (c : F) (answers : (x : ℕ) (b : Bool) (q : F) → CalledAt g c x b q → (q ≡ c) × (b ≡ points_to p (f x))) where
  found : (r : rust.Option ℕ) (s u : Range ℕ) → s.start ≡ 0 → backwards s r u → MatchOption r ⊤ (λ x. (h : F) × CalledAt g c x true h) → last_of p f s.end ≡ as_found r
  unfolding as_found
  found rust.None s u z step h = last_none p f s.end (omega (arith, step.1.0))
  found (rust.Some x) s u z step h =
      let e : points_to p (f x) ≡ true = sym (answers x true h.0 h.1).1 in
      rw e at (last_taken p f s.end x (omega (arith, step.1.1, step.1.2)))

  passed : (xs : List ℕ) (r : rust.Option ℕ) (s t u : Range ℕ) (j : F) → s.start ≡ 0 → Yields backwards s xs t → FoldsTo (λ k x q. CalledAt g k x false q) c xs j → backwards t r u → MatchOption r ⊤ (λ x. (h : F) × CalledAt g j x true h) → last_of p f s.end ≡ as_found r
  passed [] r s t u j z y q step h = rw y (found r t u (rw y at z) step (subst (λ k. MatchOption r ⊤ (λ x. (h : F) × CalledAt g k x true h)) (sym q) h))
  passed (x ∷ xs) r s t u j z y q step h =
      let a = answers x false q.0 q.1 in
      let e : points_to p (f x) ≡ false = sym a.1 in
      let more : last_of p f s.end ≡ last_of p f x = rw e at (last_taken p f s.end x (omega (arith, y.1.1.1, y.1.1.2))) in
      let l : y.0.end ≡ x = sym y.1.1.1 in
      more ∙ ap (last_of p f) (sym l) ∙ passed xs r y.0 t u j (y.1.0 ∙ z) y.2 (rw a.0 at q.2) step h

  pub last_found : (r : rust.Option ℕ) (s u : Range ℕ) (n : ℕ) → s ≡ record { start = 0; end = n } → FindsItem backwards g s c r u → last_of p f n ≡ as_found r
  last_found r s u n over (xs, j, (t, y, step), q, h) = ap (λ (k : Range ℕ). last_of p f k.end) (sym over) ∙ passed xs r s t u j (ap (λ (k : Range ℕ). k.start) over) y q step h

-- ---- the pointers of rows
expr_rows : (f : ℕ → Made) (n : ℕ) → expr_pointers (rows_to f n) ≡ rows_to (λ i. (f i).pointer) n
unfolding expr_pointers rows_to
expr_rows f zero = refl
expr_rows f (suc n) = go (rows_to f n) (f n) ∙ ap (λ qs. qs ++ ((f n).pointer ∷ [])) (expr_rows f n)
  where
    go : (ms : List Made) (m : Made) → expr_pointers (ms ++ (m ∷ [])) ≡ expr_pointers ms ++ (m.pointer ∷ [])
    go [] m = refl
    go (x ∷ ms) m = ap (λ qs. x.pointer ∷ qs) (go ms m)

name_rows : (f : ℕ → Name) (n : ℕ) → name_pointers (rows_to f n) ≡ rows_to (λ i. some (f i).pointer) n
unfolding name_pointers rows_to
name_rows f zero = refl
name_rows f (suc n) = go (rows_to f n) (f n) ∙ ap (λ qs. qs ++ (some (f n).pointer ∷ [])) (name_rows f n)
  where
    go : (ms : List Name) (m : Name) → name_pointers (ms ++ (m ∷ [])) ≡ name_pointers ms ++ (some m.pointer ∷ [])
    go [] m = refl
    go (x ∷ ms) m = ap (λ qs. some x.pointer ∷ qs) (go ms m)

-- ---- in a store
unfoldable pub expr_pointer : List ℕ → ℕ → Option Pointer
expr_pointer s i = (made_in s i).pointer

unfoldable pub name_pointer : List ℕ → ℕ → Option Pointer
name_pointer s i = some (name_in s i).pointer

module _ (s : List ℕ) (p : Pointer) (n : ℕ) where
  pub exprs_asked : n ≡ length (exprs_of s) → expr_for_node (module_in s) p ≡ last_of p (expr_pointer s) n
  unfolding expr_for_node module_in module_of state_of exprs_of last_of expr_pointer
  exprs_asked e =
      let c = cap (word s expr_count) expr_limit in
      let q : n ≡ c = e ∙ length_rows (made_in s) c in
      rw q (ap (last_at p 0 none) (expr_rows (made_in s) c))

  pub names_asked : n ≡ length (names_of s) → name_for_node (module_in s) p ≡ last_of p (name_pointer s) n
  unfolding name_for_node module_in module_of state_of names_of last_of name_pointer
  names_asked e =
      let c = cap (word s name_count) name_limit in
      let q : n ≡ c = e ∙ length_rows (name_in s) c in
      rw q (ap (last_at p 0 none) (name_rows (name_in s) c))

-- a row's pointer
module _ (s : List ℕ) (p : Pointer) (n : ℕ) (q : rust.Option code_pointer.Pointer) (row : maybe_pointer_of q ≡ (made_in s n).pointer) where
  pub expr_unpointed : q ≡ rust.None → false ≡ points_to p (made_in s n).pointer
  unfolding maybe_pointer_of points_to
  expr_unpointed e = rw (← row, e)

  pub expr_pointed : (x : code_pointer.Pointer) (b : Bool) → q ≡ rust.Some x → b ≡ same_pointer p (pointer_of x) → b ≡ points_to p (made_in s n).pointer
  unfolding maybe_pointer_of points_to
  expr_pointed x b e h = rw (← row, e, h)
