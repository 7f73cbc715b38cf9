-- Kept references: what is read of them, and what writing them anew does. Assumes nothing.
use mathlib.Core.Path.{◌≡◌, refl, sym, ap, ◌∙◌}
use mathlib.Core.Logic.{◌⊎◌, inl, inr}
use mathlib.Core.Bool.{Bool, true, false}
use mathlib.Core.List.{List, [], ◌∷◌, ◌++◌}
use mathlib.Core.Option.{none, some}
use Prim.Native.Nat.{ℕ, suc, ◌+◌, ◌-◌, ◌*◌, ◌≤◌, ◌<◌, ◌^◌}
use native.Mathlib.Omega.{arith}
use lib.ListN.{length, get_elem?}
use lib.Dec.{ltb}
use borrow.Author.Tests.{ltb-true, ltb-false}
use Rattle.words.specs.Words.{word, set_word}
use Rattle.words.proofs.WordLaws.{length_set_word, word_set_word_same, word_set_word_other}
use Rattle.spec.specs.Kept.{kept_references}
use Rattle.layout.specs.Layout.{name_limit, reference_limit, name_count, firsts_at, references_at, waiting_at, Long}
use Rattle.layout.specs.Rows.{cap, rows_to, rows_from}
use Rattle.layout.specs.Changes.{Outside, Wrote, Still}
use Rattle.layout.specs.Keeps.{first_reference, references_of, kept_in}
use Rattle.kept.specs.References.{listing, listed_by, lists_to, waiting_for, Listed, with_references, Relisted, Unlisted, Refers, Ended}
use Rattle.layout.proofs.RowLaws.{rows_same, length_rows, get_d_rows, get_d_past, cap_le, cap_lim, cap_less}
use Rattle.layout.proofs.Frames.{Same, clear_of, number_kept, wrote_none}
use Rattle.layout.proofs.WriteLaws.{still_set_word}
use Rattle.kept.proofs.ScopeReads.{rows_at, at_past}
use Rattle.kept.proofs.KeepFrames.{references_same, module_kept, scopes_kept, answers_kept}

-- ---- reading
abbrev pub ReferencesAt : List ℕ → ℕ → List ℕ
ReferencesAt s x = kept_references (kept_in s) x

refs_in : (s : List ℕ) (x : ℕ) → x < cap (word s name_count) name_limit → ReferencesAt s x ≡ references_of s x
unfolding kept_references kept_in
refs_in s x h = get_d_rows (references_of s) (cap (word s name_count) name_limit) x [] h

refs_out : (s : List ℕ) (x : ℕ) → cap (word s name_count) name_limit ≤ x → ReferencesAt s x ≡ []
unfolding kept_references kept_in
refs_out s x h = get_d_past (references_of s) (cap (word s name_count) name_limit) x [] h

length_references : (s : List ℕ) (x : ℕ) → length (references_of s x) ≡ cap (word s (firsts_at + 4 * x + 4)) reference_limit - cap (word s (firsts_at + 4 * x)) reference_limit
unfolding references_of rows_from first_reference
length_references s x =
    let e : firsts_at + 4 * (x + 1) ≡ firsts_at + 4 * x + 4 = omega arith in
    rw e (length_rows (λ k. word s (references_at + 4 * (cap (word s (firsts_at + 4 * x)) reference_limit + k))) (cap (word s (firsts_at + 4 * x + 4)) reference_limit - cap (word s (firsts_at + 4 * x)) reference_limit))

pub none_listed : (s : List ℕ) (x n : ℕ) → n ≡ cap (word s name_count) name_limit → n ≤ x → 0 ≡ length (ReferencesAt s x)
none_listed s x n en h = rw (refs_out s x (rw (← en) h))

pub some_listed : (s : List ℕ) (x n r : ℕ) → n ≡ cap (word s name_count) name_limit → x < n → r ≡ cap (word s (firsts_at + 4 * x + 4)) reference_limit - cap (word s (firsts_at + 4 * x)) reference_limit → r ≡ length (ReferencesAt s x)
some_listed s x n r en h e = rw (refs_in s x (rw (← en) h)) (e ∙ sym (length_references s x))

-- where there is a reference, it stands in the table
pub record Found (s : List ℕ) (x k : ℕ) : Type 0 where
  pub low : x < name_limit
  pub from : cap (word s (firsts_at + 4 * x)) reference_limit + k < reference_limit
  pub is : get_elem? (ReferencesAt s x) k ≡ some (word s (references_at + 4 * (cap (word s (firsts_at + 4 * x)) reference_limit + k)))

pub found : (s : List ℕ) (x k n : ℕ) → n ≡ length (ReferencesAt s x) → k < n → Found s x k
unfolding references_of rows_from first_reference
found s x k n en kn = go (ltb x (cap (word s name_count) name_limit)) refl
  where
    h : k < length (ReferencesAt s x)
    h = rw (← en) kn

    go : (b : Bool) → ltb x (cap (word s name_count) name_limit) ≡ b → Found s x k
    go true e =
        let l = ltb-true x (cap (word s name_count) name_limit) e in
        let c = cap_lim (word s name_count) name_limit in
        let m = cap_lim (word s (firsts_at + 4 * x + 4)) reference_limit in
        let q : firsts_at + 4 * (x + 1) ≡ firsts_at + 4 * x + 4 = omega arith in
        let z : k < cap (word s (firsts_at + 4 * x + 4)) reference_limit - cap (word s (firsts_at + 4 * x)) reference_limit = rw (refs_in s x l, length_references s x) at h in
        record {
          low = omega arith;
          from = omega arith;
          is = rw (refs_in s x l, q) (rows_at (λ j. word s (references_at + 4 * (cap (word s (firsts_at + 4 * x)) reference_limit + j))) (cap (word s (firsts_at + 4 * x + 4)) reference_limit - cap (word s (firsts_at + 4 * x)) reference_limit) k z);
        }
    go false e = let z : k < 0 = rw (refs_out s x (ltb-false x (cap (word s name_count) name_limit) e)) at h in absurd (omega arith)

pub past_found : (s : List ℕ) (x k n : ℕ) → n ≡ length (ReferencesAt s x) → n ≤ k → get_elem? (ReferencesAt s x) k ≡ none
past_found s x k n e h = at_past (ReferencesAt s x) k (rw (← e) h)

-- ---- writing
rest_kept : {s t : List ℕ} → Wrote listing s t → Still s t → kept_in t ≡ with_references (kept_in t).references (kept_in s)
unfolding kept_in with_references listing
rest_kept w still = rw (module_kept w still refl refl, scopes_kept w refl refl refl, answers_kept w refl refl refl refl, number_kept w 24 refl)

pub relisted : {s t : List ℕ} → Wrote listing s t → Still s t → Relisted s t
relisted w still = record { wrote = w; still = still; rest = rest_kept w still }

-- one word of the region
module _ (s t : List ℕ) (at v : ℕ) (lo : firsts_at ≤ at) (hi : at + 4 ≤ waiting_at) (et : t ≡ set_word s at v) where
  pub listing_other : (j : ℕ) → (j + 4 ≤ at) ⊎ (at + 4 ≤ j) → word t j ≡ word s j
  listing_other j o = rw et (word_set_word_other s at v j o)

  pub listing_one : Relisted s t
  unfolding listing Outside
  listing_one = relisted (record { size = rw et (length_set_word s at v); other = λ j o. listing_other j (clear_of at 4 firsts_at waiting_at j lo hi o.0) }) (rw et (still_set_word s at v (omega arith) (λ z. omega arith)))

pub not_listing : (s : List ℕ) → Relisted s s
not_listing s = relisted (wrote_none listing s) (record { same = refl; used = refl })

pub unlisted : (s t : List ℕ) → Long s → t ≡ set_word s firsts_at 0 → Unlisted s t
unfolding first_reference lists_to rows_to listed_by
unlisted s t l et =
    let z : word t firsts_at ≡ 0 = rw et (word_set_word_same s firsts_at 0 (omega arith) (omega arith)) in
    record {
      relisted = listing_one s t firsts_at 0 (omega arith) (omega arith) et;
      listed = record { begins = z; rises = λ y h. absurd (omega arith); few = omega arith; below = λ y h. absurd (omega arith); all = z };
    }

-- ---- adding
pub no_name : (s : List ℕ) (x i e : ℕ) → name_limit ≤ x → Refers x i e s s
no_name s x i e h = record { relisted = not_listing s; same = λ z. (refl, z); waits = λ a b. absurd (omega arith) }

pub no_room : (s : List ℕ) (x i e first : ℕ) → first ≡ word s (firsts_at + 4 * x) → reference_limit ≤ first + i → Refers x i e s s
unfolding first_reference
no_room s x i e first ef h = record { relisted = not_listing s; same = λ z. (refl, z); waits = λ a b. absurd (omega arith) }

-- a list before x ends at most where those of x begin
ends_below : (s : List ℕ) (x y : ℕ) → Listed x s → y < x → cap (first_reference s (y + 1)) reference_limit ≤ first_reference s x
ends_below s x y d h = go (ltb (y + 1) x) refl
  where
    own : cap (first_reference s (y + 1)) reference_limit ≤ first_reference s (y + 1)
    own = cap_less (first_reference s (y + 1)) reference_limit (first_reference s (y + 1)) (inr (omega arith))

    go : (b : Bool) → ltb (y + 1) x ≡ b → cap (first_reference s (y + 1)) reference_limit ≤ first_reference s x
    go true e = omega (arith, own, d.below (y + 1) (ltb-true (y + 1) x e))
    go false e = let z : y + 1 ≡ x = omega (arith, ltb-false (y + 1) x e) in rw (← z) own

module _ (s t : List ℕ) (x m : ℕ) (firsts : Same s t firsts_at (firsts_at + 4 * x + 4)) (refs : Same s t references_at (references_at + 4 * m)) (d : Listed x s) (low : first_reference s x ≤ m) where
  lists_same : lists_to t x ≡ lists_to s x
  unfolding lists_to
  lists_same = rows_same (references_of t) (references_of s) x (λ y h. references_same s t y m (λ j a b. firsts j (omega arith) (omega arith)) refs (omega (arith, ends_below s x y d h)))

  first_same : (y : ℕ) → y ≤ x → first_reference t y ≡ first_reference s y
  unfolding first_reference
  first_same y h = firsts (firsts_at + 4 * y) (omega arith) (omega arith)

  listed_same : Listed x t
  listed_same =
      let e = first_same x (omega arith) in
      record {
        begins = first_same 0 (omega arith) ∙ d.begins;
        rises = λ y h. rw (first_same y (omega arith), first_same (y + 1) (omega arith)) (d.rises y h);
        few = rw e d.few;
        below = λ y h. rw (e, first_same y (omega arith)) (d.below y h);
        all = e ∙ d.all ∙ ap listed_by (sym lists_same);
      }

pub refers : (s t : List ℕ) (x i e first : ℕ) → Long s → x < name_limit → first ≡ word s (firsts_at + 4 * x) → first + i < reference_limit → e < 2 ^ 32 → t ≡ set_word s (references_at + 4 * (first + i)) e → Refers x i e s t
unfolding first_reference waiting_for rows_to
refers s t x i e first l hx ef h he et =
    let at = references_at + 4 * (first + i) in
    let other = listing_other s t at e (omega arith) (omega arith) et in
    let firsts : Same s t firsts_at (firsts_at + 4 * x + 4) = λ j a b. other j (inl (omega arith)) in
    let refs : Same s t references_at (references_at + 4 * first) = λ j a b. other j (inl (omega arith)) in
    let z : i + 1 ≡ suc i = omega arith in
    let one : word t (references_at + 4 * (first + i)) ≡ e = rw et (word_set_word_same s at e (omega arith) he) in
    let ft : word t (firsts_at + 4 * x) ≡ first = other (firsts_at + 4 * x) (inl (omega arith)) ∙ sym ef in
    record {
      relisted = listing_one s t at e (omega arith) (omega arith) et;
      same = λ d. (lists_same s t x first firsts refs d (omega arith), listed_same s t x first firsts refs d (omega arith));
      waits = λ a b. rw (z, ft, ← ef, one) (ap (λ (ys : List ℕ). ys ++ (e ∷ [])) (rows_same (λ k. word t (references_at + 4 * (first_reference t x + k))) (λ k. word s (references_at + 4 * (first + k))) i (λ k q. rw ft (other (references_at + 4 * (first + k)) (inl (omega arith))))));
    }

-- ---- ending
pub no_name_ends : (s : List ℕ) (x n : ℕ) → name_limit ≤ x → Ended x n s s
no_name_ends s x n h = record { relisted = not_listing s; does = λ d a b. absurd (omega arith) }

pub no_room_ends : (s : List ℕ) (x n first : ℕ) → first ≡ word s (firsts_at + 4 * x) → reference_limit < first + n → Ended x n s s
unfolding first_reference
no_room_ends s x n first ef h = record { relisted = not_listing s; does = λ d a b. let z : first ≡ listed_by (lists_to s x) = ef ∙ d.all in absurd (omega arith) }

pub listed_more : (ess : List (List ℕ)) (es : List ℕ) → listed_by (ess ++ (es ∷ [])) ≡ listed_by ess + length es
unfolding listed_by
listed_more [] es = omega arith
listed_more (fs ∷ ess) es = rw (listed_more ess es) (omega arith)

first_is : (s : List ℕ) (x first : ℕ) → first ≡ word s (firsts_at + 4 * x) → first ≡ first_reference s x
unfolding first_reference
first_is s x first e = e

up_to_lem : (s : List ℕ) (x y : ℕ) → Listed x s → y ≤ x → first_reference s y ≤ first_reference s x
up_to_lem s x y d h = go (ltb y x) refl
  where
    go : (b : Bool) → ltb y x ≡ b → first_reference s y ≤ first_reference s x
    go true e = d.below y (ltb-true y x e)
    go false e = let z : y ≡ x = omega (arith, ltb-false y x e) in rw z (omega arith)

module _ (s t : List ℕ) (x n first : ℕ) (l : Long s) (hx : x < name_limit) (ef : first ≡ word s (firsts_at + 4 * x)) (h : first + n ≤ reference_limit) (et : t ≡ set_word s (firsts_at + 4 * x + 4) (first + n)) where
  end_other : (j : ℕ) → (j + 4 ≤ firsts_at + 4 * x + 4) ⊎ (firsts_at + 4 * x + 4 + 4 ≤ j) → word t j ≡ word s j
  end_other = listing_other s t (firsts_at + 4 * x + 4) (first + n) (omega arith) (omega arith) et

  end_firsts : Same s t firsts_at (firsts_at + 4 * x + 4)
  end_firsts j a b = end_other j (inl (omega arith))

  end_refs : Same s t references_at (references_at + 4 * reference_limit)
  end_refs j a b = end_other j (inr (omega arith))

  end_next : first_reference t (x + 1) ≡ first + n
  unfolding first_reference
  end_next =
      let z : firsts_at + 4 * (x + 1) ≡ firsts_at + 4 * x + 4 = omega arith in
      rw (z, et) (word_set_word_same s (firsts_at + 4 * x + 4) (first + n) (omega arith) (omega arith))

  end_first : first_reference t x ≡ first
  unfolding first_reference
  end_first = end_firsts (firsts_at + 4 * x) (omega arith) (omega arith) ∙ sym ef

  length_waiting : length (waiting_for s x n) ≡ n
  unfolding waiting_for
  length_waiting = length_rows (λ k. word s (references_at + 4 * (first_reference s x + k))) n

  end_list : references_of t x ≡ waiting_for s x n
  unfolding references_of waiting_for rows_from
  end_list =
      let z : first + n - first ≡ n = omega arith in
      let fs : first_reference s x ≡ first = sym (first_is s x first ef) in
      rw (end_first, end_next, cap_le first reference_limit (omega arith), cap_le (first + n) reference_limit h, z, fs) (rows_same (λ k. word t (references_at + 4 * (first + k))) (λ k. word s (references_at + 4 * (first + k))) n (λ k q. end_refs (references_at + 4 * (first + k)) (omega arith) (omega arith)))

  end_lists : Listed x s → lists_to t (x + 1) ≡ lists_to s x ++ (waiting_for s x n ∷ [])
  unfolding lists_to rows_to
  end_lists d =
      let z : x + 1 ≡ suc x = omega arith in
      rw (z, end_list, lists_same s t x reference_limit end_firsts end_refs d d.few)

  end_rises : Listed x s → (y : ℕ) → y < x + 1 → first_reference t y ≤ first_reference t (y + 1)
  end_rises d y q = go (ltb y x) refl
    where
      same : (z : ℕ) → z ≤ x → first_reference t z ≡ first_reference s z
      same z l = first_same s t x reference_limit end_firsts end_refs d d.few z l

      go : (b : Bool) → ltb y x ≡ b → first_reference t y ≤ first_reference t (y + 1)
      go true e = let l = ltb-true y x e in rw (same y (omega arith), same (y + 1) (omega arith)) (d.rises y l)
      go false e = let z : y ≡ x = omega (arith, ltb-false y x e) in rw (z, end_next, end_first) (omega arith)

  pub ended : Ended x n s t
  ended =
      record {
        relisted = listing_one s t (firsts_at + 4 * x + 4) (first + n) (omega arith) (omega arith) et;
        does = λ d a b.
            let fs : first_reference s x ≡ first = sym (first_is s x first ef) in (
              end_lists d,
              record {
                begins = first_same s t x reference_limit end_firsts end_refs d d.few 0 (omega arith) ∙ d.begins;
                rises = end_rises d;
                few = rw end_next h;
                below = λ y q.
                    let c : first_reference t y ≡ first_reference s y = first_same s t x reference_limit end_firsts end_refs d d.few y (omega arith) in
                    rw (end_next, c) (omega (arith, up_to_lem s x y d (omega arith)));
                all = end_next ∙ rw (end_lists d, listed_more (lists_to s x) (waiting_for s x n), length_waiting, ← d.all, fs);
              },
            );
      }
