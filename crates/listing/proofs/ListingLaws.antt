-- Kept references listed anew: the list of one name, of all of them, and the whole. Assumes nothing.
use mathlib.Core.Path.{◌≡◌, refl, sym, ap, ◌∙◌}
use mathlib.Core.Bool.{Bool, true, false}
use mathlib.Core.List.{List, [], ◌∷◌, ◌++◌, append-nil}
use Prim.Native.Nat.{ℕ, zero, suc, ◌+◌, ◌-◌, ◌*◌, ◌≤◌, ◌<◌}
use native.Mathlib.Omega.{arith}
use lib.ListN.{length, get_or, length-append}
use lib.Seq.{append_snoc}
use lib.Dec.{ltb}
use borrow.Author.Tests.{ltb-true, ltb-false}
use Rattle.words.specs.Words.{word}
use Rattle.spec.specs.Kept.{tabulate, answered_with}
use Rattle.spec.specs.Lower.{module_of}
use Rattle.spec.proofs.general.Sums.{compared}
use Rattle.layout.specs.Layout.{expr_limit, name_limit, reference_limit, expr_count, name_count, references_at, nexts_at, heads_at}
use Rattle.layout.specs.Rows.{cap, rows_to, rows_from}
use Rattle.layout.specs.Changes.{Range, Outside, Wrote, Still}
use Rattle.layout.specs.States.{name_in, names_of, state_of, module_in}
use Rattle.layout.specs.Keeps.{first_reference, references_of, kept_in}
use Rattle.layout.proofs.Frames.{number_kept, wrote_then}
use Rattle.layout.proofs.RowLaws.{rows_same, length_rows, get_d_rows, rows_none, rows_more, rows_join, cap_le}
use Rattle.layout.proofs.WriteLaws.{still_then}
use Rattle.kept.specs.References.{listing, listed_by, lists_to, waiting_for, Listed, with_references, Relisted, Unlisted, Refers, Ended}
use Rattle.kept.proofs.KeepFrames.{module_kept, scopes_kept, answers_kept}
use Rattle.kept.proofs.ReferenceLaws.{relisted, not_listing}
use Rattle.listing.specs.Links.{linking, next_of, head_of, Chained, answered_from, Linked, Links}
use Rattle.listing.specs.Lists.{relisting, Lists, Listable, ListsOne, ListsAll}
use Rattle.listing.proofs.AnsweredLaws.{Within, from_within, from_used, references_fit}
use Rattle.listing.proofs.LinkLaws.{from_same, next_same, still_chained, still_linked}

-- ---- writes of kept references alone
relisted_then : {s u t : List ℕ} → Relisted s u → Relisted u t → Relisted s t
relisted_then a b = relisted (wrote_then a.wrote b.wrote) (still_then a.still b.still)

from_relisted : {s t : List ℕ} → Relisted s t → (e x : ℕ) → answered_from t e x ≡ answered_from s e x
unfolding listing
from_relisted r e x = from_same r.wrote refl refl refl refl e x

next_relisted : {s t : List ℕ} → Relisted s t → (e : ℕ) → e < expr_limit → next_of t e ≡ next_of s e
unfolding listing
next_relisted r e h = next_same r.wrote refl refl refl refl refl e h

chain_relisted : {s t : List ℕ} → Relisted s t → (at : ℕ) (es : List ℕ) → Within 0 expr_limit es → Chained s at es → Chained t at es
unfolding listing
chain_relisted r at es w p = still_chained r.wrote refl refl refl refl refl at es w p

linked_relisted : {s t : List ℕ} → Relisted s t → (n : ℕ) → n ≤ name_limit → Linked n 0 s → Linked n 0 t
unfolding listing
linked_relisted r n h p = still_linked r.wrote refl refl refl refl refl n h p

-- the names' number is read before they are linked
pub linked_now : (s a b : List ℕ) (k n : ℕ) → k ≡ word s name_count → n ≡ cap k name_limit → n ≤ name_limit → Links s a → Relisted a b → Linked n 0 b
linked_now s a b k n ek en h l r = let e : n ≡ cap (word s name_count) name_limit = rw ek at en in linked_relisted r n h (rw (← e) at l.linked)

-- ---- the list of one name: i references wait, and the rest of them are linked from `next` on
pub record Walking (x : ℕ) (s t : List ℕ) (next i : ℕ) : Type 0 where
  pub relisted : Relisted s t
  pub listed : Listed x t
  pub lists : lists_to t x ≡ lists_to s x
  pub rest : List ℕ
  pub all : waiting_for t x i ++ rest ≡ answered_from s 0 x
  pub low : Within 0 expr_limit rest
  pub chain : Chained t next rest

pub walking_none : (x : ℕ) (s : List ℕ) (next : ℕ) → Listable x s → next ≡ word s (heads_at + 4 * x) → Walking x s s next 0
unfolding waiting_for head_of
walking_none x s next r e =
    record {
      relisted = not_listing s;
      listed = r.listed;
      lists = refl;
      rest = answered_from s 0 x;
      all = rw (rows_none (λ k. word s (references_at + 4 * (first_reference s x + k))));
      low = from_within s 0 x (omega arith);
      chain = rw e r.chain;
    }

length_waiting : (t : List ℕ) (x i : ℕ) → length (waiting_for t x i) ≡ i
unfolding waiting_for
length_waiting t x i = length_rows (λ k. word t (references_at + 4 * (first_reference t x + k))) i

walking_length : (x : ℕ) (s t : List ℕ) (next i : ℕ) (d : Walking x s t next i) → i + length d.rest ≡ length (answered_from s 0 x)
walking_length x s t next i d =
    let p = length-append (waiting_for t x i) d.rest in
    let q = length_waiting t x i in
    let r = ap length d.all in
    omega arith

-- what is known of the next one
pub record NextLinked (x : ℕ) (s t : List ℕ) (next i : ℕ) : Type 0 where
  pub low : next - 1 < expr_limit
  pub more : i < length (answered_from s 0 x)
  pub few : i < expr_limit
  pub waits : first_reference t x + i < reference_limit
  pub rest : List ℕ
  pub all : waiting_for t x i ++ ((next - 1) ∷ rest) ≡ answered_from s 0 x
  pub lows : Within 0 expr_limit rest
  pub chain : Chained t (next_of t (next - 1)) rest

pub walking_next : (x : ℕ) (s t : List ℕ) (next i : ℕ) → Listable x s → Walking x s t next i → (next ≡ 0 → ⊥) → NextLinked x s t next i
unfolding Chained
walking_next x s t next i r d ne = go d.rest d.all (walking_length x s t next i d) d.low d.chain
  where
    go : (es : List ℕ) → waiting_for t x i ++ es ≡ answered_from s 0 x → i + length es ≡ length (answered_from s 0 x) → Within 0 expr_limit es → Chained t next es → NextLinked x s t next i
    go [] a l w c = absurd (ne c)
    go (e ∷ es) a l w c =
        let k : next ≡ e + 1 = c.0 in
        let q : e ≡ next - 1 = omega arith in
        let h = w.0.1 in
        let f = d.listed.all ∙ ap listed_by d.lists in
        let room = r.room in
        record {
          low = omega arith;
          more = omega arith;
          few = omega arith;
          waits = omega arith;
          rest = es;
          all = rw q at a;
          lows = w.1;
          chain = rw q at c.1;
        }

pub walking_more : (x : ℕ) (s t u : List ℕ) (next i after : ℕ) → Listable x s → Walking x s t next i → (next ≡ 0 → ⊥) → Refers x i (next - 1) t u → after ≡ word u (nexts_at + 4 * (next - 1)) → Walking x s u after (i + 1)
unfolding next_of
walking_more x s t u next i after r d ne f e =
    let n = walking_next x s t next i r d ne in
    let same = f.same d.listed in
    let is : after ≡ next_of t (next - 1) = e ∙ next_relisted f.relisted (next - 1) n.low in
    record {
      relisted = relisted_then d.relisted f.relisted;
      listed = same.1;
      lists = same.0 ∙ d.lists;
      rest = n.rest;
      all = rw (f.waits r.name n.waits) (append_snoc (waiting_for t x i) (next - 1) n.rest ∙ n.all);
      low = n.lows;
      chain = rw is (chain_relisted f.relisted (next_of t (next - 1)) n.rest n.lows n.chain);
    }

-- the end of the links
walking_all : (x : ℕ) (s t : List ℕ) (next i : ℕ) → Walking x s t next i → next ≡ 0 → waiting_for t x i ≡ answered_from s 0 x
unfolding Chained
walking_all x s t next i d z = go d.rest d.all d.chain
  where
    go : (es : List ℕ) → waiting_for t x i ++ es ≡ answered_from s 0 x → Chained t next es → waiting_for t x i ≡ answered_from s 0 x
    go [] a c = sym (append-nil (waiting_for t x i)) ∙ a
    go (e ∷ es) a c = let k : next ≡ e + 1 = c.0 in absurd (omega arith)

pub walking_done : (x : ℕ) (s t u : List ℕ) (next i : ℕ) → Listable x s → Walking x s t next i → next ≡ 0 → Ended x i t u → ListsOne x s u
walking_done x s t u next i r d z e =
    let a = walking_all x s t next i d z in
    let l : i ≡ length (answered_from s 0 x) = sym (length_waiting t x i) ∙ ap length a in
    let room : listed_by (lists_to t x) + i ≤ reference_limit = rw (d.lists, l) r.room in
    let done = e.does d.listed r.name room in
    record { relisted = relisted_then d.relisted e.relisted; listed = done.1; lists = done.0 ∙ rw (d.lists, a) }

-- ---- the lists of the first x names
pub record Listing (x : ℕ) (s t : List ℕ) : Type 0 where
  pub relisted : Relisted s t
  pub listed : Listed x t
  pub lists : lists_to t x ≡ rows_to (answered_from s 0) x

pub listing_none : (s : List ℕ) → Listed 0 s → Listing 0 s s
unfolding lists_to
listing_none s l = record { relisted = not_listing s; listed = l; lists = rows_none (references_of s) ∙ sym (rows_none (answered_from s 0)) }

pub ready : (n x : ℕ) (s t : List ℕ) → n ≤ name_limit → Linked n 0 s → Listing x s t → x < n → Listable x t
ready n x s t h p d k =
    record {
      name = omega arith;
      chain = (linked_relisted d.relisted n h p).chain x k;
      listed = d.listed;
      room = rw (d.lists, from_relisted d.relisted 0 x) (references_fit s x);
    }

pub listing_more : (x : ℕ) (s t u : List ℕ) → Listing x s t → ListsOne x t u → Listing (x + 1) s u
listing_more x s t u d o =
    record {
      relisted = relisted_then d.relisted o.relisted;
      listed = o.listed;
      lists = o.lists ∙ rw (d.lists, from_relisted d.relisted 0 x, rows_more (answered_from s 0) x);
    }

pub listing_done : (x n : ℕ) (s t : List ℕ) → Listing x s t → x ≤ n → n ≤ x → ListsAll n s t
listing_done x n s t d a b = let q : x ≡ n = omega arith in record { relisted = d.relisted; listed = rw q at d.listed; lists = rw q at d.lists }

-- what lies before the lists of the name x lies in one of the lists before it
in_lists : (t : List ℕ) (m x : ℕ) → first_reference t 0 ≡ 0 → ((y : ℕ) → y ≤ x → first_reference t y ≤ reference_limit)
    → ((y k : ℕ) → y < x → k < length (references_of t y) → get_or (references_of t y) k 0 < m) → (j : ℕ) → j < first_reference t x → word t (references_at + 4 * j) < m
unfolding references_of rows_from
in_lists t m zero z low own j h = absurd (omega (arith, z))
in_lists t m (suc x) z low own j h = go (ltb j (first_reference t x)) refl (in_lists t m x z (λ y l. low y (omega arith)) (λ y k l. own y k (omega arith)) j)
  where
    here : first_reference t x ≤ j → word t (references_at + 4 * j) < m
    here l =
        let a = cap_le (first_reference t x) reference_limit (low x (omega arith)) in
        let q : x + 1 ≡ suc x = omega arith in
        let b = cap_le (first_reference t (suc x)) reference_limit (low (suc x) (omega arith)) in
        let n = length_rows (λ i. word t (references_at + 4 * (first_reference t x + i))) (first_reference t (suc x) - first_reference t x) in
        let k : j - first_reference t x < first_reference t (suc x) - first_reference t x = omega arith in
        let o = own x (j - first_reference t x) (omega arith) in
        let e : first_reference t x + (j - first_reference t x) ≡ j = omega arith in
        let g = get_d_rows (λ i. word t (references_at + 4 * (first_reference t x + i))) (first_reference t (suc x) - first_reference t x) (j - first_reference t x) 0 k in
        rw e at (rw g at (rw (q, a, b) at o (rw n k)))

    go : (b : Bool) → ltb j (first_reference t x) ≡ b → (j < first_reference t x → word t (references_at + 4 * j) < m) → word t (references_at + 4 * j) < m
    go true e before = before (ltb-true j (first_reference t x) e)
    go false e before = here (ltb-false j (first_reference t x) e)

-- what is listed are expressions in use
lists_used : (n : ℕ) (s t : List ℕ) → ListsAll n s t → (j : ℕ) → j < first_reference t n → word t (references_at + 4 * j) < cap (word s expr_count) expr_limit
unfolding lists_to
lists_used n s t d =
    in_lists t (cap (word s expr_count) expr_limit) n d.listed.begins few (λ y k l q. rw (own y l) (from_used s y k (rw (own y l) at q)))
  where
    few : (y : ℕ) → y ≤ n → first_reference t y ≤ reference_limit
    few y l = compared y n (λ e. rw e d.listed.few) (λ e. omega (arith, d.listed.few, d.listed.below y (omega arith)))

    own : (y : ℕ) → y < n → references_of t y ≡ answered_from s 0 y
    own y l = sym (get_d_rows (references_of t) n y [] l) ∙ ap (λ (ess : List (List ℕ)). get_or ess y []) d.lists ∙ get_d_rows (answered_from s 0) n y [] l

-- ---- the whole
tabulate_rows : {A B : Type 0} (f : ℕ → B) (i : ℕ) (xs : List A) → tabulate f i xs ≡ rows_to (λ k. f (i + k)) (length xs)
unfolding tabulate rows_to
tabulate_rows f i [] = refl
tabulate_rows f i (x ∷ xs) =
    let n = length xs in
    let e : 1 + n ≡ suc n = omega arith in
    let z : f (i + 0) ≡ f i = ap f (omega arith) in
    let q = rows_same (λ k. f (suc i + k)) (λ k. f (i + (1 + k))) n (λ k l. ap f (omega arith)) in
    let first : rows_to (λ k. f (i + k)) (1 + n) ≡ f (i + 0) ∷ rows_to (λ k. f (i + (1 + k))) n = rows_join (λ k. f (i + k)) 1 n in
    rw (tabulate_rows f (suc i) xs, q, ← z, ← first, e)

names_length : (s : List ℕ) → length (kept_in s).lowered.names ≡ cap (word s name_count) name_limit
unfolding kept_in module_in module_of state_of names_of
names_length s = length_rows (name_in s) (cap (word s name_count) name_limit)

listed_by_lem : (s : List ℕ) → rows_to (answered_from s 0) (cap (word s name_count) name_limit) ≡ tabulate (λ x. answered_with x 0 (kept_in s).answers) 0 (kept_in s).lowered.names
unfolding answered_from
listed_by_lem s =
    let f : ℕ → List ℕ = λ x. answered_with x 0 (kept_in s).answers in
    let n = cap (word s name_count) name_limit in
    rows_same f (λ k. f (0 + k)) n (λ k l. ap f (omega arith)) ∙ ap (rows_to (λ k. f (0 + k))) (sym (names_length s)) ∙ sym (tabulate_rows f 0 (kept_in s).lowered.names)

-- a write of less
wrote_within : {qs rs : List Range} {s t : List ℕ} → ((j : ℕ) → Outside j rs → Outside j qs) → Wrote qs s t → Wrote rs s t
wrote_within f w = record { size = w.size; other = λ j o. w.other j (f j o) }

wrote_listing : {s t : List ℕ} → Wrote listing s t → Wrote relisting s t
unfolding listing relisting Outside
wrote_listing w = wrote_within (λ j o. (o.0, tt)) w

wrote_linking : {s t : List ℕ} → Wrote linking s t → Wrote relisting s t
unfolding linking relisting Outside
wrote_linking w = wrote_within (λ j o. (o.1.0, tt)) w

kept_but : (s t : List ℕ) (ess : List (List ℕ)) → Wrote relisting s t → Still s t → rows_to (references_of t) (cap (word t name_count) name_limit) ≡ ess → kept_in t ≡ with_references ess (kept_in s)
unfolding kept_in with_references relisting
kept_but s t ess w still e = rw (module_kept w still refl refl, scopes_kept w refl refl refl, answers_kept w refl refl refl refl, e, number_kept w 24 refl)

pub listed_anew : (s a b t : List ℕ) (k n : ℕ) → k ≡ word s name_count → n ≡ cap k name_limit → Links s a → Unlisted a b → ListsAll n b t → Lists s t
unfolding relisting lists_to
listed_anew s a b t k n ek en l u d =
    let e : n ≡ cap (word s name_count) name_limit = rw ek at en in
    let to_b = wrote_then (wrote_linking l.wrote) (wrote_listing u.relisted.wrote) in
    let w = wrote_then to_b (wrote_listing d.relisted.wrote) in
    let still = still_then (still_then l.still u.relisted.still) d.relisted.still in
    let count : cap (word t name_count) name_limit ≡ n = rw (number_kept w 4 refl) (sym e) in
    let from = rows_same (answered_from b 0) (answered_from s 0) n (λ x q. from_same to_b refl refl refl refl 0 x) in
    record {
      wrote = w;
      still = still;
      listed = rw (← e) d.listed;
      exprs = λ j h. rw (sym (number_kept to_b 0 refl)) (lists_used n b t d j (rw (← e) at h));
      does = kept_but s t (tabulate (λ x. answered_with x 0 (kept_in s).answers) 0 (kept_in s).lowered.names) w still (ap (rows_to (references_of t)) count ∙ d.lists ∙ from ∙ ap (rows_to (answered_from s 0)) e ∙ listed_by_lem s);
    }
