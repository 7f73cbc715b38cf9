-- A node by the words of its row. Assumes nothing.
use mathlib.Core.Path.{◌≡◌, refl, sym, ap, ◌∙◌}
use mathlib.Core.Bool.{Bool, true, false}
use mathlib.Core.List.{List}
use mathlib.Core.Option.{Option, none, some}
use Prim.Native.Nat.{ℕ, ◌+◌, ◌-◌, ◌*◌, ◌≤◌, ◌<◌}
use native.Mathlib.Omega.{arith}
use lib.ListN.{length, get_or, get_or-eq_default}
use lib.Dec.{ltb}
use borrow.Author.Tests.{lt-ltb, le-ltb, ltb-true, ltb-false, eq-eqb, ne_eqb}
use Rattle.words.specs.Words.{word}
use Rattle.spec.specs.Basics.{NodeId}
use Rattle.spec.specs.Sheet.{Node}
use Rattle.spec.specs.Tree.{nobody, node_at}
use Rattle.spec.specs.Keys.{kind, flag, text, pointer, kid}
use Rattle.layout.specs.Layout.{absent, node_limit, kid_limit, node_row, node_count, nodes_at, kids_at}
use Rattle.layout.specs.Rows.{cap, rows_from, marked}
use Rattle.layout.specs.Texts.{text_in}
use Rattle.layout.specs.Nodes.{first_kid, kid_in, node_in, nodes_of}
use Rattle.intake.specs.NodeReads.{node_word}
use Rattle.layout.proofs.RowLaws.{cap_lim, length_rows, get_d_rows, get_d_past, length_between, get_d_between}
use Rattle.layout.proofs.Frames.{text_absent}

-- ---- which numbers are those of nodes
module _ (s : List ℕ) where
  pub count_is : length (nodes_of s) ≡ cap (word s node_count) node_limit
  unfolding nodes_of
  count_is = length_rows (node_in s) (cap (word s node_count) node_limit)

  pub count_few : length (nodes_of s) ≤ node_limit
  count_few = omega (arith, count_is, cap_lim (word s node_count) node_limit)

  module _ (n : ℕ) where
    pub node_in_lem : n < length (nodes_of s) → node_at (nodes_of s) n ≡ node_in s n
    unfolding nodes_of node_at
    node_in_lem h = get_d_rows (node_in s) (cap (word s node_count) node_limit) n nobody (omega (arith, count_is))

    pub node_out : length (nodes_of s) ≤ n → node_at (nodes_of s) n ≡ nobody
    unfolding nodes_of node_at
    node_out h = get_d_past (node_in s) (cap (word s node_count) node_limit) n nobody (omega (arith, count_is))

    pub word_in : (place : ℕ) → n < length (nodes_of s) → node_word s n place ≡ word s (nodes_at + node_row * n + place)
    unfolding node_word
    word_in place h = rw (lt-ltb n (length (nodes_of s)) h)

    pub word_out : (place : ℕ) → length (nodes_of s) ≤ n → node_word s n place ≡ 0
    unfolding node_word
    word_out place h = rw (le-ltb n (length (nodes_of s)) h)

    -- ---- a word that is a field
    module _ (f : Node → ℕ) (place : ℕ) (e : f (node_in s n) ≡ word s (nodes_at + node_row * n + place)) (z : f nobody ≡ 0) where
      field_is : node_word s n place ≡ f (node_at (nodes_of s) n)
      field_is = go (ltb n (length (nodes_of s))) refl
        where
          go : (b : Bool) → ltb n (length (nodes_of s)) ≡ b → node_word s n place ≡ f (node_at (nodes_of s) n)
          go true q = let h = ltb-true n _ q in word_in place h ∙ sym (ap f (node_in_lem h) ∙ e)
          go false q = let h = ltb-false n _ q in word_out place h ∙ sym (ap f (node_out h) ∙ z)

    pub kind_is : node_word s n 4 ≡ kind (nodes_of s) n
    unfolding kind node_in nobody
    kind_is = field_is (λ x. x.kind) 4 refl refl

    pub flag_is : node_word s n 16 ≡ flag (nodes_of s) n
    unfolding flag node_in nobody
    flag_is = field_is (λ x. x.flag) 16 refl refl

    pub pointer_is : (a b c : ℕ) → a ≡ node_word s n 4 → b ≡ node_word s n 8 → c ≡ node_word s n 12 → record { kind = a; from = b; to = c } ≡ pointer (nodes_of s) n
    unfolding pointer node_in nobody
    pointer_is a b c p q r =
        rw (p, q, r, field_is (λ x. x.kind) 4 refl refl, field_is (λ x. x.from) 8 refl refl, field_is (λ x. x.to) 12 refl refl)

    -- ---- the text
    module _ (h : n < length (nodes_of s)) where
      pub text_is : (r : ℕ) → r ≡ node_word s n 20 → text_in s r ≡ text (nodes_of s) n
      unfolding text node_in
      text_is r e = ap (text_in s) (e ∙ word_in 20 h) ∙ sym (ap (λ (x : Node). x.text) (node_in_lem h))

    pub text_none : length (nodes_of s) ≤ n → text_in s absent ≡ text (nodes_of s) n
    unfolding text nobody
    text_none h = text_absent s ∙ sym (ap (λ (x : Node). x.text) (node_out h))

    -- ---- the kids
    kids_in_lem : n < length (nodes_of s) → (node_at (nodes_of s) n).kids ≡ rows_from (kid_in s) (first_kid s n) (first_kid s (n + 1))
    unfolding node_in
    kids_in_lem h = ap (λ (x : Node). x.kids) (node_in_lem h)

    pub kids_none : length (nodes_of s) ≤ n → 0 ≡ length (node_at (nodes_of s) n).kids
    unfolding nobody
    kids_none h = sym (ap (λ (x : Node). length x.kids) (node_out h))

    module _ (first end : ℕ) (h : n < length (nodes_of s)) (p : first ≡ first_kid s n) (q : end ≡ first_kid s (n + 1)) where
      pub kids_many : end - first ≡ length (node_at (nodes_of s) n).kids
      kids_many = rw (p, q) (sym (ap length (kids_in_lem h) ∙ length_between (kid_in s) (first_kid s n) (first_kid s (n + 1))))

      pub kids_no : end ≤ first → 0 ≡ length (node_at (nodes_of s) n).kids
      kids_no l = omega (arith, kids_many)

    -- a kid in its place says that there is such a node
    pub kid_node : (i : ℕ) → i < length (node_at (nodes_of s) n).kids → n < length (nodes_of s)
    kid_node i h = go (ltb n (length (nodes_of s))) refl
      where
        go : (b : Bool) → ltb n (length (nodes_of s)) ≡ b → n < length (nodes_of s)
        go true q = ltb-true n _ q
        go false q = absurd (omega (arith, kids_none (ltb-false n _ q)))

-- ---- one kid
first_limit : (s : List ℕ) (i : ℕ) → first_kid s i ≤ kid_limit
unfolding first_kid
first_limit s i = cap_lim (word s (nodes_at + node_row * i)) kid_limit

module _ (s : List ℕ) (n i r : ℕ) (e : r ≡ length (node_at (nodes_of s) n).kids) where
  pub kid_none : r ≤ i → none ≡ kid (nodes_of s) i n
  unfolding kid
  kid_none h = sym (get_or-eq_default (node_at (nodes_of s) n).kids none (omega arith))

  module _ (h : i < r) where
    there : n < length (nodes_of s)
    there = kid_node s n i (omega arith)

    pub kid_row : n ≤ node_limit
    kid_row = omega (arith, there, count_few s)

    pub kid_place : first_kid s n + i < kid_limit
    kid_place = omega (arith, kids_many s n (first_kid s n) (first_kid s (n + 1)) there refl refl, first_limit s (n + 1))

    pub kid_is : kid_in s (first_kid s n + i) ≡ kid (nodes_of s) i n
    unfolding kid
    kid_is =
        let l : i < first_kid s (n + 1) - first_kid s n = omega (arith, kids_many s n (first_kid s n) (first_kid s (n + 1)) there refl refl) in
        sym (ap (λ (ks : List (Option NodeId)). get_or ks i none) (kids_in_lem s n there) ∙ get_d_between (kid_in s) (first_kid s n) (first_kid s (n + 1)) i none l)

pub kid_marked : (s : List ℕ) (j k : ℕ) → k ≡ word s (kids_at + 4 * j) → k ≡ absent → none ≡ kid_in s j
unfolding kid_in marked
kid_marked s j k e q = rw (← e, eq-eqb k absent q)

pub kid_number : (s : List ℕ) (j k : ℕ) → k ≡ word s (kids_at + 4 * j) → (k ≡ absent → ⊥) → some k ≡ kid_in s j
unfolding kid_in marked
kid_number s j k e q = rw (← e, ne_eqb k absent q)

-- ---- the same, in the code's own terms
pub count_from : (s : List ℕ) (n a b : ℕ) → a ≡ word s node_count → b ≡ cap a node_limit → ltb n b ≡ ltb n (length (nodes_of s))
count_from s n a b p q = rw (q, p, count_is s)

pub first_from : (s : List ℕ) (i a b : ℕ) → a ≡ word s (nodes_at + node_row * i) → b ≡ cap a kid_limit → b ≡ first_kid s i
unfolding first_kid
first_from s i a b p q = rw (q, p)

module _ (s : List ℕ) (n : ℕ) (b : Bool) (e : b ≡ ltb n (length (nodes_of s))) where
  pub has_in : b ≡ true → n < length (nodes_of s)
  has_in q = ltb-true n (length (nodes_of s)) (sym e ∙ q)

  pub has_out : b ≡ false → length (nodes_of s) ≤ n
  has_out q = ltb-false n (length (nodes_of s)) (sym e ∙ q)

pub kid_from : (s : List ℕ) (n i r : ℕ) → r ≡ length (node_at (nodes_of s) n).kids → i < r → (first : ℕ) → first ≡ first_kid s n
    → {o : Option NodeId} → o ≡ kid_in s (first + i) → o ≡ kid (nodes_of s) i n
kid_from s n i r e h first f q = q ∙ rw f (kid_is s n i r e h)
