-- One row more: its kids, its text and its words are appended, and what was there is kept. Assumes nothing.
use mathlib.Core.Path.{◌≡◌, refl, sym, ap, ◌∙◌}
use mathlib.Core.Logic.{inl, inr}
use mathlib.Core.Bool.{Bool, true, false}
use mathlib.Core.List.{List, [], ◌∷◌}
use Prim.Native.Nat.{ℕ, ◌+◌, ◌*◌, ◌≤◌, ◌<◌}
use native.Mathlib.Omega.{arith}
use lib.ListN.{length, get_or}
use lib.Dec.{ltb}
use borrow.Author.Tests.{ltb-true, ltb-false}
use Rattle.words.specs.Runs.{run}
use Rattle.words.specs.Words.{word, number}
use Rattle.module.specs.SyntaxKinds.{number_of_syntax}
use Rattle.sheet.specs.Nodes.{node_of}
use Rattle.sheet.specs.declared.nodes.Node as row
use Rattle.layout.specs.Layout.{node_limit, kid_limit, sheet_text_limit, node_row, texts_place, nodes_at, kids_at, texts_at, store_bytes, Long}
use Rattle.layout.specs.Rows.{rows_from, marked, set_all}
use Rattle.layout.specs.Texts.{texts_used, text_in}
use Rattle.layout.specs.Nodes.{kid_in, first_kid, node_in}
use Rattle.sheet.specs.Lines.{span_of}
use Rattle.intake.specs.Bring.{Within, kids_in, KidsIn, KidsOver, text_from, TextBrought, TextOver, Settled, Rows, RowPut, RowIn, RowOver}
use Rattle.intake.specs.declared.bring.Front.{Front}
use Rattle.layout.proofs.RowLaws.{cap_le, rows_same, rows_more, between_same}
use Rattle.layout.proofs.WriteLaws.{Small, all_is}
use Rattle.intake.proofs.WithinLaws.{within_wide, within_then, within_all, word_before, word_after, text_same}
use Rattle.texts.proofs.ReadLaws.{used_is, text_in_lem}

-- ---- the words of a row, as the code writes them
next_row : (k : ℕ) → nodes_at + node_row * (k + 1) ≡ nodes_at + node_row * k + 24
next_row k = omega arith

module _ (s u : List ℕ) (i a b c d e f : ℕ) (long : Long s) (h : i < node_limit) (small : Small (a ∷ b ∷ c ∷ d ∷ e ∷ f ∷ []))
    (all : u ≡ set_all s (nodes_at + node_row * i + 4) (a ∷ b ∷ c ∷ d ∷ e ∷ f ∷ [])) where
  at_word : (k p v : ℕ) → k < 6 → nodes_at + node_row * i + 4 + 4 * k ≡ p → get_or (a ∷ b ∷ c ∷ d ∷ e ∷ f ∷ []) k 0 ≡ v → word u p ≡ v
  at_word k p v l q z =
      ap (word u) (sym q) ∙ ap (λ (x : List ℕ). word x (nodes_at + node_row * i + 4 + 4 * k)) all
      ∙ all_is s (nodes_at + node_row * i + 4) (a ∷ b ∷ c ∷ d ∷ e ∷ f ∷ []) small (omega arith) k l ∙ z

  pub row_put : RowPut s u i a b c d e f
  row_put =
      record {
        wrote = rw all (within_wide (nodes_at + node_row * i + 4) (nodes_at + node_row * i + 28) (within_all s (nodes_at + node_row * i + 4) (a ∷ b ∷ c ∷ d ∷ e ∷ f ∷ [])) (omega arith) (omega arith));
        kind = at_word 0 _ _ (omega arith) (omega arith) refl;
        from = at_word 1 _ _ (omega arith) (omega arith) refl;
        to = at_word 2 _ _ (omega arith) (omega arith) refl;
        flag = at_word 3 _ _ (omega arith) (omega arith) refl;
        text = at_word 4 _ _ (omega arith) (omega arith) refl;
        next = at_word 5 _ _ (omega arith) (omega arith) refl;
      }

-- ---- a node that is as it was
begins : (t u : List ℕ) (i : ℕ) → word u (nodes_at + node_row * i) ≡ word t (nodes_at + node_row * i) → first_kid u i ≡ first_kid t i
unfolding first_kid
begins t u i e = rw e

between : (t u : List ℕ) (i j : ℕ) → ((k : ℕ) → i ≤ k → k < j → word u (kids_at + 4 * k) ≡ word t (kids_at + 4 * k)) → rows_from (kid_in u) i j ≡ rows_from (kid_in t) i j
unfolding kid_in
between t u i j h = between_same (kid_in u) (kid_in t) i j (λ k a b. ap marked (h k a b))

pub node_same : (t u : List ℕ) (k : ℕ)
    → ((d : ℕ) → d ≤ 24 → word u (nodes_at + node_row * k + d) ≡ word t (nodes_at + node_row * k + d))
    → ((j : ℕ) → j < first_kid t (k + 1) → word u (kids_at + 4 * j) ≡ word t (kids_at + 4 * j))
    → text_in u (word t (nodes_at + node_row * k + 20)) ≡ text_in t (word t (nodes_at + node_row * k + 20)) → node_in u k ≡ node_in t k
unfolding node_in
node_same t u k w kids text =
    let z : nodes_at + node_row * k + 0 ≡ nodes_at + node_row * k = omega arith in
    let w₀ : word u (nodes_at + node_row * k) ≡ word t (nodes_at + node_row * k) = rw z at (w 0 (omega arith)) in
    let w₆ : word u (nodes_at + node_row * (k + 1)) ≡ word t (nodes_at + node_row * (k + 1)) = rw (next_row k) (w 24 (omega arith)) in
    rw (
      w 4 (omega arith),
      w 8 (omega arith),
      w 12 (omega arith),
      w 16 (omega arith),
      w 20 (omega arith),
      begins t u k w₀,
      begins t u (k + 1) w₆,
      text,
      between t u (first_kid t k) (first_kid t (k + 1)) (λ j a b. kids j b),
    )

-- ---- what is appended leaves what was there
record Keeps (t u : List ℕ) (i ks ts : ℕ) : Type 0 where
  used : word u texts_place ≡ word t texts_place
  rows : (j : ℕ) → nodes_at ≤ j → j ≤ nodes_at + node_row * i → word u j ≡ word t j
  kids : (j : ℕ) → j < ks → word u (kids_at + 4 * j) ≡ word t (kids_at + 4 * j)
  texts : (j n : ℕ) → texts_at ≤ j → j + n ≤ texts_at + ts → run u j n ≡ run t j n

module _ {t u : List ℕ} {i kids texts : ℕ} (b : i < node_limit) (c : kids ≤ kid_limit) where
  keeps_then : {v : List ℕ} → Keeps t u i kids texts → Keeps u v i kids texts → Keeps t v i kids texts
  keeps_then p q =
      record {
        used = q.used ∙ p.used;
        rows = λ j l h. q.rows j l h ∙ p.rows j l h;
        kids = λ j h. q.kids j h ∙ p.kids j h;
        texts = λ j n l h. q.texts j n l h ∙ p.texts j n l h;
      }

  by_kids : {hi : ℕ} → Within t u (kids_at + 4 * kids) hi → hi ≤ texts_at → Keeps t u i kids texts
  by_kids w h =
      record {
        used = word_before w texts_place (omega arith);
        rows = λ j l k. word_before w j (omega arith);
        kids = λ j k. word_before w (kids_at + 4 * j) (omega arith);
        texts = λ j n l k. w.other j n (inr (omega arith));
      }

  by_text : {hi : ℕ} → Within t u (texts_at + texts) hi → Keeps t u i kids texts
  by_text w =
      record {
        used = word_before w texts_place (omega arith);
        rows = λ j l k. word_before w j (omega arith);
        kids = λ j k. word_before w (kids_at + 4 * j) (omega arith);
        texts = λ j n l k. w.other j n (inl (omega arith));
      }

  by_row : {hi : ℕ} → Within t u (nodes_at + node_row * i + 4) hi → hi ≤ kids_at → Keeps t u i kids texts
  by_row w h =
      record {
        used = word_before w texts_place (omega arith);
        rows = λ j l k. word_before w j (omega arith);
        kids = λ j k. word_after w (kids_at + 4 * j) (omega arith);
        texts = λ j n l k. w.other j n (inr (omega arith));
      }

module _ {t u : List ℕ} {i kids texts : ℕ} (r : Rows t i kids texts) (p : Keeps t u i kids texts) (k : ℕ) (h : k < i) where
  its_text : ℕ
  its_text = word t (nodes_at + node_row * k + 20)

  same_text : word u (nodes_at + node_row * k + 20) ≡ its_text
  unfolding its_text
  same_text = p.rows (nodes_at + node_row * k + 20) (omega arith) (omega arith)

  same_size : word u (texts_at + its_text) ≡ word t (texts_at + its_text)
  unfolding word its_text
  same_size = ap number (p.texts (texts_at + its_text) 4 (omega arith) (omega (arith, (r.settled k h).text_end)))

  node_kept : node_in u k ≡ node_in t k
  unfolding first_kid its_text
  node_kept =
      let s = r.settled k h in
      node_same t u k (λ d l. p.rows (nodes_at + node_row * k + d) (omega arith) (omega arith))
      (λ j l. p.kids j (omega (arith, s.kids_end, cap_le (word t (nodes_at + node_row * (k + 1))) kid_limit (omega (arith, s.kids_end, r.kid_room)))))
      (text_same t u its_text p.used same_size (p.texts (texts_at + its_text + 4) (word t (texts_at + its_text)) (omega arith) (omega (arith, s.text_end))))

  settled_kept : {kids₂ texts₂ : ℕ} → kids ≤ kids₂ → texts ≤ texts₂ → Settled u kids₂ texts₂ k
  unfolding its_text
  settled_kept a b =
      let s = r.settled k h in
      record {
        kids_end = rw (p.rows (nodes_at + node_row * (k + 1)) (omega arith) (omega arith)) (omega (arith, s.kids_end));
        text_end = rw (same_text, same_size) (omega (arith, s.text_end));
      }

-- ---- one row more
node_new : (s t u : List ℕ) (i : ℕ) (n : row.Node) (first text last : ℕ) → RowPut t u i (number_of_syntax n.kind) n.from n.to n.flag text last
    → word u (nodes_at + node_row * i) ≡ first → first ≤ last → last ≤ kid_limit
    → rows_from (kid_in u) first last ≡ kids_in (span_of s n.kids)
    → text_in u text ≡ text_from (span_of s n.text) → node_in u i ≡ node_of s n
unfolding node_in first_kid kids_in text_from
node_new s t u i n first text last w z o l kids bytes =
    rw (
      w.kind,
      w.from,
      w.to,
      w.flag,
      w.text,
      z,
      w.next,
      cap_le first kid_limit (omega arith),
      cap_le last kid_limit l,
      kids,
      bytes,
    )

module _ (s : List ℕ) (n : row.Node) (i : ℕ) (f : Front) (t t₁ t₂ u : List ℕ) (last texts : ℕ) (long : Long t) (b : i < node_limit)
    (r : Rows t i f.kids f.texts)
    (k : KidsIn (span_of s n.kids) t t₁ f.kids last)
    (x : TextBrought (span_of s n.text) t₁ t₂ f.texts texts)
    (words : RowPut t₂ u i (number_of_syntax n.kind) n.from n.to n.flag f.texts last) where
  put : Within t₂ u (nodes_at + node_row * i + 4) (nodes_at + node_row * i + 28)
  put = words.wrote

  -- the rows before it
  kept : Keeps t u i f.kids f.texts
  kept =
      keeps_then b r.kid_room (keeps_then b r.kid_room (by_kids b r.kid_room k.wrote (omega (arith, k.room))) (by_text b r.kid_room x.wrote))
      (by_row b r.kid_room put (omega arith))

  begin : word u (nodes_at + node_row * i) ≡ f.kids
  begin =
      word_before put (nodes_at + node_row * i) (omega arith) ∙ word_before x.wrote (nodes_at + node_row * i) (omega arith)
      ∙ word_before k.wrote (nodes_at + node_row * i) (omega arith) ∙ r.here

  -- the last of the rows
  its_kids : rows_from (kid_in u) f.kids last ≡ kids_in (span_of s n.kids)
  its_kids =
      between t₁ u f.kids last (λ j l h. word_after put (kids_at + 4 * j) (omega arith) ∙ word_before x.wrote (kids_at + 4 * j) (omega (arith, k.room)))
      ∙ k.same

  its_size : word u (texts_at + f.texts) ≡ length (text_from (span_of s n.text))
  its_size = word_after put (texts_at + f.texts) (omega arith) ∙ x.size

  -- the text lies within the bytes in use
  its_bytes : text_in u f.texts ≡ text_from (span_of s n.text)
  its_bytes =
      let used : texts_used u ≡ sheet_text_limit = used_is u sheet_text_limit (kept.used ∙ r.in_use) (omega arith) in
      text_in_lem u f.texts (omega (arith, used, its_size, x.count, x.room))
      ∙ ap (run u (texts_at + f.texts + 4)) its_size
      ∙ put.other (texts_at + f.texts + 4) (length (text_from (span_of s n.text))) (inr (omega arith)) ∙ x.same

  newest : node_in u i ≡ node_of s n
  newest = node_new s t₂ u i n f.kids f.texts last words begin (omega (arith, k.count)) k.room its_kids its_bytes

  settle : (j : ℕ) → j < i + 1 → Settled u last texts j
  settle j h = go (ltb j i) refl
    where
      go : (z : Bool) → ltb j i ≡ z → Settled u last texts j
      go true q = settled_kept r kept j (ltb-true j i q) (omega (arith, k.count)) (omega (arith, x.count))
      go false q =
          let same : j ≡ i = omega (arith, ltb-false j i q) in
          rw same
          (record {
            kids_end = omega (arith, words.next);
            text_end = rw (words.text, its_size) (omega (arith, x.count));
          })

  pub row_brought : RowIn s n t u i f (record { next = n.next; kids = last; texts = texts })
  unfolding kids_in text_from
  row_brought =
      record {
        rows = record { in_use = kept.used ∙ r.in_use; here = words.next; kid_room = k.room; text_room = x.room; settled = settle };
        same =
            rows_more (node_in u) i ∙ rw (newest, rows_same (node_in u) (node_in t) i (λ j h. node_kept r kept j h));
        kids = k.count;
        texts = x.count;
        place = refl;
        wrote =
            within_then (within_wide nodes_at store_bytes k.wrote (omega arith) (omega (arith, k.room)))
            (within_then (within_wide nodes_at store_bytes x.wrote (omega arith) (omega (arith, x.room))) (within_wide nodes_at store_bytes put (omega arith) (omega arith)));
      }

-- ---- no room for it
module _ (s : List ℕ) (n : row.Node) (f : Front) (t t₁ : List ℕ) where
  pub kids_over : KidsOver (span_of s n.kids) t t₁ f.kids → RowOver s n t t₁ f
  unfolding kids_in
  kids_over k = record { over = inl k.over; wrote = within_wide nodes_at store_bytes k.wrote (omega arith) (omega arith) }

  pub text_over : (last : ℕ) → KidsIn (span_of s n.kids) t t₁ f.kids last → (t₂ : List ℕ)
      → TextOver (span_of s n.text) t₁ t₂ f.texts → RowOver s n t t₂ f
  unfolding text_from
  text_over last k t₂ x = record { over = inr x.over; wrote = rw x.wrote (within_wide nodes_at store_bytes k.wrote (omega arith) (omega (arith, k.room))) }
