-- The kids of a list, read one after the other and written in their places. Assumes nothing.
use mathlib.Core.Path.{◌≡◌, refl, sym, ap, ◌∙◌}
use mathlib.Core.List.{List, [], ◌∷◌, ◌++◌, append-nil, append_assoc}
use mathlib.Core.Option
use mathlib.Core.Option.{Option, none, some}
use Prim.Native.Nat.{ℕ, ◌+◌, ◌-◌, ◌*◌, ◌≤◌, ◌<◌, ◌^◌}
use native.Mathlib.Omega.{arith}
use lib.ListN.{length, length-append}
use borrow.Author.Tests.{ne_eqb}
use Rattle.words.specs.Words.{word, set_word}
use Rattle.words.proofs.WordLaws.{word_set_word_same}
use Rattle.spec.specs.Basics.{Text, NodeId, maybe}
use Rattle.spec.specs.Sheet.{all_below}
use Rattle.sheet.specs.Kids.{short_kids, Rest}
use Rattle.sheet.proofs.KidLaws.{Before, walk_end, walk_malformed, walk_kid}
use Rattle.layout.specs.Layout.{absent, node_limit, kid_limit, kids_at, texts_at, Long}
use Rattle.layout.specs.Rows.{rows_from, marked}
use Rattle.layout.specs.Nodes.{kid_in}
use Rattle.intake.specs.Bring.{Within, kids_in, Kids, After, KidsIn, KidsOver}
use Rattle.layout.proofs.RowLaws.{between_same, between_none, between_more, length_between}
use Rattle.tree.proofs.NodeLaws.{below_head}
use Rattle.intake.proofs.WithinLaws.{within_none, within_put, within_wide, within_then, word_before}

-- ---- the word of a kid
marked_absent : marked absent ≡ none
unfolding marked
marked_absent = refl

marked_low : (k : ℕ) → k < node_limit → marked k ≡ some k
unfolding marked
marked_low k h = rw (ne_eqb k absent (λ e. omega arith))

module _ (v : Text) (h : Kids v) where
  after : (k : Option NodeId) (w : ℕ) (rest : Text) → marked w ≡ k → Before rest node_limit k (kids_in v) → length rest < length v → After v w rest
  unfolding kids_in
  after k w rest m b i =
      let here : kids_in rest ≡ b.others = ap (λ o. maybe o [] (λ ks. ks)) b.listed in
      record { same = b.these ∙ rw (m, here); onward = i; others = record { formed = b.listed ∙ ap some (sym here); low = ap (all_below node_limit) here ∙ b.below } }

  few : node_limit ≤ absent
  few = omega arith

  pub word_end : some [] ≡ short_kids v → kids_in v ≡ []
  word_end = walk_end v node_limit few (kids_in v) h.formed h.low

  pub never_malformed : none ≡ short_kids v → ⊥
  never_malformed = walk_malformed v node_limit few (kids_in v) h.formed h.low

  module _ (rest : Text) (i : Rest v rest) where
    pub word_absent : Option.map (λ ks. none ∷ ks) (short_kids rest) ≡ short_kids v → After v absent rest
    word_absent e = after none absent rest marked_absent (walk_kid v node_limit few (kids_in v) h.formed h.low none rest e) i.less

    pub word_number : (k : ℕ) → Option.map (λ ks. some k ∷ ks) (short_kids rest) ≡ short_kids v → After v k rest
    word_number k e =
        let b = walk_kid v node_limit few (kids_in v) h.formed h.low (some k) rest e in
        let l = below_head node_limit k b.others (ap (all_below node_limit) (sym b.these) ∙ h.low) in
        after (some k) k rest (marked_low k l) b i.less

-- ---- the loop: some kids are in their places, and the others are still to read
pub record Filling (kids : Text) (t₀ : List ℕ) (first : ℕ) (v : Text) (used : ℕ) (t : List ℕ) : Type 0 where
  pub listed : Kids v
  pub low : first ≤ used
  pub room : used ≤ kid_limit
  pub wrote : Within t₀ t (kids_at + 4 * first) (kids_at + 4 * used)
  pub same : kids_in kids ≡ rows_from (kid_in t) first used ++ kids_in v

pub filling_start : (kids : Text) (t : List ℕ) (first : ℕ) → Kids kids → first ≤ kid_limit → Filling kids t first kids first t
filling_start kids t first k h =
    record {
      listed = k;
      low = omega arith;
      room = h;
      wrote = within_none t (kids_at + 4 * first) (kids_at + 4 * first);
      same = rw (between_none (kid_in t) first first (omega arith));
    }

module _ {kids : Text} {t₀ : List ℕ} {first : ℕ} {v : Text} {used : ℕ} {t : List ℕ} (f : Filling kids t₀ first v used t) where
  filled : length (rows_from (kid_in t) first used) ≡ used - first
  filled = length_between (kid_in t) first used

  so_far : length (kids_in kids) ≡ (used - first) + length (kids_in v)
  so_far = ap length f.same ∙ length-append (rows_from (kid_in t) first used) (kids_in v) ∙ ap (λ (n : ℕ). n + length (kids_in v)) filled

  pub filling_end : kids_in v ≡ [] → (last : ℕ) → used ≡ last → KidsIn kids t₀ t first last
  filling_end e last q =
      rw (← q)
      (record {
        count = omega (arith, so_far, ap length e, f.low);
        room = f.room;
        wrote = f.wrote;
        same = sym (f.same ∙ ap (λ (l : List (Option NodeId)). rows_from (kid_in t) first used ++ l) e ∙ append-nil (rows_from (kid_in t) first used));
      })

  module _ {w : ℕ} {rest : Text} (a : After v w rest) where
    pub filling_full : kid_limit ≤ used → KidsOver kids t₀ t first
    filling_full e =
        record {
          over = omega (arith, so_far, ap length a.same, f.low);
          wrote = within_wide kids_at texts_at f.wrote (omega arith) (omega arith);
        }

    module _ (long : Long t₀) (small : w < 2 ^ 32) (below : used < kid_limit) (u : List ℕ) (e : u ≡ set_word t (kids_at + 4 * used) w) where
      put : Within t u (kids_at + 4 * used) (kids_at + 4 * used + 4)
      put = rw e (within_put t (kids_at + 4 * used) w)

      last : kid_in u used ≡ marked w
      unfolding kid_in
      last = ap marked (ap (λ (x : List ℕ). word x (kids_at + 4 * used)) e ∙ word_set_word_same t (kids_at + 4 * used) w (omega (arith, below, f.wrote.long)) small)

      others : rows_from (kid_in u) first used ≡ rows_from (kid_in t) first used
      unfolding kid_in
      others = between_same (kid_in u) (kid_in t) first used (λ k i j. ap marked (word_before put (kids_at + 4 * k) (omega arith)))

      pub filling_more : Filling kids t₀ first rest (used + 1) u
      filling_more =
          record {
            listed = a.others;
            low = omega (arith, f.low);
            room = omega (arith, below);
            wrote =
                within_then (within_wide (kids_at + 4 * first) (kids_at + 4 * (used + 1)) f.wrote (omega arith) (omega arith))
                (within_wide (kids_at + 4 * first) (kids_at + 4 * (used + 1)) put (omega (arith, f.low)) (omega arith));
            same =
                f.same ∙ rw (a.same, between_more (kid_in u) first used f.low, others, last)
                (sym (append_assoc (rows_from (kid_in t) first used) (marked w ∷ []) (kids_in rest)));
          }
