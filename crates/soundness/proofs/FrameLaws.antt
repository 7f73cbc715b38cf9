-- What fits goes on to fit where its words are as they were, or others that fit have come in their place. Assumes
-- nothing.
use mathlib.Core.Path.{◌≡◌, refl, ◌∙◌}
use mathlib.Core.Bool.{Bool, true, false, ◌&&◌, ◌||◌}
use mathlib.Core.List.{List}
use mathlib.Mathlib.Data.Bool.Basic.{and_elim_left, and_elim_right, and_intro}
use Prim.Native.Nat.{ℕ, ◌+◌, ◌*◌, ◌≤◌, ◌<◌}
use native.Mathlib.Omega.{arith}
use lib.Dec.{eqb, leb, ltb}
use borrow.Author.Tests.{eqb-true, leb-true, le-leb, lt-ltb, ltb-true}
use Rattle.words.specs.Order.{pick}
use Rattle.words.specs.Words.{word}
use Rattle.spec.specs.Basics.{ExprId, NameId, ScopeId}
use Rattle.layout.specs.Layout.{expr_limit, item_limit, name_limit, reference_limit, expr_row, item_row, name_row, diagnostic_row, use_row, scope_row, expr_count, name_count, diagnostic_count, scope_count, texts_place, exprs_at, items_at, names_at, diagnostics_at, uses_at, scopes_at, entered_at, firsts_at, references_at, waiting_at, texts_at}
use Rattle.layout.specs.Changes.{Range, Wrote, Still}
use Rattle.layout.specs.Exprs.{first_item, sort_of}
use Rattle.layout.specs.Keeps.{first_entered, first_reference}
use Rattle.layout.proofs.Frames.{Same, apart, same_on, number_kept, word_still}
use Rattle.texts.specs.Fits.{text_fits}
use Rattle.soundness.specs.Sound.{all_to, all_from, ascends, expr_fits, name_fits, entry_fits, fields_fit, tag_fits, numbers_fit, item_fits, row_fits, exprs_fit, name_row_fits, names_fit, diagnostics_fit, scope_fits, scopes_fit, use_fits, kept_fits}
use Rattle.soundness.specs.Coded.{ModuleFits, ScopesFit}
use Rattle.soundness.proofs.SoundLaws.{all_each, all_from_each, from_each, below_limit, ascends_from}

-- ---- tests
-- one of two, by a test: where each goes on to hold
pick_on : (c : Bool) (x y z w : Bool) → (x ≡ true → z ≡ true) → (y ≡ true → w ≡ true) → pick c x y ≡ true → pick c z w ≡ true
pick_on true x y z w f g h = f h
pick_on false x y z w f g h = g h

-- of those from i on, before j, one
pub between_each : (f : ℕ → Bool) (i j k : ℕ) → all_from f i j ≡ true → i ≤ k → k < j → f k ≡ true
unfolding all_from
between_each f i j k h a b = by (ltb k i) refl (all_each (λ m. ltb m i || f m) j k h b)
  where
    by : (x : Bool) → ltb k i ≡ x → (x || f k) ≡ true → f k ≡ true
    by true e q = let z = ltb-true k i e in absurd (omega arith)
    by false e q = q

-- what firsts that ascend are
pub record Ascends (first : ℕ → ℕ) (n limit : ℕ) : Type 0 where
  pub begins : first 0 ≡ 0
  pub rises : (i : ℕ) → i < n → first i ≤ first (i + 1)
  pub few : first n ≤ limit

pub ascends_each : (first : ℕ → ℕ) (n limit : ℕ) → ascends first n limit ≡ true → Ascends first n limit
unfolding ascends
ascends_each first n limit h =
    let rest = and_elim_right (eqb (first 0) 0) _ h in
    let steps = and_elim_left (all_to (λ i. leb (first i) (first (i + 1))) n) _ rest in
    record {
      begins = eqb-true (first 0) 0 (and_elim_left (eqb (first 0) 0) _ h);
      rises = λ i l. leb-true (first i) (first (i + 1)) (all_each (λ k. leb (first k) (first (k + 1))) n i steps l);
      few = leb-true (first n) limit (and_elim_right (all_to (λ i. leb (first i) (first (i + 1))) n) _ rest);
    }

pub ascends_same : (f g : ℕ → ℕ) (n limit : ℕ) → ((i : ℕ) → i ≤ n → g i ≡ f i) → ascends f n limit ≡ true → ascends g n limit ≡ true
ascends_same f g n limit same h =
    let a = ascends_each f n limit h in
    ascends_from g n limit
    (same 0 (omega arith) ∙ a.begins)
    (λ i l. rw (same i (omega arith), same (i + 1) (omega arith)) (a.rises i l))
    (rw (same n (omega arith)) a.few)

-- ---- texts
-- what fits in the one store fits in the other
abbrev pub TextsFit : List ℕ → List ℕ → Type 0
TextsFit s t = (k : ℕ) → text_fits s k ≡ true → text_fits t k ≡ true

pub texts_still : (s t : List ℕ) → Still s t → word t texts_place ≡ word s texts_place → TextsFit s t
unfolding text_fits
texts_still s t still e k h = rw (word_still s t (texts_at + k) still (omega arith), e) h

-- ---- rows of expressions
module _ (s t : List ℕ) (texts : TextsFit s t) (names : word t name_count ≡ word s name_count) where
  name_on : (x : ℕ) → name_fits s x ≡ true → name_fits t x ≡ true
  unfolding name_fits
  name_on x h = rw names h

  and_name : (p : Bool) (x : ℕ) → (p && name_fits s x) ≡ true → (p && name_fits t x) ≡ true
  and_name p x h = and_intro (and_elim_left p (name_fits s x) h) (name_on x (and_elim_right p (name_fits s x) h))

  pub fields_kept : (e : ExprId) (sort a b c : ℕ) → fields_fit s e sort a b c ≡ true → fields_fit t e sort a b c ≡ true
  unfolding fields_fit
  fields_kept e sort a b c =
      pick_on (leb sort 1) _ _ _ _ (λ h. h)
      (pick_on (eqb sort 2) _ _ _ _ (λ h. h)
      (pick_on (eqb sort 3) _ _ _ _ (λ h. h)
      (pick_on (eqb sort 4) _ _ _ _ (λ h. h)
      (pick_on (eqb sort 5) _ _ _ _ (λ h. h)
      (pick_on (leb sort 7) _ _ _ _ (texts a)
      (pick_on (eqb sort 8) _ _ _ _ (λ h. h)
      (pick_on (eqb sort 9) _ _ _ _ (λ h. h)
      (pick_on (eqb sort 10) _ _ _ _ (and_name (ltb a e) b)
      (pick_on (eqb sort 11) _ _ _ _ (λ h. h)
      (pick_on (eqb sort 12) _ _ _ _ (and_name (ltb a e) b)
      (pick_on (eqb sort 13) _ _ _ _ (λ h. h)
      (pick_on (eqb sort 14) _ _ _ _ (and_name (ltb a e) b)
      (pick_on (eqb sort 15) _ _ _ _ (λ h. h)
      (pick_on (eqb sort 16) _ _ _ _ (λ h. h)
      (pick_on (eqb sort 17) _ _ _ _ (λ h. h)
      (pick_on (leb sort 19) _ _ _ _ (λ h. h)
      (pick_on (eqb sort 20) _ _ _ _ (λ h. h)
      (pick_on (eqb sort 21) _ _ _ _ (texts a) (λ h. h)))))))))))))))))))

  numbers_kept : (e : ExprId) (tag a b : ℕ) → numbers_fit s e tag a b ≡ true → numbers_fit t e tag a b ≡ true
  unfolding numbers_fit
  numbers_kept e tag a b =
      pick_on (eqb tag 0) _ _ _ _ (λ h. h)
      (pick_on (eqb tag 1) _ _ _ _ (texts a)
      (pick_on (eqb tag 2) _ _ _ _ (λ h. h)
      (pick_on (eqb tag 3) _ _ _ _ (name_on a)
      (pick_on (eqb tag 4) _ _ _ _ (λ h. h)
      (pick_on (leb tag 8) _ _ _ _ (λ h. and_intro (name_on a (and_elim_left (name_fits s a) (ltb b e) h)) (and_elim_right (name_fits s a) (ltb b e) h)) (λ h. h))))))

  item_kept : (e : ExprId) (sort j : ℕ) → Same s t (items_at + item_row * j) (items_at + item_row * j + 12) → item_fits s e sort j ≡ true → item_fits t e sort j ≡ true
  unfolding item_fits
  item_kept e sort j w h =
      let at = items_at + item_row * j in
      let tag = and_elim_left (tag_fits sort (word s at)) _ h in
      let rest = and_elim_right (tag_fits sort (word s at)) _ h in
      rw (w at (omega arith) (omega arith), w (at + 4) (omega arith) (omega arith), w (at + 8) (omega arith) (omega arith))
      (and_intro tag (numbers_kept e (word s at) (word s (at + 4)) (word s (at + 8)) rest))

  -- where it begins and ends, its sort and its items are as they were, and its numbers fit
  pub row_from : (e : ExprId) → first_item t e ≡ first_item s e → first_item t (e + 1) ≡ first_item s (e + 1) → sort_of t e ≡ sort_of s e
      → ((j : ℕ) → j < first_item s (e + 1) → Same s t (items_at + item_row * j) (items_at + item_row * j + 12))
      → fields_fit t e (sort_of t e) (word t (exprs_at + expr_row * e + 8)) (word t (exprs_at + expr_row * e + 12)) (word t (exprs_at + expr_row * e + 16)) ≡ true
      → row_fits s e ≡ true → row_fits t e ≡ true
  unfolding row_fits
  row_from e a b c items fields h =
      let old = and_elim_right (fields_fit s e (sort_of s e) (word s (exprs_at + expr_row * e + 8)) (word s (exprs_at + expr_row * e + 12)) (word s (exprs_at + expr_row * e + 16))) _ h in
      and_intro fields
      (rw (a, b, c) (from_each (item_fits t e (sort_of s e)) (first_item s e) (first_item s (e + 1)) (λ j l m. item_kept e (sort_of s e) j (items j m) (between_each (item_fits s e (sort_of s e)) (first_item s e) (first_item s (e + 1)) j old l m))))

  pub row_kept : (e : ExprId) → Same s t (exprs_at + expr_row * e) (exprs_at + expr_row * e + 24)
      → ((j : ℕ) → j < first_item s (e + 1) → Same s t (items_at + item_row * j) (items_at + item_row * j + 12)) → row_fits s e ≡ true → row_fits t e ≡ true
  unfolding first_item sort_of row_fits
  row_kept e w items h =
      let at = exprs_at + expr_row * e in
      let sort = w (at + 4) (omega arith) (omega arith) in
      let fields = and_elim_left (fields_fit s e (word s (at + 4)) (word s (at + 8)) (word s (at + 12)) (word s (at + 16))) _ h in
      row_from e (w at (omega arith) (omega arith)) (w (exprs_at + expr_row * (e + 1)) (omega arith) (omega arith)) sort items
      (rw (sort, w (at + 8) (omega arith) (omega arith), w (at + 12) (omega arith) (omega arith), w (at + 16) (omega arith) (omega arith)) (fields_kept e (word s (at + 4)) (word s (at + 8)) (word s (at + 12)) (word s (at + 16)) fields)) h

  pub name_kept : (x : NameId) → Same s t (names_at + name_row * x) (names_at + name_row * x + 8) → name_row_fits s x ≡ true → name_row_fits t x ≡ true
  unfolding name_row_fits
  name_kept x w h =
      let at = names_at + name_row * x in
      let a = and_elim_left (text_fits s (word s at)) (leb (word s (at + 4)) 4) h in
      let b = and_elim_right (text_fits s (word s at)) (leb (word s (at + 4)) 4) h in
      rw (w at (omega arith) (omega arith), w (at + 4) (omega arith) (omega arith)) (and_intro (texts (word s at) a) b)

-- ---- the module
-- what is as it was, and that rows which fitted fit
pub record Onward (s t : List ℕ) : Type 0 where
  pub header : Same s t 0 20
  pub texts : TextsFit s t
  pub firsts : (e : ExprId) → e ≤ word s expr_count → first_item t e ≡ first_item s e
  pub rows : (e : ExprId) → e < word s expr_count → row_fits s e ≡ true → row_fits t e ≡ true
  pub names : (x : NameId) → x < word s name_count → name_row_fits s x ≡ true → name_row_fits t x ≡ true
  pub keys : (i : ℕ) → i < word s diagnostic_count → word t (diagnostics_at + diagnostic_row * i) ≡ word s (diagnostics_at + diagnostic_row * i)

module _ (s t : List ℕ) (o : Onward s t) (m : ModuleFits s) where
  exprs : word t expr_count ≡ word s expr_count
  exprs = o.header 0 (omega arith) (omega arith)

  names : word t name_count ≡ word s name_count
  names = o.header 4 (omega arith) (omega arith)

  diagnostics : word t diagnostic_count ≡ word s diagnostic_count
  diagnostics = o.header 8 (omega arith) (omega arith)

  entry_on : entry_fits t ≡ true
  unfolding entry_fits expr_fits
  entry_on = rw (exprs, o.header 16 (omega arith) (omega arith)) m.entry

  exprs_on : exprs_fit t ≡ true
  unfolding exprs_fit
  exprs_on =
      let a = and_elim_left (ascends (first_item s) (word s expr_count) item_limit) _ m.exprs in
      let b = and_elim_right (ascends (first_item s) (word s expr_count) item_limit) _ m.exprs in
      rw exprs (and_intro
      (ascends_same (first_item s) (first_item t) (word s expr_count) item_limit o.firsts a)
      (all_from_each (row_fits t) (word s expr_count) (λ e l. o.rows e l (all_each (row_fits s) (word s expr_count) e b l))))

  names_on : names_fit t ≡ true
  unfolding names_fit
  names_on = rw names (all_from_each (name_row_fits t) (word s name_count) (λ x l. o.names x l (all_each (name_row_fits s) (word s name_count) x m.names l)))

  diagnostics_on : diagnostics_fit t ≡ true
  unfolding diagnostics_fit
  diagnostics_on =
      rw diagnostics (all_from_each (λ i. text_fits t (word t (diagnostics_at + diagnostic_row * i))) (word s diagnostic_count) (λ i l.
      rw (o.keys i l) (o.texts (word s (diagnostics_at + diagnostic_row * i)) (all_each (λ k. text_fits s (word s (diagnostics_at + diagnostic_row * k))) (word s diagnostic_count) i m.diagnostics l))))

  pub module_on : ModuleFits t
  module_on =
      record {
        few_exprs = rw exprs m.few_exprs;
        few_names = rw names m.few_names;
        few_diagnostics = rw diagnostics m.few_diagnostics;
        few_lost = rw (o.header 12 (omega arith) (omega arith)) m.few_lost;
        entry = entry_on;
        exprs = exprs_on;
        names = names_on;
        diagnostics = diagnostics_on;
      }

-- the last item of a module that fits lies in the table
pub items_low : (s : List ℕ) → ModuleFits s → (e : ExprId) → e ≤ word s expr_count → first_item s e ≤ item_limit
unfolding exprs_fit
items_low s m e l = below_limit (first_item s) (word s expr_count) item_limit (and_elim_left (ascends (first_item s) (word s expr_count) item_limit) _ m.exprs) e l

-- all its words are as they were
pub onward_same : (s t : List ℕ) → ModuleFits s → Same s t 0 20 → Same s t exprs_at uses_at → TextsFit s t → Onward s t
unfolding first_item
onward_same s t m header tables texts =
    let few = m.few_exprs in
    let names : word t name_count ≡ word s name_count = header 4 (omega arith) (omega arith) in
    record {
      header = header;
      texts = texts;
      firsts = λ e l. tables (exprs_at + expr_row * e) (omega arith) (omega arith);
      rows = λ e l.
          let low = items_low s m (e + 1) (omega arith) in
          row_kept s t texts names e (λ j a b. tables j (omega arith) (omega arith)) (λ k q j a b. tables j (omega arith) (omega arith));
      names = λ x l. let n = m.few_names in name_kept s t texts names x (λ j a b. tables j (omega arith) (omega arith));
      keys = λ i l. let n = m.few_diagnostics in tables (diagnostics_at + diagnostic_row * i) (omega arith) (omega arith);
    }

-- THEOREM. A module fits after a write that leaves its header, its tables and the texts as they were.
pub module_fits_kept : {rs : List Range} {s t : List ℕ} → Wrote rs s t → Still s t → apart (0, 20) rs ≡ true → apart (28, 32) rs ≡ true → apart (exprs_at, uses_at) rs ≡ true → ModuleFits s → ModuleFits t
module_fits_kept {rs = rs} {s = s} {t = t} w still h u a m =
    module_on s t (onward_same s t m (same_on 0 20 w h) (same_on exprs_at uses_at w a) (texts_still s t still (number_kept w 28 u))) m

-- ---- scopes
-- the counts, the scopes and the names entered are as they were, and so is the scope of every expression
module _ (s t : List ℕ) (exprs : word t expr_count ≡ word s expr_count) (names : word t name_count ≡ word s name_count) (scopes : word t scope_count ≡ word s scope_count) (tables : Same s t scopes_at firsts_at)
    (uses : (e : ExprId) → e < word s expr_count → word t (uses_at + use_row * e) ≡ word s (uses_at + use_row * e)) (h : ScopesFit s) where
  climbs : ascends (first_entered s) (word s scope_count) name_limit ≡ true
  unfolding scopes_fit
  climbs = and_elim_left (ascends (first_entered s) (word s scope_count) name_limit) _ h.scopes

  rest : (all_to (scope_fits s) (word s scope_count) && all_to (λ j. name_fits s (word s (entered_at + 4 * j))) (first_entered s (word s scope_count))) ≡ true
  unfolding scopes_fit
  rest = and_elim_right (ascends (first_entered s) (word s scope_count) name_limit) _ h.scopes

  first_on : (i : ScopeId) → i ≤ word s scope_count → first_entered t i ≡ first_entered s i
  unfolding first_entered
  first_on i l = let few = h.few in tables (scopes_at + scope_row * i) (omega arith) (omega arith)

  row_on : (i : ScopeId) → i < word s scope_count → scope_fits t i ≡ true
  unfolding scope_fits
  row_on i l =
      let few = h.few in
      rw (tables (scopes_at + scope_row * i + 4) (omega arith) (omega arith), tables (scopes_at + scope_row * i + 8) (omega arith) (omega arith), exprs) (all_each (scope_fits s) (word s scope_count) i (and_elim_left (all_to (scope_fits s) (word s scope_count)) _ rest) l)

  entered_on : (j : ℕ) → j < first_entered s (word s scope_count) → name_fits t (word t (entered_at + 4 * j)) ≡ true
  unfolding name_fits
  entered_on j l =
      let low = (ascends_each (first_entered s) (word s scope_count) name_limit climbs).few in
      rw (tables (entered_at + 4 * j) (omega arith) (omega arith), names) (all_each (λ k. name_fits s (word s (entered_at + 4 * k))) (first_entered s (word s scope_count)) j (and_elim_right (all_to (scope_fits s) (word s scope_count)) _ rest) l)

  scopes_on : scopes_fit t ≡ true
  unfolding scopes_fit
  scopes_on =
      rw (scopes, first_on (word s scope_count) (omega arith)) (and_intro
      (ascends_same (first_entered s) (first_entered t) (word s scope_count) name_limit first_on climbs)
      (and_intro (all_from_each (scope_fits t) (word s scope_count) row_on) (all_from_each (λ j. name_fits t (word t (entered_at + 4 * j))) (first_entered s (word s scope_count)) entered_on)))

  pub scopes_fit_kept : ScopesFit t
  scopes_fit_kept =
      record {
        few = rw scopes h.few;
        scopes = scopes_on;
        placed = λ e l. let m : e < word s expr_count = rw exprs at l in rw (uses e m, scopes) (h.placed e m);
      }

-- THEOREM. Scopes fit after a write that leaves the counts, the uses, the scopes and the names entered as they were.
pub scopes_fit_apart : {rs : List Range} {s t : List ℕ} → Wrote rs s t → apart (0, 8) rs ≡ true → apart (20, 24) rs ≡ true → apart (uses_at, firsts_at) rs ≡ true → word s expr_count ≤ expr_limit → ScopesFit s → ScopesFit t
scopes_fit_apart {rs = rs} {s = s} {t = t} w a b c few h =
    let tables = same_on uses_at firsts_at w c in
    let header = same_on 0 8 w a in
    scopes_fit_kept s t (header 0 (omega arith) (omega arith)) (header 4 (omega arith) (omega arith)) (number_kept w 20 b) (λ j p q. tables j (omega arith) (omega arith))
    (λ e l. tables (uses_at + use_row * e) (omega arith) (omega arith)) h

-- ---- answers and references
pub record KeptFits (s : List ℕ) : Type 0 where
  pub placed : (e : ExprId) → e < word s expr_count → word s (uses_at + use_row * e) ≤ word s scope_count
  pub answers : (e : ExprId) → e < word s expr_count → word s (uses_at + use_row * e + 4) < 24 + word s name_count
  pub listed : Ascends (first_reference s) (word s name_count) reference_limit
  pub references : (j : ℕ) → j < first_reference s (word s name_count) → word s (references_at + 4 * j) < word s expr_count

pub kept_each : (s : List ℕ) → kept_fits s ≡ true → KeptFits s
unfolding kept_fits use_fits expr_fits
kept_each s h =
    let n = word s expr_count in
    let uses = and_elim_left (all_to (use_fits s) n) _ h in
    let rest = and_elim_right (all_to (use_fits s) n) _ h in
    let own : (e : ExprId) → e < n → use_fits s e ≡ true = λ e l. all_each (use_fits s) n e uses l in
    let refs = and_elim_right (ascends (first_reference s) (word s name_count) reference_limit) _ rest in
    record {
      placed = λ e l. leb-true (word s (uses_at + use_row * e)) (word s scope_count) (and_elim_left _ _ (own e l));
      answers = λ e l. ltb-true (word s (uses_at + use_row * e + 4)) (24 + word s name_count) (and_elim_right (leb (word s (uses_at + use_row * e)) (word s scope_count)) _ (own e l));
      listed = ascends_each (first_reference s) (word s name_count) reference_limit (and_elim_left (ascends (first_reference s) (word s name_count) reference_limit) _ rest);
      references = λ j l. ltb-true (word s (references_at + 4 * j)) n (all_each (λ k. expr_fits s (word s (references_at + 4 * k))) (first_reference s (word s name_count)) j refs l);
    }

pub kept_from : (s : List ℕ) → KeptFits s → kept_fits s ≡ true
unfolding kept_fits use_fits expr_fits
kept_from s h =
    and_intro
    (all_from_each (use_fits s) (word s expr_count) (λ e l. and_intro (le-leb (word s (uses_at + use_row * e)) (word s scope_count) (h.placed e l)) (lt-ltb (word s (uses_at + use_row * e + 4)) (24 + word s name_count) (h.answers e l))))
    (and_intro (ascends_from (first_reference s) (word s name_count) reference_limit h.listed.begins h.listed.rises h.listed.few)
    (all_from_each (λ j. expr_fits s (word s (references_at + 4 * j))) (first_reference s (word s name_count)) (λ j l. lt-ltb (word s (references_at + 4 * j)) (word s expr_count) (h.references j l))))

-- what is kept fits after a write that leaves the counts, the uses and the references as they were
module _ {rs : List Range} {s t : List ℕ} (w : Wrote rs s t) (a : apart (0, 8) rs ≡ true) (b : apart (20, 24) rs ≡ true) (c : apart (uses_at, scopes_at) rs ≡ true) (d : apart (firsts_at, waiting_at) rs ≡ true)
    (few : word s expr_count ≤ expr_limit) (names : word s name_count ≤ name_limit) (h : kept_fits s ≡ true) where
  count_on : word t expr_count ≡ word s expr_count
  count_on = same_on 0 8 w a 0 (omega arith) (omega arith)

  names_as : word t name_count ≡ word s name_count
  names_as = same_on 0 8 w a 4 (omega arith) (omega arith)

  lists_on : (x : NameId) → x ≤ word s name_count → first_reference t x ≡ first_reference s x
  unfolding first_reference
  lists_on x l = same_on firsts_at waiting_at w d (firsts_at + 4 * x) (omega arith) (omega arith)

  use_on : (j : ℕ) → uses_at ≤ j → j + 4 ≤ scopes_at → word t j ≡ word s j
  use_on = same_on uses_at scopes_at w c

  moved : KeptFits t
  moved =
      let k = kept_each s h in
      let low = k.listed.few in
      let end = lists_on (word s name_count) (omega arith) in
      record {
        placed = λ e l.
            let m : e < word s expr_count = rw count_on at l in
            rw (use_on (uses_at + use_row * e) (omega arith) (omega arith), number_kept w 20 b) (k.placed e m);
        answers = λ e l.
            let m : e < word s expr_count = rw count_on at l in
            rw (use_on (uses_at + use_row * e + 4) (omega arith) (omega arith), names_as) (k.answers e m);
        listed = record {
          begins = lists_on 0 (omega arith) ∙ k.listed.begins;
          rises = λ x l.
              let m : x < word s name_count = rw names_as at l in
              rw (lists_on x (omega arith), lists_on (x + 1) (omega arith)) (k.listed.rises x m);
          few = rw (names_as, end) k.listed.few;
        };
        references = λ j l.
            let m : j < first_reference s (word s name_count) = rw (names_as, end) at l in
            rw (same_on firsts_at waiting_at w d (references_at + 4 * j) (omega arith) (omega arith), count_on) (k.references j m);
      }

  pub kept_fits_kept : kept_fits t ≡ true
  kept_fits_kept = kept_from t moved
