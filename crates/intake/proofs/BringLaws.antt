-- The nodes of a sheet, brought in one after the other. Assumes nothing.
use Rattle.std.specs.Prelude.{if◌then◌else◌}
use mathlib.Core.Path.{◌≡◌, refl, sym, ap, ◌∙◌, subst}
use mathlib.Core.Logic.{inl, inr, ⊎_elim}
use mathlib.Core.Bool.{Bool, true, false, ◌&&◌}
use mathlib.Core.List.{List, [], ◌∷◌, ◌++◌, append-nil, append_assoc}
use mathlib.Core.Option.{Option, none, some}
use Prim.Native.Nat.{ℕ, suc, ◌+◌, ◌-◌, ◌*◌, ◌≤◌, ◌<◌}
use native.Mathlib.Omega.{arith}
use lib.ListN.{length}
use lib.Dec.{eqb, leb, ltb}
use borrow.Author.Tests.{leb-true, eqb-true, ltb-true, lt-ltb}
use Rattle.words.specs.Words.{word, set_word}
use Rattle.words.proofs.WordLaws.{length_set_word, word_set_word_same, word_set_word_other}
use Rattle.spec.specs.Basics.{NodeId, bytes}
use Rattle.spec.specs.Sheet as spec
use Rattle.spec.specs.Sheet.{Node, Got, got, bad, next, ◌>>=◌, give, wrong_count, all_below, node, nodes_from, node_list, accepted, refused, whole, read_sheet}
use Rattle.sheet.specs.Keyed.{number_of}
use Rattle.sheet.specs.Faults.{fault_of}
use Rattle.sheet.specs.Numbers.{got_number}
use Rattle.sheet.specs.Nodes.{node_of, got_node, FormedSpans, FormedNode}
use Rattle.sheet.proofs.NodeLaws.{number_by, number_inside}
use Rattle.sheet.specs.declared.position.Position.{Position}
use Rattle.sheet.specs.declared.nodes.Node as row
use Rattle.layout.specs.Layout.{node_limit, kid_limit, sheet_text_limit, node_row, texts_place, node_count, nodes_at, kids_at, texts_at, store_bytes, Long}
use Rattle.layout.specs.Rows.{rows_to}
use Rattle.layout.specs.Texts.{texts_used, text_in}
use Rattle.layout.specs.Regions.{bringing}
use Rattle.layout.specs.Nodes.{node_in, nodes_of}
use Rattle.spec.specs.Tree.{kid_places}
use Rattle.spec.proofs.reading.Lines.{number_within}
use Rattle.spec.proofs.general.Sums.{sum_append}
use Rattle.spec.proofs.room.TextRoom.{text_bytes, node_long}
use Rattle.std.specs.Prelude as rust
use Rattle.std.specs.Result.{result_ok}
use Rattle.sheet.specs.declared.faults.Refused.{Refused}
use Rattle.intake.specs.Bring.{Within, kids_in, Spans, Rows, RowIn, RowOver, RowBrought, ahead, Bringing, Refuses, NodeIn, Stopped, NodeBrought, Counted, AllIn, Brought}
use Rattle.intake.specs.declared.bring.Front.{Front}
use Rattle.layout.proofs.RowLaws.{cap_le, rows_same, rows_none, length_rows}
use Rattle.layout.proofs.Frames.{wrote_none, wrote_then}
use Rattle.intake.proofs.WithinLaws.{within_none, within_put, within_wide, within_then, word_before, word_after, within_past, brings_used, brings_sheet}
use Rattle.texts.proofs.ReadLaws.{used_is, text_in_lem}
use Rattle.intake.proofs.BringRowLaws.{node_same}

-- ---- an accepted sheet
pub record Whole (s : List ℕ) (ns : List Node) : Type 0 where
  pub short : length s ≤ 1048576
  pub listed : node_list s 0 ≡ got ns (length s)

pub whole_sheet : (s : List ℕ) (ns : List Node) → read_sheet s ≡ accepted ns → Whole s ns
unfolding read_sheet whole
whole_sheet s ns e = short (leb (length s) 1048576) refl e
  where
    ended : length s ≤ 1048576 → (ms : List Node) (at : ℕ) → node_list s 0 ≡ got ms at → (t : Bool) → eqb at (length s) ≡ t
        → (if t then accepted ms else refused 2 at) ≡ accepted ns → Whole s ns
    ended l ms at h true i q = let a : ms ≡ ns = cc in record { short = l; listed = h ∙ rw (a, eqb-true at (length s) i) }
    ended l ms at h false i q = let z : ◌≡◌ {A = ℕ} 0 1 = cc in absurd (omega arith)

    listed : length s ≤ 1048576 → (g : Got (List Node)) → node_list s 0 ≡ g → whole s g ≡ accepted ns → Whole s ns
    listed l (got ms at) h q = ended l ms at h (eqb at (length s)) refl q
    listed l (bad w at) h q = let z : ◌≡◌ {A = ℕ} 0 1 = cc in absurd (omega arith)

    short : (t : Bool) → leb (length s) 1048576 ≡ t → (if t then whole s (node_list s 0) else refused 1 0) ≡ accepted ns → Whole s ns
    short true h q = listed (leb-true (length s) 1048576 h) (node_list s 0) refl q
    short false h q = let z : ◌≡◌ {A = ℕ} 0 1 = cc in absurd (omega arith)

-- nodes of which one could not be read are not accepted
pub bad_refuses : (s : List ℕ) (w : spec.Fault) (at : ℕ) → node_list s 0 ≡ bad w at → Refuses s
bad_refuses s w at e ns a few =
    let q : bad w at ≡ got ns (length s) = sym e ∙ (whole_sheet s ns a).listed in
    let z : ◌≡◌ {A = ℕ} 0 1 = cc in omega arith

-- ---- the places of the kids
places_both : (xs ys : List Node) → kid_places (xs ++ ys) ≡ kid_places xs + kid_places ys
unfolding kid_places
places_both [] ys = omega arith
places_both (x ∷ xs) ys = rw (places_both xs ys) (omega arith)

places_one : (x : Node) → kid_places (x ∷ []) ≡ length x.kids
unfolding kid_places
places_one x = omega arith

-- ---- kids that are below a limit are below a higher one
below_more : (a b : ℕ) → a ≤ b → (ks : List (Option NodeId)) → all_below a ks ≡ true → all_below b ks ≡ true
unfolding all_below
below_more a b l [] h = refl
below_more a b l (none ∷ ks) h = below_more a b l ks h
below_more a b l (some k ∷ ks) h = go (below_more a b l ks) (ltb k a) refl h
  where
    go : (all_below a ks ≡ true → all_below b ks ≡ true) → (t : Bool) → ltb k a ≡ t → (t && all_below a ks) ≡ true → (ltb k b && all_below b ks) ≡ true
    go f true e q = rw (lt-ltb k b (omega (arith, ltb-true k a e))) (f q)
    go f false e q = cc

-- ---- what `ok` keeps of a reader's answer
pub was_read : {T E : Type 0} (r : rust.Result T E) (x : T) → rust.Some x ≡ result_ok r → r ≡ rust.Ok x
was_read (rust.Ok y) x h = cc
was_read (rust.Err w) x h = let z : ◌≡◌ {A = ℕ} 0 1 = cc in absurd (omega arith)

pub not_read : {T E : Type 0} (r : rust.Result T E) → rust.None ≡ result_ok r → (w : E) × (r ≡ rust.Err w)
not_read (rust.Ok y) h = let z : ◌≡◌ {A = ℕ} 0 1 = cc in absurd (omega arith)
not_read (rust.Err w) h = (w, refl)

-- ---- one node more
-- the node that was read goes after those that were there
ahead_one : (ns : List Node) (x : Node) (s : List ℕ) (g : Got (List Node)) → ahead ns (next (λ ms _ at. got (x ∷ ms) at) s g) ≡ ahead (ns ++ (x ∷ [])) g
unfolding next
ahead_one ns x s (got ms at) = ap (λ (l : List Node). got l at) (sym (append_assoc ns (x ∷ []) ms))
ahead_one ns x s (bad w at) = refl

module _ (s : List ℕ) (count i : ℕ) (f : Front) (t : List ℕ) (b : Bringing s count i f t) (h : i < count) where
  one : count - i ≡ suc (count - (i + 1))
  one = omega arith

  nodes_bad : (w : spec.Fault) (at : ℕ) → node count i s f.next.at ≡ bad w at → node_list s 0 ≡ bad w at
  unfolding nodes_from ◌>>=◌ next
  nodes_bad w at e = b.same ∙ rw (one, e)

  nodes_more : (x : Node) (at : ℕ) → node count i s f.next.at ≡ got x at
      → node_list s 0 ≡ ahead (rows_to (node_in t) i ++ (x ∷ [])) (nodes_from (count - (i + 1)) count (i + 1) s at)
  unfolding nodes_from ◌>>=◌ next give
  nodes_more x at e = b.same ∙ rw (one, e) (ahead_one (rows_to (node_in t) i) x s (nodes_from (count - (i + 1)) count (i + 1) s at))

  module _ (r : rust.Result row.Node Refused) (e : (got_node s r ≡ node count i s f.next.at) × FormedNode s count r) where
    pub node_bad : (w : Refused) → r ≡ rust.Err w → Stopped s t t
    node_bad w q =
        record { refuses = bad_refuses s (fault_of w.why) w.at (nodes_bad (fault_of w.why) w.at (sym e.0 ∙ ap (got_node s) q)); wrote = within_none t nodes_at store_bytes }

    module _ (n : row.Node) (q : r ≡ rust.Ok n) where
      formed : FormedSpans s count n
      formed = subst (FormedNode s count) q e.1

      got_it : node count i s f.next.at ≡ got (node_of s n) n.next.at
      got_it = sym e.0 ∙ ap (got_node s) q

      inside : n.next.at ≤ length s
      inside = omega (arith, formed.next, formed.text.within)

      apart : f.next.at + 34 + 2 * length (node_of s n).text ≤ n.next.at
      apart = node_long count i s f.next.at (node_of s n) n.next.at got_it

      pub its_spans : count ≤ node_limit → Spans s n
      unfolding kids_in
      its_spans few =
          record {
            kids =
                record {
                  formed = formed.kids.formed;
                  low = below_more count node_limit few (node_of s n).kids formed.kids.fits;
                };
            listed = (formed.kids.ordered, omega (arith, formed.kids.within));
            ordered = formed.text.ordered;
            within = omega (arith, formed.text.within);
          }

      pub node_in_lem : (g : Front) (u : List ℕ) → RowIn s n t u i f g → NodeIn s count i g t u
      node_in_lem g u r =
          record {
            brought =
                record {
                  left = omega arith;
                  inside = omega (arith, r.place, inside);
                  same = rw (r.same, r.place) (nodes_more (node_of s n) n.next.at got_it);
                  total = ap kid_places r.same ∙ places_both (rows_to (node_in t) i) (node_of s n ∷ []) ∙ omega (arith, b.total, places_one (node_of s n), r.kids);
                  bytes =
                      ap text_bytes r.same ∙ sum_append (λ (x : Node). length x.text + 4) (rows_to (node_in t) i) (node_of s n ∷ [])
                      ∙ omega (arith, b.bytes, r.texts);
                  half = omega (arith, apart, r.place, r.texts, b.half);
                  rows = r.rows;
                };
            wrote = r.wrote;
          }

      pub node_over : (u : List ℕ) → RowOver s n t u f → Stopped s t u
      node_over u o = record { refuses = λ ns a few. ⊎_elim (many ns a few) (long ns a) o.over; wrote = o.wrote }
        where
          many : (ns : List Node) → read_sheet s ≡ accepted ns → kid_places ns ≤ kid_limit → kid_limit < f.kids + length (node_of s n).kids → ⊥
          many ns a few k = go (nodes_from (count - (i + 1)) count (i + 1) s n.next.at) (sym (nodes_more (node_of s n) n.next.at got_it) ∙ (whole_sheet s ns a).listed)
            where
              go : (g : Got (List Node)) → ahead (rows_to (node_in t) i ++ (node_of s n ∷ [])) g ≡ got ns (length s) → ⊥
              go (got ms at) q =
                  let z : (rows_to (node_in t) i ++ (node_of s n ∷ [])) ++ ms ≡ ns = cc in
                  omega (
                    arith,
                    ap kid_places z,
                    places_both (rows_to (node_in t) i ++ (node_of s n ∷ [])) ms,
                    places_both (rows_to (node_in t) i) (node_of s n ∷ []),
                    places_one (node_of s n),
                    b.total,
                  )
              go (bad w at) q = let z : ◌≡◌ {A = ℕ} 0 1 = cc in omega arith

          long : (ns : List Node) → read_sheet s ≡ accepted ns → sheet_text_limit < f.texts + 4 + length (node_of s n).text → ⊥
          long ns a k = omega (arith, (whole_sheet s ns a).short, inside, apart, b.half)

      -- whatever became of its row
      pub node_brought : (u : List ℕ) (z : rust.Option Front) → RowBrought s n t u i f z → NodeBrought s count i t u z
      node_brought u (rust.Some g) h = node_in_lem g u h
      node_brought u rust.None h = node_over u h

-- ---- the first line
module _ (s : List ℕ) (start : Position) (z : start.at ≡ 0) (r : rust.Result (ℕ × Position) Refused) (e : got_number r ≡ number_of (bytes "nodes=") wrong_count 1 4096 s start.at) where
  here : spec.number "nodes=" wrong_count 1 4096 s 0 ≡ got_number r
  here = number_by "nodes=" wrong_count 1 4096 s 0 (got_number r) (rw z at e)

  pub count_bad : (w : Refused) → r ≡ rust.Err w → (t : List ℕ) → Brought s t t false
  unfolding node_list ◌>>=◌ next
  count_bad w q t =
      record {
        wrote = wrote_none bringing t;
        past = refl;
        holds = λ ns a few. absurd (bad_refuses s (fault_of w.why) w.at (rw (here, q)) ns a few);
      }

  pub counted : (count : ℕ) (first : Position) → r ≡ rust.Ok (count, first) → Counted s count first.at
  unfolding node_list ◌>>=◌ next
  counted count first q =
      record {
        few = (number_within "nodes=" wrong_count 1 4096 s 0 count first.at (here ∙ ap got_number q)).1;
        inside = number_inside (bytes "nodes=") wrong_count 1 4096 s start.at count first.at (rw q at e);
        same = rw (here, q);
      }

-- ---- the loop
ahead_none : (g : Got (List Node)) → ahead [] g ≡ g
ahead_none (got ms at) = refl
ahead_none (bad w at) = refl

pub bringing_start : (s : List ℕ) (count : ℕ) (first : Position) → Counted s count first.at → (t t₀ t₁ : List ℕ) → Long t → t₀ ≡ set_word t texts_place sheet_text_limit → t₁ ≡ set_word t₀ nodes_at 0
    → Bringing s count 0 (record { next = first; kids = 0; texts = 0 }) t₁
unfolding kid_places
bringing_start s count first c t t₀ t₁ long d e =
    let size : length t₀ ≡ length t = rw d (length_set_word t texts_place sheet_text_limit) in
    let all : count - 0 ≡ count = omega arith in
    record {
      left = omega arith;
      inside = c.inside;
      same = rw (rows_none (node_in t₁), all) (c.same ∙ sym (ahead_none (nodes_from count count 0 s first.at)));
      total = rw (rows_none (node_in t₁));
      bytes = rw (rows_none (node_in t₁));
      half = omega arith;
      rows =
          record {
            in_use =
                rw (e, word_set_word_other t₀ nodes_at 0 texts_place (inl (omega arith)), d)
                (word_set_word_same t texts_place sheet_text_limit (omega arith) (omega arith));
            here = ap (λ (x : List ℕ). word x nodes_at) e ∙ word_set_word_same t₀ nodes_at 0 (omega arith) (omega arith);
            kid_room = omega arith;
            text_room = omega arith;
            settled = λ k h. absurd (omega arith);
          };
    }

-- some nodes are in, and nothing but the sheet's part of the store was written
pub record Going (s : List ℕ) (count : ℕ) (t : List ℕ) (i : ℕ) (f : Front) (u : List ℕ) : Type 0 where
  pub brought : Bringing s count i f u
  pub wrote : Within t u nodes_at store_bytes

module _ {s : List ℕ} {count : ℕ} {t : List ℕ} {i : ℕ} {f : Front} {u : List ℕ} (g : Going s count t i f u) where
  pub going_more : {f₂ : Front} {v : List ℕ} → NodeIn s count i f₂ u v → Going s count t (i + 1) f₂ v
  going_more n = record { brought = n.brought; wrote = within_then g.wrote n.wrote }

  pub going_end : count ≤ i → AllIn s count f.texts t u
  unfolding nodes_from give
  going_end h =
      let all : i ≡ count = omega (arith, g.brought.left) in
      let none_left : count - i ≡ 0 = omega arith in
      record {
        end = f.next.at;
        same = g.brought.same ∙ rw (none_left, all) (ap (λ (l : List Node). got l f.next.at) (append-nil (rows_to (node_in u) count)));
        kids = f.kids;
        bytes = rw all at g.brought.bytes;
        rows = rw all at g.brought.rows;
        wrote = g.wrote;
      }

-- ---- all of it
-- a text that lies within the bytes in use, with fewer of them or not
text_above : (t u : List ℕ) → Within t u 0 nodes_at → (k : ℕ) → k + 4 + word t (texts_at + k) ≤ texts_used t → k + 4 + word t (texts_at + k) ≤ texts_used u → text_in u k ≡ text_in t k
text_above t u w k a b =
    let size : word u (texts_at + k) ≡ word t (texts_at + k) = word_after w (texts_at + k) (omega arith) in
    text_in_lem u k (rw size b) ∙ rw size (w.other (texts_at + k + 4) (word t (texts_at + k)) (inr (omega arith))) ∙ sym (text_in_lem t k a)

-- what is written below the rows leaves the nodes, where their texts lie within the bytes in use
node_above : (t u : List ℕ) → Within t u 0 nodes_at → (count kids texts : ℕ) → Rows t count kids texts → word u texts_place ≡ texts → (k : ℕ) → k < count → node_in u k ≡ node_in t k
node_above t u w count kids texts r e k h =
    node_same t u k (λ d l. word_after w (nodes_at + node_row * k + d) (omega arith)) (λ j l. word_after w (kids_at + 4 * j) (omega arith))
    (text_above t u w (word t (nodes_at + node_row * k + 20))
    (omega (arith, (r.settled k h).text_end, r.text_room, used_is t sheet_text_limit r.in_use (omega arith)))
    (omega (arith, (r.settled k h).text_end, used_is u texts e (omega (arith, r.text_room)))))

module _ (s t t₀ t₁ : List ℕ) (d : t₀ ≡ set_word t texts_place sheet_text_limit) (e : t₁ ≡ set_word t₀ nodes_at 0) where
  first_used : Within t t₀ texts_place (texts_place + 4)
  first_used = rw d (within_put t texts_place sheet_text_limit)

  first_row : Within t₀ t₁ nodes_at store_bytes
  first_row = rw e (within_wide nodes_at store_bytes (within_put t₀ nodes_at 0) (omega arith) (omega arith))

  pub stopped_brought : (u : List ℕ) → Stopped s t₁ u → Brought s t u false
  stopped_brought u o =
      let w = within_then first_row o.wrote in
      record {
        wrote = wrote_then (brings_used first_used) (brings_sheet w (omega arith) (omega arith));
        past = within_past w store_bytes (omega arith) ∙ within_past first_used store_bytes (omega arith);
        holds = λ ns a few. absurd (o.refuses ns a few);
      }

  module _ (count texts : ℕ) (u : List ℕ) (a : AllIn s count texts t₁ u) (long : Long t) (few : count ≤ node_limit) (u₁ u₂ : List ℕ)
      (p : u₁ ≡ set_word u texts_place texts) (q : u₂ ≡ set_word u₁ node_count count) where
    w : Within t₀ u nodes_at store_bytes
    w = within_then first_row a.wrote

    w₁ : Within u u₁ texts_place (texts_place + 4)
    w₁ = rw p (within_put u texts_place texts)

    w₂ : Within u₁ u₂ node_count (node_count + 4)
    w₂ = rw q (within_put u₁ node_count count)

    header : Within u u₂ 0 nodes_at
    header = within_then (within_wide 0 nodes_at w₁ (omega arith) (omega arith)) (within_wide 0 nodes_at w₂ (omega arith) (omega arith))

    texts_are : word u₂ texts_place ≡ texts
    texts_are =
        word_before w₂ texts_place (omega arith) ∙ ap (λ (x : List ℕ). word x texts_place) p
        ∙ word_set_word_same u texts_place texts (omega (arith, w.long, first_used.long)) (omega (arith, a.rows.text_room))

    count_is : word u₂ node_count ≡ count
    count_is = ap (λ (x : List ℕ). word x node_count) q ∙ word_set_word_same u₁ node_count count (omega (arith, w.long, w₁.long, first_used.long)) (omega arith)

    nodes_are : nodes_of u₂ ≡ rows_to (node_in u) count
    unfolding nodes_of
    nodes_are = rw (count_is, cap_le count node_limit few) (rows_same (node_in u₂) (node_in u) count (node_above u u₂ header count a.kids texts a.rows texts_are))

    text_fits_lem : (n : ℕ) → n < count → word u₂ (nodes_at + node_row * n + 20) + 4 + word u₂ (texts_at + word u₂ (nodes_at + node_row * n + 20)) ≤ word u₂ texts_place
    text_fits_lem n h =
        rw (
          word_after header (nodes_at + node_row * n + 20) (omega arith),
          word_after header (texts_at + word u (nodes_at + node_row * n + 20)) (omega arith),
          texts_are,
        )
        (a.rows.settled n h).text_end

    pub all_brought : Brought s t u₂ true
    all_brought =
        record {
          wrote =
              wrote_then (wrote_then (brings_used first_used) (brings_sheet w (omega arith) (omega arith)))
              (wrote_then (brings_used w₁) (brings_sheet w₂ (omega arith) (omega arith)));
          past =
              within_past w₂ store_bytes (omega arith) ∙ within_past w₁ store_bytes (omega arith)
              ∙ within_past w store_bytes (omega arith) ∙ within_past first_used store_bytes (omega arith);
          holds = λ ns z room.
              let same : got (rows_to (node_in u) count) a.end ≡ got ns (length s) = sym a.same ∙ (whole_sheet s ns z).listed in
              let these : rows_to (node_in u) count ≡ ns = cc in
              record {
                told = refl;
                nodes = nodes_are ∙ these;
                used = texts_are ∙ sym a.bytes ∙ ap text_bytes these;
                texts = rw texts_are a.rows.text_room;
                fits = λ n h. text_fits_lem n (omega (arith, ap length these, length_rows (node_in u) count));
              };
        }
