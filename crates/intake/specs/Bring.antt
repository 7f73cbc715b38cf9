-- Bringing a sheet's nodes in: what has been read of the sheet, and what of it the store says so far.
use Rattle.std.specs.Prelude as rust
use Rattle.std.specs.Borrow.{Bor}
use Rattle.sheet.specs.Lines.{span_of}
use Rattle.std.specs.Prelude.{◌≡◌, ◌⊎◌, Bool, true, List, [], ◌∷◌, ◌++◌, ℕ, ◌+◌, ◌-◌, ◌*◌, ◌<◌, ◌≤◌, length, drop}
use Rattle.std.proofs.Math.Option.{Option, some}
use Rattle.words.specs.Runs.{run}
use Rattle.words.specs.Words.{word}
use Rattle.spec.specs.Basics.{Text, NodeId}
use Rattle.spec.specs.Tree.{kid_places}
use Rattle.spec.proofs.room.TextRoom.{text_bytes}
use Rattle.spec.specs.Sheet.{Node, Got, got, bad, kid_list, all_below, nodes_from, node_list, accepted, read_sheet}
use Rattle.sheet.specs.Kids.{kids_of}
use Rattle.sheet.specs.Texts.{decoded}
use Rattle.sheet.specs.Nodes.{node_of}
use Rattle.sheet.specs.declared.nodes.Node as row
use Rattle.layout.specs.Layout.{node_limit, kid_limit, sheet_text_limit, node_row, texts_place, nodes_at, kids_at, texts_at, store_bytes}
use Rattle.layout.specs.Rows.{rows_to, rows_from, marked}
use Rattle.layout.specs.Changes.{Wrote}
use Rattle.layout.specs.Regions.{bringing}
use Rattle.layout.specs.Nodes.{kid_in, node_in, nodes_of}
use Rattle.intake.specs.declared.bring.Front.{Front}

-- t is s, written over from lo to hi alone: what `Wrote` says of words, of runs of any length, for the texts
pub record Within (s t : List ℕ) (lo hi : ℕ) : Type 0 where
  pub long : length t ≡ length s
  pub other : (j n : ℕ) → (j + n ≤ lo) ⊎ (hi ≤ j) → run t j n ≡ run s j n

-- ---- kids
unfoldable pub kids_in : Text → List (Option NodeId)
kids_in v = kids_of v

-- there is such a list, and its numbers are those of nodes
pub record Kids (v : Text) : Type 0 where
  pub formed : kid_list v ≡ some (kids_in v)
  pub low : all_below node_limit (kids_in v) ≡ true

-- the kids of a list are the one whose word was read, and those of the list after it
pub record After (v : Text) (w : ℕ) (rest : Text) : Type 0 where
  pub same : kids_in v ≡ marked w ∷ kids_in rest
  pub onward : length rest < length v
  pub others : Kids rest

abbrev pub KidRead : Text → rust.Option (ℕ × Bor (List ℕ)) → Type 0
KidRead v rust.None = kids_in v ≡ []
KidRead v (rust.Some p) = After v p.0 p.1.now

-- a list's words stand from one place of the kids to another
pub record KidsIn (v : Text) (t u : List ℕ) (first last : ℕ) : Type 0 where
  pub count : last ≡ first + length (kids_in v)
  pub room : last ≤ kid_limit
  pub wrote : Within t u (kids_at + 4 * first) (kids_at + 4 * last)
  pub same : rows_from (kid_in u) first last ≡ kids_in v

pub record KidsOver (v : Text) (t u : List ℕ) (first : ℕ) : Type 0 where
  pub over : kid_limit < first + length (kids_in v)
  pub wrote : Within t u kids_at texts_at

abbrev pub KidsBrought : Text → List ℕ → List ℕ → ℕ → rust.Option ℕ → Type 0
KidsBrought v t u first (rust.Some last) = KidsIn v t u first last
KidsBrought v t u first rust.None = KidsOver v t u first

-- ---- texts
unfoldable pub text_from : Text → Text
text_from v = decoded v

pub record TextBrought (v : Text) (t u : List ℕ) (first last : ℕ) : Type 0 where
  pub count : last ≡ first + 4 + length (text_from v)
  pub room : last ≤ sheet_text_limit
  pub wrote : Within t u (texts_at + first) (texts_at + last)
  pub size : word u (texts_at + first) ≡ length (text_from v)
  pub same : run u (texts_at + first + 4) (length (text_from v)) ≡ text_from v

pub record TextOver (v : Text) (t u : List ℕ) (first : ℕ) : Type 0 where
  pub over : sheet_text_limit < first + 4 + length (text_from v)
  pub wrote : u ≡ t

abbrev pub TextIn : Text → List ℕ → List ℕ → ℕ → rust.Option ℕ → Type 0
TextIn v t u first (rust.Some last) = TextBrought v t u first last
TextIn v t u first rust.None = TextOver v t u first

-- ---- rows
-- the kids and the text of a row lie below the places where the next ones will
pub record Settled (t : List ℕ) (kids texts k : ℕ) : Type 0 where
  pub kids_end : word t (nodes_at + node_row * (k + 1)) ≤ kids
  pub text_end : word t (nodes_at + node_row * k + 20) + 4 + word t (texts_at + word t (nodes_at + node_row * k + 20)) ≤ texts

-- so many rows are written, and the next one's kids and text will begin at these places; meanwhile all bytes that the
-- texts may take are in use
pub record Rows (t : List ℕ) (i kids texts : ℕ) : Type 0 where
  pub in_use : word t texts_place ≡ sheet_text_limit
  pub here : word t (nodes_at + node_row * i) ≡ kids
  pub kid_room : kids ≤ kid_limit
  pub text_room : texts ≤ sheet_text_limit
  pub settled : (k : ℕ) → k < i → Settled t kids texts k

-- the words of the row i after its first one, and the first word of the next row
pub record RowPut (t u : List ℕ) (i a b c d e f : ℕ) : Type 0 where
  pub wrote : Within t u (nodes_at + node_row * i + 4) (nodes_at + node_row * i + 28)
  pub kind : word u (nodes_at + node_row * i + 4) ≡ a
  pub from : word u (nodes_at + node_row * i + 8) ≡ b
  pub to : word u (nodes_at + node_row * i + 12) ≡ c
  pub flag : word u (nodes_at + node_row * i + 16) ≡ d
  pub text : word u (nodes_at + node_row * i + 20) ≡ e
  pub next : word u (nodes_at + node_row * (i + 1)) ≡ f

-- where the kids and the text of a node stand in the sheet
pub record Spans (s : List ℕ) (n : row.Node) : Type 0 where
  pub kids : Kids (span_of s n.kids)
  pub listed : (n.kids.start ≤ n.kids.end) × (n.kids.end ≤ length s)
  pub ordered : n.text.start ≤ n.text.end
  pub within : n.text.end ≤ length s

-- one row more
pub record RowIn (s : List ℕ) (n : row.Node) (t u : List ℕ) (i : ℕ) (f g : Front) : Type 0 where
  pub rows : Rows u (i + 1) g.kids g.texts
  pub same : rows_to (node_in u) (i + 1) ≡ rows_to (node_in t) i ++ (node_of s n ∷ [])
  pub kids : g.kids ≡ f.kids + length (node_of s n).kids
  pub texts : g.texts ≡ f.texts + 4 + length (node_of s n).text
  pub place : g.next.at ≡ n.next.at
  pub wrote : Within t u nodes_at store_bytes

pub record RowOver (s : List ℕ) (n : row.Node) (t u : List ℕ) (f : Front) : Type 0 where
  pub over : (kid_limit < f.kids + length (node_of s n).kids) ⊎ (sheet_text_limit < f.texts + 4 + length (node_of s n).text)
  pub wrote : Within t u nodes_at store_bytes

abbrev pub RowBrought : List ℕ → row.Node → List ℕ → List ℕ → ℕ → Front → rust.Option Front → Type 0
RowBrought s n t u i f (rust.Some g) = RowIn s n t u i f g
RowBrought s n t u i f rust.None = RowOver s n t u f

-- ---- nodes
-- nodes that were read, ahead of those that are still to read
abbrev pub ahead : List Node → Got (List Node) → Got (List Node)
ahead ns (got ms at) = got (ns ++ ms) at
ahead ns (bad why at) = bad why at

-- the first i of `count` nodes are in the store, and the others follow in the sheet
pub record Bringing (s : List ℕ) (count i : ℕ) (f : Front) (t : List ℕ) : Type 0 where
  pub left : i ≤ count
  pub inside : f.next.at ≤ length s
  pub same : node_list s 0 ≡ ahead (rows_to (node_in t) i) (nodes_from (count - i) count i s f.next.at)
  pub total : kid_places (rows_to (node_in t) i) ≡ f.kids
  pub bytes : text_bytes (rows_to (node_in t) i) ≡ f.texts
  pub half : 2 * f.texts ≤ f.next.at
  pub rows : Rows t i f.kids f.texts

-- the sheet is none that is accepted, or its kids are too many
abbrev pub Refuses : List ℕ → Type 0
Refuses s = (ns : List Node) → read_sheet s ≡ accepted ns → kid_places ns ≤ kid_limit → ⊥

pub record NodeIn (s : List ℕ) (count i : ℕ) (g : Front) (t u : List ℕ) : Type 0 where
  pub brought : Bringing s count (i + 1) g u
  pub wrote : Within t u nodes_at store_bytes

pub record Stopped (s t u : List ℕ) : Type 0 where
  pub refuses : Refuses s
  pub wrote : Within t u nodes_at store_bytes

abbrev pub NodeBrought : List ℕ → ℕ → ℕ → List ℕ → List ℕ → rust.Option Front → Type 0
NodeBrought s count i t u (rust.Some g) = NodeIn s count i g t u
NodeBrought s count i t u rust.None = Stopped s t u

-- ---- all of them
-- so many nodes follow in the sheet from a place on
pub record Counted (s : List ℕ) (count at : ℕ) : Type 0 where
  pub few : count ≤ node_limit
  pub inside : at ≤ length s
  pub same : node_list s 0 ≡ nodes_from count count 0 s at

pub record AllIn (s : List ℕ) (count texts : ℕ) (t u : List ℕ) : Type 0 where
  pub end : ℕ
  pub kids : ℕ
  pub same : node_list s 0 ≡ got (rows_to (node_in u) count) end
  pub bytes : text_bytes (rows_to (node_in u) count) ≡ texts
  pub rows : Rows u count kids texts
  pub wrote : Within t u nodes_at store_bytes

abbrev pub AllBrought : List ℕ → ℕ → List ℕ → List ℕ → rust.Option ℕ → Type 0
AllBrought s count t u (rust.Some texts) = AllIn s count texts t u
AllBrought s count t u rust.None = Stopped s t u

-- the store says the nodes; the bytes of texts in use are those of their texts, each with its length, and every one
-- lies within them
pub record Holds (ns : List Node) (t : List ℕ) (r : Bool) : Type 0 where
  pub told : r ≡ true
  pub nodes : nodes_of t ≡ ns
  pub used : word t texts_place ≡ text_bytes ns
  pub texts : word t texts_place ≤ sheet_text_limit
  pub fits : (n : ℕ) → n < length ns → word t (nodes_at + node_row * n + 20) + 4 + word t (texts_at + word t (nodes_at + node_row * n + 20)) ≤ word t texts_place

-- What bringing a sheet's nodes in does to a store, whatever the sheet; and that it brings all of them in, where the
-- sheet is accepted and there is room for the kids.
pub record Brought (s t u : List ℕ) (r : Bool) : Type 0 where
  pub wrote : Wrote bringing t u
  pub past : drop store_bytes u ≡ drop store_bytes t
  pub holds : (ns : List Node) → read_sheet s ≡ accepted ns → kid_places ns ≤ kid_limit → Holds ns u r
