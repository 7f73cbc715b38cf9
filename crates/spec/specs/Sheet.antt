-- docs/RULES.md, "Entry: the sheet", and refusals 1 to 3 and 31 to 33 ("Lines refused"): from bytes to nodes.
-- A sheet (document 01's term) is lines that end in byte 10: first `nodes=`, then six for each node.
use Rattle.std.specs.Prelude.{Bool, true, false, ◌&&◌, not, List, [], ◌∷◌, ℕ, zero, suc, ◌+◌, ◌-◌, ◌*◌, length, drop, ltb, leb, eqb, if◌then◌else◌}
use Rattle.std.proofs.Math.Option.{Option, none, some, map}
use Prim.Native.String.{String}
use Rattle.spec.specs.Kinds.{TextRule, no_text, any_text, digits, float, named, kind_of}
use Rattle.spec.specs.Basics.{Text, NodeId, bytes, maybe}

pub record Node : Type 0 where
  pub kind : ℕ
  pub from : ℕ
  pub to : ℕ
  pub flag : ℕ
  -- numbers of nodes; none is an absent one, written `-`
  pub kids : List (Option NodeId)
  pub text : Text

-- What is wrong with a line: its form, or what its value is about.
pub data Fault : Type 0 where
  malformed wrong_count wrong_kind wrong_range wrong_flag wrong_kid wrong_text : Fault

-- the refusal: 3 where the value is a number of the sheet itself (`nodes`, `kind`, `kids`); a flag, a text and a range
-- have one each
unfoldable pub fault_number : Fault → ℕ
fault_number malformed = 2
fault_number wrong_count = 3
fault_number wrong_kind = 3
fault_number wrong_range = 33
fault_number wrong_flag = 31
fault_number wrong_kid = 3
fault_number wrong_text = 32

-- What reading gives: a value and the place of the next line; or a fault and the place of its line.
pub data Got (A : Type 0) : Type 0 where
  got : A → ℕ → Got A
  bad : Fault → ℕ → Got A

-- A reader is handed the whole sheet and a place in it.
abbrev pub Reader : Type 0 → Type 0
Reader A = List ℕ → ℕ → Got A

unfoldable pub next : {A B : Type 0} → (A → Reader B) → List ℕ → Got A → Got B
next f s (got a at) = f a s at
next f s (bad w at) = bad w at

infixl 1 ◌>>=◌
unfoldable pub ◌>>=◌ : {A B : Type 0} → Reader A → (A → Reader B) → Reader B
◌>>=◌ p f s at = next f s (p s at)

unfoldable pub give : {A : Type 0} → A → Reader A
give a s at = got a at

-- ---- a line: its key, its value, byte 10
-- what follows the key; none where the bytes do not begin with it
unfoldable pub after : Text → List ℕ → Option (List ℕ)
after [] l = some l
after (k ∷ ks) [] = none
after (k ∷ ks) (c ∷ l) = if eqb c k then after ks l else none

-- the bytes before the first byte 10; none where there is no such byte
unfoldable pub up_to_end : List ℕ → Option Text
up_to_end [] = none
up_to_end (c ∷ l) = elim (eqb c 10) [ true ↦ some [] | false ↦ map (λ v. c ∷ v) (up_to_end l) ]

-- the value at a place whose line has the key
unfoldable pub line : String → Reader Text
line key s at =
    maybe (after (bytes key) (drop at s)) (bad malformed at) (λ rest.
    maybe (up_to_end rest) (bad malformed at) (λ v. got v (at + length (bytes key) + length v + 1)))

-- A value with its form and its rule: read by `parse`, which gives none where the form is wrong (2); else it has to
-- pass the test (3, and why).
unfoldable pub field : {A : Type 0} → String → (Text → Option A) → Fault → (A → Bool) → Reader A
field key parse why test s at =
    next (λ v _ place. maybe (parse v) (bad malformed at) (λ a. if test a then got a place else bad why at)) s (line key s at)

-- ---- numbers: decimal without leading zeros
unfoldable pub is_digit : ℕ → Bool
is_digit c = leb 48 c && leb c 57

unfoldable pub all_digits : Text → Bool
all_digits [] = true
all_digits (c ∷ d) = is_digit c && all_digits d

unfoldable pub value_from : ℕ → Text → ℕ
value_from v [] = v
value_from v (c ∷ d) = value_from (10 * v + (c - 48)) d

unfoldable pub decimal : Text → Option ℕ
decimal [] = none
decimal (c ∷ []) = if is_digit c then some (c - 48) else none
decimal (c ∷ d ∷ ds) = if all_digits (c ∷ d ∷ ds) && not (eqb c 48) then some (value_from 0 (c ∷ d ∷ ds)) else none

-- a number from lo to hi
unfoldable pub number : String → Fault → ℕ → ℕ → Reader ℕ
number key why lo hi = field key decimal why (λ v. leb lo v && leb v hi)

-- ---- kids: node numbers with commas between them, `-` for an absent one
unfoldable pub kid : Text → Option (Option NodeId)
kid [] = none
kid (c ∷ []) = if eqb c 45 then some none else map some (decimal (c ∷ []))
kid (c ∷ d ∷ ds) = map some (decimal (c ∷ d ∷ ds))

-- a byte before a text that is cut at its commas: a comma begins a new part, another byte goes on the first
unfoldable pub cut_before : Bool → ℕ → List Text → List Text
cut_before true c ps = [] ∷ ps
cut_before false c [] = (c ∷ []) ∷ []
cut_before false c (p ∷ ps) = (c ∷ p) ∷ ps

unfoldable pub cut_at_commas : Text → List Text
cut_at_commas [] = [] ∷ []
cut_at_commas (c ∷ l) = cut_before (eqb c 44) c (cut_at_commas l)

unfoldable pub all_kids : List Text → Option (List (Option NodeId))
all_kids [] = some []
all_kids (p ∷ ps) = maybe (kid p) none (λ k. map (λ ks. k ∷ ks) (all_kids ps))

-- `kids=` is no kid
unfoldable pub kid_list : Text → Option (List (Option NodeId))
kid_list [] = some []
kid_list (c ∷ l) = all_kids (cut_at_commas (c ∷ l))

unfoldable pub all_below : ℕ → List (Option NodeId) → Bool
all_below nodes [] = true
all_below nodes (none ∷ ks) = all_below nodes ks
all_below nodes (some k ∷ ks) = ltb k nodes && all_below nodes ks

-- ---- text: lowercase hex, two digits a byte
unfoldable pub hex_digit : ℕ → Option ℕ
hex_digit c = if is_digit c then some (c - 48) else if leb 97 c && leb c 102 then some (c - 87) else none

unfoldable pub hex : Text → Option Text
hex [] = some []
hex (a ∷ []) = none
hex (a ∷ b ∷ l) =
    maybe (hex_digit a) none (λ x. maybe (hex_digit b) none (λ y. map (λ t. (16 * x + y) ∷ t) (hex l)))

-- ---- the rules of the kinds
-- the number of bytes, highest first
unfoldable pub bits_from : ℕ → Text → ℕ
bits_from v [] = v
bits_from v (b ∷ bs) = bits_from (256 * v + b) bs

-- an f64: eight bytes, their number at most 7ff0000000000000 hex
unfoldable pub is_float : Text → Bool
is_float t = eqb (length t) 8 && leb (bits_from 0 t) 9218868437227405312

unfoldable pub is_empty : Text → Bool
is_empty [] = true
is_empty (b ∷ bs) = false

unfoldable pub text_fits : TextRule → ℕ → Text → Bool
text_fits no_text flag t = is_empty t
text_fits any_text flag t = true
text_fits digits flag t = not (is_empty t) && all_digits t
text_fits float flag t = if eqb flag 1 then is_float t else is_empty t
text_fits named flag t = if eqb flag 1 then true else is_empty t

-- ---- the nodes
unfoldable pub node : ℕ → ℕ → Reader Node
node nodes i = do
  kind ← if eqb i 0 then number "kind=" wrong_kind 21 21 else number "kind=" wrong_kind 1 33
  from ← number "from=" wrong_range 0 4294967295
  to ← number "to=" wrong_range from 4294967295
  flag ← number "flag=" wrong_flag 0 (kind_of kind).flags
  kids ← field "kids=" kid_list wrong_kid (all_below nodes)
  text ← field "text=" hex wrong_text (text_fits (kind_of kind).text flag)
  give (record { kind = kind; from = from; to = to; flag = flag; kids = kids; text = text })

-- the nodes from number i on, `left` of them
unfoldable pub nodes_from : ℕ → ℕ → ℕ → Reader (List Node)
nodes_from zero nodes i = give []
nodes_from (suc left) nodes i = do
  n ← node nodes i
  ns ← nodes_from left nodes (i + 1)
  give (n ∷ ns)

unfoldable pub node_list : Reader (List Node)
node_list = do
  nodes ← number "nodes=" wrong_count 1 4096
  nodes_from nodes nodes 0

-- ---- the whole sheet
-- its nodes, or the number and the place of the refusal
pub data Judged : Type 0 where
  accepted : List Node → Judged
  refused : ℕ → ℕ → Judged

-- bytes after the last line are refusal 2 there
unfoldable pub whole : List ℕ → Got (List Node) → Judged
whole s (bad w at) = refused (fault_number w) at
whole s (got ns at) = if eqb at (length s) then accepted ns else refused 2 at

unfoldable pub read_sheet : List ℕ → Judged
read_sheet s = if leb (length s) 1048576 then whole s (node_list s 0) else refused 1 0
