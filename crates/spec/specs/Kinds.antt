-- docs/RULES.md, "Entry: the sheet" ("Kinds", "Places"): the 33 kinds of node, the places of their kids, their flags
-- and their texts.
use Rattle.std.specs.Prelude.{Bool, ◌&&◌, ◌||◌, List, [], ◌∷◌, ℕ, get_or, leb, eqb}
use Rattle.std.proofs.Math.Option.{Option, none, some}

-- What a place is for.
pub data Slot : Type 0 where
  expression path attribute entry part parameter from ident bind pattern_entry : Slot

-- "An expression place takes 1–22, an attribute 6, 18 or 24, ..": whether the slot takes a kind
unfoldable pub takes : Slot → ℕ → Bool
takes expression k = leb 1 k && leb k 22
takes attribute k = eqb k 6 || eqb k 18 || eqb k 24
takes entry k = eqb k 25 || eqb k 26
takes part k = eqb k 32 || eqb k 33
takes parameter k = eqb k 28 || eqb k 29
takes pattern_entry k = eqb k 31
takes path k = eqb k 23
takes from k = eqb k 27
takes bind k = eqb k 30
takes ident k = eqb k 18

-- What a text may be; `float` and `named` where the flag is 1, else such a text is empty.
pub data TextRule : Type 0 where
  no_text any_text digits float named : TextRule

-- The counted places, each of which may be absent; what a list after them takes, whose items may not; the highest flag;
-- the rule for the text.
pub record Kind : Type 0 where
  pub counted : List Slot
  pub listed : Option Slot
  pub flags : ℕ
  pub text : TextRule

abbrev pub places : List Slot → Option Slot → Kind
places c l = record { counted = c; listed = l; flags = 0; text = no_text }

abbrev pub flagged : List Slot → Option Slot → ℕ → Kind
flagged c l f = record { counted = c; listed = l; flags = f; text = no_text }

abbrev pub leaf : ℕ → TextRule → Kind
leaf f t = record { counted = []; listed = none; flags = f; text = t }

abbrev pub one : Slot → List Slot
one s = s ∷ []

abbrev pub two : Slot → Slot → List Slot
two s t = s ∷ t ∷ []

abbrev pub three : Slot → Slot → Slot → List Slot
three s t u = s ∷ t ∷ u ∷ []

-- by number
unfoldable pub kinds : List Kind
kinds =
    -- no kind has the number 0
    places [] none
    -- 1 Apply (function, argument)
    ∷ places (two expression expression) none
    -- 2 IfElse (condition, then, else)
    ∷ places (three expression expression expression) none
    -- 3 Select (set, path, default)
    ∷ places (three expression path expression) none
    -- 4 With (namespace, body)
    ∷ places (two expression expression) none
    -- 5 HasAttr (set, path)
    ∷ places (two expression path) none
    -- 6 Str (normalized parts)
    ∷ places [] (some part)
    -- 7 Path (parts; text whole)
    ∷ record { counted = []; listed = some part; flags = 0; text = any_text }
    -- 8 Float (flag 1: the eight bytes of an f64)
    ∷ leaf 1 float
    -- 9 Integer (its digits)
    ∷ leaf 0 digits
    -- 10 Uri
    ∷ leaf 0 no_text
    -- 11 Lambda (parameter, body)
    ∷ places (two parameter expression) none
    -- 12 LetIn (body, then entries)
    ∷ places (one expression) (some entry)
    -- 13 List (items)
    ∷ places [] (some expression)
    -- 14 BinOp (left, right; flag 0 none, 1–15 operators)
    ∷ flagged (two expression expression) none 15
    -- 15 Paren (one)
    ∷ places (one expression) none
    -- 16 AttrSet (entries; flag 1 rec)
    ∷ flagged [] (some entry) 1
    -- 17 UnaryOp (one; flag 0 none, 1 not, 2 minus)
    ∷ flagged (one expression) none 2
    -- 18 Ident (flag 1: text)
    ∷ leaf 1 named
    -- 19 Assert (condition, body)
    ∷ places (two expression expression) none
    -- 20 Error
    ∷ leaf 0 no_text
    -- 21 Root (one)
    ∷ places (one expression) none
    -- 22 LegacyLet
    ∷ leaf 0 no_text
    -- 23 Attrpath (attributes)
    ∷ places [] (some attribute)
    -- 24 Dynamic (one)
    ∷ places (one expression) none
    -- 25 AttrpathValue (path, value)
    ∷ places (two path expression) none
    -- 26 Inherit (from, attributes)
    ∷ places (one from) (some attribute)
    -- 27 InheritFrom (one)
    ∷ places (one expression) none
    -- 28 IdentParam (ident)
    ∷ places (one ident) none
    -- 29 Pattern (bind, entries; flag 1 ellipsis)
    ∷ flagged (one bind) (some pattern_entry) 1
    -- 30 PatBind (ident)
    ∷ places (one ident) none
    -- 31 PatEntry (ident, default)
    ∷ places (two ident expression) none
    -- 32 literal part (text)
    ∷ leaf 0 any_text
    -- 33 interpolation (one)
    ∷ places (one expression) none
    ∷ []

unfoldable pub kind_of : ℕ → Kind
kind_of k = get_or kinds k (places [] none)
