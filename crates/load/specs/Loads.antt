-- What a load makes of the store that it is lent (docs/RULES.md, "The order of the checks", "What a refusal leaves").
use Rattle.std.specs.Prelude.{◌≡◌, List, ℕ, length, drop}
use Rattle.spec.specs.Sheet.{Node, Judged}
use Rattle.spec.specs.Calls.{fit, loading}
use Rattle.spec.specs.Kept.{loaded}
use Rattle.layout.specs.Layout.{store_bytes}
use Rattle.layout.specs.Keeps.{kept_in}
use Rattle.soundness.specs.Sound.{condition_of}

-- An accepted sheet's nodes are loaded: all that is kept is the definition's, and no call finds the store unsound or
-- empty. Bytes that decoding and the check of soundness do not read are free, and so are the numbers that texts get.
pub record Loaded (nodes : List Node) (s t : List ℕ) : Type 0 where
  pub kept : kept_in t ≡ loaded nodes
  pub sound : condition_of t ≡ fit
  pub size : length t ≡ length s
  -- the bytes past the store
  pub past : drop store_bytes t ≡ drop store_bytes s

-- "Loading checks 21, then 1–7": what becomes of the sheet, with the store and the reply that are lent
unfoldable pub judged_in : List ℕ → List ℕ → List ℕ → Judged
judged_in sheet s reply = loading (condition_of s) (length reply) sheet

-- "A refusal writes to neither store nor buffer": the store is as it was, byte for byte
unfoldable pub Leaves : Judged → List ℕ → List ℕ → Type 0
Leaves (Judged.refused number place) s t = t ≡ s
Leaves (Judged.accepted nodes) s t = Loaded nodes s t
