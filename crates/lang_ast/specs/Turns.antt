-- Demand 3 of one call at its turn (docs/RULES.md, "Demand 3"), in terms of what crosses the door: the number
-- returned, the bytes that the host lent, and the bytes of the store. Document 01's sentences stand beside
-- `KeepsBook` and `Moves` in the crate spec (Demand.antt).
use Rattle.std.specs.Prelude.{◌≡◌, List, ℕ}
use Rattle.spec.specs.Calls.{Call}
use Rattle.spec.specs.Book.{Book, book_outcome, book_after}
use Rattle.spec.specs.Demand as demand
use Rattle.layout.specs.Keeps.{kept_in}
use Rattle.soundness.specs.Sound.{condition_of}
use Rattle.replies.specs.Replies.{returned, reply_after, buffer_after}

-- what a store of bytes keeps is the book's, and no call finds it amiss
abbrev pub KeepsBook : Book → List ℕ → Type 0
KeepsBook b s = demand.KeepsBook (List ℕ) kept_in condition_of b s

-- What holds of a call at its turn, b being the book before it: it found the store s and left the store t, returned r,
-- and what the host lent, the buffer q and the reply p, is q' and p' now.
pub record Turn (b : Book) (c : Call) (s t : List ℕ) (r : ℕ) (q p q' p' : List ℕ) : Type 0 where
  -- "Each call's refusal, place, answer, length and list .. are the book's"
  pub number : r ≡ returned (book_outcome b c)
  -- the Withs, the references, or what a change moved
  pub buffer : q' ≡ buffer_after (book_outcome b c) q
  pub reply : p' ≡ reply_after (book_outcome b c) p
  -- "and the texts, kept answers and kept references in the store after it"
  pub keeps : KeepsBook (book_after b c) t
  -- only what may move has moved, and a change tells exactly what has
  pub moves : demand.Moves (kept_in s) c (book_outcome b c) (kept_in t)

-- Of an asking beside it: the store is as it was, byte for byte.
pub record Asking (b : Book) (c : Call) (s t : List ℕ) (r : ℕ) (q p q' p' : List ℕ) : Type 0 where
  pub turn : Turn b c s t r q p q' p'
  pub same : t ≡ s
