-- docs/RULES.md, "Scopes and answers" ("The plain book"): the plain book (document 01's term), which measures demand 3.
-- It keeps no answers: afresh, everything is worked out from the texts as they then read, over the scopes as loaded.
use Rattle.std.specs.Prelude.{Bool, true, false, List, [], ◌∷◌, ℕ}
use Rattle.spec.specs.Module.{Module}
use Rattle.spec.specs.Scopes.{Scopes, scopes_of}
use Rattle.spec.specs.Basics.{ExprId}
use Rattle.spec.specs.Answer.{answer, references}
use Rattle.spec.specs.Calls.{fit, Call, Outcome, is_accepted, with_text, spent_by, outcome}
use Rattle.spec.specs.Moved.{differing}

pub record Book : Type 0 where
  pub lowered : Module
  pub scopes : Scopes
  pub spent : ℕ

-- "It starts with the module and texts that these rules make of the loaded sheet, no room spent": of a loaded sheet's
-- nodes, it is that of `lower_module nodes`.
unfoldable pub book_of : Module → Book
book_of m = record { lowered = m; scopes = scopes_of m; spent = 0 }

-- what a change would move: where the answers afresh are others with its text
unfoldable pub book_moved : Book → Call → List ExprId
book_moved b c = differing b.lowered (answer b.lowered b.scopes) (answer (with_text b.lowered c) b.scopes)

-- "The checks, put to it, refuse or accept; a short store, 22 and 23 never come up." The answers are those worked out
-- afresh.
unfoldable pub book_outcome : Book → Call → Outcome
book_outcome b c =
    outcome b.lowered (answer b.lowered b.scopes) (references b.lowered b.scopes) b.spent (book_moved b) fit c

-- "An accepted change sets its text in the book and spends room as 27 says; refused calls and askings alter nothing."
unfoldable pub book_with : Book → Call → Bool → Book
book_with b c true = record { lowered = with_text b.lowered c; scopes = b.scopes; spent = spent_by b.lowered b.spent c }
book_with b c false = b

unfoldable pub book_after : Book → Call → Book
book_after b c = book_with b c (is_accepted (book_outcome b c))

-- ---- a list of calls
unfoldable pub book_outcomes : Book → List Call → List Outcome
book_outcomes b [] = []
book_outcomes b (c ∷ cs) = book_outcome b c ∷ book_outcomes (book_after b c) cs

unfoldable pub book_after_all : Book → List Call → Book
book_after_all b [] = b
book_after_all b (c ∷ cs) = book_after_all (book_after b c) cs
