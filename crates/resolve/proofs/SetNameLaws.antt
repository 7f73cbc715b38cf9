-- The text of a name in a store where one name is read as if it had another text. Assumes nothing.
use mathlib.Core.Path.{◌≡◌, refl, ap, ◌∙◌}
use mathlib.Core.Bool.{Bool}
use mathlib.Core.List.{List, [], ◌∷◌}
use mathlib.Core.Option.{Option}
use Prim.Native.Nat.{ℕ, ◌≤◌, ◌<◌}
use native.Mathlib.Omega.{arith}
use lib.ListN.{length, get_or-eq_default}
use lib.Dec.{eqb}
use borrow.Author.Tests.{ne_eqb}
use Rattle.words.specs.Words.{word}
use Rattle.words.specs.Equality.{equalb}
use Rattle.spec.specs.Basics.{Text}
use Rattle.spec.specs.Module.{Name}
use Rattle.spec.specs.Lower.{module_of}
use Rattle.spec.specs.Scopes.{Scope, name_at}
use Rattle.spec.specs.Answer.{Answer, text_of_name, answer_at}
use Rattle.spec.specs.Calls.{set_name}
use Rattle.spec.proofs.change.Locality.{set_name_past, text_other, text_set}
use Rattle.layout.specs.Layout.{name_limit, name_count}
use Rattle.layout.specs.Rows.{cap}
use Rattle.layout.specs.Texts.{text_in}
use Rattle.layout.specs.States.{name_in, names_of, state_of, module_in}
use Rattle.layout.proofs.RowLaws.{length_rows, cap_lim}

is_empty_lem : (t : Text) → eqb (length t) 0 ≡ equalb [] t
unfolding equalb
is_empty_lem [] = refl
is_empty_lem (c ∷ cs) = ne_eqb (length (c ∷ cs)) 0 (λ e. omega arith)

module _ (s : List ℕ) (x : ℕ) (text : Text) where
  -- a number that is no name's sets nothing
  unset : length (names_of s) ≤ x → set_name x text (module_in s) ≡ module_in s
  unfolding module_in module_of state_of
  unset h = set_name_past (module_in s) x text h

  nothing : length (names_of s) ≤ x → text_of_name (module_in s) x ≡ []
  unfolding text_of_name name_at module_in module_of state_of
  nothing h = ap (λ (n : Name). n.text) (get_or-eq_default (module_in s).names _ h)

  pub mark_unset : name_limit ≤ x → text_of_name (set_name x text (module_in s)) ≡ text_of_name (module_in s)
  unfolding names_of
  mark_unset h = ap text_of_name (unset (omega (arith, length_rows (name_in s) (cap (word s name_count) name_limit), cap_lim (word s name_count) name_limit)))

  module _ (y : ℕ) (sought : Text) (b : Bool) where
    -- another name reads as it stands
    pub another : (k : ℕ) → text_in s k ≡ (name_at (module_in s) y).text → b ≡ equalb (text_in s k) sought → (y ≡ x → ⊥)
        → b ≡ equalb (text_of_name (set_name x text (module_in s)) y) sought
    unfolding text_of_name
    another k e q d = q ∙ rw (e, text_other (module_in s) x text y d)

    -- the name itself has the text
    pub itself : y ≡ x → x < length (names_of s) → b ≡ equalb text sought
        → b ≡ equalb (text_of_name (set_name x text (module_in s)) y) sought
    unfolding module_in module_of state_of
    itself e h q = q ∙ rw (e, text_set (module_in s) x text h)

    -- what is no name has the empty text
    pub no_names : y ≡ x → length (names_of s) ≤ x → b ≡ eqb (length sought) 0
        → b ≡ equalb (text_of_name (set_name x text (module_in s)) y) sought
    no_names e h q = q ∙ is_empty_lem sought ∙ rw (e, unset h, nothing h)

-- ---- no name is set
pub unset_answer : (s : List ℕ) (scopes : List Scope) (sought : Text) (x : ℕ) (text : Text) (o : Option ℕ) {a : Answer} → name_limit ≤ x
    → a ≡ answer_at (text_of_name (set_name x text (module_in s))) scopes sought o
    → a ≡ answer_at (text_of_name (module_in s)) scopes sought o
unset_answer s scopes sought x text o h e = e ∙ rw (mark_unset s x text h)
