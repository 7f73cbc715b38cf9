-- What a node's kind, as it is read, says of its number. Assumes nothing.
use mathlib.Core.Path.{◌≡◌, sym, ap, ◌∙◌}
use mathlib.Core.Bool.{Bool, true, false, not}
use Prim.Native.Nat.{ℕ}
use denote.Enum.Bare.{sameb, same_true, same_false}
use Rattle.std.specs.Prelude.{Option, Some, None}
use Rattle.std.specs.Option.{option_eq}
use Rattle.module.specs.SyntaxKinds.{number_of_syntax, syntax_of_number}
use Rattle.module.specs.contracts.syntax_kind.SyntaxKind.{the_type}
use Rattle.module.specs.declared.syntax_kind.SyntaxKind.{SyntaxKind}
use Rattle.module.proofs.SyntaxKindLaws.{syntax_back, syntax_told}

-- ---- a kind held against a kind that may be none
same_kind : (r : Option SyntaxKind) (k : SyntaxKind) → option_eq (sameb the_type) r (Some k) ≡ true → r ≡ Some k
same_kind None k e = cc
same_kind (Some j) k e = ap Some (same_true the_type tt j k e)

other_kind : (r : Option SyntaxKind) (k : SyntaxKind) → option_eq (sameb the_type) r (Some k) ≡ false → r ≡ Some k → ⊥
other_kind None k e q = cc
other_kind (Some j) k e q = let h : j ≡ k = cc in same_false the_type j k e h

not_true : (b : Bool) → not b ≡ true → b ≡ false
not_true true e = cc
not_true false e = cc

not_false : (b : Bool) → not b ≡ false → b ≡ true
not_false true e = cc
not_false false e = cc

-- ---- a number whose kind was read
module _ {n : ℕ} {r : Option SyntaxKind} (e : r ≡ syntax_of_number n) (k : SyntaxKind) where
  pub of_kind : r ≡ Some k → n ≡ number_of_syntax k
  of_kind q = sym (syntax_told n k (sym e ∙ q))

  pub of_other : (r ≡ Some k → ⊥) → n ≡ number_of_syntax k → ⊥
  of_other o q = o (e ∙ ap syntax_of_number q ∙ syntax_back k)

  -- the test `r == Some(k)`
  module _ {b : Bool} (t : b ≡ option_eq (sameb the_type) r (Some k)) where
    pub if_kind : b ≡ true → n ≡ number_of_syntax k
    if_kind q = of_kind (same_kind r k (sym t ∙ q))

    pub if_other : b ≡ false → n ≡ number_of_syntax k → ⊥
    if_other q = of_other (other_kind r k (sym t ∙ q))

  -- the test `r != Some(k)`
  module _ {b : Bool} (t : b ≡ not (option_eq (sameb the_type) r (Some k))) where
    pub unless_other : b ≡ true → n ≡ number_of_syntax k → ⊥
    unless_other q = of_other (other_kind r k (not_true _ (sym t ∙ q)))

    pub unless_kind : b ≡ false → n ≡ number_of_syntax k
    unless_kind q = of_kind (same_kind r k (not_false _ (sym t ∙ q)))
