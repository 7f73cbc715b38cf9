-- The rules of a number by the kind that it stands for, or by none. Assumes nothing.
use Rattle.std.specs.Prelude.{Option, Some, None}
use Rattle.module.specs.SyntaxKinds.{number_of_syntax, syntax_of_number}
use Rattle.module.specs.declared.syntax_kind.SyntaxKind.{SyntaxKind}
use Rattle.module.proofs.SyntaxKindLaws.{syntax_told, syntax_gap}
use mathlib.Core.Path.{◌≡◌, refl, sym, ap, ◌∙◌}
use mathlib.Core.List.{[]}
use mathlib.Core.Option.{none}
use Prim.Native.Nat.{ℕ, zero, suc, ◌<◌}
use native.Mathlib.Omega.{arith}
use lib.ListN.{get_or, get_or-eq_default}
use Rattle.spec.specs.Kinds.{no_text, kinds, kind_of, places}

module _ (n : ℕ) (o : Option SyntaxKind) (h : o ≡ syntax_of_number n) where
  pub kind_told : (k : SyntaxKind) → o ≡ Some k → kind_of (number_of_syntax k) ≡ kind_of n
  kind_told k e = ap kind_of (syntax_told n k (sym h ∙ e))

  pub no_kind : o ≡ None → kind_of n ≡ places [] none
  unfolding kind_of kinds
  no_kind e = go n (syntax_gap n (sym h ∙ e))
    where
      go : (n : ℕ) → (0 < n → 33 < n) → get_or kinds n (places [] none) ≡ places [] none
      go zero g = refl
      go (suc n) g = get_or-eq_default kinds (places [] none) {n = suc n} (omega (arith, g))

  pub no_flags : o ≡ None → 0 ≡ (kind_of n).flags
  no_flags e = rw (no_kind e) refl

  pub no_rule : o ≡ None → no_text ≡ (kind_of n).text
  no_rule e = rw (no_kind e) refl
