-- A Reference that does not bear the old text of a name, held against the new one. Assumes nothing.
use mathlib.Core.Path.{◌≡◌, sym, ap, ◌∙◌}
use mathlib.Core.Bool.{Bool, false, ◌||◌}
use mathlib.Core.List.{List}
use mathlib.Core.Option.{Option, some}
use Prim.Native.Nat.{ℕ}
use Rattle.words.specs.Equality.{equalb}
use Rattle.words.proofs.EqualityLaws.{equalb_sym}
use Rattle.spec.specs.Basics.{Text, ExprId}
use Rattle.spec.specs.Scopes.{expr_at}
use Rattle.spec.specs.Answer.{reference_text}
use Rattle.spec.specs.Moved.{bears}
use Rattle.layout.specs.Texts.{text_in, maybe_text}
use Rattle.layout.specs.States.{module_in}
use Rattle.module.specs.declared.ids.TextId as rust_text_id
use Rattle.std.specs.Prelude as rust

abbrev either : Text → Text → Option Text → Bool
either old new o = bears old o || bears new o

module _ (s : List ℕ) (e : ExprId) (old new : Text) (r : rust.Option rust_text_id.TextId) (h : maybe_text s r ≡ reference_text (expr_at (module_in s) e))
    (k : ℕ) (q : r ≡ rust.Some (record { 0 = k })) (a : Bool) (first : a ≡ equalb old (text_in s k)) where
  borne : either old new (some (text_in s k)) ≡ either old new (reference_text (expr_at (module_in s) e))
  unfolding maybe_text
  borne = ap (either old new) (sym (ap (maybe_text s) q) ∙ h)

  pub bears_new : (b : Bool) → a ≡ false → b ≡ equalb (text_in s k) new → b ≡ either old new (reference_text (expr_at (module_in s) e))
  unfolding bears
  bears_new b z second = second ∙ equalb_sym (text_in s k) new ∙ ap (λ (c : Bool). c || equalb new (text_in s k)) (sym z ∙ first) ∙ borne
