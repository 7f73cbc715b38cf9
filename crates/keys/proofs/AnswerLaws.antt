-- What a caller knows in each arm of a match on an answer. Assumes nothing.
use mathlib.Core.Path.{◌≡◌, sym, ap, ◌∙◌}
use mathlib.Core.List.{List}
use mathlib.Core.Option.{Option, none, some}
use Prim.Native.Nat.{ℕ}
use Rattle.spec.specs.Basics.{Text}
use Rattle.spec.specs.Keys as spec
use Rattle.spec.specs.Module as spec_module
use Rattle.module.specs.Ids.{node_of}
use Rattle.module.specs.Literals.{literal_of, Valid}
use Rattle.module.specs.declared.ids.TextId as code_text
use Rattle.module.specs.declared.literal.Literal as code_literal
use Rattle.layout.specs.Texts.{text_in, maybe_text}
use Rattle.keys.specs.AstUtils.{attr_kind_of}
use Rattle.keys.specs.Literals.{literal_given, ValidGiven, LiteralRead}
use Rattle.keys.specs.declared.ast_utils.AttrKind.{AttrKind}
use Rattle.keys.specs.declared.ast_utils.AttrKind.TheVariants.{Static, Dynamic}
use Rattle.module.specs.declared.ids.NodeId as rust_node_id
use Rattle.std.specs.Prelude as rust

module _ (s : List ℕ) where
  -- ---- a key
  module _ (r : AttrKind) (k : spec.AttrKind) (e : attr_kind_of s r ≡ k) where
    pub key_static : (t : code_text.TextId) → r ≡ Static t → k ≡ spec.static_key (text_in s t.0)
    unfolding attr_kind_of
    key_static t q = sym e ∙ ap (attr_kind_of s) q

    pub key_dynamic : (m : rust.Option rust_node_id.NodeId) → r ≡ Dynamic m → k ≡ spec.dynamic_key (node_of m)
    unfolding attr_kind_of
    key_dynamic m q = sym e ∙ ap (attr_kind_of s) q

  -- ---- a text
  module _ (r : rust.Option code_text.TextId) (o : Option Text) (e : maybe_text s r ≡ o) where
    pub text_there : (t : code_text.TextId) → r ≡ rust.Some t → o ≡ some (text_in s t.0)
    unfolding maybe_text
    text_there t q = sym e ∙ ap (maybe_text s) q

    pub text_missing : r ≡ rust.None → o ≡ none
    unfolding maybe_text
    text_missing q = sym e ∙ ap (maybe_text s) q

  -- ---- a literal
  module _ (r : rust.Option code_literal.Literal) (o : Option spec_module.Literal) (e : LiteralRead s o r) where
    pub literal_there : (l : code_literal.Literal) → r ≡ rust.Some l → o ≡ some (literal_of (text_in s) l)
    unfolding literal_given
    literal_there l q = sym e.is ∙ ap (literal_given s) q

    pub literal_valid : (l : code_literal.Literal) → r ≡ rust.Some l → Valid l
    unfolding ValidGiven
    literal_valid l q = rw q at e.valid

    pub literal_missing : r ≡ rust.None → o ≡ none
    unfolding literal_given
    literal_missing q = sym e.is ∙ ap (literal_given s) q
