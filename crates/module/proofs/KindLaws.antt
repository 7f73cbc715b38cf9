-- The numbers of the kinds of names: a kind is told by its number.
-- Assumes nothing.
use mathlib.Core.Path.{◌≡◌, refl, ap}
use denote.Enum.Declared.{tag_of}
use Rattle.module.specs.Kinds.{kind_of, number_of_kind, kind_of_number, name_kind_of}
use Rattle.module.specs.contracts.kinds.NameKind.{the_type}
use Rattle.module.specs.declared.kinds.NameKind.{NameKind}
use Rattle.module.specs.declared.kinds.NameKind.TheVariants.{LetIn, PlainAttrset, RecAttrset, Param, PatField}

pub kind_tag : (k : NameKind) → tag_of the_type k ≡ number_of_kind k
unfolding number_of_kind
kind_tag LetIn = refl
kind_tag PlainAttrset = refl
kind_tag RecAttrset = refl
kind_tag Param = refl
kind_tag PatField = refl

pub kind_back : (k : NameKind) → kind_of_number (number_of_kind k) ≡ k
unfolding number_of_kind kind_of_number
kind_back LetIn = refl
kind_back PlainAttrset = refl
kind_back RecAttrset = refl
kind_back Param = refl
kind_back PatField = refl

pub name_kind_back : (k : NameKind) → name_kind_of (number_of_kind k) ≡ kind_of k
unfolding name_kind_of
name_kind_back k = ap kind_of (kind_back k)
