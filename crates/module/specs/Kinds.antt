-- The kinds of names: what each is in the definitions, and its number in a store.
use Rattle.std.specs.Prelude.{ℕ, eqb, if◌then◌else◌}
use Rattle.spec.specs.Module as spec
use Rattle.module.specs.declared.kinds.NameKind.{NameKind}
use Rattle.module.specs.declared.kinds.NameKind.TheVariants.{LetIn, PlainAttrset, RecAttrset, Param, PatField}

unfoldable pub kind_of : NameKind → spec.NameKind
kind_of LetIn = spec.LetIn
kind_of PlainAttrset = spec.PlainAttrset
kind_of RecAttrset = spec.RecAttrset
kind_of Param = spec.Param
kind_of PatField = spec.PatField

unfoldable pub number_of_kind : NameKind → ℕ
number_of_kind LetIn = 0
number_of_kind PlainAttrset = 1
number_of_kind RecAttrset = 2
number_of_kind Param = 3
number_of_kind PatField = 4

-- Every number gives a kind, so that whatever a store holds can be read: from 4 on it is the last.
unfoldable pub kind_of_number : ℕ → NameKind
kind_of_number n =
    if eqb n 0 then LetIn else
    if eqb n 1 then PlainAttrset else
    if eqb n 2 then RecAttrset else
    if eqb n 3 then Param else PatField

-- the kind of the definitions that a store's number stands for
unfoldable pub name_kind_of : ℕ → spec.NameKind
name_kind_of n = kind_of (kind_of_number n)
