-- The kinds of the sheet's nodes: the number of each, and what kind a number stands for.
use Rattle.std.specs.Prelude.{ℕ, List, [], ◌∷◌, Option, Some, None, get_or}
use Rattle.module.specs.declared.syntax_kind.SyntaxKind.{SyntaxKind}
use Rattle.module.specs.declared.syntax_kind.SyntaxKind.TheVariants as kind

unfoldable pub number_of_syntax : SyntaxKind → ℕ
number_of_syntax kind.Apply = 1
number_of_syntax kind.IfElse = 2
number_of_syntax kind.Select = 3
number_of_syntax kind.With = 4
number_of_syntax kind.HasAttr = 5
number_of_syntax kind.Str = 6
number_of_syntax kind.Path = 7
number_of_syntax kind.Float = 8
number_of_syntax kind.Integer = 9
number_of_syntax kind.Uri = 10
number_of_syntax kind.Lambda = 11
number_of_syntax kind.LetIn = 12
number_of_syntax kind.List = 13
number_of_syntax kind.BinOp = 14
number_of_syntax kind.Paren = 15
number_of_syntax kind.AttrSet = 16
number_of_syntax kind.UnaryOp = 17
number_of_syntax kind.Ident = 18
number_of_syntax kind.Assert = 19
number_of_syntax kind.Error = 20
number_of_syntax kind.Root = 21
number_of_syntax kind.LegacyLet = 22
number_of_syntax kind.Attrpath = 23
number_of_syntax kind.Dynamic = 24
number_of_syntax kind.AttrpathValue = 25
number_of_syntax kind.Inherit = 26
number_of_syntax kind.InheritFrom = 27
number_of_syntax kind.IdentParam = 28
number_of_syntax kind.Pattern = 29
number_of_syntax kind.PatBind = 30
number_of_syntax kind.PatEntry = 31
number_of_syntax kind.LiteralPart = 32
number_of_syntax kind.Interpolation = 33

-- by number, as Kinds.antt of the definitions has their rules: no kind has the number 0
unfoldable pub syntax_kinds : List (Option SyntaxKind)
syntax_kinds =
    None
    ∷ Some kind.Apply
    ∷ Some kind.IfElse
    ∷ Some kind.Select
    ∷ Some kind.With
    ∷ Some kind.HasAttr
    ∷ Some kind.Str
    ∷ Some kind.Path
    ∷ Some kind.Float
    ∷ Some kind.Integer
    ∷ Some kind.Uri
    ∷ Some kind.Lambda
    ∷ Some kind.LetIn
    ∷ Some kind.List
    ∷ Some kind.BinOp
    ∷ Some kind.Paren
    ∷ Some kind.AttrSet
    ∷ Some kind.UnaryOp
    ∷ Some kind.Ident
    ∷ Some kind.Assert
    ∷ Some kind.Error
    ∷ Some kind.Root
    ∷ Some kind.LegacyLet
    ∷ Some kind.Attrpath
    ∷ Some kind.Dynamic
    ∷ Some kind.AttrpathValue
    ∷ Some kind.Inherit
    ∷ Some kind.InheritFrom
    ∷ Some kind.IdentParam
    ∷ Some kind.Pattern
    ∷ Some kind.PatBind
    ∷ Some kind.PatEntry
    ∷ Some kind.LiteralPart
    ∷ Some kind.Interpolation
    ∷ []

-- no kind has a number above 33 either
unfoldable pub syntax_of_number : ℕ → Option SyntaxKind
syntax_of_number n = get_or syntax_kinds n None
