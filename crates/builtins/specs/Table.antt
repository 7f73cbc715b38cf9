-- The table of the code says what the definitions say, and no name twice.
use Rattle.std.specs.Prelude.{◌≡◌, refl, Bool, true, false, ◌||◌, ◌&&◌, not, List, [], ◌∷◌, map}
use Rattle.words.specs.Equality.{equalb}
use Rattle.spec.specs.Basics.{Text}
use Rattle.spec.specs.Answer.{builtins}
use Rattle.builtins.specs.declared.table.TheConstants.{NAMES}

-- the names of the code, by their bytes
unfoldable pub names : List Text
names = map (λ name. name.now) NAMES

pub table_says : names ≡ builtins
unfolding names builtins
table_says = refl

-- ---- no text stands twice
unfoldable pub among : Text → List Text → Bool
among t [] = false
among t (x ∷ xs) = equalb x t || among t xs

unfoldable pub distinct : List Text → Bool
distinct [] = true
distinct (x ∷ xs) = not (among x xs) && distinct xs

pub all_distinct : distinct builtins ≡ true
unfolding distinct among equalb builtins
all_distinct = refl
