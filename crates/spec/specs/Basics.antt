-- Small things that the definitions are written with.
use Rattle.std.specs.Prelude.{List, [], ◌∷◌, ℕ}
use Rattle.std.proofs.Math.Option.{Option, none, some}
use Prim.Native.Char.{code}
use Prim.Native.String.{String, [] as ε, ◌∷◌ as ◌▹◌}

-- the bytes of a text, and the numbers of nodes, expressions, names and scopes: three sorts in the code, plain numbers
-- here
abbrev pub Text : Type 0
Text = List ℕ

abbrev pub NodeId : Type 0
NodeId = ℕ

abbrev pub ExprId : Type 0
ExprId = ℕ

abbrev pub NameId : Type 0
NameId = ℕ

abbrev pub ScopeId : Type 0
ScopeId = ℕ

-- the bytes of a word in ASCII
abbrev pub bytes : String → Text
bytes ε = []
bytes (c ▹ s) = code c ∷ bytes s

-- what a function makes of a value that is there, or else something
abbrev pub maybe : {A B : Type 0} → Option A → B → (A → B) → B
maybe none b f = b
maybe (some a) b f = f a
