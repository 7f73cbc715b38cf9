-- A part of a list of bytes, and a list with a part written over.
use Rattle.std.specs.Prelude.{List, ℕ, take, drop}
use Rattle.std.proofs.lemmas.List.Edits.{sets}

-- the n bytes from `at` on
unfoldable pub run : List ℕ → ℕ → ℕ → List ℕ
run s at n = take n (drop at s)

-- the list with xs written over it, byte after byte, from `at` on. A byte that would lie past the end is not written,
-- so that the length stays whatever `at` is. Where xs fits, this is take at s ++ xs ++ drop (at + length xs) s
-- (proofs/RunLaws.antt, `splice_is`)
unfoldable pub splice : List ℕ → ℕ → List ℕ → List ℕ
splice s at xs = sets s at xs
