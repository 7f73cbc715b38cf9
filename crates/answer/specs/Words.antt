-- The word that stands for an answer in a store: 0 none, 1 the Withs around it, 2 to 23 a built-in name, from 24 on a
-- name.
use Rattle.std.specs.Prelude.{ℕ, ◌+◌, ◌-◌, eqb, ltb, if◌then◌else◌}
use Rattle.answer.specs.declared.answer.Answer.{Answer}
use Rattle.answer.specs.declared.answer.Answer.TheVariants.{Unresolved, Definition, Builtin, Withs}
use Rattle.layout.specs.Layout.{absent, name_limit}

-- the answer of a word
unfoldable pub answer_of_word : ℕ → Answer
answer_of_word n =
    if eqb n 0 then Unresolved
    else if eqb n 1 then Withs
    else if ltb n 24 then Builtin (n - 2)
    else Definition (record { 0 = n - 24 })

-- its word, and the mark for one that has none
unfoldable pub answer_word : Answer → ℕ
answer_word Unresolved = 0
answer_word (Definition x) = if ltb x.0 name_limit then 24 + x.0 else absent
answer_word (Builtin i) = if ltb i 22 then 2 + i else absent
answer_word Withs = 1
