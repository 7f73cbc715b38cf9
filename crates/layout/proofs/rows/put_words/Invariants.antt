-- The words from `i` on are still to be written.
use Rattle.std.specs.Prelude.{◌≡◌, ◌+◌, ◌*◌, drop}
use Rattle.layout.specs.Rows.{set_all}
use Rattle.layout.proofs.rows.put_words.Given as goal

abbrev pub invariant-loop-i : goal.invariant-loop-i
invariant-loop-i g l = set_all l.initial.store l.at l.fn.words ≡ set_all l.store (l.at + 4 * l.i) (drop l.i l.fn.words)
