-- `load::load` meets its contract.
use Rattle.load.proofs.LoadLaws.{place_fits, reply_too_short, store_too_short, sheet_refused, sheet_accepted}
use mathlib.Core.Path.{refl, ◌∙◌}
use native.Mathlib.Omega.{arith}
use Rattle.load.proofs.load.Goals as goal

pub returns-then-reply-lt-REPLY_BYTES : goal.returns-then-reply-lt-REPLY_BYTES
returns-then-reply-lt-REPLY_BYTES c = let answer = reply_too_short _ _ _ (omega (arith, c.if-reply-lt-REPLY_BYTES.true)) in record { value = c.number.ensures ∙ answer.0; reply_after = answer.1.0; leaves = answer.1.1 }

pub returns-then-store-lt-STORE_BYTES : goal.returns-then-store-lt-STORE_BYTES
returns-then-store-lt-STORE_BYTES c = let answer = store_too_short _ _ _ (omega (arith, c.if-store-lt-STORE_BYTES.true)) c.tell.ensures in record { value = answer.0; reply_after = answer.1.0; leaves = answer.1.1 }

pub overflow_cast-refused : goal.overflow_cast-refused
overflow_cast-refused c = let fits = place_fits _ _ c.judge.ensures _ c.in-Err.is in omega (arith, fits)

pub returns-in-Err : goal.returns-in-Err
returns-in-Err c = let answer = sheet_refused _ _ _ (omega (arith, c.if-store-lt-STORE_BYTES.false)) (omega (arith, c.if-reply-lt-REPLY_BYTES.false)) _ c.judge.ensures c.in-Err.refused _ c.in-Err.is refl c.tell-in-Err.ensures in record { value = answer.0; reply_after = answer.1.0; leaves = answer.1.1 }

pub returns-in-Ok : goal.returns-in-Ok
returns-in-Ok c = let answer = sheet_accepted _ _ _ (omega (arith, c.if-store-lt-STORE_BYTES.false)) (omega (arith, c.if-reply-lt-REPLY_BYTES.false)) _ c.judge.ensures _ _ c.in-Ok.is c.fill.ensures c.tell_count.ensures.moved in record { value = answer.0; reply_after = answer.1.0; leaves = answer.1.1 }
