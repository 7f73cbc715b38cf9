-- `requests::begin` meets its contract.
use mathlib.Core.Path.{refl}
use Rattle.requests.proofs.StateLaws.{begun_short, begun_fit, begun_refused}
use Rattle.requests.proofs.begin.Goals as goal

pub returns-then-reply-lt-REPLY_BYTES : goal.returns-then-reply-lt-REPLY_BYTES
returns-then-reply-lt-REPLY_BYTES c = begun_short _ _ c.if-reply-lt-REPLY_BYTES.true

pub returns-in-Ok : goal.returns-in-Ok
returns-in-Ok c = begun_fit _ _ c.if-reply-lt-REPLY_BYTES.false c.in-Ok.ensures

pub returns-in-Err : goal.returns-in-Err
returns-in-Err c = begun_refused _ _ c.if-reply-lt-REPLY_BYTES.false _ c.in-Err.ensures _ c.from-why.ensures _ _ _ refl c.tell.ensures
