-- `listing::list` meets its contract: each outcome has its text, which stands at the front, since there is room for it.
use mathlib.Core.Path.{sym, ap}
use native.Mathlib.Omega.{arith}
use mir.Facts.{to_z-of_z}
use Rattle.listing.specs.Text.{text_of}
use Rattle.listing.proofs.Lines.{told, refusal_text, loop_text_is}
use Rattle.listing.proofs.list.Goals as goal

pub returns-in_default : goal.returns-in_default
returns-in_default c =
    told (sym (ap (λ x. text_of c.args.ceiling x c.args.answer.now) c.in_default.is)) c.answered.ensures (omega (arith, c.requires.room))

pub returns-in-Refused : goal.returns-in-Refused
returns-in-Refused c =
    told (refusal_text c.args.ceiling c.args.answer.now c.in-Err.is c.in-Refused.is) c.put_refusal.ensures (omega (arith, c.requires.room))

pub returns-in-NoPeriod : goal.returns-in-NoPeriod
returns-in-NoPeriod c =
    told (loop_text_is c.args.ceiling c.args.answer.now (to_z-of_z c.ranges.ceiling) c.in-Err.is c.in-NoPeriod.is) c.looped.ensures
    (omega (arith, c.requires.room))
