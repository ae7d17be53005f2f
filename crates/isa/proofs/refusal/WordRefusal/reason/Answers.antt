use Rattle.std.proofs.Common.{sym, ap}
use Rattle.isa.specs.Refusals.{reason_of}
use Rattle.isa.proofs.refusal.WordRefusal.reason.Goals as goal

pub returns-in-Kind : goal.returns-in-Kind
returns-in-Kind c = ap reason_of (sym c.in-Kind.is)

pub returns-in-Width : goal.returns-in-Width
returns-in-Width c = ap reason_of (sym c.in-Width.is)

pub returns-in-Register : goal.returns-in-Register
returns-in-Register c = ap reason_of (sym c.in-Register.is)

pub returns-in-Rest : goal.returns-in-Rest
returns-in-Rest c = ap reason_of (sym c.in-Rest.is)
