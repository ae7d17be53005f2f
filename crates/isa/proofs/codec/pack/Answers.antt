use Rattle.isa.proofs.Rounds.{one_to_one, composes_exactly}
use Rattle.isa.proofs.codec.pack.Goals as goal

pub returns : goal.returns
returns c = record { word = c.join.ensures; laws = (one_to_one, composes_exactly) }
