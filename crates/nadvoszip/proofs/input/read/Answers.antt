use Rattle.std.proofs.Common.{arith}
use Rattle.nadvoszip.proofs.Inputs.{all_under_limit, at_ok}
use Rattle.nadvoszip.proofs.input.read.Goals as goal

pub returns-clause-all : goal.returns-clause-all
returns-clause-all g c =
    let read = at_ok c.read_to_end.result c.map_err.result c.in_ok-map_err.field-0 c.map_err.ensures.variant c.in_ok-map_err.was c.read_to_end.ensures.bytes in
    all_under_limit (g.R.Read.remaining c.args.input) c.new-bytes.result.items _ c.take.result.limit c.new-bytes.ensures.items (omega arith) (rw c.take.ensures.inner at read)
