use Rattle.std.proofs.Common.{◌≡◌}
use Rattle.text.proofs.assembler.assemble.Given as goal

abbrev pub invariant-loop-number : goal.invariant-loop-number
invariant-loop-number l = l.assembler.drafts.most ≡ l.most
