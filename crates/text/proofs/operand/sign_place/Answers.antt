use Rattle.std.proofs.Common.{◌∙◌}
use Rattle.text.proofs.Edges.{first_sign}
use Rattle.text.proofs.operand.sign_place.Goals as goal

pub returns-clause-value : goal.returns-clause-value
returns-clause-value c = c.unwrap_or.ensures ∙ first_sign c.args.text.now c.find.result c.find.ensures.cases
