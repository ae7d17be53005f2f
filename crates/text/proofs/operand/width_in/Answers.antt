use Rattle.std.proofs.Common.{sym, ap, ◌∙◌, rules}
use Rattle.std.specs.Option.{option_and_then}
use Rattle.std.specs.Result.{result_ok}
use Rattle.text.specs.Numerals.{number_in}
use Rattle.text.specs.Operands.{width_of}
use Rattle.text.proofs.Edges.{and_then_is, width_of_capped}
use Rattle.text.proofs.operand.width_in.Goals as goal

pub returns : goal.returns
returns c =
    sym c.ok_or.ensures.ok_part
    ∙ and_then_is width_of c.ok.result c.and_then.result (search rules)
    ∙ ap (option_and_then width_of) (c.ok.ensures.value ∙ ap result_ok c.number.ensures)
    ∙ width_of_capped (number_in c.args.word.now)
