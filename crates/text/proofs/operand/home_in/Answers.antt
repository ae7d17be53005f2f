use Rattle.std.proofs.Common.{ap, ◌∙◌, lit<, rules}
use Rattle.std.specs.Option.{option_map}
use Rattle.std.specs.Result.{result_ok}
use Rattle.text.specs.Operands.{number_up_to}
use Rattle.text.proofs.Edges.{map_is, strips_front}
use Rattle.text.proofs.operand.home_in.Goals as goal

pub returns : goal.returns
returns c =
    map_is (number_up_to 1023) result_ok c.strip_prefix.result c.map.result (search rules)
    ∙ ap (option_map (number_up_to 1023))
    (strips_front 64 c.args.word.now c.strip_prefix.result c.strip_prefix.ensures.cases (lit< tt))
