use Rattle.std.proofs.Common.{sym, ap, ◌∙◌, lit<}
use Rattle.std.specs.Option.{option_and_then, option_copied}
use Rattle.std.specs.Result.{result_ok}
use Rattle.std.proofs.lemmas.Result.{err_from_is_err_and}
use Rattle.text.specs.Numerals.{numeral_in}
use Rattle.text.specs.Operands.{up_to}
use Rattle.text.proofs.Edges.{strips_front}
use Rattle.text.proofs.operand.register_number.Goals as goal

pub returns-in_err-digits : goal.returns-in_err-digits
returns-in_err-digits c =
    let p = err_from_is_err_and c.from_residual.result c.from_residual.ensures.1 in
    ap result_ok p.1
    ∙ ap (λ r. up_to 63 (option_and_then (numeral_in 10) r))
    (ap option_copied (sym c.in_err-digits.ensures.ok_part)
    ∙ strips_front 114 c.args.name.now c.strip_prefix.result c.strip_prefix.ensures.cases (lit< tt))
