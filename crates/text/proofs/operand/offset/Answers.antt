use Rattle.std.proofs.Common.{◌<◌, length, None, sym, ap, ◌∙◌, arith, lit<}
use Rattle.std.specs.Result.{result_ok}
use Rattle.std.proofs.lemmas.Bool.Decides.{nat_tests}
use Rattle.std.proofs.lemmas.Result.{err_from_is_err_and}
use Rattle.std.proofs.lemmas.Str.Pattern.{strip_prefix_char}
use Rattle.text.proofs.Edges.{offset_none}
use Rattle.text.proofs.operand.offset.Goals as goal

pub returns-in_err-ok_or : goal.returns-in_err-ok_or
returns-in_err-ok_or c =
    let p = err_from_is_err_and c.from_residual.result c.from_residual.ensures.1 in
    let some : 0 < length c.args.signed.now = grind (arith, nat_tests) in
    let minus = rw c.in_err-ok_or.ensures.ok_part at c.strip_prefix-2.ensures.cases in
    ap result_ok p.1
    ∙ sym (offset_none c.args.signed.now some
    (strip_prefix_char 43 c.args.signed.now None c.in_default.ensures.cases (lit< tt))
    (strip_prefix_char 45 c.args.signed.now None minus (lit< tt)))
