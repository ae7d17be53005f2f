use Rattle.std.proofs.Common.{rules, sym, ◌∙◌}
use Rattle.text.proofs.Digits.{none_begins, not_plus, numeral_read}
use Rattle.text.proofs.numeral.numeral.Goals as goal

pub returns-then-not-begins_with_digit : goal.returns-then-not-begins_with_digit
returns-then-not-begins_with_digit c =
    none_begins c.args.radix c.args.digits.now (sym c.begins_with_digit.ensures ∙ c.if-not-begins_with_digit.true)

pub returns : goal.returns
returns c =
    numeral_read c.args.radix c.args.digits.now c.from_str_radix.result c.map_err.result
    (not_plus c.args.radix c.args.digits.now c.requires.upper_bound (sym c.begins_with_digit.ensures ∙ c.if-not-begins_with_digit.false))
    c.from_str_radix.ensures.value (search rules)
