use Rattle.std.proofs.Common.{[], ◌∷◌, Some, None, ap, ◌∙◌, lit<}
use Rattle.std.specs.Option.{option_and_then}
use Rattle.text.specs.Texts.{strip_suffix}
use Rattle.text.proofs.Edges.{strips_front, strips_end}
use Rattle.text.proofs.operand.bracketed.Goals as goal

pub returns-in_err-strip_prefix : goal.returns-in_err-strip_prefix
returns-in_err-strip_prefix c =
    rw c.from_residual.ensures
    (ap (option_and_then (λ rest. strip_suffix rest (93 ∷ [])))
    (strips_front 91 c.args.word.now None c.in_err-strip_prefix.ensures.cases (lit< tt)))

pub returns : goal.returns
returns c =
    let rest = c.in_ok-strip_prefix.field-0 in
    strips_end 93 rest.now c.strip_suffix.result c.strip_suffix.ensures.cases (lit< tt)
    ∙ ap (option_and_then (λ rest. strip_suffix rest (93 ∷ [])))
    (strips_front 91 c.args.word.now (Some rest) c.in_ok-strip_prefix.ensures.cases (lit< tt))
