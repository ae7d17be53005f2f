use Rattle.std.proofs.Common.{◌≡◌, true, ltb, length, arith, rules, tests}
use Rattle.std.specs.Char.{is_digit}
use Rattle.std.proofs.lemmas.Bool.Decides.{nat_tests}
use Rattle.std.proofs.lemmas.Iterator.Adapters.{YieldsList-from_bytes}
use Rattle.std.proofs.lemmas.Iterator.Search.{all_from_yields_List}
use Rattle.text.proofs.numeral.is_numeral.Goals as goal

pub returns-then-not-is_empty : goal.returns-then-not-is_empty
returns-then-not-is_empty c =
    let some : ltb 0 (length c.args.text.now) ≡ true = grind (arith, nat_tests) in
    rw some
    (all_from_yields_List (λ x. is_digit x c.args.radix) _ _ _ c.all.ensures.ran
    (YieldsList-from_bytes c.args.text.now c.bytes.ensures.rest)
    (λ x b q k. search (rules, tests)))
