use Rattle.std.proofs.Common.{◌≡◌, ◌&&◌, ◌∷◌, sym, ap, ◌∙◌, rules, tests}
use Rattle.std.specs.List.{list_all}
use Rattle.std.proofs.lemmas.Iterator.{YieldsList-from_slice}
use Rattle.std.proofs.lemmas.Iterator.Search.{all_from_yields_List}
use Rattle.text.specs.Names.{is_name, is_part}
use Rattle.text.proofs.name.is_name.Goals as goal

pub returns-then-is_start : goal.returns-then-is_start
returns-then-is_start c =
    let word : c.args.word.now ≡ c.in-Some.first.now ∷ c.in-Some.rest.now =
    sym c.as_bytes.ensures.value ∙ c.in-Some.ensures.cases.0 in
    all_from_yields_List is_part _ _ _ c.all.ensures.ran
    (YieldsList-from_slice c.in-Some.rest.now c.iter.ensures.rest)
    (λ x b q k. search (rules, tests))
    ∙ ap (λ b. b && list_all is_part c.in-Some.rest.now) c.if-is_start.ensures
    ∙ sym (ap is_name word)
