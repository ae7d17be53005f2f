use Rattle.std.proofs.Common.{◌∙◌, ap, arith, length-take, take}
use Rattle.std.proofs.lemmas.List.{get_or-take}
use Rattle.memory.specs.Pages.{no_page, settled_page}
use Rattle.memory.proofs.Settling.{table_all, table_more, table_none}
use Rattle.memory.proofs.page.settled.Goals as goal

pub loop-place-init : goal.loop-place-init
loop-place-init c = table_none c.args.size c.args.given.now

pub loop-place-preserved : goal.loop-place-preserved
loop-place-preserved c =
    let held = length-take c.min.result c.args.given.now in
    table_more c.args.size c.args.given.now c.loop-place.table c.loop-place.place c.settle_page.result (omega (arith, held)) c.loop-place.invariant
    (c.settle_page.ensures ∙ ap (settled_page c.args.size (take c.loop-place.place c.loop-place.table))
    (get_or-take c.min.result c.args.given.now c.loop-place.place no_page (omega (arith, held))))

pub returns : goal.returns
returns c =
    let held = length-take c.min.result c.args.given.now in
    c.loop-place.invariant ∙ table_all c.args.size c.args.given.now c.loop-place.place (omega (arith, held))
