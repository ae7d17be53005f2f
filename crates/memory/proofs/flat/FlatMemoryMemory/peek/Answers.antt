use Rattle.std.proofs.Common.{sym, refl}
use Rattle.memory.proofs.Faulting.{met_hidden, met_shown}
use Rattle.memory.proofs.Flats.{flat_found}
use Rattle.memory.proofs.Views.{found_peek, found_room}
use Rattle.memory.proofs.flat.FlatMemoryMemory.peek.Goals as goal

pub returns-then-not-shows : goal.returns-then-not-shows
returns-then-not-shows c = sym (met_hidden _ c.args.x c.args.w c.marks.result c.marks.ensures c.if-not-shows.ensures)

pub number_at-requires : goal.number_at-requires
number_at-requires c =
    let none = (met_shown _ c.args.x c.args.w c.marks.result c.marks.ensures c.if-not-shows.ensures).0 in
    found_room (flat_found _ _ c.args.x c.args.w none) c.deref.result.now c.args.x c.deref.ensures.value refl

pub returns : goal.returns
returns c =
    let none = (met_shown _ c.args.x c.args.w c.marks.result c.marks.ensures c.if-not-shows.ensures).0 in
    found_peek (flat_found _ _ c.args.x c.args.w none) c.deref.result.now c.args.x c.deref.ensures.value refl none c.number_at.result c.number_at.ensures
