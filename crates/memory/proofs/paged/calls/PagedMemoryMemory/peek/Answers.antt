use Rattle.std.proofs.Common.{sym}
use Rattle.memory.specs.Pages.{paged_meaning}
use Rattle.memory.proofs.Faulting.{met_hidden, met_shown}
use Rattle.memory.proofs.Paging.{found}
use Rattle.memory.proofs.Views.{found_peek, found_room}
use Rattle.memory.proofs.paged.calls.PagedMemoryMemory.peek.Goals as goal

pub returns-then-not-shows : goal.returns-then-not-shows
returns-then-not-shows c = sym (met_hidden _ c.args.x c.args.w c.marks.result c.marks.ensures c.if-not-shows.ensures)

pub number_at-requires : goal.number_at-requires
unfolding paged_meaning
number_at-requires c =
    let met = met_shown _ c.args.x c.args.w c.marks.result c.marks.ensures c.if-not-shows.ensures in
    found_room (found c.args.self.now _ c.args.x c.args.w met.0 met.1) c.deref.result.now c.place.result c.deref.ensures.value c.place.ensures

pub returns : goal.returns
unfolding paged_meaning
returns c =
    let met = met_shown _ c.args.x c.args.w c.marks.result c.marks.ensures c.if-not-shows.ensures in
    let at = found c.args.self.now _ c.args.x c.args.w met.0 met.1 in
    found_peek at c.deref.result.now c.place.result c.deref.ensures.value c.place.ensures met.0 c.number_at.result c.number_at.ensures
