use Rattle.std.proofs.Common.{◌∙◌, sym, refl}
use Rattle.std.proofs.lemmas.Result.{err_from_is_err_and}
use Rattle.memory.specs.declared.access.Direction.TheVariants.{Read}
use Rattle.memory.proofs.Faulting.{met_none, met_read_fault}
use Rattle.memory.proofs.Holding.{takes}
use Rattle.memory.proofs.Paging.{found}
use Rattle.memory.proofs.Views.{found_read, found_room}
use Rattle.memory.proofs.paged.calls.PagedMemoryMemory.read.Goals as goal

pub returns-in_err-check : goal.returns-in_err-check
returns-in_err-check c =
    let p = err_from_is_err_and c.from_residual.result c.from_residual.ensures.1 in
    let r = met_read_fault _ c.args.x c.args.w c.marks.result c.marks.ensures _ c.in_err-check.ensures.answer in
    record { answer = rw (p.1, p.2) r.0; after = r.1; bytes = refl }

pub returns-then-is_window : goal.returns-then-is_window
returns-then-is_window c =
    let none = met_none _ c.args.x c.args.w c.marks.result c.marks.ensures Read _ c.in_ok-check.ensures.answer in
    let r = takes c.args.self.now c.args.x c.args.w none (sym c.if-is_window.ensures) c.take_word.new.waiting.items _ c.take_word.ensures.after in
    record { answer = c.take_word.ensures.answer ∙ r.0; after = r.1; bytes = refl }

pub number_at-requires : goal.number_at-requires
number_at-requires c =
    let none = met_none _ c.args.x c.args.w c.marks.result c.marks.ensures Read _ c.in_ok-check.ensures.answer in
    found_room (found c.args.self.now Read c.args.x c.args.w none (sym c.if-is_window.ensures)) c.deref.result.now c.place.result c.deref.ensures.value c.place.ensures

pub returns : goal.returns
returns c =
    let none = met_none _ c.args.x c.args.w c.marks.result c.marks.ensures Read _ c.in_ok-check.ensures.answer in
    let at = found c.args.self.now Read c.args.x c.args.w none (sym c.if-is_window.ensures) in
    let r = found_read at c.deref.result.now c.place.result c.deref.ensures.value c.place.ensures none c.number_at.result c.number_at.ensures in
    record { answer = r.0; after = r.1; bytes = refl }
