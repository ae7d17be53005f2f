use Rattle.std.proofs.Common.{refl}
use Rattle.std.proofs.lemmas.Result.{err_from_is_err_and}
use Rattle.memory.specs.declared.access.Direction.TheVariants.{Read}
use Rattle.memory.proofs.Faulting.{met_none, met_read_fault}
use Rattle.memory.proofs.Flats.{flat_found}
use Rattle.memory.proofs.Views.{found_read, found_room}
use Rattle.memory.proofs.flat.FlatMemoryMemory.read.Goals as goal

pub returns-in_err-check : goal.returns-in_err-check
returns-in_err-check c =
    let p = err_from_is_err_and c.from_residual.result c.from_residual.ensures.1 in
    let r = met_read_fault _ c.args.x c.args.w c.marks.result c.marks.ensures _ c.in_err-check.ensures.answer in
    record { answer = rw (p.1, p.2) r.0; after = r.1; bytes = refl }

pub number_at-requires : goal.number_at-requires
number_at-requires c =
    let none = met_none _ c.args.x c.args.w c.marks.result c.marks.ensures Read _ c.in_ok-check.ensures.answer in
    found_room (flat_found _ Read c.args.x c.args.w none) c.deref.result.now c.args.x c.deref.ensures.value refl

pub returns : goal.returns
returns c =
    let none = met_none _ c.args.x c.args.w c.marks.result c.marks.ensures Read _ c.in_ok-check.ensures.answer in
    let found = flat_found _ Read c.args.x c.args.w none in
    let r = found_read found c.deref.result.now c.args.x c.deref.ensures.value refl none c.number_at.result c.number_at.ensures in
    record { answer = r.0; after = r.1; bytes = refl }
