use Rattle.std.proofs.Common.{◌∙◌, refl, ap, arith}
use Rattle.std.proofs.lemmas.List.{with_items_is}
use Rattle.std.proofs.lemmas.Result.{err_from_is_err_and}
use Rattle.memory.specs.declared.access.Direction.TheVariants.{Write}
use Rattle.memory.specs.Flat.{flat_bytes, flat_meaning, flat_written}
use Rattle.memory.proofs.Faulting.{met_none, met_write_fault}
use Rattle.memory.proofs.Flats.{flat_found}
use Rattle.memory.proofs.Views.{found_room, found_write}
use Rattle.memory.proofs.flat.FlatMemoryMemory.write.Goals as goal

pub returns-in_err-check : goal.returns-in_err-check
unfolding flat_written
returns-in_err-check c =
    let p = err_from_is_err_and c.from_residual.result c.from_residual.ensures.1 in
    let r = met_write_fault _ c.args.x c.args.w c.marks.result c.marks.ensures c.args.v _ c.in_err-check.ensures.answer in
    record { answer = rw (p.1, p.2) r.0; after = r.1; bytes = r.2 _ c.args.x }

pub store_at-requires : goal.store_at-requires
store_at-requires c =
    let none = met_none _ c.args.x c.args.w c.marks.result c.marks.ensures Write _ c.in_ok-check.ensures.answer in
    found_room (flat_found _ Write c.args.x c.args.w none) c.deref_mut.result.now c.args.x c.deref_mut.ensures.value refl

pub returns : goal.returns
unfolding flat_written
returns c =
    let left = with_items_is c.args.self.now.bytes c.store_at.new.bytes (omega arith) in
    let none = met_none _ c.args.x c.args.w c.marks.result c.marks.ensures Write _ c.in_ok-check.ensures.answer in
    let bs = flat_bytes c.args.self.now in
    let found = flat_found bs Write c.args.x c.args.w none in
    let r = found_write found c.deref_mut.result.now c.args.x c.deref_mut.ensures.value refl none c.store_at.new.bytes c.args.v c.store_at.ensures in
    record { answer = r.0; after = ap flat_meaning left ∙ r.1; bytes = left ∙ r.2 }
