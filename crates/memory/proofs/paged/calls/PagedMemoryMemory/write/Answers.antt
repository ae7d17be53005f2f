use Rattle.std.proofs.Common.{◌∙◌, ap, arith}
use Rattle.std.proofs.lemmas.List.{with_items_is}
use Rattle.std.proofs.lemmas.Result.{err_from_is_err_and}
use Rattle.memory.specs.declared.access.Direction.TheVariants.{Write}
use Rattle.memory.specs.Paged.{paged_written}
use Rattle.memory.proofs.Faulting.{met_none, met_write_fault}
use Rattle.memory.proofs.Holding.{writes_plain}
use Rattle.memory.proofs.Paging.{found, over}
use Rattle.memory.proofs.Views.{found_room, found_write}
use Rattle.memory.proofs.paged.calls.PagedMemoryMemory.write.Goals as goal

pub returns-in_err-check : goal.returns-in_err-check
unfolding paged_written
returns-in_err-check c =
    let p = err_from_is_err_and c.from_residual.result c.from_residual.ensures.1 in
    let r = met_write_fault _ c.args.x c.args.w c.marks.result c.marks.ensures c.args.v _ c.in_err-check.ensures.answer in
    record { answer = rw (p.1, p.2) r.0; after = r.1; bytes = r.2 _ _ }

pub store_at-requires : goal.store_at-requires
store_at-requires c =
    let s = c.args.self.now in
    let none = met_none _ c.args.x c.args.w c.marks.result c.marks.ensures Write _ c.in_ok-check.ensures.answer in
    let at = found s Write c.args.x c.args.w none (writes_plain s c.args.x c.args.w none) in
    found_room at c.deref_mut.result.now _ c.deref_mut.ensures.value c.place-at.ensures

pub returns : goal.returns
unfolding paged_written
returns c =
    let s = c.args.self.now in
    let left = with_items_is s.bytes c.store_at.new.bytes (omega arith) in
    let none = met_none _ c.args.x c.args.w c.marks.result c.marks.ensures Write _ c.in_ok-check.ensures.answer in
    let at = found s Write c.args.x c.args.w none (writes_plain s c.args.x c.args.w none) in
    let r = found_write at c.deref_mut.result.now c.place-at.result c.deref_mut.ensures.value c.place-at.ensures none c.store_at.new.bytes c.args.v c.store_at.ensures in
    record {
      answer = r.0;
      after = ap (over s) left ∙ r.1;
      bytes = left ∙ r.2;
    }
