use Rattle.std.proofs.Common.{◌≡◌, length}
use Rattle.std.specs.Iterator.Adapters.{zip_first, zip_second}
use Rattle.std.specs.Slice.Iter.{iter_rest}
use Rattle.text.specs.Forms.{fields_read, form_of, start_of}
use Rattle.text.specs.Texts.{texts}
use Rattle.text.proofs.statement.fields_read.Given as goal

-- what is left to read gives the answer, from the fields so far
abbrev pub invariant-loop-slot : goal.invariant-loop-slot
invariant-loop-slot l =
    let slots = iter_rest (zip_first l.slot-iterator) in
    let words = iter_rest (zip_second l.slot-iterator) in
    (length slots ≡ length words)
    × (fields_read slots l.fields (texts words) ≡ fields_read (form_of l.fn.kind) (start_of l.fn.kind l.home) (texts l.operands))
