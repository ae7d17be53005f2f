-- Fields that fit their row fit the types of the record, and are legal there.
use Rattle.std.proofs.Common.{◌≡◌, true, ltb, arith}
use Rattle.isa.specs.declared.fields.Fields.{Fields}
use Rattle.isa.specs.declared.kind.Kind.{Kind}
use Rattle.isa.specs.Rules.{fits}
use Rattle.isa.specs.Table.{row_of}
use Rattle.isa.proofs.Breaks.{narrow, within_fits, Small, small_within, legal_within}
use Rattle.isa.proofs.codec.build.Goals as goal

small : (k : Kind) (f : Fields) → fits (row_of k (ltb 31 f.d)) f ≡ true → Small f
small k f t = small_within (row_of k (ltb 31 f.d)) f (narrow k (ltb 31 f.d)) (within_fits (row_of k (ltb 31 f.d)) f t)

pub overflow_cast-result : goal.overflow_cast-result
overflow_cast-result c = omega (arith, (small c.args.kind c.args.f.now c.requires.fits).d)

pub overflow_cast-result-2 : goal.overflow_cast-result-2
overflow_cast-result-2 c = omega (arith, (small c.args.kind c.args.f.now c.requires.fits).a)

pub overflow_cast-result-3 : goal.overflow_cast-result-3
overflow_cast-result-3 c = omega (arith, (small c.args.kind c.args.f.now c.requires.fits).b)

pub overflow_cast-result-4 : goal.overflow_cast-result-4
overflow_cast-result-4 c = omega (arith, (small c.args.kind c.args.f.now c.requires.fits).home)

pub overflow_cast-result-5 : goal.overflow_cast-result-5
overflow_cast-result-5 c = omega (arith, (small c.args.kind c.args.f.now c.requires.fits).imm)

pub invariant_of-result : goal.invariant_of-result
invariant_of-result c =
    let f = c.args.f.now in
    let k = c.args.kind in
    let s = small k f c.requires.fits in
    let l = legal_within k c.args.width f (within_fits (row_of k (ltb 31 f.d)) f c.requires.fits) c.requires.width in
    record { lawful = l; placed = s.home; small = (s.d, s.a, s.b) }
