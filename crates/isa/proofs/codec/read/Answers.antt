-- The fields of a known kind and width are within their spans, or the first broken rule is answered.
use Rattle.std.proofs.Common.{◌≡◌, Bool, true, not, ◌||◌, ltb, sym, ap, ◌∙◌}
use Rattle.std.proofs.lemmas.Bool.{or_left, or_right, not_from_false}
use Rattle.isa.specs.declared.fields.Fields.{Fields}
use Rattle.isa.specs.declared.kind.Kind.{Kind}
use Rattle.isa.specs.declared.table.Row.{Row}
use Rattle.isa.specs.Rules.{fits, broken, refusal}
use Rattle.isa.specs.Table.{row_of}
use Rattle.isa.proofs.Breaks.{within_fits, unbroken, first_broken, broken_positive}
use Rattle.isa.proofs.Numbers.{kind_number_lem, kind_read_ok, width_number_lem, width_read_ok}
use Rattle.isa.proofs.Answering.{answer_err, answer_ok, refusal_at}
use Rattle.isa.proofs.codec.read.Goals as goal
use Rattle.isa.proofs.codec.read.Goals.{then-stray-via-then-stray, then-stray-via-else-stray+then-not-fits}

pub returns-then-stray : goal.returns-then-stray
returns-then-stray c =
    let f = c.args.f.now in
    let k = c.in_ok-kind.kind in
    let r = c.row-row.result in
    let t : (c.args.stray || not (fits r f)) ≡ true =
    elim c.then-stray.branch [
      | then-stray-via-then-stray w ↦ or_left c.args.stray _ w.if-stray.true
      | then-stray-via-else-stray+then-not-fits w ↦ or_right c.args.stray _ (not_from_false _ (sym w.fits.ensures ∙ w.if-not-fits.true))
    ]
    in
    let row : broken c.args.stray (row_of k (ltb 31 f.d)) f ≡ broken c.args.stray r f = ap (λ (x : Row). broken c.args.stray x f) (sym c.row-row.ensures) in
    let b = first_broken c.args.stray r f t ∙ sym c.refusal.ensures in
    let n = refusal_at k c.args.stray f (kind_read_ok f.kind k c.in_ok-kind.ensures) ∙ row ∙ b in
    answer_err _ _ f n (rw (n, c.refusal.ensures) (broken_positive r f))

-- the row that was read is the kind's, and the fields fit it
fits_row : (k : Kind) (f : Fields) (r : Row) (b : Bool) → r ≡ row_of k (ltb 31 f.d) → b ≡ fits r f → b ≡ true → fits (row_of k (ltb 31 f.d)) f ≡ true
fits_row k f r b e p t = ap (λ (x : Row). fits x f) (sym e) ∙ sym p ∙ t

pub build-requires : goal.build-requires
build-requires c =
    let f = c.args.f.now in
    let k = c.in_ok-kind.kind in
    let w = c.in_ok-width.width in
    record {
      kind = kind_number_lem f.kind k (kind_read_ok f.kind k c.in_ok-kind.ensures);
      width = width_number_lem f.width w (width_read_ok f.width w c.in_ok-width.ensures);
      fits = fits_row k f c.row-row.result _ c.row-row.ensures c.fits.ensures c.if-not-fits.false;
    }

pub returns : goal.returns
returns c =
    let f = c.args.f.now in
    let k = c.in_ok-kind.kind in
    let t = fits_row k f c.row-row.result _ c.row-row.ensures c.fits.ensures c.if-not-fits.false in
    let n : refusal c.args.stray f ≡ 0 =
    refusal_at k c.args.stray f (kind_read_ok f.kind k c.in_ok-kind.ensures)
    ∙ ap (λ (s : Bool). broken s (row_of k (ltb 31 f.d)) f) c.if-stray.false
    ∙ unbroken (row_of k (ltb 31 f.d)) f (within_fits (row_of k (ltb 31 f.d)) f t)
    in
    answer_ok (refusal c.args.stray f) f _ n c.build.ensures
