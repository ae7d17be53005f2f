-- Each label in front adds its mark and leaves the others.
use Rattle.std.proofs.Common.{inl, refl}
use Rattle.text.proofs.Marking.{adds_mark, adds_none}
use Rattle.text.proofs.labels.Labels.mark_all.Goals as goal

pub loop-label-init : goal.loop-label-init
loop-label-init c = λ q. inl refl

pub loop-label-preserved : goal.loop-label-preserved
loop-label-preserved c =
    adds_mark c.args.self.now c.loop-label.self c.mark.new.self c.in-Some.label c.args.mark c.loop-label.invariant c.in_ok-mark.ensures.marked

pub returns-in_err-mark-clause-marks : goal.returns-in_err-mark-clause-marks
returns-in_err-mark-clause-marks c =
    adds_none c.args.self.now c.loop-label.self c.mark.new.self c.args.mark c.loop-label.invariant c.in_err-mark.ensures.err
