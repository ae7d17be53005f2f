use Rattle.text.specs.Marks.{OnlyAdds}
use Rattle.text.proofs.labels.Labels.mark_all.Given as goal

abbrev pub invariant-loop-label : goal.invariant-loop-label
invariant-loop-label l = OnlyAdds l.fn.self l.self l.mark
