use Rattle.std.proofs.Common.{◌≡◌, ◌-◌, ◌++◌, replicate}
use Rattle.memory.specs.Pages.{no_page, settled}
use Rattle.memory.proofs.page.settled.Given as goal

abbrev pub invariant-loop-place : goal.invariant-loop-place
invariant-loop-place l = l.table ≡ settled l.size l.given l.place ++ replicate (64 - l.place) no_page
