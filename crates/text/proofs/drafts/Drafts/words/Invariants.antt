use Rattle.std.proofs.Common.{◌≡◌, take, vec_items, vec_len}
use Rattle.text.specs.Drafts.{AllBecome}
use Rattle.text.proofs.drafts.Drafts.words.Given as goal

-- the drafts so far have become the words so far
abbrev pub invariant-loop-drafted : goal.invariant-loop-drafted
invariant-loop-drafted l =
    (vec_len l.words ≡ l.drafted-index)
    × AllBecome l.labels (take l.drafted-index l.drafted-items) (vec_items l.words)
