-- The parts of a text, and the texts behind references.
use Rattle.std.specs.Prelude.{ℕ, if◌then◌else◌, List, [], ◌∷◌, map, reverse, Some, None, Option, ◌==◌}
use Rattle.std.specs.Borrow.{Bor}
use Rattle.std.specs.Option.{option_map}

-- what the words of a line are
abbrev pub texts : List (Bor (List ℕ)) → List (List ℕ)
texts words = map (λ x. x.now) words

-- what stands after the front of a text, where that is `front`
abbrev pub strip_prefix : List ℕ → List ℕ → Option (List ℕ)
strip_prefix bs [] = Some bs
strip_prefix [] (c ∷ cs) = None
strip_prefix (b ∷ bs) (c ∷ cs) = if b == c then strip_prefix bs cs else None

-- what stands before the end of a text, where that is `back`
abbrev pub strip_suffix : List ℕ → List ℕ → Option (List ℕ)
strip_suffix bs back = option_map reverse (strip_prefix (reverse bs) (reverse back))
