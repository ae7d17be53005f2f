-- What a memory means to whoever uses it, and the fault of an access.
use Rattle.std.specs.Prelude.{ℕ, Bool, cond, not, ◌&&◌, ◌||◌, List, length, is_some, Some, None, Option, ◌==◌}
use Rattle.memory.specs.declared.access.Direction.{Direction}
use Rattle.memory.specs.declared.access.Direction.TheVariants.{Read}
use Rattle.memory.specs.declared.fault.Fault.{Fault}
use Rattle.memory.specs.declared.fault.Fault.TheVariants.{Shape, Absent, ReadOnly, Window, NoOrder}
use Rattle.memory.specs.declared.marks.Marks.{Marks}
use Rattle.memory.specs.Access.{aligned, granule, is_write}

-- the marks of each granule, the value of each byte, and the order words that wait, the first to come first.
-- A byte has a value where its granule is present and no window; any other counts as 0, so that memories which
-- mean the same are equal
pub record Meaning : Type 0 where
  pub present : ℕ → Bool
  pub writable : ℕ → Bool
  pub window : ℕ → Bool
  pub byte : ℕ → ℕ
  pub waiting : List ℕ

-- the marks that an access at granule g meets
abbrev pub marks_at : Meaning → ℕ → Marks
marks_at m g = record { present = m.present g; writable = m.writable g; window = m.window g; waiting = not (length m.waiting == 0) }

-- the first rule that an access breaks where it meets these marks
abbrev pub first_fault : Marks → Direction → ℕ → ℕ → Option Fault
first_fault k d x w =
    cond (not (aligned x w)) (Some Shape)
    (cond (not k.present) (Some Absent)
    (cond (is_write d && not k.writable) (Some ReadOnly)
    (cond (k.window && (is_write d || not (w == 4))) (Some Window)
    (cond (k.window && not k.waiting) (Some NoOrder)
    None))))

-- whether a peek that meets these marks answers: a read would neither fault nor touch a window
abbrev pub shows_at : Marks → ℕ → ℕ → Bool
shows_at k x w = not k.window && not (is_some (first_fault k Read x w))

-- the fault of reading or writing w bytes at x, if there is one
unfoldable pub fault : Meaning → Direction → ℕ → ℕ → Option Fault
fault m d x w = first_fault (marks_at m (granule x)) d x w
