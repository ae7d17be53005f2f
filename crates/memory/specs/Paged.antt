-- The paged memory as it is held, and what its calls leave in the caller's bytes.
use Rattle.std.specs.Prelude.{ℕ, List, length, vec_items, Option}
use Rattle.std.specs.VecDeque.{deque_items}
use Rattle.memory.specs.declared.access.Direction.TheVariants.{Write}
use Rattle.memory.specs.declared.page.Page.{Page}
use Rattle.memory.specs.declared.paged.PagedMemory.{PagedMemory}
use Rattle.memory.specs.Calls.{stored_or_kept}
use Rattle.memory.specs.Meaning.{Meaning, fault}
use Rattle.memory.specs.Pages.{paged_meaning, place_in, settled, window_granule}

-- the caller's bytes, as the memory holds them now
abbrev pub paged_bytes : PagedMemory → List ℕ
paged_bytes s = vec_items s.bytes

-- the order words that wait
abbrev pub paged_waiting : PagedMemory → List ℕ
paged_waiting s = deque_items s.waiting

abbrev pub paged_meaning_of : PagedMemory → Meaning
paged_meaning_of s = paged_meaning s.pages s.window (paged_bytes s) (paged_waiting s)

-- what a new memory means, over what the caller passes: bytes, pages, the window's address and the order words
abbrev pub new_paged : List ℕ → List Page → Option ℕ → List ℕ → Meaning
new_paged bs given address ws = paged_meaning (settled (length bs) given 64) (window_granule address) bs ws

-- the caller's bytes after a write
unfoldable pub paged_written : PagedMemory → ℕ → ℕ → ℕ → List ℕ
paged_written s x w v = stored_or_kept (fault (paged_meaning_of s) Write x w) (paged_bytes s) (place_in s.pages x) w v
