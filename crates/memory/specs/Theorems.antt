-- The rules of an access in their own words, over every meaning, address and width; and which pages a new memory has.
use Rattle.std.specs.Prelude.{◌≡◌, ℕ, ◌+◌, ◌-◌, ◌*◌, ◌%◌, ◌^◌, ◌<◌, ◌≤◌, true, false, ◌&&◌, List, ◌∷◌, Some, None, Ok, Err, Option, Result, ◌≢◌}
use Rattle.memory.specs.declared.fault.Fault.{Fault}
use Rattle.memory.specs.declared.page.Page.{Page}
use Rattle.memory.specs.Access.{granule, within}
use Rattle.memory.specs.Bytes.{byte_of, number_at}
use Rattle.memory.specs.Calls.{peek_answer, read_after, read_answer, write_after, write_answer}
use Rattle.memory.specs.Meaning.{Meaning}
use Rattle.memory.specs.Pages.{page_at, settled}

-- peek answers the number exactly when read would neither fault nor touch a window
pub record PeeksExactly : Type 0 where
  pub answers : (m : Meaning) (x w v : ℕ) → read_answer m x w ≡ Ok v → m.window (granule x) ≡ false → peek_answer m x w ≡ Some v
  pub only_then : (m : Meaning) (x w v : ℕ) → peek_answer m x w ≡ Some v → (read_answer m x w ≡ Ok v) × (m.window (granule x) ≡ false)
  pub nothing_at_fault : (m : Meaning) (x w : ℕ) (f : Fault) → read_answer m x w ≡ Err f → peek_answer m x w ≡ None
  pub nothing_at_window : (m : Meaning) (x w : ℕ) → m.window (granule x) ≡ true → peek_answer m x w ≡ None
  -- and then the read would change nothing either
  pub unchanged : (m : Meaning) (x w v : ℕ) → peek_answer m x w ≡ Some v → read_after m x w ≡ m

-- what a peek answers, it goes on answering until one of its bytes is written
pub record PeeksLast : Type 0 where
  pub through_reads : (m : Meaning) (x w y u : ℕ) → peek_answer (read_after m x w) y u ≡ peek_answer m y u
  pub through_writes : (m : Meaning) (x w v y u : ℕ) → ((a : ℕ) → within y u a ≡ true → within x w a ≡ false)
      → peek_answer (write_after m x w v) y u ≡ peek_answer m y u

-- a faulting access changes nothing
pub record FaultsChangeNothing : Type 0 where
  pub read : (m : Meaning) (x w : ℕ) (f : Fault) → read_answer m x w ≡ Err f → read_after m x w ≡ m
  pub write : (m : Meaning) (x w v : ℕ) (f : Fault) → write_answer m x w ≡ Err f → write_after m x w v ≡ m

-- the marks of two memories are the same
pub record SameMarks (m n : Meaning) : Type 0 where
  pub present : m.present ≡ n.present
  pub writable : m.writable ≡ n.writable
  pub window : m.window ≡ n.window

-- an accepted write stores its bytes and changes nothing else
pub record WritesExactly : Type 0 where
  pub stores : (m : Meaning) (x w v a : ℕ) → write_answer m x w ≡ Ok tt → within x w a ≡ true → (write_after m x w v).byte a ≡ byte_of v (a - x)
  pub spares : (m : Meaning) (x w v a : ℕ) → within x w a ≡ false → (write_after m x w v).byte a ≡ m.byte a
  pub marks : (m : Meaning) (x w v : ℕ) → SameMarks (write_after m x w v) m
  pub waiting : (m : Meaning) (x w v : ℕ) → (write_after m x w v).waiting ≡ m.waiting
  -- a read of the same access then answers the low w bytes
  pub reads_back : (m : Meaning) (x w v : ℕ) → write_answer m x w ≡ Ok tt → read_answer (write_after m x w v) x w ≡ Ok (v % 2 ^ (8 * w))

-- a read answers the stored number and changes nothing, except that a window read takes the first waiting word
pub record ReadsExactly : Type 0 where
  pub number : (m : Meaning) (x w v : ℕ) → m.window (granule x) ≡ false → read_answer m x w ≡ Ok v → v ≡ number_at m.byte x w
  pub takes_first : (m : Meaning) (x w v : ℕ) → m.window (granule x) ≡ true → read_answer m x w ≡ Ok v → m.waiting ≡ v ∷ (read_after m x w).waiting
  pub marks : (m : Meaning) (x w : ℕ) → SameMarks (read_after m x w) m
  pub bytes : (m : Meaning) (x w : ℕ) → (read_after m x w).byte ≡ m.byte
  pub elsewhere : (m : Meaning) (x w : ℕ) → m.window (granule x) ≡ false → read_after m x w ≡ m

-- any access, with its address, its width and what it writes
pub data Access : Type 0 where
  reading : ℕ → ℕ → Access
  writing : ℕ → ℕ → ℕ → Access
  peeking : ℕ → ℕ → Access

pub data Answer : Type 0 where
  gave : Result ℕ Fault → Answer
  wrote : Result Unit Fault → Answer
  saw : Option ℕ → Answer

abbrev pub granule_of : Access → ℕ
granule_of (reading x w) = granule x
granule_of (writing x w v) = granule x
granule_of (peeking x w) = granule x

abbrev pub answer : Meaning → Access → Answer
answer m (reading x w) = gave (read_answer m x w)
answer m (writing x w v) = wrote (write_answer m x w)
answer m (peeking x w) = saw (peek_answer m x w)

abbrev pub after : Meaning → Access → Meaning
after m (reading x w) = read_after m x w
after m (writing x w v) = write_after m x w v
after m (peeking x w) = m

-- in different granules, and not both windows, since windows share the waiting words
abbrev pub Apart : Meaning → Access → Access → Type 0
Apart m p q = (granule_of p ≢ granule_of q) × ((m.window (granule_of p) && m.window (granule_of q)) ≡ false)

-- accesses in different granules do not affect each other
pub record GranulesApart : Type 0 where
  pub answers : (m : Meaning) (p q : Access) → Apart m p q → answer (after m p) q ≡ answer m q
  pub order : (m : Meaning) (p q : Access) → Apart m p q → after (after m p) q ≡ after (after m q) p

-- what holds of every memory
pub record AccessLaws : Type 0 where
  pub peeks : PeeksExactly
  pub peeks_last : PeeksLast
  pub faults : FaultsChangeNothing
  pub writes : WritesExactly
  pub reads : ReadsExactly
  pub granules : GranulesApart

-- there is at most one window granule
abbrev pub OneWindow : Meaning → Type 0
OneWindow m = (g h : ℕ) → m.window g ≡ true → m.window h ≡ true → g ≡ h

-- page p of a new memory over n bytes that is made from these pages
abbrev pub new_page : ℕ → List Page → ℕ → Page
new_page n given p = page_at (settled n given 64) p

-- the pages of a new memory over n bytes: page p is present exactly when it was given so, its frame lies wholly inside the
-- bytes, and no lower present page has that frame
pub record SettlesPages (n : ℕ) (given : List Page) : Type 0 where
  pub marked : (p : ℕ) → (new_page n given p).present ≡ true → (page_at given p).present ≡ true
  pub inside : (p : ℕ) → (new_page n given p).present ≡ true → 256 * (page_at given p).frame + 256 ≤ n
  pub alone : (p q : ℕ) → q < p → (new_page n given p).present ≡ true → (new_page n given q).present ≡ true
      → (page_at given q).frame ≢ (page_at given p).frame
  pub present : (p : ℕ) → p < 64 → (page_at given p).present ≡ true → 256 * (page_at given p).frame + 256 ≤ n
      → ((q : ℕ) → q < p → (new_page n given q).present ≡ true → (page_at given q).frame ≢ (page_at given p).frame)
      → (new_page n given p).present ≡ true
  -- its other marks are as they were given, and there are 64
  pub frame : (p : ℕ) → p < 64 → (new_page n given p).frame ≡ (page_at given p).frame
  pub writable : (p : ℕ) → p < 64 → (new_page n given p).writable ≡ (page_at given p).writable
  pub no_more : (p : ℕ) → 64 ≤ p → (new_page n given p).present ≡ false
