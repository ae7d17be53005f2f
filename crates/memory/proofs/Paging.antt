-- The paged memory: its marks, and where it finds the bytes of an access.
use Rattle.std.specs.Prelude.{◌≡◌, ℕ, ◌+◌, ◌-◌, ◌/◌, ◌%◌, ◌≤◌, true, false, not, List, length, Some, None, Option}
use Rattle.std.proofs.Common.{sym, ◌∙◌, inl, inr, arith}
use Rattle.std.proofs.Math.Path.{ap}
use Rattle.std.proofs.lemmas.Bool.{and_from, and_parts, both_ways, cases_Bool, eqb-true, true≢false}
use Rattle.memory.specs.declared.access.Direction.{Direction}
use Rattle.memory.specs.declared.page.Page.{Page}
use Rattle.memory.specs.declared.paged.PagedMemory.{PagedMemory}
use Rattle.memory.specs.Access.{aligned, granule, within}
use Rattle.memory.specs.Blank.{page_of_granule}
use Rattle.memory.specs.Calls.{with_bytes}
use Rattle.memory.specs.Meaning.{Meaning, fault}
use Rattle.memory.specs.Paged.{paged_bytes, paged_meaning_of, paged_waiting}
use Rattle.memory.specs.Pages.{has_value, is_window, page_at, paged_meaning, place_in}
use Rattle.memory.specs.Theorems.{OneWindow}
use Rattle.memory.proofs.Accesses.{aligned_width, one_granule, within_bounds, within_from, within_granule}
use Rattle.memory.proofs.Faulting.{fault_passed}
use Rattle.memory.proofs.Settling.{settled_apart, settled_inside, settles_pages}
use Rattle.memory.proofs.Views.{Found, SideBySide, number_seen, stored_seen}

-- the memory over any bytes, all else as it is
abbrev pub over : PagedMemory → List ℕ → Meaning
over s bs = paged_meaning s.pages s.window bs (paged_waiting s)

-- an access without a fault at a page, its bytes found at their places
module _ (s : PagedMemory) (d : Direction) (x w : ℕ) (e : fault (paged_meaning_of s) d x w ≡ None) (plain : is_window s.window (granule x) ≡ false) where
  shape : aligned x w ≡ true
  shape = (fault_passed (paged_meaning_of s) x w d e).shape

  there : (page_at s.pages (x / 256)).present ≡ true
  unfolding paged_meaning
  there = ap (λ p. (page_at s.pages p).present) (page_of_granule x) ∙ (fault_passed (paged_meaning_of s) x w d e).present

  same_page : (a : ℕ) → within x w a ≡ true → a / 256 ≡ x / 256
  same_page a i = omega (arith, within_granule x w a shape i)

  in_page : x % 256 + w ≤ 256
  in_page = omega (arith, one_granule x w shape)

  paged_room : place_in s.pages x + w ≤ length (paged_bytes s)
  paged_room = omega (arith, s.bytes.ok.0, s.inside (x / 256) there, in_page)

  follows : (a : ℕ) → within x w a ≡ true → place_in s.pages a ≡ place_in s.pages x + (a - x)
  follows a i =
      let page = same_page a i in
      let b = within_bounds x w a i in
      let off : a % 256 ≡ x % 256 + (a - x) = omega arith in
      rw (page, off) (omega arith)

  apart : (a : ℕ) → has_value s.pages s.window a ≡ true → within (place_in s.pages x) w (place_in s.pages a) ≡ true → within x w a ≡ true
  apart a h i =
      let b = within_bounds (place_in s.pages x) w (place_in s.pages a) i in
      let frames : (page_at s.pages (x / 256)).frame ≡ (page_at s.pages (a / 256)).frame = omega (arith, in_page) in
      let page : x / 256 ≡ a / 256 = s.apart (x / 256) (a / 256) there (and_parts (page_at s.pages (a / 256)).present _ h).0 frames in
      within_from x w a (omega arith) (omega arith)

  paged_side : SideBySide (has_value s.pages s.window) (place_in s.pages) x w
  paged_side = record {
    have = λ a i.
        and_from _ _ (ap (λ p. (page_at s.pages p).present) (same_page a i) ∙ there)
        (ap (λ g. not (is_window s.window g)) (within_granule x w a shape i) ∙ ap not plain);
    follow = follows;
    apart = λ a out h. not_within a out h;
  }
    where
      not_within : (a : ℕ) → within x w a ≡ false → has_value s.pages s.window a ≡ true → within (place_in s.pages x) w (place_in s.pages a) ≡ false
      not_within a out h =
          elim (cases_Bool (within (place_in s.pages x) w (place_in s.pages a))) [
            | inl i ↦ absurd (both_ways _ out (apart a h i))
            | inr o ↦ o
          ]

  pub found : Found (over s) (paged_bytes s) (place_in s.pages x) x w
  unfolding paged_meaning
  found = record {
    room = record { width = aligned_width x w shape; inside = paged_room };
    plain = plain;
    number = number_seen (has_value s.pages s.window) (place_in s.pages) x w paged_side (paged_bytes s);
    stored = λ v. ap (with_bytes (paged_meaning_of s)) (stored_seen (has_value s.pages s.window) (place_in s.pages) x w paged_side (paged_bytes s) v paged_room);
  }

one_granule_of : (win : Option ℕ) (g h : ℕ) → is_window win g ≡ true → is_window win h ≡ true → g ≡ h
one_granule_of None g h p q = absurd (true≢false (sym p))
one_granule_of (Some k) g h p q = sym (eqb-true k g p) ∙ eqb-true k h q

pub one_window : (ps : List Page) (win : Option ℕ) (bs ws : List ℕ) → OneWindow (paged_meaning ps win bs ws)
unfolding paged_meaning
one_window ps win bs ws g h p q = one_granule_of win g h p q

-- what making a memory asks for

pub ruleset table_laws = (settled_inside, settled_apart, settles_pages, one_window)
