-- A paged memory as it is held: what its calls answer and leave.
use Rattle.std.specs.Prelude.{length, drop, slice_index, ◌==◌}
use Rattle.std.specs.List.{slice_get}
use Rattle.std.proofs.Common.{◌≡◌, ℕ, Bool, true, false, not, List, [], ◌∷◌, None, Ok, sym, refl, ap, ◌∙◌}
use Rattle.std.proofs.lemmas.Bool.{true≢false}
use Rattle.std.specs.Option.{ok_or}
use Rattle.memory.specs.declared.access.Direction.TheVariants.{Read, Write}
use Rattle.memory.specs.declared.fault.Fault.{Fault}
use Rattle.memory.specs.declared.paged.PagedMemory.{PagedMemory}
use Rattle.memory.specs.Access.{granule}
use Rattle.memory.specs.Calls.{read_after, read_answer}
use Rattle.memory.specs.Meaning.{fault}
use Rattle.memory.specs.Paged.{paged_meaning_of, paged_bytes, paged_waiting}
use Rattle.memory.specs.Pages.{is_window, paged_meaning}
use Rattle.memory.proofs.Faulting.{fault_passed, read_word}

-- where a word waits, the first one is taken
first_taken : (ws : List ℕ) (f : Fault) → not (length ws == 0) ≡ true → ok_or (slice_get ws 0) f ≡ Ok (slice_index ws 0)
first_taken [] f h = absurd (true≢false (sym h))
first_taken (w ∷ ws) f h = refl

module _ (s : PagedMemory) (x w : ℕ) where
  windows : (b : Bool) → is_window s.window (granule x) ≡ b → (paged_meaning_of s).window (granule x) ≡ b
  unfolding paged_meaning
  windows b e = e

  waits : fault (paged_meaning_of s) Read x w ≡ None → is_window s.window (granule x) ≡ true → not (length (paged_waiting s) == 0) ≡ true
  unfolding paged_meaning
  waits e here = (fault_passed (paged_meaning_of s) x w Read e).word_waits here

  -- ws is what is left once the first word is taken
  pub takes : fault (paged_meaning_of s) Read x w ≡ None → is_window s.window (granule x) ≡ true
      → (ws : List ℕ) (f : Fault) → ws ≡ drop 1 (paged_waiting s)
      → (ok_or (slice_get (paged_waiting s) 0) f ≡ read_answer (paged_meaning_of s) x w) × (paged_meaning s.pages s.window (paged_bytes s) ws ≡ read_after (paged_meaning_of s) x w)
  unfolding paged_meaning
  takes e here ws f rest =
      let r = read_word (paged_meaning_of s) x w e (windows true here) in (
        first_taken (paged_waiting s) f (waits e here) ∙ sym r.0,
        ap (paged_meaning s.pages s.window (paged_bytes s)) rest ∙ sym r.1,
      )

  -- a write that has no fault meets no window
  pub writes_plain : fault (paged_meaning_of s) Write x w ≡ None → is_window s.window (granule x) ≡ false
  unfolding paged_meaning
  writes_plain e = (fault_passed (paged_meaning_of s) x w Write e).no_window refl
