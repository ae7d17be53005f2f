-- What follows of an access with a fault, and of one without: the only file that looks into the order of faults.
use Rattle.std.specs.Prelude.{◌≡◌, ℕ, Bool, true, false, not, ◌&&◌, List, is_some, Some, None, Ok, Err, Option, ◌==◌, slice_index}
use Rattle.std.proofs.Math.Path.{refl, ap}
use Rattle.std.proofs.Common.{sym, ◌∙◌, arith}
use Rattle.std.proofs.lemmas.Bool.{and_parts, false≢true, not-true, true≢false}
use Rattle.memory.specs.declared.access.Direction.{Direction}
use Rattle.memory.specs.declared.access.Direction.TheVariants.{Read, Write}
use Rattle.memory.specs.declared.fault.Fault.{Fault}
use Rattle.memory.specs.declared.marks.Marks.{Marks}
use Rattle.memory.specs.Access.{aligned, granule, is_write}
use Rattle.memory.specs.Bytes.{number_at, stored}
use Rattle.memory.specs.Calls.{left_by, peek_answer, peek_by, read_after, read_answer, read_by, refused_or, stored_or_kept, with_bytes, word_taken, write_after, write_answer, written_by}
use Rattle.memory.specs.Meaning.{Meaning, fault, first_fault, marks_at, shows_at}

pub is_refused : (o : Option Fault) (f : Fault) → refused_or o ≡ Err f → o ≡ Some f
is_refused (Some g) f e = cc
is_refused None f e = cc

pub is_allowed : (o : Option Fault) (u : Unit) → refused_or o ≡ Ok u → o ≡ None
is_allowed (Some g) u e = cc
is_allowed None u e = refl

none_from : (o : Option Fault) → not (is_some o) ≡ true → o ≡ None
none_from (Some f) h = absurd (true≢false (sym h))
none_from None h = refl

-- what an access without a fault met
pub record Passed (k : Marks) (d : Direction) (x w : ℕ) : Type 0 where
  pub shape : aligned x w ≡ true
  pub present : k.present ≡ true
  pub writable : is_write d ≡ true → k.writable ≡ true
  pub no_window : is_write d ≡ true → k.window ≡ false
  pub whole_word : k.window ≡ true → (w == 4) ≡ true
  pub word_waits : k.window ≡ true → k.waiting ≡ true

-- whichever order the rules have, an access without a fault broke none of them
pub passed : (k : Marks) (d : Direction) (x w : ℕ) → first_fault k d x w ≡ None → Passed k d x w
passed k d x w e =
    record { shape = grind arith; present = grind arith; writable = λ h. grind arith; no_window = λ h. grind arith; whole_word = λ h. grind arith; word_waits = λ h. grind arith }

-- and one that broke none of them has no fault
pub unbroken : (k : Marks) (d : Direction) (x w : ℕ) → Passed k d x w → first_fault k d x w ≡ None
unbroken k d x w p =
    let a = p.shape in let b = p.present in let c = p.writable in let e = p.no_window in let f = p.whole_word in let g = p.word_waits in
    grind arith

module _ (m : Meaning) (x w : ℕ) where
  pub fault_passed : (d : Direction) → fault m d x w ≡ None → Passed (marks_at m (granule x)) d x w
  unfolding fault
  fault_passed d e = passed (marks_at m (granule x)) d x w e

  pub read_refused : (f : Fault) → fault m Read x w ≡ Some f → (read_answer m x w ≡ Err f) × (read_after m x w ≡ m)
  unfolding read_answer read_after
  read_refused f e = (ap (λ o. read_by o (m.window (granule x)) m x w) e, ap (λ o. left_by o (m.window (granule x)) m) e)

  pub read_bytes : fault m Read x w ≡ None → m.window (granule x) ≡ false
      → (read_answer m x w ≡ Ok (number_at m.byte x w)) × (read_after m x w ≡ m)
  unfolding read_answer read_after
  read_bytes e h = (rw (e, h), rw (e, h))

  pub read_word : fault m Read x w ≡ None → m.window (granule x) ≡ true
      → (read_answer m x w ≡ Ok (slice_index m.waiting 0)) × (read_after m x w ≡ word_taken m)
  unfolding read_answer read_after
  read_word e h = (rw (e, h), rw (e, h))

  pub write_refused : (v : ℕ) (f : Fault) → fault m Write x w ≡ Some f → (write_answer m x w ≡ Err f) × (write_after m x w v ≡ m)
  unfolding write_answer write_after
  write_refused v f e = (ap refused_or e, ap (λ o. written_by o m x w v) e)

  pub write_done : (v : ℕ) → fault m Write x w ≡ None
      → (write_answer m x w ≡ Ok tt) × (write_after m x w v ≡ with_bytes m (stored m.byte x w v))
  unfolding write_answer write_after
  write_done v e = (ap refused_or e, ap (λ o. written_by o m x w v) e)

  pub peek_window : m.window (granule x) ≡ true → peek_answer m x w ≡ None
  unfolding peek_answer
  peek_window h = rw h (go (fault m Read x w))
    where
      go : (o : Option Fault) → peek_by o true m x w ≡ None
      go (Some f) = refl
      go None = refl

  pub peek_bytes : fault m Read x w ≡ None → m.window (granule x) ≡ false → peek_answer m x w ≡ Some (number_at m.byte x w)
  unfolding peek_answer
  peek_bytes e h = rw (e, h)

-- where a write has no fault, a read has none
pub read_when_written : (m : Meaning) (x w : ℕ) (f : ℕ → ℕ) → fault m Write x w ≡ None → fault (with_bytes m f) Read x w ≡ None
unfolding fault
read_when_written m x w f e =
    let p = fault_passed m x w Write e in
    let plain = p.no_window refl in
    unbroken (marks_at (with_bytes m f) (granule x)) Read x w (record {
      shape = p.shape;
      present = p.present;
      writable = λ r. absurd (false≢true r);
      no_window = λ r. absurd (false≢true r);
      whole_word = p.whole_word;
      word_waits = p.word_waits;
    })

-- what the answers of the marks say of the memory that was met
module _ (m : Meaning) (x w : ℕ) (k : Marks) (met : k ≡ marks_at m (granule x)) where
  at_marks : (d : Direction) → first_fault k d x w ≡ fault m d x w
  unfolding fault
  at_marks d = ap (λ n. first_fault n d x w) met

  pub met_fault : (d : Direction) (f : Fault) → Err f ≡ refused_or (first_fault k d x w) → fault m d x w ≡ Some f
  met_fault d f e = sym (at_marks d) ∙ is_refused (first_fault k d x w) f (sym e)

  -- a refused access: what it answers, and that it leaves the memory as it was
  pub met_read_fault : (f : Fault) → Err f ≡ refused_or (first_fault k Read x w) → (Err f ≡ read_answer m x w) × (m ≡ read_after m x w)
  met_read_fault f e = let r = read_refused m x w f (met_fault Read f e) in (sym r.0, sym r.1)

  pub met_write_fault : (v : ℕ) (f : Fault) → Err f ≡ refused_or (first_fault k Write x w) → (Err f ≡ write_answer m x w) × (m ≡ write_after m x w v)
      × ((bs : List ℕ) (at : ℕ) → bs ≡ stored_or_kept (fault m Write x w) bs at w v)
  met_write_fault v f e =
      let some = met_fault Write f e in
      let r = write_refused m x w v f some in
      (sym r.0, sym r.1, λ bs at. ap (λ o. stored_or_kept o bs at w v) (sym some))

  pub met_none : (d : Direction) (u : Unit) → Ok u ≡ refused_or (first_fault k d x w) → fault m d x w ≡ None
  met_none d u e = sym (at_marks d) ∙ is_allowed (first_fault k d x w) u (sym e)

  pub met_shown : true ≡ shows_at k x w → (fault m Read x w ≡ None) × (m.window (granule x) ≡ false)
  met_shown e =
      let p = and_parts (not k.window) (not (is_some (first_fault k Read x w))) (sym e) in
      (sym (at_marks Read) ∙ none_from (first_fault k Read x w) p.1, sym (ap (λ (n : Marks). n.window) met) ∙ not-true k.window p.0)

  pub met_hidden : false ≡ shows_at k x w → peek_answer m x w ≡ None
  unfolding peek_answer
  met_hidden e =
      ap (λ o. peek_by o (m.window (granule x)) m x w) (sym (at_marks Read))
      ∙ ap (λ (n : Marks). peek_by (first_fault k Read x w) n.window m x w) (sym met)
      ∙ hidden (first_fault k Read x w) k.window (sym e)
    where
      hidden : (o : Option Fault) (b : Bool) → (not b && not (is_some o)) ≡ false → peek_by o b m x w ≡ None
      hidden (Some f) b h = refl
      hidden None true h = refl
      hidden None false h = absurd (true≢false h)
