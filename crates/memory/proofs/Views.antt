-- A memory that finds the bytes of an access side by side in a list: its reads and writes are those of the list.
use Rattle.std.specs.Prelude.{◌≡◌, ℕ, ◌+◌, ◌-◌, ◌<◌, ◌≤◌, Bool, true, false, List, length, slice_index, Some, None, Ok, refl}
use Rattle.std.proofs.Common.{sym, ap, ◌∙◌, inl, inr, arith}
use Rattle.std.proofs.Math.Path.{fun_ext}
use Rattle.std.proofs.lemmas.Bool.{cases_Bool}
use Rattle.memory.specs.declared.access.Direction.TheVariants.{Read, Write}
use Rattle.memory.specs.Access.{granule, within}
use Rattle.memory.specs.Bytes.{Room, byte_of, number_at, seen, stored, stored_in}
use Rattle.memory.specs.Calls.{peek_answer, read_after, read_answer, stored_or_kept, with_bytes, write_after, write_answer}
use Rattle.memory.specs.Meaning.{Meaning, fault}
use Rattle.memory.proofs.Accesses.{within_bounds, within_from}
use Rattle.memory.proofs.Faulting.{peek_bytes, read_bytes, write_done}
use Rattle.memory.proofs.Numbers.{get_or-stored_in, number_at_same, stored_inside, stored_outside}

-- the bytes of the access have values, and these stand side by side, apart from those of all other addresses
pub record SideBySide (has : ℕ → Bool) (place : ℕ → ℕ) (x w : ℕ) : Type 0 where
  pub have : (a : ℕ) → within x w a ≡ true → has a ≡ true
  pub follow : (a : ℕ) → within x w a ≡ true → place a ≡ place x + (a - x)
  pub apart : (a : ℕ) → within x w a ≡ false → has a ≡ true → within (place x) w (place a) ≡ false

module _ (has : ℕ → Bool) (place : ℕ → ℕ) (x w : ℕ) (s : SideBySide has place x w) (bs : List ℕ) where
  pub number_seen : number_at (seen has place bs) x w ≡ number_at (λ a. slice_index bs a) (place x) w
  number_seen = number_at_same (seen has place bs) (λ a. slice_index bs a) x (place x) w each
    where
      each : (k : ℕ) → k < w → seen has place bs (x + k) ≡ slice_index bs (place x + k)
      each k l =
          let in-it : within x w (x + k) ≡ true = within_from x w (x + k) (omega arith) (omega arith) in
          let off : (x + k) - x ≡ k = omega arith in
          let h = s.have (x + k) in-it in
          let at : place (x + k) ≡ place x + k = s.follow (x + k) in-it ∙ ap (λ n. place x + n) off in
          rw (h, at)

  inside : (v a : ℕ) → place x + w ≤ length bs → within x w a ≡ true
      → seen has place (stored_in bs (place x) w v) a ≡ stored (seen has place bs) x w v a
  inside v a room e =
      let h = s.have a e in
      let at = s.follow a e in
      let b = within_bounds x w a e in
      let in-it : within (place x) w (place x + (a - x)) ≡ true = within_from (place x) w (place x + (a - x)) (omega arith) (omega arith) in
      let off : (place x + (a - x)) - place x ≡ a - x = omega arith in
      rw (h, at, e, get_or-stored_in bs (place x) w v (place x + (a - x)) room)
      (stored_inside (λ c. slice_index bs c) (place x) w v (place x + (a - x)) in-it ∙ ap (byte_of v) off)

  outside : (v a : ℕ) → place x + w ≤ length bs → within x w a ≡ false → (h : Bool) → has a ≡ h
      → seen has place (stored_in bs (place x) w v) a ≡ seen has place bs a
  outside v a room e false h = rw h
  outside v a room e true h =
      rw (h, get_or-stored_in bs (place x) w v (place a) room) (stored_outside (λ c. slice_index bs c) (place x) w v (place a) (s.apart a e h))

  -- what is stored in the list is what is stored in the memory
  pub stored_seen : (v : ℕ) → place x + w ≤ length bs → seen has place (stored_in bs (place x) w v) ≡ stored (seen has place bs) x w v
  stored_seen v room = fun_ext each
    where
      each : (a : ℕ) → seen has place (stored_in bs (place x) w v) a ≡ stored (seen has place bs) x w v a
      each a =
          elim (cases_Bool (within x w a)) [
            | inl e ↦ inside v a room e
            | inr e ↦ outside v a room e (has a) refl ∙ sym (stored_outside (seen has place bs) x w v a e)
          ]

-- a memory, by what it means over its bytes, finds an access in them at this place
pub record Found (over : List ℕ → Meaning) (bs : List ℕ) (at x w : ℕ) : Type 0 where
  pub room : Room bs at w
  pub plain : (over bs).window (granule x) ≡ false
  pub number : number_at (over bs).byte x w ≡ number_at (λ a. slice_index bs a) at w
  pub stored : (v : ℕ) → over (stored_in bs at w v) ≡ with_bytes (over bs) (stored (over bs).byte x w v)

-- the access is made on a list that was lent, and that is the memory's
module _ {over : List ℕ → Meaning} {bs : List ℕ} {at x w : ℕ} (f : Found over bs at x w) (lent : List ℕ) (place : ℕ) (same : lent ≡ bs) (here : place ≡ at) where
  pub found_room : Room lent place w
  found_room = rw (same, here) f.room

  number_is : (n : ℕ) → n ≡ number_at (λ a. slice_index lent a) place w → n ≡ number_at (over bs).byte x w
  number_is n e = e ∙ rw (same, here) (sym f.number)

  pub found_read : fault (over bs) Read x w ≡ None → (n : ℕ) → n ≡ number_at (λ a. slice_index lent a) place w
      → (Ok n ≡ read_answer (over bs) x w) × (over bs ≡ read_after (over bs) x w)
  found_read none n e = let r = read_bytes (over bs) x w none f.plain in (ap Ok (number_is n e) ∙ sym r.0, sym r.1)

  pub found_peek : fault (over bs) Read x w ≡ None → (n : ℕ) → n ≡ number_at (λ a. slice_index lent a) place w → Some n ≡ peek_answer (over bs) x w
  found_peek none n e = ap Some (number_is n e) ∙ sym (peek_bytes (over bs) x w none f.plain)

  pub found_write : fault (over bs) Write x w ≡ None → (ws : List ℕ) (v : ℕ) → ws ≡ stored_in lent place w v
      → (Ok tt ≡ write_answer (over bs) x w) × (over ws ≡ write_after (over bs) x w v)
      × (ws ≡ stored_or_kept (fault (over bs) Write x w) bs at w v)
  found_write none ws v e =
      let r = write_done (over bs) x w v none in
      let left : ws ≡ stored_in bs at w v = e ∙ rw (same, here) in
      (sym r.0, ap over left ∙ f.stored v ∙ sym r.1, left ∙ ap (λ o. stored_or_kept o bs at w v) (sym none))
