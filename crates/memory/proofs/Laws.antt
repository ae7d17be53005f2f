-- The rules of an access, proved of every memory from what a fault and its absence tell.
use Rattle.std.specs.Prelude.{length, drop, slice_index, ◌==◌}
use Rattle.std.proofs.Common.{◌≡◌, ℕ, ◌+◌, ◌-◌, ◌*◌, ◌%◌, ◌^◌, Bool, true, false, not, List, [], ◌∷◌, Some, None, Ok, Err, Option, sym, refl, ap, ◌∙◌, inl, inr, arith}
use Rattle.std.proofs.lemmas.Bool.{cases_Bool, true≢false}
use Rattle.memory.specs.declared.access.Direction.TheVariants.{Read, Write}
use Rattle.memory.specs.declared.fault.Fault.{Fault}
use Rattle.memory.specs.Access.{granule, within}
use Rattle.memory.specs.Bytes.{byte_of, number_at, stored}
use Rattle.memory.specs.Calls.{left_by, peek_answer, peek_by, read_after, read_answer, read_by, refused_or, with_bytes, write_after, write_answer, written_by}
use Rattle.memory.specs.Meaning.{Meaning, fault}
use Rattle.memory.specs.Theorems.{AccessLaws, FaultsChangeNothing, PeeksExactly, PeeksLast, ReadsExactly, SameMarks, WritesExactly}
use Rattle.memory.proofs.Accesses.{within_from}
use Rattle.memory.proofs.Apartness.{granules_apart}
use Rattle.memory.proofs.Faulting.{fault_passed, is_allowed, peek_window, read_bytes, read_when_written, write_done}
use Rattle.memory.proofs.Numbers.{number_at_same, read_back, stored_inside, stored_outside}

-- read, peek and what a read leaves, by one fault and one window mark
peeks_as_read : (o : Option Fault) (b : Bool) (m : Meaning) (x w v : ℕ) → read_by o b m x w ≡ Ok v → b ≡ false → peek_by o b m x w ≡ Some v
peeks_as_read (Some f) b m x w v e h = cc
peeks_as_read None true m x w v e h = absurd (true≢false h)
peeks_as_read None false m x w v e h = cc

reads_as_peeked : (o : Option Fault) (b : Bool) (m : Meaning) (x w v : ℕ) → peek_by o b m x w ≡ Some v
    → (read_by o b m x w ≡ Ok v) × (b ≡ false) × (left_by o b m ≡ m)
reads_as_peeked (Some f) b m x w v e = (cc, cc, refl)
reads_as_peeked None true m x w v e = (cc, cc, cc)
reads_as_peeked None false m x w v e = (cc, refl, refl)

nothing_peeked : (o : Option Fault) (b : Bool) (m : Meaning) (x w : ℕ) (f : Fault) → read_by o b m x w ≡ Err f → peek_by o b m x w ≡ None
nothing_peeked (Some g) b m x w f e = refl
nothing_peeked None true m x w f e = refl
nothing_peeked None false m x w f e = cc

pub peeks_exactly : PeeksExactly
unfolding read_answer read_after peek_answer
peeks_exactly = record {
  answers = λ m x w v e h. peeks_as_read (fault m Read x w) (m.window (granule x)) m x w v e h;
  only_then = λ m x w v e. let r = reads_as_peeked (fault m Read x w) (m.window (granule x)) m x w v e in (r.0, r.1);
  nothing_at_fault = λ m x w f e. nothing_peeked (fault m Read x w) (m.window (granule x)) m x w f e;
  nothing_at_window = λ m x w h. peek_window m x w h;
  unchanged = λ m x w v e. (reads_as_peeked (fault m Read x w) (m.window (granule x)) m x w v e).2;
}

left_at_fault : (o : Option Fault) (b : Bool) (m : Meaning) (x w : ℕ) (f : Fault) → read_by o b m x w ≡ Err f → left_by o b m ≡ m
left_at_fault (Some g) b m x w f e = refl
left_at_fault None true m x w f e = cc
left_at_fault None false m x w f e = refl

written_at_fault : (o : Option Fault) (m : Meaning) (x w v : ℕ) (f : Fault) → refused_or o ≡ Err f → written_by o m x w v ≡ m
written_at_fault (Some g) m x w v f e = refl
written_at_fault None m x w v f e = cc

pub faults_change_nothing : FaultsChangeNothing
unfolding read_answer read_after write_answer write_after
faults_change_nothing = record {
  read = λ m x w f e. left_at_fault (fault m Read x w) (m.window (granule x)) m x w f e;
  write = λ m x w v f e. written_at_fault (fault m Write x w) m x w v f e;
}

written_marks : (o : Option Fault) (m : Meaning) (x w v : ℕ) → SameMarks (written_by o m x w v) m
written_marks (Some f) m x w v = record { present = refl; writable = refl; window = refl }
written_marks None m x w v = record { present = refl; writable = refl; window = refl }

written_waiting : (o : Option Fault) (m : Meaning) (x w v : ℕ) → (written_by o m x w v).waiting ≡ m.waiting
written_waiting (Some f) m x w v = refl
written_waiting None m x w v = refl

spared : (o : Option Fault) (m : Meaning) (x w v a : ℕ) → within x w a ≡ false → (written_by o m x w v).byte a ≡ m.byte a
spared (Some f) m x w v a out = refl
spared None m x w v a out = stored_outside m.byte x w v a out

module _ (m : Meaning) (x w v : ℕ) (e : write_answer m x w ≡ Ok tt) where
  allowed : fault m Write x w ≡ None
  unfolding write_answer
  allowed = is_allowed (fault m Write x w) tt e

  after_is : write_after m x w v ≡ with_bytes m (stored m.byte x w v)
  after_is = (write_done m x w v allowed).1

  stored_there : (a : ℕ) → within x w a ≡ true → (write_after m x w v).byte a ≡ byte_of v (a - x)
  stored_there a i = ap (λ (n : Meaning). n.byte a) after_is ∙ stored_inside m.byte x w v a i

  plain : m.window (granule x) ≡ false
  plain = (fault_passed m x w Write allowed).no_window refl

  -- a read of a place that may be written, where there is no window, has no fault
  read_allowed : fault (with_bytes m (stored m.byte x w v)) Read x w ≡ None
  read_allowed = read_when_written m x w (stored m.byte x w v) allowed

  reads_written : read_answer (write_after m x w v) x w ≡ Ok (v % 2 ^ (8 * w))
  reads_written =
      ap (λ n. read_answer n x w) after_is
      ∙ (read_bytes (with_bytes m (stored m.byte x w v)) x w read_allowed plain).0
      ∙ ap Ok (read_back m.byte x w v)

pub writes_exactly : WritesExactly
unfolding write_after
writes_exactly = record {
  stores = λ m x w v a e i. stored_there m x w v e a i;
  spares = spares;
  marks = marks;
  waiting = waiting;
  reads_back = reads_written;
}
  where
    spares : (m : Meaning) (x w v a : ℕ) → within x w a ≡ false → (write_after m x w v).byte a ≡ m.byte a
    spares m x w v a out = spared (fault m Write x w) m x w v a out

    marks : (m : Meaning) (x w v : ℕ) → SameMarks (write_after m x w v) m
    marks m x w v = written_marks (fault m Write x w) m x w v

    waiting : (m : Meaning) (x w v : ℕ) → (write_after m x w v).waiting ≡ m.waiting
    waiting m x w v = written_waiting (fault m Write x w) m x w v

left_marks : (o : Option Fault) (b : Bool) (m : Meaning) → SameMarks (left_by o b m) m
left_marks (Some f) b m = record { present = refl; writable = refl; window = refl }
left_marks None true m = record { present = refl; writable = refl; window = refl }
left_marks None false m = record { present = refl; writable = refl; window = refl }

left_bytes : (o : Option Fault) (b : Bool) (m : Meaning) → (left_by o b m).byte ≡ m.byte
left_bytes (Some f) b m = refl
left_bytes None true m = refl
left_bytes None false m = refl

left_elsewhere : (o : Option Fault) (b : Bool) (m : Meaning) → b ≡ false → left_by o b m ≡ m
left_elsewhere (Some f) b m h = refl
left_elsewhere None true m h = absurd (true≢false h)
left_elsewhere None false m h = refl

whole_list : (ws : List ℕ) → not (length ws == 0) ≡ true → ws ≡ slice_index ws 0 ∷ drop 1 ws
whole_list [] h = absurd (true≢false (sym h))
whole_list (v ∷ vs) h = refl

takes_first : (o : Option Fault) (b : Bool) (m : Meaning) (x w v : ℕ) → (o ≡ None → not (length m.waiting == 0) ≡ true) → b ≡ true
    → read_by o b m x w ≡ Ok v → m.waiting ≡ v ∷ (left_by o b m).waiting
takes_first (Some f) b m x w v some h e = cc
takes_first None true m x w v some h e =
    let first : slice_index m.waiting 0 ≡ v = cc in
    whole_list m.waiting (some refl) ∙ ap (λ u. u ∷ drop 1 m.waiting) first
takes_first None false m x w v some h e = absurd (true≢false (sym h))

read_number : (o : Option Fault) (b : Bool) (m : Meaning) (x w v : ℕ) → b ≡ false → read_by o b m x w ≡ Ok v → v ≡ number_at m.byte x w
read_number (Some f) b m x w v h e = cc
read_number None true m x w v h e = absurd (true≢false h)
read_number None false m x w v h e = cc

pub reads_exactly : ReadsExactly
unfolding read_answer read_after
reads_exactly = record {
  number = λ m x w v h e. read_number (fault m Read x w) (m.window (granule x)) m x w v h e;
  takes_first = λ m x w v h e.
      takes_first (fault m Read x w) (m.window (granule x)) m x w v (λ o. (fault_passed m x w Read o).word_waits h) h e;
  marks = λ m x w. left_marks (fault m Read x w) (m.window (granule x)) m;
  bytes = λ m x w. left_bytes (fault m Read x w) (m.window (granule x)) m;
  elsewhere = λ m x w h. left_elsewhere (fault m Read x w) (m.window (granule x)) m h;
}

-- a read that meets no window does not ask who waits or who may write
fault_alike : (m n : Meaning) (y u : ℕ) → m.present ≡ n.present → m.window ≡ n.window → m.window (granule y) ≡ false
    → fault m Read y u ≡ fault n Read y u
unfolding fault
fault_alike m n y u p i h =
    let q = ap (λ (f : ℕ → Bool). f (granule y)) p in
    let k : n.window (granule y) ≡ false = sym (ap (λ (f : ℕ → Bool). f (granule y)) i) ∙ h in
    rw (h, k, q)

-- a peek asks for the marks present and window, and for its bytes
peek_alike : (m n : Meaning) (y u : ℕ) → m.present ≡ n.present → m.window ≡ n.window → number_at m.byte y u ≡ number_at n.byte y u
    → peek_answer m y u ≡ peek_answer n y u
unfolding peek_answer
peek_alike m n y u p i num =
    elim (cases_Bool (m.window (granule y))) [
      | inl h ↦ peek_window m y u h ∙ sym (peek_window n y u (sym (ap (λ (f : ℕ → Bool). f (granule y)) i) ∙ h))
      | inr h ↦
          ap (λ o. peek_by o (m.window (granule y)) m y u) (fault_alike m n y u p i h)
          ∙ ap (λ (f : ℕ → Bool). peek_by (fault n Read y u) (f (granule y)) m y u) i
          ∙ same (fault n Read y u) (n.window (granule y))
    ]
  where
    same : (o : Option Fault) (b : Bool) → peek_by o b m y u ≡ peek_by o b n y u
    same (Some f) b = refl
    same None true = refl
    same None false = ap Some num

pub peeks_last : PeeksLast
peeks_last = record {
  through_reads = λ m x w y u.
      let k = reads_exactly.marks m x w in
      peek_alike (read_after m x w) m y u k.present k.window (ap (λ (f : ℕ → ℕ). number_at f y u) (reads_exactly.bytes m x w));
  through_writes = λ m x w v y u out.
      let k = writes_exactly.marks m x w v in
      peek_alike (write_after m x w v) m y u k.present k.window
      (number_at_same (write_after m x w v).byte m.byte y y u (λ a l.
      writes_exactly.spares m x w v (y + a) (out (y + a) (within_from y u (y + a) (omega arith) (omega arith)))));
}

pub access_laws : AccessLaws
access_laws = record {
  peeks = peeks_exactly;
  peeks_last = peeks_last;
  faults = faults_change_nothing;
  writes = writes_exactly;
  reads = reads_exactly;
  granules = granules_apart;
}
