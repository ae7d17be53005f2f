-- Pages that are settled from the lowest up: what the table holds then.
use Rattle.std.specs.Prelude.{◌≡◌, ℕ, zero, suc, ◌+◌, ◌-◌, ◌*◌, ◌<◌, ◌≤◌, Bool, true, false, not, ◌&&◌, List, [], ◌∷◌, ◌++◌, length, min, replicate, take, ◌==◌, ◌≢◌, slice_set, refl}
use Rattle.std.proofs.Common.{append_assoc, append-nil, sym, ap, ◌∙◌, inl, inr, arith, add-one}
use Rattle.std.proofs.lemmas.List.{get_or_append_left, get_or_at, get_or_past, length_push, set_at, take_at}
use Rattle.std.proofs.lemmas.Bool.{and_from, and_parts, cases_eq, cases_lt, cases_order, eq-eqb, eqb-true, false_from_ne_true, le-leb, leb-true, or_from, or_left, or_right, true≢false}
use Rattle.memory.specs.declared.page.Page.{Page}
use Rattle.memory.specs.Pages.{FramesApart, FramesInside, has_frame, is_inside, no_page, page_at, settled, settled_page}
use Rattle.memory.specs.Theorems.{SettlesPages, new_page}

pub length-settled : (n : ℕ) (given : List Page) (k : ℕ) → length (settled n given k) ≡ k
unfolding settled
length-settled n given zero = refl
length-settled n given (suc k) = length_push (settled n given k) _ ∙ add-one (length (settled n given k)) ∙ ap suc (length-settled n given k)

-- the table once the first k pages are settled: the others are absent
pub table_none : (n : ℕ) (given : List Page) → replicate 64 no_page ≡ settled n given 0 ++ replicate 64 no_page
unfolding settled
table_none n given = refl

pub table_more : (n : ℕ) (given table : List Page) (k : ℕ) (q : Page) → k < 64
    → table ≡ settled n given k ++ replicate (64 - k) no_page
    → q ≡ settled_page n (take k table) (page_at given k)
    → slice_set table k q ≡ settled n given (k + 1) ++ replicate (64 - (k + 1)) no_page
unfolding settled
table_more n given table k q h so_far e =
    let more : 64 - k ≡ suc (64 - (k + 1)) = omega arith in
    let long = length-settled n given k in
    let rest = replicate (64 - (k + 1)) no_page in
    let split : table ≡ settled n given k ++ (no_page ∷ rest) = so_far ∙ ap (λ j. settled n given k ++ replicate j no_page) more in
    let lower : take k table ≡ settled n given k = ap (take k) split ∙ take_at (settled n given k) (no_page ∷ rest) k long in
    let page : q ≡ settled_page n (settled n given k) (page_at given k) = e ∙ ap (λ l. settled_page n l (page_at given k)) lower in
    ap (λ t. slice_set t k q) split
    ∙ set_at (settled n given k) no_page rest q k long
    ∙ ap (λ r. settled n given k ++ (r ∷ rest)) page
    ∙ sym (append_assoc (settled n given k) (settled_page n (settled n given k) (page_at given k) ∷ []) rest)
    ∙ ap (λ j. settled n given j ++ rest) (sym (add-one k))

-- a page past the end of those given is absent
table_past : (n : ℕ) (given : List Page) (k j : ℕ) → length given ≤ k → settled n given k ++ replicate j no_page ≡ settled n given (k + j)
unfolding settled
table_past n given k zero h = let here : k ≡ k + 0 = omega arith in append-nil (settled n given k) ∙ ap (settled n given) here
table_past n given k (suc j) h =
    let none : page_at given k ≡ no_page = get_or_past given k no_page h in
    let next : suc k + j ≡ k + suc j = omega arith in
    let one : no_page ≡ settled_page n (settled n given k) (page_at given k) = sym (ap (settled_page n (settled n given k)) none) in
    sym (append_assoc (settled n given k) (no_page ∷ []) (replicate j no_page))
    ∙ ap (λ q. (settled n given k ++ (q ∷ [])) ++ replicate j no_page) one
    ∙ table_past n given (suc k) j (omega arith)
    ∙ ap (settled n given) next

pub table_all : (n : ℕ) (given : List Page) (k : ℕ) → k ≡ min (length given) 64 → settled n given k ++ replicate (64 - k) no_page ≡ settled n given 64
table_all n given k h =
    elim (cases_lt 64 (length given)) [
      | inl l ↦ let full : k ≡ 64 = omega arith in rw full (append-nil (settled n given 64))
      | inr l ↦ let all : k + (64 - k) ≡ 64 = omega arith in table_past n given k (64 - k) (omega arith) ∙ ap (settled n given) all
    ]

-- each page of the table is the page given, settled above the lower ones
page_at-settled : (n : ℕ) (given : List Page) (k p : ℕ) → p < k → page_at (settled n given k) p ≡ settled_page n (settled n given p) (page_at given p)
unfolding settled
page_at-settled n given zero p h = absurd (omega arith)
page_at-settled n given (suc k) p h =
    elim (cases_eq p k) [
      | inl e ↦
          rw e (get_or_at (settled n given k) (settled_page n (settled n given k) (page_at given k)) [] no_page k (length-settled n given k))
      | inr ne ↦
          get_or_append_left (settled n given k) _ no_page p (omega (arith, length-settled n given k)) ∙ page_at-settled n given k p (omega arith)
    ]

-- a page that is kept was given so, and its frame is inside and free
kept : (a i t : Bool) → (a && (i && not t)) ≡ true → (a ≡ true) × (i ≡ true) × (t ≡ false)
kept true true false e = (refl, refl, refl)
kept true true true e = absurd (true≢false (sym e))
kept true false t e = absurd (true≢false (sym e))
kept false i t e = absurd (true≢false (sym e))

has_frame_at : (ps : List Page) (p f : ℕ) → (page_at ps p).present ≡ true → (page_at ps p).frame ≡ f → has_frame ps f ≡ true
has_frame_at [] p f here e = absurd (true≢false (sym here))
has_frame_at (q ∷ qs) zero f here e = or_left _ _ (and_from _ _ here (eq-eqb q.frame f e))
has_frame_at (q ∷ qs) (suc p) f here e = or_right _ _ (has_frame_at qs p f here e)

none_has_frame : (ps : List Page) (f : ℕ) → ((q : ℕ) → (page_at ps q).present ≡ true → (page_at ps q).frame ≢ f) → has_frame ps f ≡ false
none_has_frame [] f h = refl
none_has_frame (r ∷ rs) f h =
    or_from _ _
    (false_from_ne_true _ (λ e. let parts = and_parts r.present (r.frame == f) e in h 0 parts.0 (eqb-true r.frame f parts.1)))
    (none_has_frame rs f (λ q. h (suc q)))

module _ (n : ℕ) (given : List Page) where
  past_end : (k p : ℕ) → k ≤ p → page_at (settled n given k) p ≡ no_page
  past_end k p l = get_or_past (settled n given k) p no_page (omega (arith, length-settled n given k))

  lower_page : (m k p : ℕ) → p < k → k ≤ m → page_at (settled n given k) p ≡ page_at (settled n given m) p
  lower_page m k p l h = page_at-settled n given k p l ∙ sym (page_at-settled n given m p (omega arith))

  same_frame : (k p : ℕ) → p < k → (page_at (settled n given k) p).frame ≡ (page_at given p).frame
  same_frame k p l = ap (λ (q : Page). q.frame) (page_at-settled n given k p l)

  -- a page of the table that is present was given so, and its frame is inside and free there
  stands : (k p : ℕ) → (page_at (settled n given k) p).present ≡ true
      → (p < k) × ((page_at given p).present ≡ true) × (is_inside n (page_at given p).frame ≡ true)
      × (has_frame (settled n given p) (page_at given p).frame ≡ false)
  stands k p e =
      elim (cases_lt p k) [
        | inl l ↦ let r = kept _ _ _ (sym (ap (λ (q : Page). q.present) (page_at-settled n given k p l)) ∙ e) in (l, r.0, r.1, r.2)
        | inr l ↦ absurd (true≢false (sym e ∙ ap (λ (q : Page). q.present) (past_end k p l)))
      ]

  pub settled_inside : (k : ℕ) → FramesInside n (settled n given k)
  settled_inside k p here =
      let s = stands k p here in
      rw (same_frame k p s.0) (leb-true (256 * (page_at given p).frame + 256) n s.2)

  distinct : (k p q : ℕ) → q < p → (page_at (settled n given k) p).present ≡ true → (page_at (settled n given k) q).present ≡ true
      → (page_at (settled n given k) q).frame ≢ (page_at (settled n given k) p).frame
  distinct k p q l here there e =
      let s = stands k p here in
      let low = lower_page k p q l (omega (arith, s.0)) in
      let has = has_frame_at (settled n given p) q (page_at given p).frame
      (ap (λ (r : Page). r.present) low ∙ there)
      (ap (λ (r : Page). r.frame) low ∙ e ∙ same_frame k p s.0) in
      true≢false (sym has ∙ s.3)

  pub settled_apart : (k : ℕ) → FramesApart (settled n given k)
  settled_apart k p q here there e =
      elim (cases_order p q) [
        | inl same ↦ same
        | inr r ↦ elim r [ inl l ↦ absurd (distinct k q p l there here e) | inr l ↦ absurd (distinct k p q l here there (sym e)) ]
      ]

  free_above : (p : ℕ) → p < 64 → ((q : ℕ) → q < p → (new_page n given q).present ≡ true → (page_at given q).frame ≢ (page_at given p).frame)
      → has_frame (settled n given p) (page_at given p).frame ≡ false
  free_above p l none = none_has_frame (settled n given p) (page_at given p).frame (λ q here e.
      let s = stands p q here in
      let same = ap (λ (r : Page). r.present) (lower_page 64 p q s.0 (omega arith)) in
      none q s.0 (sym same ∙ here) (sym (same_frame p q s.0) ∙ e))

  pub settles_pages : SettlesPages n given
  settles_pages = record {
    marked = λ p here. (stands 64 p here).1;
    inside = λ p here. leb-true (256 * (page_at given p).frame + 256) n (stands 64 p here).2;
    alone = λ p q l here there e.
        distinct 64 p q l here there (same_frame 64 q (stands 64 q there).0 ∙ e ∙ sym (same_frame 64 p (stands 64 p here).0));
    present = λ p l given_so inside none.
        ap (λ (q : Page). q.present) (page_at-settled n given 64 p l)
        ∙ and_from _ _ given_so (and_from _ _ (le-leb (256 * (page_at given p).frame + 256) n inside) (ap not (free_above p l none)));
    frame = λ p l. same_frame 64 p l;
    writable = λ p l. ap (λ (q : Page). q.writable) (page_at-settled n given 64 p l);
    no_more = λ p l. ap (λ (q : Page). q.present) (past_end 64 p l);
  }
