-- What marking a label leaves of the others.
use Rattle.std.proofs.Common.{◌≡◌, ℕ, inl, inr, List, Some, ◌∙◌, Bor}
use Rattle.std.proofs.lemmas.Bool.{cases_Bool, cond-true, cond-false}
use Rattle.std.proofs.lemmas.Map.Text.{btree_map_updates_str}
use Rattle.std.specs.BTreeMap.{IsUnchanged}
use Rattle.std.specs.Str.{bytes_eq}
use Rattle.text.specs.declared.labels.Labels.{Labels}
use Rattle.text.specs.declared.labels.Mark.{Mark}
use Rattle.text.specs.Marks.{Marked, OnlyAdds, at_label}

pub adds_mark : (a b c : Labels) (l : Bor (List ℕ)) (m : Mark) → OnlyAdds a b m → Marked b c l m → OnlyAdds a c m
adds_mark a b c l m before marked q =
    let e = btree_map_updates_str l.now b.marks c.marks (Some m) marked q in
    elim (cases_Bool (bytes_eq l.now q)) [
      | inl t ↦ inr (e ∙ cond-true (bytes_eq l.now q) (Some m) (at_label b q) t)
      | inr f ↦
          let same = e ∙ cond-false (bytes_eq l.now q) (Some m) (at_label b q) f in
          elim (before q) [ inl p ↦ inl (same ∙ p) | inr p ↦ inr (same ∙ p) ]
    ]

pub adds_none : (a b c : Labels) (m : Mark) → OnlyAdds a b m → IsUnchanged b.marks c.marks → OnlyAdds a c m
adds_none a b c m before same q =
    let e : at_label c q ≡ at_label b q = rw same in
    elim (before q) [ inl p ↦ inl (e ∙ p) | inr p ↦ inr (e ∙ p) ]
