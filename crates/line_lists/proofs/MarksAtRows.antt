-- The marks at an offset of lines in a row are those at its column in its line.
use Rattle.line_lists.proofs.Common.{◌≡◌, ℕ, ◌+◌, Bool, true, false, cond, ◌==◌, List, [], ◌∷◌, Option, None, Some, map}
use Rattle.line_lists.proofs.Common.{refl, sym, ap, ◌∙◌, arith, nat_cmp_total, nat_cmp-IsAntisymmetric, same_entries}
use Rattle.line_lists.proofs.Common.{nat_cmp, option_map, nat_tests, option_filter, MarkNo, Place, marks_at}
use Rattle.line_lists.proofs.Common.{LineContent, later, AreRows, IsAt, whole}
use Rattle.line_lists.proofs.LineStarts.{start_of}
use Rattle.line_lists.proofs.MarkPlaces.{mark-in, mark-out}
use Rattle.line_lists.proofs.NearMarks.{by_line, inside}
use Rattle.line_lists.proofs.PassingLaws.{find-passing, find-placed, passing, placed, sorted-passing, sorted-placed}
use Rattle.line_lists.proofs.SearchRows.{line_at}
use Rattle.std.specs.FinMap as finite

-- ---- the marks of the text and of a line
abbrev stand_at : ℕ → Place → Bool
stand_at offset place = place.offset == offset

abbrev number_of : ℕ × Place → MarkNo
number_of entry = record { 0 = entry.0 }

numbers_placed : (f : Place → Place) (entries : List (ℕ × Place)) →
    map number_of (map (placed f) entries) ≡ map number_of entries
numbers_placed f [] = refl
numbers_placed f (entry ∷ entries) = ap (λ rest. number_of entry ∷ rest) (numbers_placed f entries)

same_test : (inner start offset column : ℕ) → offset ≡ start + column → (inner + start == offset) ≡ (inner == column)
same_test inner start offset column is = grind (arith, nat_tests)

mapped : (f : Place → Place) (b : Bool) (place : Place) →
    cond b (Some (f place)) None ≡ option_map f (cond b (Some place) None)
mapped f true place = refl
mapped f false place = refl

not_same : (x y : ℕ) → (x ≡ y → ⊥) → (x == y) ≡ false
not_same x y other = grind (arith, nat_tests)

module _ (lines : List LineContent) (rows : AreRows lines) (offset k column : ℕ) (at : IsAt lines offset k column) where
  elsewhere : (q : ℕ) (place : Place) → finite.get (line_at lines k).marks q ≡ None →
      finite.get (whole lines).marks q ≡ Some place → place.offset ≡ offset → ⊥
  elsewhere q place none is same =
      let found = mark-in lines q place is in
      by_line lines rows found.2 k at.within
      (λ less early. absurd (omega (arith, early, at.behind, same)))
      (λ there here. let no : None ≡ Some found.1 = sym none ∙ there in absurd (cc))
      (λ more late. absurd (omega (
        arith,
        late,
        inside lines rows offset k column at found.0 more found.2.within,
        same,
      )))

  alike_at : (q : ℕ) (here there : Option Place) → finite.get (line_at lines k).marks q ≡ here →
      finite.get (whole lines).marks q ≡ there
      → option_filter (stand_at offset) there
      ≡ option_map (later (start_of lines k)) (option_filter (stand_at column) here)
  alike_at q None None here_is there_is = refl
  alike_at q None (Some place) here_is there_is =
      ap (λ b. cond b (Some place) None) (not_same place.offset offset (elsewhere q place here_is there_is))
  alike_at q (Some inner) there here_is there_is =
      let outer = later (start_of lines k) inner in
      let is : there ≡ Some outer = sym there_is
      ∙ mark-out lines q outer k inner rows (record { within = at.within; is = here_is; at = refl }) in
      let test : (inner.offset + start_of lines k == offset)
      ≡ (inner.offset == column) = same_test inner.offset (start_of lines k) offset column at.behind in
      ap (option_filter (stand_at offset)) is ∙ ap (λ b. cond b (Some outer) None) test
      ∙ mapped (later (start_of lines k)) (inner.offset == column) inner

  pub marks-at : marks_at offset (whole lines).marks ≡ marks_at column (line_at lines k).marks
  marks-at =
      let all = finite.entries (whole lines).marks in
      let here = finite.entries (line_at lines k).marks in
      let all_sorted = finite.entries_sorted (whole lines).marks in
      let here_sorted = finite.entries_sorted (line_at lines k).marks in
      let out = later (start_of lines k) in
      let same : passing (stand_at offset) all ≡ map (placed out) (passing (stand_at column) here) =
      same_entries nat_cmp nat_cmp_total nat_cmp-IsAntisymmetric _ _ (sorted-passing (stand_at offset) all all_sorted)
      (sorted-placed out (passing (stand_at column) here) (sorted-passing (stand_at column) here here_sorted))
      (λ q.
      find-passing (stand_at offset) all q all_sorted
      ∙ ap (option_filter (stand_at offset)) (sym (finite.get-entries (whole lines).marks q))
      ∙ alike_at q (finite.get (line_at lines k).marks q) (finite.get (whole lines).marks q) refl refl
      ∙ sym (find-placed out (passing (stand_at column) here) q
      ∙ ap (option_map out) (find-passing (stand_at column) here q here_sorted
      ∙ ap (option_filter (stand_at column)) (sym (finite.get-entries (line_at lines k).marks q))))) in
      ap (map number_of) same ∙ numbers_placed out (passing (stand_at column) here)
