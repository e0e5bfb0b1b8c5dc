-- The lines of the tests of lists are those of a text.
use Rattle.std.proofs.Common.{◌≡◌, ℕ, zero, suc, ◌+◌, ◌<◌, ◌≤◌, Bool, true, false, cond, ◌==◌, List, [], ◌∷◌, ◌++◌}
use Rattle.std.proofs.Common.{Option, None, Some, length, get_or, refl, sym, ap, ap₂, subst, subst₂, ◌∙◌, arith}
use Rattle.std.specs.Cmp.{nat_cmp_total, unsigned_tied}
use Rattle.std.specs.FinMap as finite
use Rattle.std.specs.Ordering.{eq_by_cmp, nat_cmp}
use Rattle.std.specs.Str.{chars}
use Rattle.std.proofs.lemmas.Bool.Decides.{nat_tests}
use Rattle.text_model.specs.declared.places.Place.{Place}
use Rattle.text_model.specs.Splices.{changed}
use Rattle.segments.specs.Columns.{LineContent, plain_line, with_toggle}
use Rattle.toggle_sums.specs.Counts.{plus}
use Rattle.line_lists.specs.Lists.{AreLines, IsCounted, NumbersBelow, count_of, spliced}
use Rattle.text_tests.specs.Worked.{marked_line, worked_lines, worked_place}

pub first-text : chars (97 ∷ 10 ∷ []) ≡ 97 ∷ 10 ∷ []
unfolding chars
first-text = refl

pub second-text : chars (98 ∷ 10 ∷ []) ≡ 98 ∷ 10 ∷ []
unfolding chars
second-text = refl

no_mark : (q : ℕ) (place : Place) → finite.get {X = Place} (finite.empty {R = nat_cmp}) q ≡ Some place → ⊥
no_mark q place is = let none : None ≡ Some place = sym (finite.get-empty nat_cmp q) ∙ is in absurd cc

-- the one mark is found by its number alone, and at its place
abbrev offset_of : Option Place → ℕ
offset_of None = 0
offset_of (Some place) = place.offset

its_place : (test : Bool) (found : Option Place) (place : Place) → found ≡ None →
    cond test (Some worked_place) found ≡ Some place → (place.offset ≡ 1) × (test ≡ true)
its_place true found place none is = (sym (ap offset_of is), refl)
its_place false found place none is = absurd (let no : None ≡ Some place = sym none ∙ is in cc)

one_mark : (q : ℕ) (place : Place) → finite.get marked_line.marks q ≡ Some place →
    (place.offset ≡ 1) × (eq_by_cmp nat_cmp q 3 ≡ true)
one_mark q place is =
    its_place (eq_by_cmp nat_cmp q 3) (finite.get finite.empty q) place (finite.get-empty nat_cmp q)
    (sym (finite.get-insert nat_cmp_total finite.empty 3 worked_place q) ∙ is)

most : (test : Bool) (n m : ℕ) → n ≡ cond test m (m + 1) → m ≡ 0 → n ≤ 1
most true n m is none = omega (arith, is, none)
most false n m is none = omega (arith, is, none)

-- the lines are made step by step
pub long-enough : (line : LineContent) → line ≡ plain_line (chars (98 ∷ 10 ∷ [])) → 1 < length line.columns
long-enough line is = omega (arith, ap (λ (l : LineContent). length l.columns) (is ∙ ap plain_line second-text))

pub still-enough : (first second : LineContent) → first ≡ plain_line (chars (98 ∷ 10 ∷ [])) →
    second.columns ≡ changed (with_toggle 70 true) 1 2 first.columns → 1 ≤ length second.columns
still-enough first second is toggled =
    let text = is ∙ ap plain_line second-text in
    omega (arith, ap length (toggled ∙ ap (λ (l : LineContent). changed (with_toggle 70 true) 1 2 l.columns) text))

pub marked-made : (first second third : LineContent) → first ≡ plain_line (chars (98 ∷ 10 ∷ [])) →
    second.columns ≡ changed (with_toggle 70 true) 1 2 first.columns → second.marks ≡ first.marks
    → third.columns ≡ second.columns → third.marks ≡ finite.insert second.marks 3 worked_place → third ≡ marked_line
marked-made first second third is toggled same kept put =
    let text = is ∙ ap plain_line second-text in
    let columns = kept ∙ toggled ∙ ap (λ (l : LineContent). changed (with_toggle 70 true) 1 2 l.columns) text in
    let marks = put ∙ ap (λ marks. finite.insert marks 3 worked_place) (same
    ∙ ap (λ (l : LineContent). l.marks) text) in
    λ i. record { columns = columns i; marks = marks i }

pub lines-made : (none one two : List LineContent) (first second : LineContent) → none ≡ [] → one ≡ none ++ first ∷ [] →
    two ≡ one ++ second ∷ [] → first ≡ plain_line (chars (97 ∷ 10 ∷ [])) → second ≡ marked_line
    → two ≡ worked_lines
lines-made none one two first second none_is one_is two_is first_is second_is =
    two_is ∙ ap₂ (λ xs x. xs ++ x ∷ []) (one_is
    ∙ ap₂ (λ xs x. xs ++ x ∷ []) none_is (first_is ∙ ap plain_line first-text)) second_is

pub are-worked : AreLines worked_lines
are-worked =
    let none = finite.len-empty nat_cmp Place in
    let few = most (finite.contains_key finite.empty 3) (finite.len marked_line.marks) (finite.len finite.empty)
    (finite.len-insert nat_cmp_total finite.empty 3 worked_place) none in
    record {
      some = omega arith;
      rows = (
        record { ends = refl; once = refl },
        ((λ q place is. absurd (no_mark q place is)), (λ q place is. absurd (no_mark q place is))),
        (record { ends = refl; once = refl }, (λ q place is. omega (arith, (one_mark q place is).0)), tt),
      );
      counted = record { lines = omega arith; characters = omega arith; marks = omega (arith, none, few) };
    }

pub spliced-worked : (old new : List LineContent) → old ≡ plain_line (10 ∷ []) ∷ [] → new ≡ worked_lines →
    AreLines (spliced 0 1 new old)
spliced-worked old new old_is new_is =
    let made : spliced 0 1 new old ≡ worked_lines = ap₂ (spliced 0 1) new_is old_is in
    subst AreLines (sym made) are-worked

pub counted-worked : (old new : List LineContent) → old ≡ plain_line (10 ∷ []) ∷ [] → new ≡ worked_lines →
    IsCounted (plus (count_of old) (count_of new))
counted-worked old new old_is new_is =
    let none = finite.len-empty nat_cmp Place in
    let few = most (finite.contains_key finite.empty 3) (finite.len marked_line.marks) (finite.len finite.empty)
    (finite.len-insert nat_cmp_total finite.empty 3 worked_place) none in
    let both : IsCounted (plus (count_of (plain_line (10 ∷ []) ∷ [])) (count_of worked_lines))
    = record { lines = omega arith; characters = omega arith; marks = omega (arith, none, few) } in
    subst₂ (λ xs ys. IsCounted (plus (count_of xs) (count_of ys))) (sym old_is) (sym new_is) both

pub numbers-worked : (room : ℕ) → 4 ≤ room → (k : ℕ) (d : LineContent) → k < length worked_lines →
    NumbersBelow room (get_or worked_lines k d).marks
numbers-worked room above zero d below = λ q place is. absurd (no_mark q place is)
numbers-worked room above (suc zero) d below = λ q place is.
    let test : (q == 3) ≡ true = sym (unsigned_tied q 3) ∙ (one_mark q place is).1 in
    let same : q ≡ 3 = grind (arith, nat_tests) in
    omega (arith, same, above)
numbers-worked room above (suc (suc k)) d below = absurd (omega arith)
