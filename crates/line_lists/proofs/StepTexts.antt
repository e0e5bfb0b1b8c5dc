-- What the steps of an edit make of the text of a draft.
use Rattle.line_lists.proofs.Common.{◌≡◌, ℕ, zero, suc, ◌+◌, ◌-◌, ◌<◌, ◌≤◌, Bool, true, false, cond, List, [], ◌∷◌}
use Rattle.line_lists.proofs.Common.{◌++◌, Option, None, Some, Result, Err, Ok, get_or, length, map, take, drop, inl}
use Rattle.line_lists.proofs.Common.{inr, refl, sym, ap, ap₂, subst, ◌∙◌, arith, take-append-drop, nat_cmp_total}
use Rattle.line_lists.proofs.Common.{SomeIff, ok_or, eq_by_cmp, nat_cmp, cases_lt, append-nil, drop_all, drop_more}
use Rattle.line_lists.proofs.Common.{take_all, Step, ClearTags, Insert, SetTag, Place, Content, Slots, differing}
use Rattle.line_lists.proofs.Common.{changed, Fits, StepFitsIn, after, after_step, length_after, set_slot, same_marks}
use Rattle.line_lists.proofs.Common.{length-changed, length-after_step, differing-associative, differing-commutative}
use Rattle.line_lists.proofs.Common.{Column, LineContent, after_text, tags_before, toggled_first, with_toggle, Copied}
use Rattle.line_lists.proofs.Common.{Stop, StandsAt, copies_of, lines_before, lines_behind, taken_lines, made}
use Rattle.line_lists.proofs.Common.{with_cleared, with_mark, with_toggled, without_mark, text_of, whole, switched}
use Rattle.line_lists.proofs.Common.{tags_left_of, toggled_before, TagSlot}
use Rattle.line_lists.proofs.ClearingLaws.{tags-around}
use Rattle.line_lists.proofs.EditLaws.{length-text}
use Rattle.line_lists.proofs.FreedLaws.{eq_self}
use Rattle.line_lists.proofs.MadeLaws.{text-made}
use Rattle.line_lists.proofs.PlaceRows.{length-cells}
use Rattle.line_lists.proofs.RemovalLaws.{none-first}
use Rattle.line_lists.proofs.WholeLaws.{length-toggled}
use Rattle.std.specs.FinMap as finite
use Rattle.std.specs.FinSet as set

-- ---- slots that are toggled nowhere
pub toggled-end : (at : ℕ) (slots : Slots) (line : LineContent) → length line.columns ≤ at →
    line ≡ with_toggled at slots line
toggled-end at slots line behind =
    let columns : toggled_before at slots line.columns ≡ line.columns =
    ap₂ (λ front back. front ++ toggled_first slots back) (take_all at line.columns behind)
    (drop_all at line.columns behind) ∙ append-nil line.columns in
    λ i. record { columns = sym columns i; marks = line.marks }

pub toggled-empty : (at : ℕ) (slots : Slots) (line : LineContent) → slots ≡ set.empty →
    line ≡ with_toggled at slots line
toggled-empty at slots line none =
    let columns : toggled_before at slots line.columns ≡ line.columns =
    ap (λ s. toggled_before at s line.columns) none
    ∙ ap (λ back. take at line.columns ++ back) (none-first (drop at line.columns))
    ∙ take-append-drop at line.columns in
    λ i. record { columns = sym columns i; marks = line.marks }

-- what is toggled at the end makes no difference
toggled-same : (at : ℕ) (s t : Slots) (line : LineContent) → (at < length line.columns → s ≡ t) →
    with_toggled at s line ≡ with_toggled at t line
toggled-same at s t line same =
    elim (cases_lt at (length line.columns)) [
      | inl before ↦ ap (λ slots. with_toggled at slots line) (same before)
      | inr behind ↦ sym (toggled-end at s line (omega (arith, behind))) ∙ toggled-end at t line (omega (arith, behind))
    ]

-- where slots are toggled before two columns, or twice before one, their order makes no difference
toggle-swap : (s t : Slots) (a b : ℕ) (columns : List Column) →
    toggled_before a s (toggled_before b t columns) ≡ toggled_before b t (toggled_before a s columns)
toggle-swap s t zero zero [] = refl
toggle-swap s t zero (suc b) [] = refl
toggle-swap s t (suc a) zero [] = refl
toggle-swap s t (suc a) (suc b) [] = refl
toggle-swap s t zero zero (column ∷ columns) =
    ap (λ slots. record { character = column.character; toggled = slots } ∷ columns)
    (sym (differing-associative s t column.toggled)
    ∙ ap (λ both. differing both column.toggled) (differing-commutative s t)
    ∙ differing-associative t s column.toggled)
toggle-swap s t zero (suc b) (column ∷ columns) = refl
toggle-swap s t (suc a) zero (column ∷ columns) = refl
toggle-swap s t (suc a) (suc b) (column ∷ columns) = ap (λ rest. column ∷ rest) (toggle-swap s t a b columns)

pub toggled-swap : (a b : ℕ) (s t : Slots) (line : LineContent) →
    with_toggled a s (with_toggled b t line) ≡ with_toggled b t (with_toggled a s line)
toggled-swap a b s t line = λ i. record { columns = toggle-swap s t a b line.columns i; marks = line.marks }

-- ---- steps that are made of others
pub toggled-long : (at : ℕ) (slots : Slots) (text new : LineContent) (len : ℕ) → len ≡ length text.columns →
    new ≡ with_toggled at slots text → len ≡ length new.columns
toggled-long at slots text new len is toggled =
    omega (arith, is, ap (λ (line : LineContent). length line.columns) toggled, length-toggled at slots text.columns)

pub cleared-long : (slot from to : ℕ) (text new : LineContent) (len : ℕ) → from ≤ to → to ≤ len →
    len ≡ length text.columns → new ≡ with_cleared slot from to text → len ≡ length new.columns
cleared-long slot from to text new len ordered within is clears =
    omega (
      arith,
      is,
      ap (λ (line : LineContent). length line.columns) clears,
      length-changed (with_toggle slot false) from to text.columns ordered (omega (arith, within, is)),
    )

pub inserted-long : (at : ℕ) (text : List ℕ) (old new : LineContent) (len longer : ℕ) → at < len →
    len ≡ length old.columns → longer ≡ len + length text → new ≡ after_text at text old → longer ≡ length new.columns
inserted-long at text old new len longer within is sum new_is =
    omega (
      arith,
      is,
      sum,
      ap (λ (line : LineContent). length line.columns) new_is,
      length-text at text old.columns (omega (arith, within, is)),
    )

-- a sum that could be counted
pub sum-there : {E : Type 0} (found : Option ℕ) (refused : E) (bound sum longer : ℕ) → SomeIff found (sum < bound) sum →
    Ok longer ≡ ok_or found refused → (sum < bound) × (longer ≡ sum)
sum-there {E = E} None refused bound sum longer some is = let no : ◌≡◌ {A = Result ℕ E} (Ok longer) (Err refused) = is
    in absurd (cc)
sum-there {E = E} (Some x) refused bound sum longer some is = let same : ◌≡◌ {A = Result ℕ E} (Ok longer) (Ok x) = is in
    let eq : longer ≡ x = cc in (some.0, eq ∙ some.1)

-- so many characters more, where they can be counted
pub more-there : {E : Type 0} (found : Option ℕ) (refused : E) (bound len count more longer : ℕ) →
    SomeIff found (len + count < bound) (len + count) → Ok longer ≡ ok_or found refused → count ≡ more
    → (len + more < bound) × (longer ≡ len + more)
more-there found refused bound len count more longer some is counted =
    let there = sum-there found refused bound (len + count) longer some is in
    (omega (arith, there.0, counted), omega (arith, there.1, counted))

pub inserted-made : (at end : ℕ) (text : List ℕ) (slots differ : Slots) (old one two : LineContent) →
    end ≡ at + length text → differ ≡ differing (tags_left_of (take at old.columns)) slots
    → one ≡ after_text at text old → two ≡ with_toggled end differ one →
    with_toggled at differ two ≡ made (Insert at text slots) old
inserted-made at end text slots differ old one two end_is differ_is one_is two_is =
    ap (with_toggled at differ) (two_is ∙ ap₂ (λ n (line : LineContent). with_toggled n differ line) end_is one_is)
    ∙ ap (λ s. with_toggled at s (with_toggled (at + length text) s (after_text at text old))) differ_is

pub tagged-made : (from to : ℕ) (slot : TagSlot) (on : Bool) (first last : Slots) (len : ℕ)
    (old bare : LineContent) → from ≤ to → to ≤ len → len ≡ length old.columns
    → (from < len → first ≡ switched (set_slot slot.0 on) from old.columns) →
    (to < len → last ≡ switched (set_slot slot.0 on) to old.columns)
    → bare ≡ with_cleared slot.0 from to old →
    with_toggled to last (with_toggled from first bare) ≡ made (SetTag from to slot on) old
tagged-made from to slot on first last len old bare ordered within is first_is last_is bare_is =
    let clear = with_cleared slot.0 from to old in
    let ends = switched (set_slot slot.0 on) to old.columns in
    let begins = switched (set_slot slot.0 on) from old.columns in
    let long = length-changed (with_toggle slot.0 false) from to old.columns ordered (omega (arith, within, is)) in
    let same = length-toggled to ends clear.columns in
    ap (λ line. with_toggled to last (with_toggled from first line)) bare_is ∙ toggled-swap to from last first clear
    ∙ ap (with_toggled from first)
    (toggled-same to last ends clear (λ before. last_is (omega (arith, before, long, is))))
    ∙ toggled-same from first begins (with_toggled to ends clear) (λ before.
    first_is (omega (arith, before, same, long, is)))

pub bare-made : (at : ℕ) (here : Slots) (old text : LineContent) → here ≡ tags_before at old.columns →
    text ≡ with_toggled (at + 1) here old → with_toggled at here text ≡ made (ClearTags at) old
bare-made at here old text here_is text_is =
    ap (with_toggled at here) text_is ∙ ap (λ s. with_toggled at s (with_toggled (at + 1) s old)) here_is

-- ---- the slots that are on at a character of the line of a copy
pub tags-taken : (lines old : List LineContent) (front : List Stop) (back : List Copied) (copy : Copied)
    (offset column : ℕ) → taken_lines lines front back copy ≡ old → StandsAt lines front copy offset column
    → tags_before offset (whole old).columns
    ≡ differing (tags_left_of (whole (lines_before (copies_of front) copy lines)).columns)
    (tags_before column copy.line.columns)
tags-taken lines old front back copy offset column same stands =
    let copies = copies_of front in
    tags-around (lines_before copies copy lines) (lines_behind copies copy back lines) old copy.line (offset + 1)
    (column + 1) same (omega (arith, stands.place)) (omega (arith, stands.inside))

-- and before it
pub tags-left : (lines old : List LineContent) (front : List Stop) (back : List Copied) (copy : Copied)
    (offset column : ℕ) → taken_lines lines front back copy ≡ old → StandsAt lines front copy offset column
    → tags_left_of (take offset (whole old).columns)
    ≡ differing (tags_left_of (whole (lines_before (copies_of front) copy lines)).columns)
    (tags_left_of (take column copy.line.columns))
tags-left lines old front back copy offset column same stands =
    let copies = copies_of front in
    tags-around (lines_before copies copy lines) (lines_behind copies copy back lines) old copy.line offset column same
    stands.place (omega (arith, stands.inside))

-- ---- a mark that moves
pub mark-free : (number : ℕ) (text new : LineContent) → new ≡ without_mark number text →
    finite.get new.marks number ≡ None
mark-free number text new is =
    ap (λ (line : LineContent). finite.get line.marks number) is
    ∙ finite.get-remove nat_cmp_total text.marks number number
    ∙ ap (λ same. cond same None (finite.get text.marks number)) (eq_self number)

put_over : (same : Bool) (place : Place) (found : Option Place) →
    cond same (Some place) (cond same None found) ≡ cond same (Some place) found
put_over true place found = refl
put_over false place found = refl

pub mark-moved : (number : ℕ) (place : Place) (line : LineContent) →
    with_mark number place (without_mark number line) ≡ with_mark number place line
mark-moved number place line =
    let marks = same_marks _ _ (λ q.
    finite.get-insert nat_cmp_total (finite.remove line.marks number) number place q
    ∙ ap (cond (eq_by_cmp nat_cmp q number) (Some place)) (finite.get-remove nat_cmp_total line.marks number q)
    ∙ put_over (eq_by_cmp nat_cmp q number) place (finite.get line.marks q)
    ∙ sym (finite.get-insert nat_cmp_total line.marks number place q)) in
    λ i. record { columns = line.columns; marks = marks i }

-- ---- how long a text is after a step
pub length-made : (step : Step) (line : LineContent) → StepFitsIn step (length line.columns) →
    length (made step line).columns ≡ length_after step (length line.columns)
length-made step line fits =
    let cells : length (text_of line).cells ≡ length line.columns = length-cells set.empty line.columns in
    sym (length-cells set.empty (made step line).columns)
    ∙ ap (λ (content : Content). length content.cells) (text-made step line fits)
    ∙ length-after_step step (text_of line) (subst (StepFitsIn step) (sym cells) fits)
    ∙ ap (length_after step) cells

pub made-long : (step : Step) (text new : LineContent) (len : ℕ) → len ≡ length text.columns → StepFitsIn step len →
    new ≡ made step text → length_after step len ≡ length new.columns
made-long step text new len is fits new_is =
    ap (length_after step) is ∙ sym (length-made step text (subst (StepFitsIn step) is fits))
    ∙ ap (λ (line : LineContent). length line.columns) (sym new_is)

-- a slot is cleared everywhere
pub cleared-all : (slot : ℕ) (line : LineContent) → with_cleared slot 0 (length line.columns) line
    ≡ record line { columns = map (with_toggle slot false) line.columns }
cleared-all slot line =
    let clear = with_toggle slot false in
    let columns : changed clear 0 (length line.columns) line.columns ≡ map clear line.columns =
    ap₂ (λ front back. map clear front ++ back)
    (ap (λ n. take n line.columns) (let same : length line.columns - 0 ≡ length line.columns = omega arith in same)
    ∙ take_all (length line.columns) line.columns (omega arith))
    (drop_all (length line.columns) line.columns (omega arith))
    ∙ append-nil (map clear line.columns) in
    λ i. record { columns = columns i; marks = line.marks }

-- ---- the steps of an edit, one after the other
pub record Goes (steps : List Step) (first : LineContent) (rest : List Step) (text : LineContent) (count : ℕ) : Type 0
  where
    pub len : count ≡ length text.columns
    pub some : 0 < count
    pub fits : Fits rest (text_of text)
    pub new : after rest (text_of text) ≡ after steps (text_of first)

pub goes-at : (steps : List Step) (first text : LineContent) (step : Step) (i len : ℕ) → i < length steps →
    step ≡ get_or steps i step → Goes steps first (drop i steps) text len
    → Goes steps first (step ∷ drop (i + 1) steps) text len
goes-at steps first text step i len within is goes =
    subst (λ rest. Goes steps first rest text len) (drop_more steps i step within
    ∙ ap (λ here. here ∷ drop (i + 1) steps) (sym is)) goes

pub step-fits : (steps rest : List Step) (first text : LineContent) (step : Step) (len : ℕ) →
    Goes steps first (step ∷ rest) text len → StepFitsIn step len
step-fits steps rest first text step len goes =
    subst (StepFitsIn step) (length-cells set.empty text.columns ∙ sym goes.len) goes.fits.0

pub goes-on : (steps rest : List Step) (first text new : LineContent) (step : Step) (len after : ℕ) →
    Goes steps first (step ∷ rest) text len → new ≡ made step text
    → after ≡ length new.columns → 0 < after → Goes steps first rest new after
goes-on steps rest first text new step len count goes is long some =
    let made_is : text_of new ≡ after_step step (text_of text) =
    ap text_of is ∙ text-made step text (subst (StepFitsIn step) (length-cells set.empty text.columns) goes.fits.0) in
    record {
      len = long;
      some = some;
      fits = subst (Fits rest) (sym made_is) goes.fits.1;
      new = ap (after rest) made_is ∙ goes.new;
    }
