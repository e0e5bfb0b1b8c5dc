-- Characters are taken out of a text while the copy of a line is held out of its draft.
use Rattle.line_lists.proofs.Common.{◌≡◌, ℕ, ◌+◌, ◌-◌, ◌<◌, ◌≤◌, List, [], ◌∷◌, ◌++◌, length, take, drop, refl, sym, ap}
use Rattle.line_lists.proofs.Common.{ap₂, subst, ◌∙◌, arith, length-append, LineContent, after_removal, joined, Copied}
use Rattle.line_lists.proofs.Common.{Stop, IsTaken, copies_of, lines_before, lines_behind, made_lines, taken_lines}
use Rattle.line_lists.proofs.Common.{used, AreRows, HoldsMore, IsHeld, JoinsNext, held_at, held_text, whole}
use Rattle.line_lists.proofs.DraftLaws.{length-whole}
use Rattle.line_lists.proofs.EditLaws.{some-columns}
use Rattle.line_lists.proofs.JoinLaws.{first-of}
use Rattle.line_lists.proofs.RemovalLaws.{joined-makes, removal-none, removal-twice, removed-makes}
use Rattle.line_lists.proofs.RowLaws.{rows-behind}
use Rattle.line_lists.proofs.WholeLaws.{length-without}

-- where a column stands
pub at-same : (lines other : List LineContent) (front stops : List Stop) (copy new : Copied) (column : ℕ) →
    other ≡ lines → stops ≡ front → new.kept ≡ copy.kept
    → held_at other stops new column ≡ held_at lines front copy column
at-same lines other front stops copy new column same along kept =
    ap (λ k. length (whole (made_lines (copies_of stops) other ++ take k (drop (used (copies_of stops)) other))).columns
    + column) kept
    ∙ ap₂ (λ xs fs. length (whole (made_lines (copies_of fs) xs
    ++ take copy.kept (drop (used (copies_of fs)) xs))).columns + column) same along

-- the copy with another line
abbrev pub with_line : LineContent → Stop → Stop
with_line line stop =
    record stop { copy = record { kept = stop.copy.kept; gone = stop.copy.gone; line = line } }

-- so many characters are gone from a text
pub record Leaves (lines : List LineContent) (front : List Stop) (back : List Copied) (new : Stop) (column at count : ℕ)
    (old : LineContent) : Type 0 where
  pub held : IsHeld lines front back new column
  pub text : held_text lines front back new.copy ≡ after_removal at (at + count) old

pub leaves-within : (lines : List LineContent) (front : List Stop) (back : List Copied) (stop : Stop)
    (line : LineContent) (column count : ℕ) → IsHeld lines front back stop column
    → count < length stop.copy.line.columns - column → line ≡ after_removal column (column + count) stop.copy.line
    → Leaves lines front back (with_line line stop) column (held_at lines front stop.copy column) count
    (held_text lines front back stop.copy)
leaves-within lines front back stop line column count held few line_is =
    let copies = copies_of front in
    let old = stop.copy.line in
    let within : column + count < length old.columns = omega (arith, few) in
    let makes =
    removed-makes (lines_before copies stop.copy lines) (lines_behind copies stop.copy back lines)
    (taken_lines lines front back stop.copy) old line (held_at lines front stop.copy column) column count
    refl refl within held.rows line_is in
    let long = ap (λ (x : LineContent). length x.columns) line_is
    ∙ length-without column (column + count) old.columns (omega arith) (omega (arith, within)) in
    record {
      held = record {
        taken = record {
          stops = held.taken.stops;
          placed = record { reached = held.taken.placed.reached; start = held.taken.placed.start };
          there = held.taken.there;
        };
        rows = makes.rows held.rows;
        inside = omega (arith, long, within);
      };
      text = makes.whole;
    }

-- there is a line behind that of the copy
pub lines-there : (lines : List LineContent) → 0 < length (whole lines).columns → 0 < length lines
lines-there [] some = absurd (omega (arith, some))
lines-there (line ∷ lines) some = omega arith

pub next-there : (lines : List LineContent) (front : List Stop) (back : List Copied) (stop : Stop) (column left : ℕ) →
    HoldsMore lines front back stop.copy column left
    → length stop.copy.line.columns - column ≤ left → 0 < length (lines_behind (copies_of front) stop.copy back lines)
next-there lines front back stop column left more large =
    let before = lines_before (copies_of front) stop.copy lines in
    let behind = lines_behind (copies_of front) stop.copy back lines in
    let long = length-whole before (stop.copy.line ∷ behind) in
    lines-there behind (omega (arith, more, large, long, length-append stop.copy.line.columns (whole behind).columns))

-- it joins the copy's line, of which the rest goes
leaves_joined : (lines : List LineContent) (front : List Stop) (before back : List Copied) (stop joint : Stop)
    (line : LineContent) (column left : ℕ) → IsHeld lines front before stop column
    → HoldsMore lines front before stop.copy column left → length stop.copy.line.columns - column ≤ left →
    joint.copy.kept ≡ stop.copy.kept → IsTaken lines front back joint
    → JoinsNext stop.copy.line joint.copy.line (lines_behind (copies_of front) stop.copy before lines)
    (lines_behind (copies_of front) joint.copy back lines)
    → line ≡ after_removal column (column + (length stop.copy.line.columns - column)) joint.copy.line
    → Leaves lines front back (with_line line joint) column (held_at lines front stop.copy column)
    (length stop.copy.line.columns - column) (held_text lines front before stop.copy)
leaves_joined lines front before back stop joint line column left held more large kept taken joins line_is =
    let copies = copies_of front in
    let old = stop.copy.line in
    let count = length old.columns - column in
    let first = lines_before copies stop.copy lines in
    let behind = lines_behind copies stop.copy before lines in
    let rest = lines_behind copies joint.copy back lines in
    let next = whole (take 1 behind) in
    let behind_is : behind ≡ next ∷ rest = first-of behind (next-there lines front before stop column left more large)
    ∙ ap (λ xs. next ∷ xs) (sym joins.others) in
    let text = taken_lines lines front before stop.copy in
    let text_is : first ++ old ∷ next ∷ rest ≡ text = ap (λ xs. first ++ old ∷ xs) (sym behind_is) in
    let all : column + count ≡ length old.columns = omega (arith, held.inside) in
    let new_is : line ≡ after_removal column (column + count) (joined old next) = line_is
    ∙ ap (after_removal column (column + count)) joins.line in
    let makes = joined-makes first rest text old next line (held_at lines front stop.copy column) column count text_is
    refl held.inside all held.rows new_is in
    let row = rows-behind first (old ∷ next ∷ rest) (subst AreRows (sym text_is) held.rows) in
    let some = some-columns next.columns row.2.0.ends in
    let both = length-append old.columns next.columns in
    let long = ap (λ (x : LineContent). length x.columns) new_is
    ∙ length-without column (column + count) (joined old next).columns (omega arith) (omega (arith, all, both)) in
    let lines_are : taken_lines lines front back (with_line line joint).copy
    ≡ first ++ line ∷ rest = ap (λ k. (made_lines copies lines ++ take k (drop (used copies) lines)) ++ line ∷ rest)
    kept in
    record {
      held = record {
        taken = record {
          stops = taken.stops;
          placed = record { reached = taken.placed.reached; start = taken.placed.start };
          there = taken.there;
        };
        rows = subst AreRows (sym lines_are) (makes.rows held.rows);
        inside = omega (arith, long, all, both, some);
      };
      text = ap whole lines_are ∙ makes.whole;
    }

pub leaves-joined : (lines other : List LineContent) (front stops : List Stop) (before back : List Copied)
    (stop joint : Stop) (line : LineContent) (column left : ℕ) → other ≡ lines → stops ≡ front
    → IsHeld lines front before stop column → HoldsMore lines front before stop.copy column left →
    length stop.copy.line.columns - column ≤ left → joint.copy.kept ≡ stop.copy.kept
    → IsTaken other stops back joint
    → JoinsNext stop.copy.line joint.copy.line (lines_behind (copies_of front) stop.copy before lines)
    (lines_behind (copies_of stops) joint.copy back other)
    → line ≡ after_removal column (column + (length stop.copy.line.columns - column)) joint.copy.line
    → Leaves other stops back (with_line line joint) column (held_at lines front stop.copy column)
    (length stop.copy.line.columns - column) (held_text lines front before stop.copy)
leaves-joined lines other front stops before back stop joint line column left same along held more large kept taken
    joins line_is =
    let count = length stop.copy.line.columns - column in
    let taken_then = subst (λ fs. IsTaken lines fs back joint) along
    (subst (λ xs. IsTaken xs stops back joint) same taken) in
    let joins_then =
    subst (λ fs. JoinsNext stop.copy.line joint.copy.line (lines_behind (copies_of front) stop.copy before lines)
    (lines_behind (copies_of fs) joint.copy back lines)) along
    (subst (λ xs. JoinsNext stop.copy.line joint.copy.line (lines_behind (copies_of front) stop.copy before lines)
    (lines_behind (copies_of stops) joint.copy back xs)) same joins) in
    let leaves = leaves_joined lines front before back stop joint line column left held more large kept taken_then
    joins_then line_is in
    subst (λ xs. Leaves xs stops back (with_line line joint) column (held_at lines front stop.copy column) count
    (held_text lines front before stop.copy)) (sym same)
    (subst (λ fs. Leaves lines fs back (with_line line joint) column (held_at lines front stop.copy column) count
    (held_text lines front before stop.copy)) (sym along) leaves)

-- ---- step by step
pub length-removal : (from count : ℕ) (line : LineContent) → from + count ≤ length line.columns →
    length (after_removal from (from + count) line).columns + count ≡ length line.columns
length-removal from count line within =
    omega (arith, length-without from (from + count) line.columns (omega arith) within, within)

-- what is left once some are gone
pub left-long : (at place count left : ℕ) (old new : LineContent) → place ≡ at →
    new ≡ after_removal at (at + count) old → count ≤ left → at + left < length old.columns
    → place + (left - count) < length new.columns
left-long at place count left old new same new_is most more =
    omega (
      arith,
      same,
      most,
      more,
      ap (λ (x : LineContent). length x.columns) new_is,
      length-removal at count old (omega (arith, most, more)),
    )

pub left-same : (at place count left all : ℕ) (old new first : LineContent) → place ≡ at →
    new ≡ after_removal at (at + count) old → count ≤ left → at + left < length old.columns
    → after_removal at (at + left) old ≡ after_removal at (at + all) first →
    after_removal place (place + (left - count)) new ≡ after_removal place (place + all) first
left-same at place count left all old new first same new_is most more so_far =
    ap (λ n. after_removal n (n + (left - count)) new) same
    ∙ ap (after_removal at (at + (left - count))) new_is
    ∙ removal-twice at (at + count) (left - count) old (omega arith) (omega (arith, most, more))
    ∙ ap (λ n. after_removal at n old) (let end : (at + count) + (left - count) ≡ at + left = omega (arith, most) in
    end)
    ∙ so_far
    ∙ ap (λ n. after_removal n (n + all) first) (sym same)

pub none-left : (at place left all : ℕ) (new first : LineContent) → place ≡ at → left ≡ 0 →
    after_removal place (place + left) new ≡ after_removal place (place + all) first
    → new ≡ after_removal at (at + all) first
none-left at place left all new first same none so_far =
    sym (removal-none place new) ∙ ap (λ n. after_removal place n new) (let end : place
    ≡ place + left = omega (arith, none) in end) ∙ so_far ∙ ap (λ n. after_removal n (n + all) first) same
