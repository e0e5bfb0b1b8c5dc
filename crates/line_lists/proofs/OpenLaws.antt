-- A draft whose text goes on being put in at its place.
use Rattle.line_lists.proofs.Common.{◌≡◌, ℕ, ◌+◌, ◌<◌, ◌^◌, List, [], ◌∷◌, ◌++◌, length, drop, refl, sym, ap, ap₂}
use Rattle.line_lists.proofs.Common.{subst, ◌∙◌, arith, length-append, reverse, append-nil, length-map, length-take-le}
use Rattle.line_lists.proofs.Common.{reverse-append, LineContent, after_text, line_before, line_behind, plain_line}
use Rattle.line_lists.proofs.Common.{Copied, Reached, Stop, IsDraft, IsReached, IsTaken, StandsAt, copies_of, covered}
use Rattle.line_lists.proofs.Common.{drafted, drafted_at, lines_before, lines_behind, made_lines, taken_lines, text_at}
use Rattle.line_lists.proofs.Common.{used, place_of, IsOpen, IsPartly, Opens, StandRight, AreRows, IsLine, whole}
use Rattle.line_lists.proofs.CutLaws.{some-text, split-makes}
use Rattle.line_lists.proofs.DraftLaws.{copies-snoc, drafted-append, length-whole, used-append}
use Rattle.line_lists.proofs.EditLaws.{length-text}
use Rattle.line_lists.proofs.FindLaws.{made-ends, put-back, taken-is}
use Rattle.line_lists.proofs.HeldLaws.{lines-there}
use Rattle.line_lists.proofs.InsertionLaws.{line-makes, right-moved, text-twice}
use Rattle.line_lists.proofs.RowLaws.{Makes}

-- a line that stands for none of the list
abbrev pub new_copy : LineContent → Copied
new_copy line = record { kept = 0; gone = 0; line = line }

abbrev pub new_stop : Reached → LineContent → Stop
new_stop reached line = record {
  reached = reached;
  start = reached.characters;
  copy = new_copy line;
}

opens : (lines : List LineContent) (front : List Stop) (back : List Copied) (offset : ℕ) (text : List ℕ)
    (old : List LineContent) → IsDraft lines front back → AreRows old → offset < length (whole old).columns →
    0 < length text
    → place_of lines front ≡ offset + length text → Makes (after_text offset text) old (drafted_at lines front back) →
    Opens lines front back offset text (whole old)
opens lines front back offset text old draft rows within some place makes =
    let long = ap (λ (line : LineContent). length line.columns) makes.whole
    ∙ length-text offset text (whole old).columns (omega (arith, within)) in
    let marks = ap (λ (line : LineContent). line.marks) makes.whole in
    record {
      is = record {
        text = record { draft = draft; rows = makes.rows rows };
        within = omega (arith, place, long, within);
        right = subst (λ n. StandRight n (text_at lines front back).marks) (sym place)
            (subst (StandRight (offset + length text)) (sym marks)
            (right-moved offset (length text) (whole old).marks some));
      };
      place = place;
      new = makes.whole;
    }

-- ---- a line is cut
drafted-new : (line : LineContent) (copies : List Copied) (lines : List LineContent) →
    drafted (new_copy line ∷ copies) lines ≡ line ∷ drafted copies lines
drafted-new line copies lines = ap (λ n. line ∷ made_lines copies lines ++ drop n lines) (let same : 0 + used copies
    ≡ used copies = omega arith in same)

behind-new : (line : LineContent) (back : List Copied) (lines : List LineContent) →
    drafted (reverse (back ++ new_copy line ∷ [])) lines ≡ line ∷ drafted (reverse back) lines
behind-new line back lines = ap (λ copies. drafted copies lines) (reverse-append back (new_copy line ∷ []))
    ∙ drafted-new line (reverse back) lines

taken-new : (lines : List LineContent) (front : List Stop) (back : List Copied) (stop : Stop) (line : LineContent) →
    IsTaken lines front back stop → IsTaken lines front (back ++ new_copy line ∷ []) stop
taken-new lines front back stop line taken = record {
  stops = taken.stops;
  placed = record { reached = taken.placed.reached; start = taken.placed.start };
  there = omega (arith, taken.there, ap used (reverse-append back (new_copy line ∷ [])));
}

pub split-opens : (lines : List LineContent) (front : List Stop) (back : List Copied) (stop : Stop)
    (first second : LineContent) (old : List LineContent) (offset column : ℕ) (text : List ℕ) →
    IsTaken lines front back stop
    → taken_lines lines front back stop.copy ≡ old → StandsAt lines front stop.copy offset column →
    IsLine (plain_line text) → AreRows old
    → first ≡ line_before (column + length text) (after_text column text stop.copy.line) →
    second ≡ line_behind (column + length text) (after_text column text stop.copy.line) →
    length (whole old).columns + length text < 2 ^ 64
    → Opens lines (front ++ record stop { copy = record stop.copy { line = first } } ∷ [])
    (back ++ new_copy second ∷ []) offset text (whole old)
split-opens lines front back stop first second old offset column text taken old_is stands is rows first_is second_is
    small =
    let copies = copies_of front in
    let copy = stop.copy in
    let line = after_text column text copy.line in
    let head : Stop = record stop { copy = record copy { line = first } } in
    let before = lines_before copies copy lines in
    let behind = lines_behind copies copy back lines in
    let at = column + length text in
    let makes_parts = split-makes before behind old copy.line line offset column text old_is stands.place stands.inside
    is rows refl in
    let taken_is : taken_lines lines front (back ++ new_copy second ∷ []) head.copy
    ≡ before ++ line_before at line ∷ line_behind at line ∷ behind =
    ap (λ xs. before ++ first ∷ xs) (behind-new second back (drop (used copies + covered copy) lines))
    ∙ ap₂ (λ x y. before ++ x ∷ y ∷ behind) first_is second_is in
    let makes : Makes (after_text offset text) old (taken_lines lines front (back ++ new_copy second ∷ []) head.copy)
    = subst (Makes (after_text offset text) old) (sym taken_is) makes_parts in
    let where_is : offset < length (whole old).columns = omega (
      arith,
      stands.place,
      stands.inside,
      ap (λ xs. length (whole xs).columns) old_is,
      length-whole before (copy.line ∷ behind),
      length-append copy.line.columns (whole behind).columns,
    ) in
    let long = ap (λ (row : LineContent). length row.columns) makes.whole
    ∙ length-text offset text (whole old).columns (omega (arith, where_is)) in
    let wide = length-text column text copy.line.columns (omega (arith, stands.inside)) in
    let end : length first.columns ≡ at = ap (λ (row : LineContent). length row.columns) first_is
    ∙ length-take-le at line.columns (omega (arith, wide, stands.inside)) in
    let kept : IsTaken lines front back head = record {
      stops = taken.stops;
      placed = record { reached = taken.placed.reached; start = taken.placed.start };
      there = taken.there;
    } in
    let draft = put-back lines front (back ++ new_copy second ∷ []) head (taken-new lines front back head second kept)
    (omega (arith, long, small)) in
    let place : place_of lines (front ++ head ∷ []) ≡ offset + length text =
    omega (
      arith,
      ap (λ xs. length (whole (made_lines xs lines)).columns) (copies-snoc front head),
      made-ends lines copies head.copy,
      end,
      stands.place,
    ) in
    opens lines (front ++ head ∷ []) (back ++ new_copy second ∷ []) offset text old draft rows where_is
    (some-text text is) place
    (subst (Makes (after_text offset text) old) (sym (taken-is lines front (back ++ new_copy second ∷ []) head)) makes)

-- ---- a line goes in at the place
pub line-opens : (lines : List LineContent) (front : List Stop) (back : List Copied) (reached : Reached)
    (line : LineContent) (text : List ℕ) → IsOpen lines front back → IsReached reached (copies_of front) lines →
    line ≡ plain_line text
    → IsLine (plain_line text) → length (text_at lines front back).columns + length text < 2 ^ 64
    → Opens lines (front ++ new_stop reached line ∷ []) back (place_of lines front) text
    (text_at lines front back)
line-opens lines front back reached line text opened reached_is line_is is small =
    let copies = copies_of front in
    let stop : Stop = new_stop reached line in
    let before = made_lines copies lines in
    let behind = drafted (reverse back) (drop (used copies) lines) in
    let offset = place_of lines front in
    let old_is : before ++ behind ≡ drafted_at lines front back = sym (drafted-append copies (reverse back) lines) in
    let joins = ap (λ xs. length (whole xs).columns) (sym old_is) ∙ length-whole before behind in
    let some : 0 < length behind = lines-there behind (omega (arith, opened.within, joins)) in
    let makes_line = line-makes before behind (drafted_at lines front back) text old_is some opened.text.rows is
    opened.right in
    let front_is : lines_before copies (new_copy line) lines ≡ before = append-nil before in
    let taken_is : taken_lines lines front back (new_copy line) ≡ before ++ plain_line text ∷ behind =
    ap₂ (λ xs n. xs ++ line ∷ drafted (reverse back) (drop n lines)) front_is
    (let same : used copies + covered (new_copy line) ≡ used copies = omega arith in same)
    ∙ ap (λ x. before ++ x ∷ behind) line_is in
    let makes : Makes (after_text offset text) (drafted_at lines front back)
    (taken_lines lines front back (new_copy line)) =
    subst (Makes (after_text offset text) (drafted_at lines front back)) (sym taken_is) makes_line in
    let long = ap (λ (row : LineContent). length row.columns) makes.whole
    ∙ length-text offset text (text_at lines front back).columns (omega (arith, opened.within)) in
    let taken : IsTaken lines front back stop = record {
      stops = opened.text.draft.stops;
      placed = record { reached = reached_is; start = omega arith };
      there = omega (arith, opened.text.draft.there, used-append copies (reverse back));
    } in
    let draft = put-back lines front back stop taken (omega (arith, long, small)) in
    let wide : length line.columns ≡ length text = ap (λ (row : LineContent). length row.columns) line_is
    ∙ length-map text _ in
    let place : place_of lines (front ++ stop ∷ []) ≡ offset + length text =
    omega (
      arith,
      ap (λ xs. length (whole (made_lines xs lines)).columns) (copies-snoc front stop),
      made-ends lines copies (new_copy line),
      wide,
      ap (λ xs. length (whole xs).columns) front_is,
    ) in
    opens lines (front ++ stop ∷ []) back offset text (drafted_at lines front back) draft opened.text.rows opened.within
    (some-text text is) place
    (subst (Makes (after_text offset text) (drafted_at lines front back)) (sym (taken-is lines front back stop)) makes)

-- ---- a text goes in by its lines
longer : (xs line rest : List ℕ) → xs ≡ line ++ rest → length xs ≡ length line + length rest
longer xs line rest is = ap length is ∙ length-append line rest

pub partly-first : (lines : List LineContent) (front : List Stop) (back : List Copied) (offset : ℕ)
    (text line rest : List ℕ) (old : LineContent) → Opens lines front back offset line old → text ≡ line ++ rest →
    offset < length old.columns
    → IsLine (plain_line line) → length old.columns + length text < 2 ^ 64 →
    IsPartly lines front back offset text rest old
partly-first lines front back offset text line rest old opened parts within is small =
    let long = ap (λ (row : LineContent). length row.columns) opened.new
    ∙ length-text offset line old.columns (omega (arith, within)) in
    record {
      is = opened.is;
      counted = omega (arith, long, longer text line rest parts, small);
      new =
          ap₂ (λ n row. after_text n rest row) opened.place opened.new
          ∙ text-twice offset line rest old (omega (arith, within)) (some-text line is)
          ∙ ap (λ xs. after_text offset xs old) (sym parts);
    }

pub partly-next : (lines next : List LineContent) (front front_next : List Stop) (back back_next : List Copied)
    (offset : ℕ) (text rest line behind : List ℕ) (old : LineContent) → IsPartly lines front back offset text rest old
    → Opens next front_next back_next (place_of lines front) line (text_at lines front back) → rest ≡ line ++ behind →
    IsLine (plain_line line) → IsPartly next front_next back_next offset text behind old
partly-next lines next front front_next back back_next offset text rest line behind old so_far opened parts is =
    let first = partly-first next front_next back_next (place_of lines front) rest line behind
    (text_at lines front back) opened parts so_far.is.within is so_far.counted in
    record {
      is = first.is;
      counted = first.counted;
      new = first.new ∙ so_far.new;
    }
