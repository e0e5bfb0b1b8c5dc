-- Copies of lines as pieces of a list, which come in from the last to the first.
use Rattle.line_lists.proofs.Common.{◌≡◌, ◌≢◌, ℕ, zero, suc, ◌+◌, ◌-◌, ◌<◌, ◌≤◌, List, [], ◌∷◌, ◌++◌, None, Some}
use Rattle.line_lists.proofs.Common.{length, take, drop, inl, inr, refl, sym, ap, ap₂, subst, ◌∙◌, arith, append_assoc}
use Rattle.line_lists.proofs.Common.{length-append, length-drop, take-append-drop, nat_cmp, cases_lt, append-nil}
use Rattle.line_lists.proofs.Common.{drop-drop, length-take-le, nil_from_length, take-append-le, take-take, take_all}
use Rattle.line_lists.proofs.Common.{drop-append_seam, Marks, Count, plus, LineContent, line_count, Piece, AreApart}
use Rattle.line_lists.proofs.Common.{AreLines, AreRows, IsCounted, count_of, spliced, CanPlace, Covers, FitsIn, Follows}
use Rattle.line_lists.proofs.Common.{placed, whole}
use Rattle.line_lists.proofs.CountRows.{count-append}
use Rattle.line_lists.proofs.DraftLaws.{take-more}
use Rattle.line_lists.proofs.EditLaws.{rows-apart}
use Rattle.line_lists.proofs.FreedLaws.{free-front}
use Rattle.line_lists.proofs.RowLaws.{free-joined, free-parts, rows-among, rows-behind}
use Rattle.line_lists.proofs.WholeLaws.{whole-append}
use Rattle.std.specs.FinMap as finite

-- ---- one piece more
pub placed-snoc : (pieces : List Piece) (piece : Piece) (lines : List LineContent) →
    placed (pieces ++ piece ∷ []) lines ≡ placed pieces (spliced piece.from piece.count piece.lines.items lines)
placed-snoc [] piece lines = refl
placed-snoc (first ∷ pieces) piece lines =
    ap (spliced first.from first.count first.lines.items) (placed-snoc pieces piece lines)

pub can-snoc : (pieces : List Piece) (piece : Piece) (lines : List LineContent) →
    CanPlace pieces (spliced piece.from piece.count piece.lines.items lines) → FitsIn piece lines →
    CanPlace (pieces ++ piece ∷ []) lines
can-snoc [] piece lines can fits = (tt, fits)
can-snoc (first ∷ pieces) piece lines can fits =
    (can-snoc pieces piece lines can.0 fits, subst (FitsIn first) (sym (placed-snoc pieces piece lines)) can.1)

pub can-split : (pieces : List Piece) (piece : Piece) (lines : List LineContent) →
    CanPlace (pieces ++ piece ∷ []) lines → CanPlace pieces (spliced piece.from piece.count piece.lines.items lines)
    × FitsIn piece lines
can-split [] piece lines can = (tt, can.1)
can-split (first ∷ pieces) piece lines can =
    let rest = can-split pieces piece lines can.0 in
    ((rest.0, subst (FitsIn first) (placed-snoc pieces piece lines) can.1), rest.1)

-- ---- so many lines of a list in whose place others come
take_front : {A : Type 0} (n m : ℕ) (xs ys : List A) → n ≤ m → m ≤ length xs → take n (take m xs ++ ys) ≡ take n xs
take_front n m xs ys below within =
    take-append-le n (take m xs) ys (omega (arith, below, length-take-le m xs within)) ∙ take-take n m xs below

drop_front : {A : Type 0} (m : ℕ) (xs ys : List A) → m ≤ length xs → drop m (take m xs ++ ys) ≡ ys
drop_front m xs ys within =
    ap (λ n. drop n (take m xs ++ ys)) (sym (length-take-le m xs within)) ∙ drop-append_seam (take m xs) ys

pub spliced-front : (from count : ℕ) (new base rest : List LineContent) → from + count ≤ length base →
    spliced from count new (take (from + count) base ++ rest) ≡ take from base ++ (new ++ rest)
spliced-front from count new base rest within =
    append_assoc (take from (take (from + count) base ++ rest)) new
    (drop (from + count) (take (from + count) base ++ rest))
    ∙ ap₂ (λ front behind. front ++ (new ++ behind)) (take_front from (from + count) base rest (omega arith) within)
    (drop_front (from + count) base rest within)

-- ---- marks of lines in a row
apart-front : (a b c : List LineContent) → AreApart (whole (a ++ b)).marks (whole c).marks →
    AreApart (whole a).marks (whole c).marks
apart-front a b c apart number place is =
    elim (finite.get (whole (a ++ b)).marks number) as (λ found. finite.get (whole (a ++ b)).marks number ≡ found →
    finite.get (whole c).marks number ≡ None) [
      | None ↦ λ free. absurd (let no : None
          ≡ Some place = sym (free-parts (whole a) (whole b) number
          (ap (λ (line : LineContent). finite.get line.marks number) (sym (whole-append a b)) ∙ free)).1 ∙ is in cc)
      | Some here ↦ λ there. apart number here there
    ] refl

free-append : (a b : List LineContent) (number : ℕ) → finite.get (whole a).marks number ≡ None →
    finite.get (whole b).marks number ≡ None → finite.get (whole (a ++ b)).marks number ≡ None
free-append a b number one two = ap (λ (line : LineContent). finite.get line.marks number) (whole-append a b)
    ∙ free-joined (whole a) (whole b) number one two

apart-there : (marks others : Marks) → AreApart marks others → (number : ℕ) → finite.get marks number ≢ None →
    finite.get others number ≡ None
apart-there marks others apart number there =
    elim (finite.get marks number) as (λ found. finite.get marks number ≡ found → finite.get others number ≡ None) [
      | None ↦ λ free. absurd (there free)
      | Some place ↦ λ is. apart number place is
    ] refl

-- a line of which no mark stands in a list, before others
apart-line : (u : ℕ) (base rest : List LineContent) (line : LineContent) → AreApart line.marks (whole base).marks →
    AreApart (whole (take u base)).marks (whole rest).marks
    → AreApart (whole (take u base)).marks (whole (line ∷ rest)).marks
apart-line u base rest line alone apart number place is =
    let found : finite.get line.marks number ≡ None =
    elim (finite.get line.marks number) as (λ found. finite.get line.marks number ≡ found →
    finite.get line.marks number ≡ None) [
      | None ↦ λ free. free
      | Some here ↦ λ there. absurd (let no : None ≡ Some place =
          sym (free-front (take u base) (drop u base) number
          (ap (λ xs. finite.get (whole xs).marks number) (take-append-drop u base) ∙ alone number here there)).0
          ∙ is in cc)
    ] refl in
    free-joined line (whole rest) number found (apart number place is)

-- ---- a piece that begins behind the others
rows-new : (u kept : ℕ) (made base tail : List LineContent) → 0 < length tail → u + kept ≤ length base → AreRows base →
    (kept ≡ 0 → made ≡ take u base)
    → AreApart (whole (take (u + kept) base)).marks (whole tail).marks →
    AreRows (made ++ (take kept (drop u base) ++ tail)) → AreRows (take (u + kept) base ++ tail)
rows-new u zero made base tail some within rows first apart all =
    subst AreRows (ap (λ xs. xs ++ tail) (first refl
    ∙ ap (λ n. take n base) (let same : u ≡ u + 0 = omega arith in same))) all
rows-new u (suc k) made base tail some within rows first apart all =
    let n = u + k in
    let rest = drop n base in
    let one = take 1 rest in
    let before = take n base in
    let front : take (u + suc k) base ≡ before ++ one = ap (λ m. take m base) (let same : u + suc k
    ≡ n + 1 = omega arith in same) ∙ take-more n 1 base in
    let middle : take (suc k) (drop u base) ≡ take k (drop u base) ++ one =
    ap (λ m. take m (drop u base)) (let same : suc k ≡ k + 1 = omega arith in same) ∙ take-more k 1 (drop u base)
    ∙ ap (λ xs. take k (drop u base) ++ take 1 xs) (drop-drop k u base) in
    let split : made ++ (take (suc k) (drop u base) ++ tail) ≡ (made ++ take k (drop u base)) ++ (one ++ tail) =
    ap (λ xs. made ++ (xs ++ tail)) middle ∙ ap (λ xs. made ++ xs) (append_assoc (take k (drop u base)) one tail)
    ∙ sym (append_assoc made (take k (drop u base)) (one ++ tail)) in
    let behind = rows-behind (made ++ take k (drop u base)) (one ++ tail) (subst AreRows split all) in
    let long = length-drop n base in
    let stay : (number : ℕ) → finite.get (whole before).marks number ≢ None →
    finite.get (whole rest).marks number ≡ None → finite.get (whole (one ++ tail)).marks number
    ≡ None = λ number there free.
    free-append one tail number (free-front one (drop 1 rest) number
    (ap (λ xs. finite.get (whole xs).marks number) (take-append-drop 1 rest) ∙ free)).0
    (apart-there (whole (take (u + suc k) base)).marks (whole tail).marks apart number (λ none.
    there (free-front before one number (ap (λ xs. finite.get (whole xs).marks number) (sym front) ∙ none)).0)) in
    subst AreRows (sym (append_assoc before one tail) ∙ ap (λ xs. xs ++ tail) (sym front))
    (rows-among before rest (one ++ tail) (omega (arith, long, within)) (omega (arith, some, length-append one tail))
    (subst AreRows (sym (take-append-drop n base)) rows) behind stay)

counted-new : (a gone rest : List LineContent) (line : LineContent) (sum : Count) →
    IsCounted (plus (count_of ((a ++ gone) ++ rest)) (plus sum (line_count line))) →
    IsCounted (count_of (a ++ line ∷ rest))
counted-new a gone rest line sum all =
    let one = count-append (a ++ gone) rest in
    let two = count-append a gone in
    let new = count-append a (line ∷ rest) in
    record {
      lines = omega (
        arith,
        all.lines,
        ap (λ (c : Count). c.lines) one,
        ap (λ (c : Count). c.lines) two,
        ap (λ (c : Count). c.lines) new,
      );
      characters = omega (
        arith,
        all.characters,
        ap (λ (c : Count). c.characters) one,
        ap (λ (c : Count). c.characters) two,
        ap (λ (c : Count). c.characters) new,
      );
      marks = omega (
        arith,
        all.marks,
        ap (λ (c : Count). c.marks) one,
        ap (λ (c : Count). c.marks) two,
        ap (λ (c : Count). c.marks) new,
      );
    }

counted-before : (a kept gone rest : List LineContent) (line : LineContent) (sum : Count) →
    IsCounted (plus (count_of (((a ++ kept) ++ gone) ++ rest)) (plus sum (line_count line)))
    → IsCounted (plus (count_of (a ++ (kept ++ line ∷ rest))) sum)
counted-before a kept gone rest line sum all =
    let one = count-append ((a ++ kept) ++ gone) rest in
    let two = count-append (a ++ kept) gone in
    let three = count-append a kept in
    let new = count-append a (kept ++ line ∷ rest) in
    let more = count-append kept (line ∷ rest) in
    let lines_of = λ (c : Count). c.lines in
    let characters_of = λ (c : Count). c.characters in
    let marks_of = λ (c : Count). c.marks in
    record {
      lines = omega (
        arith,
        all.lines,
        ap lines_of one,
        ap lines_of two,
        ap lines_of three,
        ap lines_of new,
        ap lines_of more,
      );
      characters = omega (
        arith,
        all.characters,
        ap characters_of one,
        ap characters_of two,
        ap characters_of three,
        ap characters_of new,
        ap characters_of more,
      );
      marks = omega (
        arith,
        all.marks,
        ap marks_of one,
        ap marks_of two,
        ap marks_of three,
        ap marks_of new,
        ap marks_of more,
      );
    }

-- so many lines, those behind them that stay, and those behind these that go
fronts : (u kept gone : ℕ) (base : List LineContent) → take (u + (kept + gone)) base
    ≡ (take u base ++ take kept (drop u base)) ++ take gone (drop (u + kept) base)
fronts u kept gone base =
    ap (λ n. take n base) (let same : u + (kept + gone) ≡ (u + kept) + gone = omega arith in same)
    ∙ take-more (u + kept) gone base ∙ ap (λ xs. xs ++ take gone (drop (u + kept) base)) (take-more u kept base)

apart-kept : (u kept : ℕ) (base rest : List LineContent) → AreRows base → u + kept ≤ length base →
    AreApart (whole (take u base)).marks (whole rest).marks
    → AreApart (whole (take u base)).marks (whole (take kept (drop u base) ++ rest)).marks
apart-kept u kept base rest rows within apart number place is =
    let behind : finite.get (whole (drop u base)).marks number ≡ None =
    elim (cases_lt 0 (length (drop u base))) [
      | inl some ↦ rows-apart (take u base) (drop u base) number some
          (subst AreRows (sym (take-append-drop u base)) rows) (λ none. let no : None ≡ Some place = sym none ∙ is in
          cc)
      | inr none ↦ ap (λ xs. finite.get (whole xs).marks number) (nil_from_length (drop u base)
          (omega (arith, none)))
          ∙ finite.get-empty nat_cmp number
    ] in
    free-append (take kept (drop u base)) rest number
    (free-front (take kept (drop u base)) (drop kept (drop u base)) number
    (ap (λ xs. finite.get (whole xs).marks number) (take-append-drop kept (drop u base)) ∙ behind)).0
    (apart number place is)

-- what follows a piece, with its line and the lines that are kept before it
follows-before : (u kept gone : ℕ) (made base rest : List LineContent) (line : LineContent) (sum : Count) →
    u + (kept + gone) ≤ length base → AreRows base → AreApart line.marks (whole base).marks
    → Follows (u + (kept + gone)) (made ++ (take kept (drop u base) ++ line ∷ [])) base (plus sum (line_count line))
    rest
    → Follows u made base sum (take kept (drop u base) ++ line ∷ rest)
follows-before u kept gone made base rest line sum within rows alone follows =
    let middle = take kept (drop u base) in
    let more = take gone (drop (u + kept) base) in
    let all = fronts u kept gone base in
    record {
      rows = subst AreRows (append_assoc made (middle ++ line ∷ []) rest
          ∙ ap (λ xs. made ++ xs) (append_assoc middle (line ∷ []) rest)) follows.rows;
      apart = apart-kept u kept base (line ∷ rest) rows (omega (arith, within))
          (apart-line u base rest line alone
          (apart-front (take u base) (middle ++ more) rest
          (subst (λ xs. AreApart (whole xs).marks (whole rest).marks) (all
          ∙ append_assoc (take u base) middle more) follows.apart)));
      counted = counted-before (take u base) middle more rest line sum
          (subst (λ xs. IsCounted (plus (count_of (xs ++ rest)) (plus sum (line_count line)))) all follows.counted);
    }

new-state : (piece : Piece) (u kept gone : ℕ) (base rest : List LineContent) (line : LineContent) →
    piece.from ≡ u + kept → piece.count ≡ gone → piece.lines.items ≡ line ∷ [] → u + (kept + gone) ≤ length base
    → spliced piece.from piece.count piece.lines.items (take (u + (kept + gone)) base ++ rest)
    ≡ take (u + kept) base ++ (line ∷ rest)
new-state piece u kept gone base rest line from count lines within =
    let same : u + (kept + gone) ≡ (u + kept) + gone = omega arith in
    (λ i. spliced (from i) (count i) (lines i) (take (same i) base ++ rest))
    ∙ spliced-front (u + kept) gone (line ∷ []) base rest (omega (arith, within))

-- all that is there, and the line of the piece, or the lines of it
counted-one : (all : List LineContent) (line : LineContent) (sum : Count) →
    IsCounted (plus (count_of all) (plus sum (line_count line))) →
    IsCounted (plus (count_of all) (count_of (line ∷ [])))
counted-one all line sum counted = record {
  lines = omega (arith, counted.lines);
  characters = omega (arith, counted.characters);
  marks = omega (arith, counted.marks);
}

counted-two : (all brought : List LineContent) (line : LineContent) (before sum : Count) →
    sum ≡ plus before (count_of brought) → IsCounted (plus (count_of all) (plus sum (line_count line)))
    → IsCounted (plus (count_of all) (count_of (brought ++ line ∷ [])))
counted-two all brought line before sum is counted =
    let more = count-append brought (line ∷ []) in
    record {
      lines = omega (arith, counted.lines, ap (λ (c : Count). c.lines) is, ap (λ (c : Count). c.lines) more);
      characters =
          omega (arith, counted.characters, ap (λ (c : Count). c.characters) is, ap (λ (c : Count). c.characters) more);
      marks = omega (arith, counted.marks, ap (λ (c : Count). c.marks) is, ap (λ (c : Count). c.marks) more);
    }

pub covers-new : (pieces : List Piece) (piece : Piece) (u kept gone : ℕ) (made base : List LineContent)
    (line : LineContent) (sum : Count)
    → Covers pieces u made base sum → u + (kept + gone) ≤ length base → AreRows base → piece.from ≡ u + kept →
    piece.count ≡ gone → piece.lines.items ≡ line ∷ []
    → (kept ≡ 0 → made ≡ take u base) → AreApart line.marks (whole base).marks
    → Covers (pieces ++ piece ∷ []) (u + (kept + gone)) (made ++ (take kept (drop u base) ++ line ∷ [])) base
    (plus sum (line_count line))
covers-new pieces piece u kept gone made base line sum covers within rows from count lines first alone =
    let middle = take kept (drop u base) in
    let more = take gone (drop (u + kept) base) in
    let all = fronts u kept gone base in
    let split : (rest : List LineContent) → take (u + kept) base ++ (line ∷ rest)
    ≡ take u base ++ (middle ++ line ∷ rest) =
    λ rest. ap (λ xs. xs ++ (line ∷ rest)) (take-more u kept base) ∙ append_assoc (take u base) middle (line ∷ rest) in
    let state : (rest : List LineContent) →
    spliced piece.from piece.count piece.lines.items (take (u + (kept + gone)) base ++ rest)
    ≡ take (u + kept) base ++ (line ∷ rest) =
    λ rest. new-state piece u kept gone base rest line from count lines within in
    record {
      places = λ rest.
          placed-snoc pieces piece (take (u + (kept + gone)) base ++ rest)
          ∙ ap (placed pieces) (state rest ∙ split rest) ∙ covers.places (middle ++ line ∷ rest)
          ∙ sym (append_assoc made (middle ++ line ∷ []) rest
          ∙ ap (λ xs. made ++ xs) (append_assoc middle (line ∷ []) rest));
      can = λ rest follows.
          let before = follows-before u kept gone made base rest line sum within rows alone follows in
          let apart = apart-front (take (u + kept) base) more rest
          (subst (λ xs. AreApart (whole xs).marks (whole rest).marks) (all
          ∙ ap (λ xs. xs ++ more) (sym (take-more u kept base))) follows.apart) in
          let here = rows-new u kept made base (line ∷ rest) (omega arith) (omega (arith, within)) rows first
          (apart-line (u + kept) base rest line alone apart) before.rows in
          let are : AreLines (take (u + kept) base ++ (line ∷ rest)) = record {
            some = omega (arith, length-append (take (u + kept) base) (line ∷ rest));
            rows = here;
            counted = counted-new (take (u + kept) base) more rest line sum
                (subst (λ xs. IsCounted (plus (count_of (xs ++ rest)) (plus sum (line_count line)))) (all
                ∙ ap (λ xs. xs ++ more) (sym (take-more u kept base))) follows.counted);
          } in
          can-snoc pieces piece (take (u + (kept + gone)) base ++ rest)
          (subst (CanPlace pieces) (sym (state rest ∙ split rest)) (covers.can (middle ++ line ∷ rest) before))
          (record {
            within = omega (
              arith,
              from,
              count,
              within,
              length-take-le (u + (kept + gone)) base within,
              length-append (take (u + (kept + gone)) base) rest,
            );
            are = subst AreLines (sym (state rest)) are;
            counted = subst (λ xs. IsCounted (plus (count_of (take (u + (kept + gone)) base ++ rest)) (count_of xs)))
                (sym lines) (counted-one (take (u + (kept + gone)) base ++ rest) line sum follows.counted);
          });
    }

-- ---- the last piece with a line more
more-state : (last more : Piece) (u gone : ℕ) (base rest : List LineContent) (line : LineContent) →
    last.from + last.count ≡ u → more.from ≡ last.from → more.count ≡ last.count + gone
    → more.lines.items ≡ last.lines.items ++ line ∷ [] → u + gone ≤ length base
    → spliced more.from more.count more.lines.items (take (u + gone) base ++ rest)
    ≡ spliced last.from last.count last.lines.items (take u base ++ (line ∷ rest))
more-state last more u gone base rest line ends from count lines within =
    let one : u + gone ≡ last.from + (last.count + gone) = omega (arith, ends) in
    (λ i. spliced (from i) (count i) (lines i) (take (one i) base ++ rest))
    ∙ spliced-front last.from (last.count + gone) (last.lines.items ++ line ∷ []) base rest
    (omega (arith, ends, within))
    ∙ ap (λ xs. take last.from base ++ xs) (append_assoc last.lines.items (line ∷ []) rest)
    ∙ sym (ap (λ n. spliced last.from last.count last.lines.items (take n base ++ (line ∷ rest))) (sym ends)
    ∙ spliced-front last.from last.count last.lines.items base (line ∷ rest) (omega (arith, ends, within)))

pub covers-more : (before : List Piece) (last more : Piece) (u gone : ℕ) (made base : List LineContent)
    (line : LineContent) (sum : Count)
    → Covers (before ++ last ∷ []) u made base sum → u + gone ≤ length base → AreRows base →
    last.from + last.count ≡ u → more.from ≡ last.from → more.count ≡ last.count + gone
    → more.lines.items ≡ last.lines.items ++ line ∷ [] → AreApart line.marks (whole base).marks → (others : Count) →
    sum ≡ plus others (count_of last.lines.items)
    → Covers (before ++ more ∷ []) (u + (0 + gone)) (made ++ (take 0 (drop u base) ++ line ∷ [])) base
    (plus sum (line_count line))
covers-more before last more u gone made base line sum covers within rows ends from count lines alone others brought =
    let same : u + gone ≡ u + (0 + gone) = omega arith in
    let state : (rest : List LineContent) →
    spliced more.from more.count more.lines.items (take (u + (0 + gone)) base ++ rest)
    ≡ spliced last.from last.count last.lines.items (take u base ++ (line ∷ rest)) =
    λ rest. ap (λ n. spliced more.from more.count more.lines.items (take n base ++ rest)) (sym same)
    ∙ more-state last more u gone base rest line ends from count lines within in
    record {
      places = λ rest.
          placed-snoc before more (take (u + (0 + gone)) base ++ rest)
          ∙ ap (placed before) (state rest) ∙ sym (placed-snoc before last (take u base ++ (line ∷ rest)))
          ∙ covers.places (line ∷ rest) ∙ sym (append_assoc made (line ∷ []) rest);
      can = λ rest follows.
          let can = can-split before last (take u base ++ (line ∷ rest))
          (covers.can (line ∷ rest) (follows-before u 0 gone made base rest line sum (omega (arith, within)) rows alone
          follows)) in
          can-snoc before more (take (u + (0 + gone)) base ++ rest) (subst (CanPlace before) (sym (state rest)) can.0)
          (record {
            within = omega (
              arith,
              from,
              count,
              ends,
              within,
              length-take-le (u + (0 + gone)) base (omega (arith, within)),
              length-append (take (u + (0 + gone)) base) rest,
            );
            are = subst AreLines (sym (state rest)) can.1.are;
            counted =
                subst (λ xs. IsCounted (plus (count_of (take (u + (0 + gone)) base ++ rest)) (count_of xs))) (sym lines)
                (counted-two (take (u + (0 + gone)) base ++ rest) last.lines.items line others sum brought
                follows.counted);
          });
    }

-- ---- all of them
take_long : {A : Type 0} (xs : List A) (n : ℕ) → length xs ≤ n → take n xs ++ [] ≡ xs
take_long xs n long = append-nil (take n xs) ∙ take_all n xs long

whole_rest : (u : ℕ) (base : List LineContent) → u ≤ length base →
    take (length base - u) (drop u base) ++ [] ≡ drop u base
whole_rest u base within = take_long (drop u base) (length base - u) (omega (arith, length-drop u base))

pub covers-all : (pieces : List Piece) (u : ℕ) (made base : List LineContent) (sum : Count) →
    Covers pieces u made base sum → AreRows base → u ≤ length base → AreRows (made ++ drop u base)
    → IsCounted (plus (count_of base) sum) → CanPlace pieces base × (placed pieces base ≡ made ++ drop u base)
covers-all pieces u made base sum covers rows within all counted =
    let same = take-append-drop u base in
    let none : AreApart (whole (take u base)).marks (whole []).marks = λ number place is.
    finite.get-empty nat_cmp number in
    let apart = subst (λ xs. AreApart (whole (take u base)).marks (whole xs).marks) (whole_rest u base within)
    (apart-kept u (length base - u) base [] rows (omega (arith, within)) none) in
    let follows : Follows u made base sum (drop u base) = record {
      rows = all;
      apart = apart;
      counted = subst (λ xs. IsCounted (plus (count_of xs) sum)) (sym same) counted;
    } in (
      subst (CanPlace pieces) same (covers.can (drop u base) follows),
      ap (placed pieces) (sym same) ∙ covers.places (drop u base),
    )
