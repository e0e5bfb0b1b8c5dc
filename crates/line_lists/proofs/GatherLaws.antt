-- Copies that become pieces, one by one.
use Rattle.line_lists.proofs.Common.{◌≡◌, ℕ, ◌+◌, ◌-◌, ◌<◌, ◌≤◌, Bool, true, false, cond, List, [], ◌∷◌, ◌++◌, Option}
use Rattle.line_lists.proofs.Common.{None, Some, length, get_or, set, map, take, drop, refl, sym, ap, ap₂, subst}
use Rattle.line_lists.proofs.Common.{subst₂, ◌∙◌, arith, append_assoc, length-append, reverse, nat_cmp_total, All}
use Rattle.line_lists.proofs.Common.{eq_by_cmp, nat_cmp, append-nil, at_drop_more, length-set, map-append}
use Rattle.line_lists.proofs.Common.{nil_from_length, take_all, take_more, take_more_set, All-drop, All-push, All-take}
use Rattle.line_lists.proofs.Common.{All-weaker, drop-append_seam, take-append_seam, MarkNo, Place, same_marks}
use Rattle.line_lists.proofs.Common.{plus-associative, plus-no_text, Count, counting, no_text, plus, LineContent}
use Rattle.line_lists.proofs.Common.{line_count, Copied, Stop, Piece, AreStops, IsText, copies_of, drafted, drafted_at}
use Rattle.line_lists.proofs.Common.{made_lines, used, without_mark, AreApart, AreLines, AreRows, IsCounted}
use Rattle.line_lists.proofs.Common.{SameNumbers, count_of, spliced, CanPlace, Covers, copied_lines, freed, named}
use Rattle.line_lists.proofs.Common.{numbers_in, numbers_of, piece_lines, placed, whole}
use Rattle.line_lists.proofs.CountRows.{count-append}
use Rattle.line_lists.proofs.DraftLaws.{copies-snoc, made-snoc, used-append}
use Rattle.line_lists.proofs.FreedLaws.{freed-apart, freed-count_characters, freed-count_lines, freed-count_marks}
use Rattle.line_lists.proofs.FreedLaws.{freed-drafted, freed-length, freed-lines, in_names}
use Rattle.line_lists.proofs.PieceLaws.{covers-all, covers-more, covers-new}
use Rattle.std.specs.FinMap as finite

-- the last of a list, as it is and as it becomes
pub last-of : {A : Type 0} (xs : List A) (n : ℕ) (x : A) → n ≡ length xs → 0 < n → x ≡ get_or xs (n - 1) x →
    xs ≡ take (n - 1) xs ++ x ∷ []
last-of xs n x long some is =
    sym (take_all ((n - 1) + 1) xs (omega (arith, long, some)))
    ∙ take_more xs (n - 1) x (omega (arith, long, some)) ∙ ap (λ y. take (n - 1) xs ++ y ∷ []) (sym is)

pub last-set : {A : Type 0} (xs : List A) (n : ℕ) (x : A) → n ≡ length xs → 0 < n →
    set xs (n - 1) x ≡ take (n - 1) xs ++ x ∷ []
last-set xs n x long some =
    sym (take_all ((n - 1) + 1) (set xs (n - 1) x) (omega (arith, long, some, length-set xs (n - 1) x)))
    ∙ take_more_set xs (n - 1) x (omega (arith, long, some))

-- ---- numbers
-- the marks of two numbers go in either order
without_both : (one other : Bool) (found : Option Place) →
    cond one None (cond other None found) ≡ cond other None (cond one None found)
without_both true true found = refl
without_both true false found = refl
without_both false other found = refl

turned-line : (n m : ℕ) (line : LineContent) → without_mark m (without_mark n line)
    ≡ without_mark n (without_mark m line)
turned-line n m line =
    let marks = same_marks (finite.remove (finite.remove line.marks n) m) (finite.remove (finite.remove line.marks m) n)
    (λ q.
    let one = eq_by_cmp nat_cmp q m in
    let other = eq_by_cmp nat_cmp q n in
    finite.get-remove nat_cmp_total (finite.remove line.marks n) m q
    ∙ ap (cond one None) (finite.get-remove nat_cmp_total line.marks n q)
    ∙ without_both one other (finite.get line.marks q)
    ∙ sym (finite.get-remove nat_cmp_total (finite.remove line.marks m) n q
    ∙ ap (cond other None) (finite.get-remove nat_cmp_total line.marks m q))) in
    λ i. record { columns = line.columns; marks = marks i }

turned-lines : (n m : ℕ) (lines : List LineContent) → map (without_mark m) (map (without_mark n) lines)
    ≡ map (without_mark n) (map (without_mark m) lines)
turned-lines n m [] = refl
turned-lines n m (line ∷ lines) = ap₂ (λ x xs. x ∷ xs) (turned-line n m line) (turned-lines n m lines)

freed-first : (number : ℕ) (numbers : List ℕ) (lines : List LineContent) →
    freed numbers (map (without_mark number) lines) ≡ map (without_mark number) (freed numbers lines)
freed-first number [] lines = refl
freed-first number (first ∷ numbers) lines =
    ap (freed numbers) (turned-lines number first lines) ∙ freed-first number numbers (map (without_mark first) lines)

pub freed-before : (numbers : List MarkNo) (i : ℕ) (number : MarkNo) (lines : List LineContent) → 0 < i →
    i ≤ length numbers
    → map (without_mark (get_or numbers (i - 1) number).0) (freed (named (drop i numbers)) lines)
    ≡ freed (named (drop (i - 1) numbers)) lines
freed-before numbers i number lines some within =
    let first = (get_or numbers (i - 1) number).0 in
    let here : i ≡ (i - 1) + 1 = omega (arith, some) in
    ap (λ n. map (without_mark first) (freed (named (drop n numbers)) lines)) here
    ∙ sym (at_drop_more (λ ns. freed (named ns) lines) numbers (i - 1) number (omega (arith, some, within))
    ∙ freed-first first (named (drop ((i - 1) + 1) numbers)) lines)

pub bound-more : (numbers : List ℕ) (bound new number : ℕ) → bound ≤ new → number < new →
    All (λ n. n < bound) numbers → All (λ n. n < new) (numbers ++ number ∷ [])
bound-more numbers bound new number more below all =
    All-push (λ n. n < new) numbers number
    (All-weaker (λ n. n < bound) (λ n. n < new) (λ n less. omega (arith, less, more)) numbers all) below

-- ---- the lines of copies
pub copied-snoc : (stops : List Stop) (stop : Stop) → copied_lines (copies_of (stops ++ stop ∷ []))
    ≡ copied_lines (copies_of stops) ++ stop.copy.line ∷ []
copied-snoc stops stop = ap copied_lines (copies-snoc stops stop)
    ∙ map-append (λ (copy : Copied). copy.line) (copies_of stops) (stop.copy ∷ [])

numbers_in-append : (xs ys : List LineContent) → numbers_in (xs ++ ys) ≡ numbers_in xs ++ numbers_in ys
numbers_in-append [] ys = refl
numbers_in-append (x ∷ xs) ys = ap (λ rest. numbers_of x ++ rest) (numbers_in-append xs ys)
    ∙ sym (append_assoc (numbers_of x) (numbers_in xs) (numbers_in ys))

pub numbers-next : (lines : List LineContent) (i : ℕ) (line : LineContent) → i < length lines → line ≡ get_or lines i line
    → numbers_in (take i lines) ++ numbers_of line ≡ numbers_in (take (i + 1) lines)
numbers-next lines i line within is =
    sym (ap numbers_in (take_more lines i line within ∙ ap (λ x. take i lines ++ x ∷ []) (sym is))
    ∙ numbers_in-append (take i lines) (line ∷ [])
    ∙ ap (λ ns. numbers_in (take i lines) ++ ns) (append-nil (numbers_of line)))

copied-more : (stops : List Stop) (i : ℕ) (stop : Stop) → i < length stops → stop ≡ get_or stops i stop
    → copied_lines (copies_of (take (i + 1) stops)) ≡ copied_lines (copies_of (take i stops)) ++ stop.copy.line ∷ []
copied-more stops i stop within is =
    ap (λ xs. copied_lines (copies_of xs)) (take_more stops i stop within ∙ ap (λ x. take i stops ++ x ∷ []) (sym is))
    ∙ copied-snoc (take i stops) stop

pub numbers-stop : (stops : List Stop) (i : ℕ) (stop : Stop) → i < length stops → stop ≡ get_or stops i stop
    → numbers_in (copied_lines (copies_of (take i stops))) ++ numbers_of stop.copy.line
    ≡ numbers_in (copied_lines (copies_of (take (i + 1) stops)))
numbers-stop stops i stop within is =
    sym (ap numbers_in (copied-more stops i stop within is)
    ∙ numbers_in-append (copied_lines (copies_of (take i stops))) (stop.copy.line ∷ [])
    ∙ ap (λ ns. numbers_in (copied_lines (copies_of (take i stops))) ++ ns) (append-nil (numbers_of stop.copy.line)))

count-snoc : (xs : List LineContent) (line : LineContent) →
    count_of (xs ++ line ∷ []) ≡ plus (count_of xs) (line_count line)
count-snoc xs line = count-append xs (line ∷ []) ∙ ap (plus (count_of xs)) (plus-no_text (line_count line))

pub count-stop : (stops : List Stop) (i : ℕ) (stop : Stop) (lines : Count) → i < length stops →
    stop ≡ get_or stops i stop
    → plus (plus lines (count_of (copied_lines (copies_of (take i stops))))) (line_count stop.copy.line)
    ≡ plus lines (count_of (copied_lines (copies_of (take (i + 1) stops))))
count-stop stops i stop lines within is =
    plus-associative lines (count_of (copied_lines (copies_of (take i stops)))) (line_count stop.copy.line)
    ∙ ap (plus lines) (sym (ap count_of (copied-more stops i stop within is)
    ∙ count-snoc (copied_lines (copies_of (take i stops))) stop.copy.line))

-- ---- the lines of pieces
pub piece_lines-snoc : (pieces : List Piece) (piece : Piece) →
    piece_lines (pieces ++ piece ∷ []) ≡ piece_lines pieces ++ piece.lines.items
piece_lines-snoc [] piece = append-nil piece.lines.items
piece_lines-snoc (first ∷ pieces) piece =
    ap (λ rest. first.lines.items ++ rest) (piece_lines-snoc pieces piece)
    ∙ sym (append_assoc first.lines.items (piece_lines pieces) piece.lines.items)

pub numbers-piece : (pieces : List Piece) (i : ℕ) (piece : Piece) → i < length pieces → piece ≡ get_or pieces i piece
    → numbers_in (piece_lines (take i pieces)) ++ numbers_in piece.lines.items
    ≡ numbers_in (piece_lines (take (i + 1) pieces))
numbers-piece pieces i piece within is =
    sym (ap (λ ps. numbers_in (piece_lines ps)) (take_more pieces i piece within
    ∙ ap (λ p. take i pieces ++ p ∷ []) (sym is))
    ∙ ap numbers_in (piece_lines-snoc (take i pieces) piece)
    ∙ numbers_in-append (piece_lines (take i pieces)) piece.lines.items)

-- what holds of each line that pieces bring
pub all-pieces : (P : LineContent → Type 0) (pieces : List Piece) (piece : Piece) →
    All P (piece_lines (pieces ++ piece ∷ [])) → All P (piece_lines pieces) × All P piece.lines.items
all-pieces P pieces piece all =
    let parts = subst (All P) (piece_lines-snoc pieces piece) all in (
      subst (All P) (take-append_seam (piece_lines pieces) piece.lines.items)
          (All-take P (length (piece_lines pieces)) (piece_lines pieces ++ piece.lines.items) parts),
      subst (All P) (drop-append_seam (piece_lines pieces) piece.lines.items)
          (All-drop P (length (piece_lines pieces)) (piece_lines pieces ++ piece.lines.items) parts),
    )

-- ---- copies become pieces
abbrev pub base_of : List Stop → List LineContent → List LineContent
base_of front lines = freed (numbers_in (copied_lines (copies_of front))) lines

pub record Gathers (front stops : List Stop) (lines : List LineContent) (pieces : List Piece) : Type 0 where
  pub covers : Covers pieces (used (copies_of stops)) (made_lines (copies_of stops) (base_of front lines))
      (base_of front lines) (count_of (copied_lines (copies_of stops)))
  pub ends : (before : List Piece) (last : Piece) → pieces ≡ before ++ last ∷ [] →
      last.from + last.count ≡ used (copies_of stops)
  pub none : pieces ≡ [] → stops ≡ []
  pub brings : piece_lines pieces ≡ copied_lines (copies_of stops)
  pub one : (piece : Piece) → pieces ≡ piece ∷ [] →
      made_lines (copies_of stops) lines ≡ take piece.from lines ++ piece.lines.items

-- what holds of the copies, and the next of them
pub record Goes (front before : List Stop) (lines : List LineContent) (stop : Stop) (rest : List Stop) : Type 0 where
  pub all : front ≡ before ++ stop ∷ rest
  pub are : AreLines lines
  pub stops : AreStops lines [] front
  pub there : used (copies_of front) ≤ length lines

pub goes-of : (front stops : List Stop) (lines : List LineContent) (stop : Stop) (rest : List Stop) → AreLines lines →
    IsText lines front [] → front ≡ stops ++ stop ∷ rest → Goes front stops lines stop rest
goes-of front stops lines stop rest are is all = record {
  all = all;
  are = are;
  stops = is.draft.stops;
  there = omega (arith, is.draft.there, used-append (copies_of front) (reverse []));
}

next-used : (front stops : List Stop) (lines : List LineContent) (stop : Stop) (rest : List Stop) →
    Goes front stops lines stop rest → used (copies_of stops) + (stop.copy.kept + stop.copy.gone) ≤ length lines
next-used front stops lines stop rest goes =
    let all = ap (λ xs. used (copies_of xs)) goes.all ∙ ap used (map-append (λ (x : Stop). x.copy) stops (stop ∷ rest))
    ∙ used-append (copies_of stops) (copies_of (stop ∷ rest)) in
    omega (arith, goes.there, all)

stops-here : (lines : List LineContent) (before : List Copied) (stops : List Stop) (stop : Stop) (rest : List Stop) →
    AreStops lines before (stops ++ stop ∷ rest) → stop.reached.used ≡ used before + used (copies_of stops)
stops-here lines before [] stop rest are = omega (arith, are.0.reached.used)
stops-here lines before (first ∷ stops) stop rest are =
    omega (
      arith,
      stops-here lines (before ++ first.copy ∷ []) stops stop rest are.1,
      used-append before (first.copy ∷ []),
    )

pub reached-here : (front stops : List Stop) (lines : List LineContent) (stop : Stop) (rest : List Stop) →
    Goes front stops lines stop rest → stop.reached.used ≡ used (copies_of stops)
reached-here front stops lines stop rest goes =
    omega (arith, stops-here lines [] stops stop rest (subst (AreStops lines []) goes.all goes.stops))

pub next-fits : (front stops : List Stop) (lines : List LineContent) (stop : Stop) (rest : List Stop) →
    Goes front stops lines stop rest → stop.reached.used + (stop.copy.kept + stop.copy.gone) ≤ length lines
next-fits front stops lines stop rest goes =
    omega (arith, reached-here front stops lines stop rest goes, next-used front stops lines stop rest goes)

pub last-fits : (front stops : List Stop) (lines : List LineContent) (stop : Stop) (rest : List Stop)
    (pieces before : List Piece) (last : Piece) → Gathers front stops lines pieces → Goes front stops lines stop rest
    → pieces ≡ before ++ last ∷ [] → last.count + stop.copy.gone ≤ length lines
last-fits front stops lines stop rest pieces before last gathers goes is =
    omega (arith, gathers.ends before last is, next-used front stops lines stop rest goes)

used-snoc : (stops : List Stop) (stop : Stop) → used (copies_of stops) + (stop.copy.kept + stop.copy.gone)
    ≡ used (copies_of (stops ++ stop ∷ []))
used-snoc stops stop = omega (arith, ap used (copies-snoc stops stop), used-append (copies_of stops) (stop.copy ∷ []))

covers-snoc : (front stops : List Stop) (lines : List LineContent) (stop : Stop) (pieces : List Piece)
    → Covers pieces (used (copies_of stops) + (stop.copy.kept + stop.copy.gone))
    (made_lines (copies_of stops) (base_of front lines)
    ++ (take stop.copy.kept (drop (used (copies_of stops)) (base_of front lines)) ++ stop.copy.line ∷ []))
    (base_of front lines) (plus (count_of (copied_lines (copies_of stops))) (line_count stop.copy.line))
    → Covers pieces (used (copies_of (stops ++ stop ∷ [])))
    (made_lines (copies_of (stops ++ stop ∷ [])) (base_of front lines)) (base_of front lines)
    (count_of (copied_lines (copies_of (stops ++ stop ∷ []))))
covers-snoc front stops lines stop pieces covers =
    let base = base_of front lines in
    let made = sym (ap (λ xs. made_lines xs base) (copies-snoc stops stop)
    ∙ made-snoc (copies_of stops) stop.copy base) in
    let sum = sym (ap count_of (copied-snoc stops stop) ∙ count-snoc (copied_lines (copies_of stops)) stop.copy.line) in
    subst (λ n. Covers pieces n (made_lines (copies_of (stops ++ stop ∷ [])) base) base
    (count_of (copied_lines (copies_of (stops ++ stop ∷ []))))) (used-snoc stops stop)
    (subst₂ (λ xs count. Covers pieces (used (copies_of stops) + (stop.copy.kept + stop.copy.gone)) xs base count) made
    sum covers)

alone : (front stops : List Stop) (lines : List LineContent) (stop : Stop) (rest : List Stop) →
    Goes front stops lines stop rest
    → (number : ℕ) (place : Place) → finite.get stop.copy.line.marks number ≡ Some place →
    finite.get (whole (base_of front lines)).marks number ≡ None
alone front stops lines stop rest goes =
    let all : copied_lines (copies_of stops) ++ stop.copy.line ∷ copied_lines (copies_of rest)
    ≡ copied_lines (copies_of front) =
    sym (ap (λ xs. copied_lines (copies_of xs)) goes.all
    ∙ ap copied_lines (map-append (λ (x : Stop). x.copy) stops (stop ∷ rest))
    ∙ map-append (λ (copy : Copied). copy.line) (copies_of stops) (copies_of (stop ∷ rest))) in
    subst (λ xs. AreApart stop.copy.line.marks (whole (freed (numbers_in xs) lines)).marks) all
    (freed-apart (copied_lines (copies_of stops)) (copied_lines (copies_of rest)) stop.copy.line lines)

made-none : (stops : List Stop) (base : List LineContent) → stops ≡ [] →
    made_lines (copies_of stops) base ≡ take (used (copies_of stops)) base
made-none stops base none =
    ap (λ xs. made_lines (copies_of xs) base) none ∙ sym (ap (λ xs. take (used (copies_of xs)) base) none)

-- the last of a list
abbrev final : {A : Type 0} → A → List A → A
final d [] = d
final d (x ∷ xs) = final x xs

final_snoc : {A : Type 0} (d : A) (xs : List A) (x : A) → final d (xs ++ x ∷ []) ≡ x
final_snoc d [] x = refl
final_snoc d (y ∷ xs) x = final_snoc y xs x

snoc_same : {A : Type 0} (xs ys : List A) (x y : A) → xs ++ x ∷ [] ≡ ys ++ y ∷ [] → x ≡ y
snoc_same xs ys x y is = sym (final_snoc x xs x) ∙ ap (final x) is ∙ final_snoc x ys y

-- a list of one that ends in this
snoc_one : {A : Type 0} (xs : List A) (x y : A) → xs ++ x ∷ [] ≡ y ∷ [] → xs ≡ []
snoc_one xs x y is =
    let long : length xs + 1 ≡ 1 = sym (length-append xs (x ∷ [])) ∙ ap length is in
    nil_from_length xs (omega (arith, long))

pub gather-new : (front stops rest : List Stop) (lines : List LineContent) (stop : Stop) (pieces : List Piece)
    (piece : Piece) → Gathers front stops lines pieces → Goes front stops lines stop rest
    → piece.from ≡ stop.reached.used + stop.copy.kept → piece.count ≡ stop.copy.gone →
    piece.lines.items ≡ stop.copy.line ∷ [] → (stop.copy.kept ≡ 0 → pieces ≡ [])
    → Gathers front (stops ++ stop ∷ []) lines (pieces ++ piece ∷ [])
gather-new front stops rest lines stop pieces piece gathers goes from count brought first =
    let base = base_of front lines in
    let numbers = numbers_in (copied_lines (copies_of front)) in
    let here = reached-here front stops lines stop rest goes in
    record {
      covers = covers-snoc front stops lines stop (pieces ++ piece ∷ [])
          (covers-new pieces piece (used (copies_of stops)) stop.copy.kept stop.copy.gone
          (made_lines (copies_of stops) base) base stop.copy.line (count_of (copied_lines (copies_of stops)))
          gathers.covers (omega (arith, next-used front stops lines stop rest goes, freed-length numbers lines))
          (freed-lines numbers lines goes.are).rows (from ∙ ap (λ n. n + stop.copy.kept) here) count brought
          (λ zero. made-none stops base (gathers.none (first zero))) (alone front stops lines stop rest goes));
      ends = λ before last is.
          let same = snoc_same pieces before piece last is in
          omega (
            arith,
            ap (λ (p : Piece). p.from) same,
            ap (λ (p : Piece). p.count) same,
            from,
            count,
            here,
            used-snoc stops stop,
          );
      none = λ is. let long : length pieces + 1 ≡ 0 = sym (length-append pieces (piece ∷ [])) ∙ ap length is in
          absurd (omega (arith, long));
      brings =
          piece_lines-snoc pieces piece ∙ ap₂ (λ xs ys. xs ++ ys) gathers.brings brought ∙ sym (copied-snoc stops stop);
      one = λ only is.
          let none = gathers.none (snoc_one pieces piece only is) in
          let same = snoc_same pieces [] piece only is in
          let begins : only.from ≡ stop.copy.kept = omega (
            arith,
            ap (λ (p : Piece). p.from) same,
            from,
            here,
            ap (λ xs. used (copies_of xs)) none,
          ) in
          ap (λ xs. made_lines (copies_of (xs ++ stop ∷ [])) lines) none
          ∙ ap₂ (λ n items. take n lines ++ items) (sym begins)
          (sym brought ∙ ap (λ (p : Piece). p.lines.items) same);
    }

pub gather-more : (front stops rest : List Stop) (lines : List LineContent) (stop : Stop) (pieces before : List Piece)
    (last more : Piece) → Gathers front stops lines pieces → Goes front stops lines stop rest
    → pieces ≡ before ++ last ∷ [] → stop.copy.kept ≡ 0 → more.from ≡ last.from →
    more.count ≡ last.count + stop.copy.gone → more.lines.items ≡ last.lines.items ++ stop.copy.line ∷ []
    → Gathers front (stops ++ stop ∷ []) lines (before ++ more ∷ [])
gather-more front stops rest lines stop pieces before last more gathers goes pieces_are zero from count brought =
    let base = base_of front lines in
    let numbers = numbers_in (copied_lines (copies_of front)) in
    let ends = gathers.ends before last pieces_are in
    let sum = ap count_of (sym gathers.brings ∙ ap piece_lines pieces_are ∙ piece_lines-snoc before last)
    ∙ count-append (piece_lines before) last.lines.items in
    let covers = covers-more before last more (used (copies_of stops)) stop.copy.gone
    (made_lines (copies_of stops) base) base stop.copy.line (count_of (copied_lines (copies_of stops)))
    (subst (λ ps. Covers ps (used (copies_of stops)) (made_lines (copies_of stops) base) base
    (count_of (copied_lines (copies_of stops)))) pieces_are gathers.covers)
    (omega (arith, next-used front stops lines stop rest goes, zero, freed-length numbers lines))
    (freed-lines numbers lines goes.are).rows ends from count brought (alone front stops lines stop rest goes)
    (count_of (piece_lines before)) sum in
    record {
      covers = covers-snoc front stops lines stop (before ++ more ∷ [])
          (subst (λ k. Covers (before ++ more ∷ []) (used (copies_of stops) + (k + stop.copy.gone))
          (made_lines (copies_of stops) base
          ++ (take k (drop (used (copies_of stops)) base) ++ stop.copy.line ∷ []))
          base (plus (count_of (copied_lines (copies_of stops))) (line_count stop.copy.line))) (sym zero) covers);
      ends = λ others end is.
          let same = snoc_same before others more end is in
          omega (
            arith,
            ap (λ (p : Piece). p.from) same,
            ap (λ (p : Piece). p.count) same,
            from,
            count,
            zero,
            ends,
            used-snoc stops stop,
          );
      none = λ is. let long : length before + 1 ≡ 0 = sym (length-append before (more ∷ [])) ∙ ap length is in
          absurd (omega (arith, long));
      brings =
          piece_lines-snoc before more ∙ ap (λ xs. piece_lines before ++ xs) brought
          ∙ sym (append_assoc (piece_lines before) last.lines.items (stop.copy.line ∷ []))
          ∙ ap (λ xs. xs ++ stop.copy.line ∷ []) (sym (piece_lines-snoc before last) ∙ ap piece_lines (sym pieces_are)
          ∙ gathers.brings) ∙ sym (copied-snoc stops stop);
      one = λ only is.
          let none = snoc_one before more only is in
          let same = snoc_same before [] more only is in
          let was = gathers.one last (pieces_are ∙ ap (λ xs. xs ++ last ∷ []) none) in
          ap (λ xs. made_lines xs lines) (copies-snoc stops stop) ∙ made-snoc (copies_of stops) stop.copy lines
          ∙ ap₂ (λ xs n. xs ++ (take n (drop (used (copies_of stops)) lines) ++ stop.copy.line ∷ [])) was zero
          ∙ append_assoc (take last.from lines) last.lines.items (stop.copy.line ∷ [])
          ∙ ap₂ (λ n items. take n lines ++ items) (sym from ∙ ap (λ (p : Piece). p.from) same)
          (sym brought ∙ ap (λ (p : Piece). p.lines.items) same);
    }

gathered : (front : List Stop) (lines : List LineContent) (pieces : List Piece) → Gathers front front lines pieces →
    AreLines lines → used (copies_of front) ≤ length lines
    → AreRows (drafted (copies_of front) lines) →
    IsCounted (plus (count_of lines) (count_of (copied_lines (copies_of front))))
    → CanPlace pieces (base_of front lines) × (placed pieces (base_of front lines) ≡ drafted (copies_of front) lines)
gathered front lines pieces gathers are there rows counted =
    let numbers = numbers_in (copied_lines (copies_of front)) in
    let base = base_of front lines in
    let copies = copies_of front in
    let same = freed-drafted numbers copies lines rows (λ n names. in_names n (copied_lines copies) names) in
    let found = covers-all pieces (used copies) (made_lines copies base) base (count_of (copied_lines copies))
    gathers.covers (freed-lines numbers lines are).rows
    (omega (arith, there, freed-length numbers lines)) (subst AreRows (sym same) rows) (record {
      lines = omega (arith, counted.lines, freed-count_lines numbers lines);
      characters = omega (arith, counted.characters, freed-count_characters numbers lines);
      marks = omega (arith, counted.marks, freed-count_marks numbers lines);
    }) in
    (found.0, found.1 ∙ same)

-- one piece comes in where no mark is taken off before
gathered-one : (front : List Stop) (lines : List LineContent) (pieces : List Piece)
    → Gathers front front lines pieces → AreLines lines → used (copies_of front) ≤ length lines
    → AreRows (drafted (copies_of front) lines)
    → IsCounted (plus (count_of lines) (count_of (copied_lines (copies_of front)))) → length pieces ≡ 1
    → CanPlace pieces lines × (placed pieces lines ≡ drafted (copies_of front) lines)
gathered-one front lines [] gathers are there rows counted few = absurd (omega (arith, few))
gathered-one front lines (piece ∷ (more ∷ pieces)) gathers are there rows counted few = absurd (omega (arith, few))
gathered-one front lines (piece ∷ []) gathers are there rows counted few =
    let numbers = numbers_in (copied_lines (copies_of front)) in
    let all = gathered front lines (piece ∷ []) gathers are there rows counted in
    let ends = gathers.ends [] piece refl in
    let new : spliced piece.from piece.count piece.lines.items lines ≡ drafted (copies_of front) lines =
    ap₂ (λ xs n. xs ++ drop n lines) (sym (gathers.one piece refl)) ends in
    let brings = sym (append-nil piece.lines.items) ∙ gathers.brings in (
      (
        tt,
        record {
          within = omega (arith, ends, there);
          are = subst AreLines (all.1 ∙ sym new) all.0.1.are;
          counted = subst (λ items. IsCounted (plus (count_of lines) (count_of items))) (sym brings) counted;
        },
      ),
      new,
    )

-- what pieces make once all copies went into them
pub record Makes (front : List Stop) (lines : List LineContent) (pieces : List Piece) : Type 0 where
  pub can : CanPlace pieces (base_of front lines)
  pub new : placed pieces (base_of front lines) ≡ drafted_at lines front []
  pub one : length pieces ≡ 1 → CanPlace pieces lines × (placed pieces lines ≡ drafted_at lines front [])

pub gathered-all : (front stops rest : List Stop) (lines : List LineContent) (pieces : List Piece) →
    Gathers front stops lines pieces → front ≡ stops ++ rest → length rest ≡ 0 → AreLines lines → IsText lines front []
    → IsCounted (plus (count_of lines) (count_of (copied_lines (copies_of front)))) → Makes front lines pieces
gathered-all front stops rest lines pieces gathers all none are is counted =
    let same : stops ≡ front = sym (all ∙ ap (λ xs. stops ++ xs) (nil_from_length rest none) ∙ append-nil stops) in
    let whole_front = subst (λ xs. Gathers front xs lines pieces) same gathers in
    let there : used (copies_of front) ≤ length lines =
    omega (arith, is.draft.there, used-append (copies_of front) (reverse [])) in
    let rows = subst (λ copies. AreRows (drafted copies lines)) (append-nil (copies_of front)) is.rows in
    let as_is = ap (λ copies. drafted copies lines) (sym (append-nil (copies_of front))) in
    let found = gathered front lines pieces whole_front are there rows counted in
    record {
      can = found.0;
      new = found.1 ∙ as_is;
      one = λ few. let single = gathered-one front lines pieces whole_front are there rows counted few in
          (single.0, single.1 ∙ as_is);
    }

-- ---- what is counted, but for toggles
pub numbers-none : (sum all : Count) → SameNumbers sum all → SameNumbers sum (plus all no_text)
numbers-none sum all same =
    let none : (n : ℕ) → n ≡ n + 0 = λ n. omega arith in
    record {
      lines = same.lines ∙ none all.lines;
      characters = same.characters ∙ none all.characters;
      marks = same.marks ∙ none all.marks;
    }

pub numbers-more : (new old all next counted line : Count) → new ≡ plus old counted → SameNumbers counted line →
    SameNumbers old all → plus all line ≡ next → SameNumbers new next
numbers-more new old all next counted line is line_is same more = record {
  lines = ap (λ (s : Count). s.lines) is ∙ ap₂ (λ n m. n + m) same.lines line_is.lines
      ∙ ap (λ (s : Count). s.lines) more;
  characters = ap (λ (s : Count). s.characters) is
      ∙ ap₂ (λ n m. n + m) same.characters line_is.characters ∙ ap (λ (s : Count). s.characters) more;
  marks = ap (λ (s : Count). s.marks) is ∙ ap₂ (λ n m. n + m) same.marks line_is.marks
      ∙ ap (λ (s : Count). s.marks) more;
}

-- the numbers of a line, without its toggles
pub numbers-line : (line : LineContent) →
    SameNumbers (counting 1 (length line.columns) (line_count line).marks) (line_count line)
numbers-line line = record { lines = refl; characters = refl; marks = refl }

pub counted-same : (first second : Count) → SameNumbers first second → IsCounted first → IsCounted second
counted-same first second same counted = record {
  lines = rw (← same.lines) counted.lines;
  characters = rw (← same.characters) counted.characters;
  marks = rw (← same.marks) counted.marks;
}

pub counted-none : (sum all : Count) → SameNumbers sum (plus all no_text) → IsCounted all → IsCounted sum
counted-none sum all same counted = record {
  lines = omega (arith, same.lines, counted.lines);
  characters = omega (arith, same.characters, counted.characters);
  marks = omega (arith, same.marks, counted.marks);
}
