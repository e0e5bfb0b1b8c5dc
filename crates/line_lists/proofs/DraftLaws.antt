-- Copies of lines in a row, and the lines that they make.
use Rattle.line_lists.proofs.Common.{◌≡◌, ℕ, zero, suc, ◌+◌, ◌-◌, ◌<◌, ◌≤◌, ◌^◌, List, [], ◌∷◌, ◌++◌, length, take}
use Rattle.line_lists.proofs.Common.{drop, refl, sym, ap, ap₂, ◌∙◌, subst, arith, append_assoc, length-append, reverse}
use Rattle.line_lists.proofs.Common.{slice_get, append-nil, drop-drop, map-append, nil_from_length, reverse-append}
use Rattle.line_lists.proofs.Common.{take_all, take_more, get_or_from_slice_get, slice_get_within, differing, Count}
use Rattle.line_lists.proofs.Common.{LineContent, Copied, Reached, Stop, AreStops, BeginsBehind, BeginsBy, CanFollow}
use Rattle.line_lists.proofs.Common.{IsDraft, IsReached, LastBeginsBehind, IsStop, copies_of, covered, drafted}
use Rattle.line_lists.proofs.Common.{in_order, line_start, lines_before, made_lines, used, IsCounted, count_of, whole}
use Rattle.line_lists.proofs.Common.{tags_left_of, None, Option, Some}
use Rattle.line_lists.proofs.CountRows.{count-append, count-characters, count-parity}
use Rattle.line_lists.proofs.SlotLaws.{differing-again}
use Rattle.line_lists.proofs.StepLaws.{take-slice}
use Rattle.line_lists.proofs.TagLaws.{behind-append}
use Rattle.line_lists.proofs.WholeLaws.{whole-append, whole-one}

pub used-append : (xs ys : List Copied) → used (xs ++ ys) ≡ used xs + used ys
used-append [] ys = omega arith
used-append (x ∷ xs) ys = omega (arith, used-append xs ys)

pub made-append : (xs ys : List Copied) (lines : List LineContent) →
    made_lines (xs ++ ys) lines ≡ made_lines xs lines ++ made_lines ys (drop (used xs) lines)
made-append [] ys lines = refl
made-append (x ∷ xs) ys lines =
    ap (λ rest. take x.kept lines ++ x.line ∷ rest)
    (made-append xs ys (drop (covered x) lines)
    ∙ ap (λ rest. made_lines xs (drop (covered x) lines) ++ made_lines ys rest) (drop-drop (used xs) (covered x) lines))
    ∙ sym (append_assoc (take x.kept lines) (x.line ∷ made_lines xs (drop (covered x) lines))
    (made_lines ys (drop (covered x + used xs) lines)))

pub drafted-append : (xs ys : List Copied) (lines : List LineContent) →
    drafted (xs ++ ys) lines ≡ made_lines xs lines ++ drafted ys (drop (used xs) lines)
drafted-append xs ys lines =
    ap₂ (λ front rest. front ++ rest) (made-append xs ys lines) (ap (λ n. drop n lines) (used-append xs ys)
    ∙ sym (drop-drop (used ys) (used xs) lines))
    ∙ append_assoc (made_lines xs lines) (made_lines ys (drop (used xs) lines)) (drop (used ys) (drop (used xs) lines))

-- the stop of a copy that follows what is covered
abbrev pub stop_of : List LineContent → Reached → Copied → Stop
stop_of lines reached copy = record {
  reached = reached;
  start = line_start reached copy lines;
  copy = copy;
}

-- the place moves by a copy
pub copies-snoc : (front : List Stop) (stop : Stop) → copies_of (front ++ stop ∷ []) ≡ copies_of front ++ stop.copy ∷ []
copies-snoc front stop = map-append (λ (x : Stop). x.copy) front (stop ∷ [])

pub in_order-moved : (front : List Stop) (back : List Copied) (stop : Stop) →
    in_order (front ++ stop ∷ []) back ≡ in_order front (back ++ stop.copy ∷ [])
in_order-moved front back stop =
    ap (λ copies. copies ++ reverse back) (copies-snoc front stop)
    ∙ append_assoc (copies_of front) (stop.copy ∷ []) (reverse back)
    ∙ ap (λ rest. copies_of front ++ rest) (sym (reverse-append back (stop.copy ∷ [])))

pub stops-snoc : (lines : List LineContent) (before : List Copied) (front : List Stop) (stop : Stop)
    → AreStops lines before front → IsStop stop (before ++ copies_of front) lines →
    AreStops lines before (front ++ stop ∷ [])
stops-snoc lines before [] stop stops placed =
    (subst (λ copies. IsStop stop copies lines) (append-nil before) placed, tt)
stops-snoc lines before (first ∷ front) stop stops placed = (
  stops.0,
  stops-snoc lines (before ++ first.copy ∷ []) front stop stops.1
      (subst (λ copies. IsStop stop copies lines)
      (sym (append_assoc before (first.copy ∷ []) (copies_of front))) placed),
)

pub stops-front : (lines : List LineContent) (before : List Copied) (front : List Stop) (stop : Stop) →
    AreStops lines before (front ++ stop ∷ []) → AreStops lines before front
stops-front lines before [] stop stops = tt
stops-front lines before (first ∷ front) stop stops =
    (stops.0, stops-front lines (before ++ first.copy ∷ []) front stop stops.1)

pub stops-end : (lines : List LineContent) (before : List Copied) (front : List Stop) (stop : Stop)
    → AreStops lines before (front ++ stop ∷ []) → IsStop stop (before ++ copies_of front) lines
stops-end lines before [] stop stops =
    subst (λ copies. IsStop stop copies lines) (sym (append-nil before)) stops.0
stops-end lines before (first ∷ front) stop stops =
    subst (λ copies. IsStop stop copies lines) (append_assoc before (first.copy ∷ []) (copies_of front))
    (stops-end lines (before ++ first.copy ∷ []) front stop stops.1)

pub stops-last : (lines : List LineContent) (before : List Copied) (front : List Stop) (stop : Stop)
    → AreStops lines before (front ++ stop ∷ []) → IsReached stop.reached (before ++ copies_of front) lines
stops-last lines before front stop stops = (stops-end lines before front stop stops).reached

-- the last copy before the place begins where its stop says
pub last-start : (lines : List LineContent) (front before : List Stop) (back : List Copied) (stop : Stop) →
    IsDraft lines front back → front ≡ before ++ stop ∷ [] → stop.start ≡ line_start stop.reached stop.copy lines
last-start lines front before back stop draft is =
    (stops-end lines [] before stop (subst (AreStops lines []) is draft.stops)).start

pub draft-back : (lines : List LineContent) (front : List Stop) (back : List Copied) (stop : Stop) →
    IsDraft lines (front ++ stop ∷ []) back → IsDraft lines front (back ++ stop.copy ∷ [])
draft-back lines front back stop draft =
    let same = in_order-moved front back stop in record {
      stops = stops-front lines [] front stop draft.stops;
      there = subst (λ copies. used copies ≤ length lines) same draft.there;
      counted = subst (λ copies. length (whole (drafted copies lines)).columns < 2 ^ 64) same draft.counted;
    }

pub draft-forth : (lines : List LineContent) (front : List Stop) (back : List Copied) (stop : Stop) →
    IsDraft lines front (back ++ stop.copy ∷ []) → IsStop stop (copies_of front) lines
    → IsDraft lines (front ++ stop ∷ []) back
draft-forth lines front back stop draft placed =
    let same = sym (in_order-moved front back stop) in record {
      stops = stops-snoc lines [] front stop draft.stops placed;
      there = subst (λ copies. used copies ≤ length lines) same draft.there;
      counted = subst (λ copies. length (whole (drafted copies lines)).columns < 2 ^ 64) same draft.counted;
    }

pub add_groups : (a b c : ℕ) → a + (b + c) ≡ (a + b) + c
add_groups a b c = omega arith

pub made-snoc : (copies : List Copied) (copy : Copied) (lines : List LineContent)
    → made_lines (copies ++ copy ∷ []) lines ≡ made_lines copies lines
    ++ (take copy.kept (drop (used copies) lines) ++ copy.line ∷ [])
made-snoc copies copy lines = made-append copies (copy ∷ []) lines

pub length-whole : (xs ys : List LineContent) → length (whole (xs ++ ys)).columns
    ≡ length (whole xs).columns + length (whole ys).columns
length-whole xs ys = ap (λ (line : LineContent). length line.columns) (whole-append xs ys)
    ∙ length-append (whole xs).columns (whole ys).columns

pub behind-whole : (xs ys : List LineContent) → tags_left_of (whole (xs ++ ys)).columns
    ≡ differing (tags_left_of (whole xs).columns) (tags_left_of (whole ys).columns)
behind-whole xs ys = ap (λ (line : LineContent). tags_left_of line.columns) (whole-append xs ys)
    ∙ behind-append (whole xs).columns (whole ys).columns

-- the lines from one on, so many of them, by what is counted before them and behind them
pub take-more : {A : Type 0} (n k : ℕ) (xs : List A) → take (n + k) xs ≡ take n xs ++ take k (drop n xs)
take-more n k xs =
    take-slice n (n + k) xs (omega arith)
    ∙ ap (λ m. take n xs ++ take m (drop n xs)) (let same : (n + k) - n ≡ k = omega arith in same)

pub counted-between : (n k : ℕ) (lines : List LineContent)
    → (count_of (take (n + k) lines)).characters ≡ (count_of (take n lines)).characters
    + length (whole (take k (drop n lines))).columns
counted-between n k lines =
    let part = take k (drop n lines) in
    ap (λ xs. (count_of xs).characters) (take-more n k lines)
    ∙ ap (λ (c : Count). c.characters) (count-append (take n lines) part)
    ∙ ap (λ m. (count_of (take n lines)).characters + m) (count-characters part)

pub parity-between : (n k : ℕ) (lines : List LineContent)
    → differing (count_of (take n lines)).parity (count_of (take (n + k) lines)).parity
    ≡ tags_left_of (whole (take k (drop n lines))).columns
parity-between n k lines =
    let part = take k (drop n lines) in
    let before = (count_of (take n lines)).parity in
    ap (λ xs. differing before (count_of xs).parity) (take-more n k lines)
    ∙ ap (λ (c : Count). differing before c.parity) (count-append (take n lines) part)
    ∙ differing-again before (count_of part).parity
    ∙ count-parity part

-- what copies cover, with one more
pub reached-more : (reached new : Reached) (copies : List Copied) (copy : Copied) (lines : List LineContent) →
    IsReached reached copies lines
    → new.used ≡ reached.used + covered copy
    → new.characters ≡ reached.characters + length (whole (take copy.kept (drop reached.used lines))).columns
    + length copy.line.columns
    → IsReached new (copies ++ copy ∷ []) lines
reached-more reached new copies copy lines so_far used_is characters_are =
    let kept = take copy.kept (drop (used copies) lines) in
    let kept_is : take copy.kept (drop reached.used lines)
    ≡ kept = ap (λ n. take copy.kept (drop n lines)) so_far.used in
    let made = made_lines copies lines in
    let snoc = made-snoc copies copy lines in
    record {
      used = omega (arith, used_is, so_far.used, used-append copies (copy ∷ []));
      characters =
          characters_are
          ∙ ap₂ (λ n part. n + length (whole part).columns + length copy.line.columns) so_far.characters kept_is
          ∙ sym (ap (λ xs. length (whole xs).columns) snoc ∙ length-whole made (kept ++ copy.line ∷ [])
          ∙ ap (λ n. length (whole made).columns + n) (length-whole kept (copy.line ∷ [])
          ∙ ap (λ (line : LineContent). length (whole kept).columns + length line.columns) (whole-one copy.line))
          ∙ add_groups (length (whole made).columns) (length (whole kept).columns) (length copy.line.columns));
    }

-- nothing is copied
pub draft-none : (lines : List LineContent) → IsCounted (count_of lines) → IsDraft lines [] []
draft-none lines all = record {
  stops = tt;
  there = omega arith;
  counted = omega (arith, all.characters, count-characters lines);
}

-- the last of the copies before the place can follow those before it
pub can-follow : (lines : List LineContent) (front : List Stop) (back : List Copied) (stop : Stop) →
    IsDraft lines (front ++ stop ∷ []) back → CanFollow stop.reached stop.copy lines
can-follow lines front back stop draft =
    let copies = copies_of front in
    let copy = stop.copy in
    let reached = stops-last lines [] front stop draft.stops in
    let kept = take copy.kept (drop (used copies) lines) in
    let made = made_lines copies lines in
    let all = in_order (front ++ stop ∷ []) back in
    let order : all ≡ (copies ++ copy ∷ []) ++ reverse back = ap (λ xs. xs ++ reverse back) (copies-snoc front stop) in
    let covers : used all ≡ (used copies + used (copy ∷ [])) + used (reverse back) =
    ap used order ∙ used-append (copies ++ copy ∷ []) (reverse back)
    ∙ ap (λ n. n + used (reverse back)) (used-append copies (copy ∷ [])) in
    let long : length (whole (drafted all lines)).columns
    ≡ length (whole (made_lines (copies ++ copy ∷ []) lines)).columns
    + length (whole (drafted (reverse back) (drop (used (copies ++ copy ∷ [])) lines))).columns =
    ap (λ xs. length (whole (drafted xs lines)).columns) order
    ∙ ap (λ xs. length (whole xs).columns) (drafted-append (copies ++ copy ∷ []) (reverse back) lines)
    ∙ length-whole (made_lines (copies ++ copy ∷ []) lines)
    (drafted (reverse back) (drop (used (copies ++ copy ∷ [])) lines)) in
    let part : length (whole (made_lines (copies ++ copy ∷ []) lines)).columns
    ≡ length (whole made).columns + (length (whole kept).columns + length copy.line.columns) =
    ap (λ xs. length (whole xs).columns) (made-snoc copies copy lines) ∙ length-whole made (kept ++ copy.line ∷ [])
    ∙ ap (λ n. length (whole made).columns + n) (length-whole kept (copy.line ∷ [])
    ∙ ap (λ (line : LineContent). length (whole kept).columns + length line.columns) (whole-one copy.line)) in
    let here : length (whole (take copy.kept (drop stop.reached.used lines))).columns
    ≡ length (whole kept).columns = ap (λ n. length (whole (take copy.kept (drop n lines))).columns) reached.used in
    record {
      there = omega (arith, reached.used, covers, draft.there);
      counted = omega (arith, reached.characters, here, long, part, draft.counted);
    }

-- the last of a list
pub none_at : {A : Type 0} (xs : List A) (n : ℕ) → slice_get xs n ≡ None → length xs ≤ n
none_at [] n is = omega arith
none_at {A = A} (x ∷ xs) zero is = let no : ◌≡◌ {A = Option A} (Some x) None = is in absurd (cc)
none_at (x ∷ xs) (suc n) is = omega (arith, none_at xs n is)

pub no_last : {A : Type 0} (xs : List A) → None ≡ slice_get xs (length xs - 1) → xs ≡ []
no_last xs is =
    let small = none_at xs (length xs - 1) (sym is) in
    nil_from_length xs (omega (arith, small))

pub last_is : {A : Type 0} (xs : List A) (x : A) → Some x ≡ slice_get xs (length xs - 1) →
    xs ≡ take (length xs - 1) xs ++ x ∷ []
last_is xs x is =
    let n = length xs - 1 in
    let within = slice_get_within xs n x (sym is) in
    sym (take_all (n + 1) xs (omega (arith, within))) ∙ take_more xs n x within
    ∙ ap (λ y. take n xs ++ y ∷ []) (get_or_from_slice_get xs n x x (sym is))

-- where the line of a copy begins
pub start-is : (lines : List LineContent) (copies : List Copied) (reached : Reached) (copy : Copied) →
    IsReached reached copies lines
    → line_start reached copy lines ≡ length (whole (lines_before copies copy lines)).columns
start-is lines copies reached copy is =
    ap₂ (λ n k. n + length (whole (take copy.kept (drop k lines))).columns) is.characters is.used
    ∙ sym (length-whole (made_lines copies lines) (take copy.kept (drop (used copies) lines)))

pub some_same : {A : Type 0} (x y : A) → ◌≡◌ {A = Option A} (Some x) (Some y) → x ≡ y
some_same x y is = cc

last_of : {A : Type 0} (xs : List A) (x : A) → slice_get (xs ++ x ∷ []) (length xs) ≡ Some x
last_of [] x = refl
last_of (y ∷ ys) x = last_of ys x

pub last_same : {A : Type 0} (all before : List A) (x y : A) → Some x ≡ slice_get all (length all - 1) →
    all ≡ before ++ y ∷ [] → x ≡ y
last_same all before x y last is =
    let long : length all - 1 ≡ length before = omega (arith, ap length is, length-append before (y ∷ [])) in
    some_same x y (last ∙ ap₂ slice_get is long ∙ last_of before y)

-- the last copy is the one behind all others, and its line begins where its stop says
last-begins : (lines : List LineContent) (front before : List Stop) (back : List Copied) (stop other : Stop) →
    IsDraft lines front back → Some stop ≡ slice_get front (length front - 1) → front ≡ before ++ other ∷ []
    → line_start stop.reached stop.copy lines
    ≡ length (whole (lines_before (copies_of before) other.copy lines)).columns
last-begins lines front before back stop other draft last is =
    ap (λ (x : Stop). line_start x.reached x.copy lines) (last_same front before stop other last is)
    ∙ start-is lines (copies_of before) other.reached other.copy
    (stops-last lines [] before other (subst (AreStops lines []) is draft.stops))

pub begins-by : (lines : List LineContent) (offset : ℕ) (front : List Stop) (back : List Copied) (stop : Stop) →
    IsDraft lines front back
    → Some stop ≡ slice_get front (length front - 1) → line_start stop.reached stop.copy lines ≤ offset →
    BeginsBy lines offset front
begins-by lines offset front back stop draft last small before other is =
    omega (arith, small, last-begins lines front before back stop other draft last is)

pub last-begins-behind : (lines : List LineContent) (offset : ℕ) (front : List Stop) (back : List Copied) (stop : Stop) →
    IsDraft lines front back
    → Some stop ≡ slice_get front (length front - 1) → offset < line_start stop.reached stop.copy lines →
    LastBeginsBehind lines offset front
last-begins-behind lines offset front back stop draft last large before other is =
    omega (arith, large, last-begins lines front before back stop other draft last is)

pub begins-behind : (lines : List LineContent) (offset : ℕ) (front : List Stop) (back : List Copied) (reached : Reached)
    (copy : Copied) → IsReached reached (copies_of front) lines
    → Some copy ≡ slice_get back (length back - 1) → offset < line_start reached copy lines →
    BeginsBehind lines offset front back
begins-behind lines offset front back reached copy is last large behind other back_is =
    let same = last_same back behind copy other last back_is in
    omega (
      arith,
      large,
      ap (λ (x : Copied). line_start reached x lines) same,
      start-is lines (copies_of front) reached other is,
    )

pub behind-none : (lines : List LineContent) (offset : ℕ) (front : List Stop) (back : List Copied) → back ≡ [] →
    BeginsBehind lines offset front back
behind-none lines offset front back none behind other is =
    let long : 0 ≡ length behind + 1 = sym (ap length none) ∙ ap length is ∙ length-append behind (other ∷ []) in
    absurd (omega (arith, long))

pub can-follow-next : (lines : List LineContent) (front : List Stop) (back behind : List Copied) (reached : Reached)
    (copy : Copied) → IsDraft lines front back → IsReached reached (copies_of front) lines
    → back ≡ behind ++ copy ∷ [] → CanFollow reached copy lines
can-follow-next lines front back behind reached copy draft is back_is =
    let stop : Stop = stop_of lines reached copy in
    can-follow lines front behind stop
    (draft-forth lines front behind stop (subst (λ items. IsDraft lines front items) back_is draft)
    (record { reached = is; start = refl }))

-- the place moves by the next copy, whose line begins at an offset or before it
pub forth-by : (lines : List LineContent) (offset : ℕ) (front : List Stop) (all back : List Copied) (stop : Stop)
    (copy : Copied) → IsDraft lines front all → all ≡ back ++ stop.copy ∷ []
    → Some copy ≡ slice_get all (length all - 1) → IsReached stop.reached (copies_of front) lines →
    stop.start ≡ line_start stop.reached copy lines → stop.start ≤ offset
    → IsDraft lines (front ++ stop ∷ []) back × BeginsBy lines offset (front ++ stop ∷ [])
forth-by lines offset front all back stop copy draft all_is last reached start small =
    let same = start ∙ ap (λ x. line_start stop.reached x lines) (last_same all back copy stop.copy last all_is) in
    let forth = draft-forth lines front back stop (subst (IsDraft lines front) all_is draft)
    (record { reached = reached; start = same }) in
    let long : length front ≡ length (front ++ stop ∷ []) - 1 = omega (arith, length-append front (stop ∷ [])) in (
      forth,
      begins-by lines offset (front ++ stop ∷ []) back stop forth
          (sym (last_of front stop) ∙ ap (slice_get (front ++ stop ∷ [])) long) (omega (arith, small, same)),
    )
