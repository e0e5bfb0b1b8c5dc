-- What is told where a key is put on spans, or taken off them.
use Rattle.reports.proofs.Common.{◌≡◌, ℕ, ◌+◌, ◌-◌, ◌<◌, ◌≤◌, Bool, true, false, not, List, [], ◌∷◌, ◌++◌, map, length}
use Rattle.reports.proofs.Common.{take, drop, get_or, refl, sym, ap, ap₂, ◌∙◌, arith, subst, append_assoc, Some, cond}
use Rattle.reports.proofs.Common.{slice_range, All, drop-drop, drop-take, get_or-drop, get_or-map, get_or-take}
use Rattle.reports.proofs.Common.{length-append, length-drop, length-map, length-take-le, length-take, map-append}
use Rattle.reports.proofs.Common.{take-append-drop, take-take, take_more, All-drop, All-from_get_or, All-get_or}
use Rattle.reports.proofs.Common.{All-head, All-tail, All-take, drop_split, get_or_from_slice_get, flags, flag_at}
use Rattle.reports.proofs.Common.{is_alike, next_change, changed, length-changed, map-slice_range, in_spans, SpanFits}
use Rattle.reports.proofs.Common.{Span, KeyedCell, with_key, with_tag, Key, set_key, IsTagChange, TellsSpan, TellsSpans}
use Rattle.reports.proofs.Common.{TellsTags, flags_of, TagChange, slice_get, next-alike}
use Rattle.edit_ops.specs.Deletions.{AreApart}
use mathlib.Core.Bool.{beq}
use Rattle.std.proofs.lemmas.List.Edits.{split_between}
use Rattle.edit_ops.proofs.DeltaLaws.{apart-at}
use Rattle.reports.proofs.BridgeLaws.{contains-set_key, key_itself}
use Rattle.reports.proofs.LookupLaws.{has}
use Rattle.edit_ops.proofs.PaintLaws.{apart-fit, painted, painted-front, painted-idle, painted-long, painted-push}
use Rattle.edit_ops.proofs.PaintLaws.{painted-same}
use Rattle.reports.proofs.TagsToldLaws.{drop-changed, part-changed, set_again, tells-then}
use Rattle.std.specs.FinSet as set

-- ---- parts of a list

part-front : {A : Type 0} (xs : List A) (from at end : ℕ) → from ≤ at → at ≤ end →
    slice_range xs from at ≡ take (at - from) (slice_range xs from end)
part-front xs from at end ordered within = sym (take-take (at - from) (end - from) (drop from xs) (omega arith))

part-back : {A : Type 0} (xs : List A) (from at end : ℕ) → from ≤ at → at ≤ end →
    slice_range xs at end ≡ drop (at - from) (slice_range xs from end)
part-back xs from at end ordered within =
    let here : from + (at - from) ≡ at = omega arith in
    let long : (at - from) + (end - at) ≡ end - from = omega arith in
    ap (λ k. take (end - at) (drop k xs)) (sym here)
    ∙ ap (take (end - at)) (sym (drop-drop (at - from) from xs))
    ∙ sym (drop-take (at - from) (end - at) (drop from xs))
    ∙ ap (λ k. drop (at - from) (take k (drop from xs))) long

part-split : {A : Type 0} (xs : List A) (from at end : ℕ) → from ≤ at → at ≤ end →
    slice_range xs from end ≡ slice_range xs from at ++ slice_range xs at end
part-split xs from at end ordered within =
    sym (take-append-drop (at - from) (slice_range xs from end))
    ∙ sym (ap₂ (λ a b. a ++ b) (part-front xs from at end ordered within) (part-back xs from at end ordered within))

-- a part of a front
front-part : {A : Type 0} (xs : List A) (from to : ℕ) → from ≤ to → slice_range xs from to ≡ drop from (take to xs)
front-part xs from to ordered =
    let here : from + (to - from) ≡ to = omega arith in
    sym (drop-take from (to - from) xs) ∙ ap (λ k. drop from (take k xs)) here

-- two changes by one function, the second right behind the first
changed-twice : {A : Type 0} (f : A → A) (from at end : ℕ) (xs : List A) → from ≤ at → at ≤ end → end ≤ length xs →
    changed f at end (changed f from at xs) ≡ changed f from end xs
changed-twice f from at end xs ordered more within =
    let front = take from xs in
    let first = slice_range xs from at in
    let second = slice_range xs at end in
    let back = drop end xs in
    let split : changed f from at xs ≡ (front ++ map f first) ++ second ++ back =
    ap (λ ys. front ++ map f first ++ ys) (drop_split xs at end more)
    ∙ sym (append_assoc (front ++ map f first) second back) in
    let starts : at ≡ length (front ++ map f first) =
    omega (
      arith,
      length-append front (map f first),
      length-map first f,
      length-take-le from xs (omega arith),
      length-take-le (at - from) (drop from xs) (omega (arith, length-drop from xs)),
    ) in
    let ends : end ≡ length (front ++ map f first) + length second =
    omega (arith, starts, length-take-le (end - at) (drop at xs) (omega (arith, length-drop at xs))) in
    ap (changed f at end) split
    ∙ part-changed f (front ++ map f first) second back at end starts ends
    ∙ ap (λ ys. ys ++ back) (append_assoc front (map f first) (map f second)
    ∙ ap (λ ys. front ++ ys) (sym (map-append f first second)))
    ∙ ap (λ ys. front ++ map f ys ++ back) (sym (part-split xs from at end ordered more))

all-mapped : {A B : Type 0} (g : A → B) (P : B → Type 0) (xs : List A) → All P (map g xs) → All (λ x. P (g x)) xs
all-mapped g P xs all = λ k d within.
    subst P (get_or-map g xs k d (g d) within) (all k (g d) (rw (length-map xs g) within))

map-same : {A : Type 0} (f : A → A) (xs : List A) → All (λ x. f x ≡ x) xs → map f xs ≡ xs
map-same f [] same = refl
map-same f (x ∷ xs) same = ap₂ (λ y ys. y ∷ ys) (All-head (λ y. f y ≡ y) x xs same)
    (map-same f xs (All-tail (λ y. f y ≡ y) x xs same))

-- ---- which characters have a key

abbrev pub has_key : Key → KeyedCell → Bool
has_key key cell = set.contains cell.keys key

-- characters have a key, or none has it, as their flags say
as-flagged : (key : Key) (flag : Bool) (flags : List Bool) (cells : List KeyedCell) (from to : ℕ) →
    slice_range (flags_of key cells) from to ≡ slice_range flags from to → All (λ f. f ≡ flag) (slice_range flags from to)
    → All (λ (cell : KeyedCell). has_key key cell ≡ flag) (slice_range cells from to)
as-flagged key flag flags cells from to same are =
    all-mapped (has_key key) (λ f. f ≡ flag) (slice_range cells from to)
    (subst (All (λ f. f ≡ flag)) (sym (map-slice_range (has_key key) from to cells ∙ same)) are)

-- up to the next change flags are alike
pub alike-part : (flags : List Bool) (at end : ℕ) (flag : Bool) → flag_at flags at ≡ flag → end ≤ next_change flags at →
    end ≤ length flags → at ≤ end → All (λ f. f ≡ flag) (slice_range flags at end)
alike-part flags at end flag here below within ordered =
    All-from_get_or (λ f. f ≡ flag) (slice_range flags at end) false (λ k inside.
    let long : length (slice_range flags at end) ≡ end - at = length-take-le (end - at) (drop at flags)
    (omega (arith, length-drop at flags)) in
    get_or-take (end - at) (drop at flags) k false (omega (arith, inside, long)) ∙ get_or-drop at flags k false
    ∙ sym (alike (flag_at flags at) (flag_at flags (at + k))
    (next-alike flags at (at + k) (omega arith) (omega (arith, inside, long, below)))) ∙ here)
  where
    alike : (a b : Bool) → is_alike a b ≡ true → a ≡ b
    alike true true is = refl
    alike true false is = sym is
    alike false true is = is
    alike false false is = refl

-- ---- one run after the other

-- a run of characters that are as they shall be stays so, and nothing is told
unchanged : (key : Key) (on : Bool) (flags : List Bool) (cells : List KeyedCell) (at end : ℕ) → at ≤ end →
    slice_range (flags_of key cells) at end ≡ slice_range flags at end → All (λ f. f ≡ on) (slice_range flags at end)
    → changed (with_key key on) at end cells ≡ cells
unchanged key on flags cells at end ordered same are =
    let part = slice_range cells at end in
    let idle : map (with_key key on) part ≡ part = map-same (with_key key on) part (λ k d within.
    ap (λ keys. record (get_or part k d) { keys = keys })
    (set_again key on (get_or part k d).keys (as-flagged key on flags cells at end same are k d within))) in
    ap (λ ys. take at cells ++ ys ++ drop end cells) idle ∙ append_assoc (take at cells) part (drop end cells)
    ∙ sym (split_between cells at end ordered)

pub run-alike : (key : Key) (on : Bool) (flags : List Bool) (at end : ℕ) (told : List TagChange) → at ≤ end →
    All (λ f. f ≡ on) (slice_range flags at end) → TellsSpan key on flags at end told told
run-alike key on flags at end told ordered are start cells long same so_far =
    subst (TellsTags told start) (sym (unchanged key on flags cells at end ordered same are)) so_far

-- no characters
pub run-none : (key : Key) (on : Bool) (flags : List Bool) (at : ℕ) (told : List TagChange) →
    TellsSpan key on flags at at told told
run-none key on flags at told = run-alike key on flags at at told (omega arith) (λ k d within.
    absurd (omega (arith, within, length-take (at - at) (drop at flags))))

-- a run of characters that are otherwise
pub run-unlike : (key : Key) (on : Bool) (flags : List Bool) (at end : ℕ) (told : List TagChange) → at < end →
    end ≤ length flags → All (λ f. f ≡ not on) (slice_range flags at end)
    → TellsSpan key on flags at end told (told ++ record { key = key; from = at; to = end; on = on } ∷ [])
run-unlike key on flags at end told some within are start cells long same so_far =
    let change : TagChange = record { key = key; from = at; to = end; on = on } in
    let is : IsTagChange cells change = record {
      some = some;
      within = omega (arith, long, within);
      differs = as-flagged key (not on) flags cells at end same are;
    } in
    tells-then told (change ∷ []) start cells (changed (with_key key on) at end cells) so_far (is, refl)

pub span-then : (key : Key) (on : Bool) (flags : List Bool) (from at end : ℕ) (told between more : List TagChange) →
    from ≤ at → at ≤ end → end ≤ length flags → TellsSpan key on flags from at told between
    → TellsSpan key on flags at end between more → TellsSpan key on flags from end told more
span-then key on flags from at end told between more ordered behind within first second start cells long same so_far =
    let f = with_key key on in
    let now = changed f from at cells in
    let low : end ≤ length cells = omega (arith, long, within) in
    let front : slice_range (flags_of key cells) from at ≡ slice_range flags from at =
    part-front (flags_of key cells) from at end ordered behind ∙ ap (take (at - from)) same
    ∙ sym (part-front flags from at end ordered behind) in
    let back : slice_range (flags_of key cells) at end ≡ slice_range flags at end =
    part-back (flags_of key cells) from at end ordered behind ∙ ap (drop (at - from)) same
    ∙ sym (part-back flags from at end ordered behind) in
    let rest : slice_range now at end ≡ slice_range cells at end =
    ap (take (end - at)) (drop-changed f from at cells at ordered (omega (arith, behind, low)) (omega arith)) in
    let still : slice_range (flags_of key now) at end ≡ slice_range flags at end =
    sym (map-slice_range (has_key key) at end now) ∙ ap (map (has_key key)) rest
    ∙ map-slice_range (has_key key) at end cells ∙ back in
    subst (TellsTags more start) (changed-twice f from at end cells ordered behind low)
    (second start now (length-changed f from at cells ordered (omega (arith, behind, low)) ∙ long) still
    (first start cells long front so_far))

-- ---- the runs of a span, as they are read

otherwise : (has on : Bool) → not (beq has on) ≡ true → has ≡ not on
otherwise true true is = sym is
otherwise true false is = refl
otherwise false true is = refl
otherwise false false is = is

the-same : (has on : Bool) → not (beq has on) ≡ false → has ≡ on
the-same true true is = refl
the-same true false is = is
the-same false true is = sym is
the-same false false is = refl

-- flags, and a run of them from a place on, up to their next change at most
module _ (key : Key) (on has : Bool) (flags : List Bool) (from at end : ℕ) (told before : List TagChange)
    (above : from ≤ at) (some : at < end) (below : end ≤ next_change flags at) (within : end ≤ length flags)
    (here : slice_get flags at ≡ Some has) (so_far : TellsSpan key on flags from at told before) where
  run-is : (flag : Bool) → has ≡ flag → All (λ f. f ≡ flag) (slice_range flags at end)
  run-is flag is = alike-part flags at end flag (get_or_from_slice_get flags at has false here ∙ is) below within
      (omega (arith, some))

  -- they are otherwise, and that is told
  pub run-told : (now : List TagChange) → not (beq has on) ≡ true
      → now ≡ before ++ record { key = key; from = at; to = end; on = on } ∷ [] → TellsSpan key on flags from end told now
  run-told now test is =
      subst (TellsSpan key on flags from end told) (sym is)
      (span-then key on flags from at end told before _ above (omega (arith, some)) within so_far
      (run-unlike key on flags at end before some within (run-is (not on) (otherwise has on test))))

  -- or they are so already
  pub run-passed : not (beq has on) ≡ false → TellsSpan key on flags from end told before
  run-passed test =
      span-then key on flags from at end told before before above (omega (arith, some)) within so_far
      (run-alike key on flags at end before (omega (arith, some)) (run-is on (the-same has on test)))

-- ---- one span after the other, the last first

pub with_tag-paints : (key : Key) (on : Bool) (spans : List Span) (cells : List KeyedCell) →
    with_tag key on spans cells ≡ painted (with_key key on) spans cells
with_tag-paints key on [] cells = refl
with_tag-paints key on (span ∷ spans) cells =
    with_tag-paints key on spans (changed (with_key key on) span.from span.to cells)

-- a span of a text
pub apart-fits : (len : ℕ) (spans : List Span) (at : ℕ) (d : Span) → at < length spans → AreApart (len + 1) spans →
    SpanFits len (get_or spans at d)
apart-fits len spans at d within apart =
    All-get_or (SpanFits len) spans at d within (apart-fit (len + 1) len spans (omega arith) apart)

pub spans-then : (key : Key) (on : Bool) (flags : List Bool) (spans : List Span) (at : ℕ) (d : Span)
    (told between more : List TagChange) → at < length spans → AreApart (length flags + 1) spans
    → TellsSpans key on flags (take at spans) told between
    → TellsSpan key on flags (get_or spans at d).from (get_or spans at d).to between more
    → TellsSpans key on flags (take (at + 1) spans) told more
spans-then key on flags spans at d told between more within apart first second start cells same so_far =
    let span = get_or spans at d in
    let fit = apart-at (length flags + 1) spans at d within apart in
    let some = fit.some in let below = fit.below in
    let f = with_key key on in
    let before = take at spans in
    let now = with_tag key on before cells in
    let paints : now ≡ painted f before cells = with_tag-paints key on before cells in
    let long : length cells ≡ length flags = sym (length-map cells (has_key key)) ∙ ap length same in
    let fits : All (SpanFits (length cells)) before = All-take (SpanFits (length cells)) at spans
    (apart-fit (length flags + 1) (length cells) spans (omega (arith, long)) apart) in
    let front : take span.to now ≡ take span.to cells = ap (take span.to) paints
    ∙ painted-front f span.to before cells (omega (arith, long, below)) fits fit.above in
    let still : slice_range (flags_of key now) span.from span.to ≡ slice_range flags span.from span.to =
    sym (map-slice_range (has_key key) span.from span.to now)
    ∙ ap (map (has_key key)) (front-part now span.from span.to (omega (arith, some)) ∙ ap (drop span.from) front
    ∙ sym (front-part cells span.from span.to (omega (arith, some))))
    ∙ map-slice_range (has_key key) span.from span.to cells ∙ ap (λ fs. slice_range fs span.from span.to) same in
    let made : changed f span.from span.to now ≡ with_tag key on (take (at + 1) spans) cells =
    ap (changed f span.from span.to) paints ∙ sym (painted-push f before span cells)
    ∙ ap (λ xs. painted f xs cells) (sym (take_more spans at d within))
    ∙ sym (with_tag-paints key on (take (at + 1) spans) cells) in
    subst (TellsTags more start) made
    (second start now (ap length paints ∙ painted-long f before cells fits ∙ long) still
    (first start cells same so_far))

-- flags of which none is set
none-set : (flags : List Bool) (from to : ℕ) → All (λ flag. flag ≡ false) flags →
    All (λ flag. flag ≡ false) (slice_range flags from to)
none-set flags from to none = All-take (λ flag. flag ≡ false) (to - from) (drop from flags)
    (All-drop (λ flag. flag ≡ false) from flags none)

-- a key that no character has: it is told of each span that it is put there
pub whole-then : (key : Key) (flags : List Bool) (spans : List Span) (at : ℕ) (d : Span)
    (told between more : List TagChange) → at < length spans → AreApart (length flags + 1) spans
    → All (λ flag. flag ≡ false) flags → TellsSpans key true flags (take at spans) told between
    → (let span = get_or spans at d in
    more ≡ between ++ record { key = key; from = span.from; to = span.to; on = true } ∷ [])
    → TellsSpans key true flags (take (at + 1) spans) told more
whole-then key flags spans at d told between more within apart none first made =
    let span = get_or spans at d in
    let fit = apart-at (length flags + 1) spans at d within apart in
    let below = fit.below in
    spans-then key true flags spans at d told between more within apart first
    (subst (TellsSpan key true flags span.from span.to between) (sym made)
    (run-unlike key true flags span.from span.to between fit.some (omega (arith, below))
    (none-set flags span.from span.to none)))

-- and nothing where it is taken off
pub with_tag-none : (key : Key) (flags : List Bool) (spans : List Span) (cells : List KeyedCell) →
    All (SpanFits (length cells)) spans → flags_of key cells ≡ flags → All (λ flag. flag ≡ false) flags
    → with_tag key false spans cells ≡ cells
with_tag-none key flags spans cells fits same none =
    with_tag-paints key false spans cells
    ∙ painted-idle (with_key key false) spans cells (λ span fit. unchanged key false flags cells span.from span.to
    fit.ordered (ap (λ fs. slice_range fs span.from span.to) same) (none-set flags span.from span.to none)) fits

pub whole-none : (key : Key) (flags : List Bool) (spans : List Span) (told : List TagChange) →
    AreApart (length flags + 1) spans → All (λ flag. flag ≡ false) flags → TellsSpans key false flags spans told told
whole-none key flags spans told apart none start cells same so_far =
    let long : length cells ≡ length flags = sym (length-map cells (has_key key)) ∙ ap length same in
    subst (TellsTags told start)
    (sym (with_tag-none key flags spans cells (apart-fit (length flags + 1) (length cells) spans (omega (arith, long))
    apart) same none)) so_far

-- ---- spans, by the longest runs of them

-- a key that is put on twice, or taken off twice
with_key-twice : (key : Key) (on : Bool) (cell : KeyedCell) →
    with_key key on (with_key key on cell) ≡ with_key key on cell
with_key-twice key on cell =
    ap (λ keys. record cell { keys = keys }) (set_again key on (set_key key on cell.keys)
    (contains-set_key key on cell.keys key ∙ ap (λ b. cond b on (set.contains cell.keys key)) (key_itself key key refl)))

-- spans in which the same offsets lie are tagged alike
pub with_tag-same : (key : Key) (on : Bool) (spans others : List Span) (cells : List KeyedCell) →
    All (SpanFits (length cells)) spans → All (SpanFits (length cells)) others
    → ((offset : ℕ) → in_spans spans offset ≡ in_spans others offset)
    → with_tag key on spans cells ≡ with_tag key on others cells
with_tag-same key on spans others cells fits others_fit same =
    with_tag-paints key on spans cells
    ∙ painted-same (with_key key on) (with_key-twice key on) spans others cells fits others_fit same
    ∙ sym (with_tag-paints key on others cells)

pub runs-told : (key : Key) (on : Bool) (flags : List Bool) (cells : List KeyedCell) (spans runs : List Span)
    (before told : List TagChange) → All (SpanFits (length cells)) spans → AreApart (length cells + 1) runs
    → ((offset : ℕ) → in_spans runs offset ≡ in_spans spans offset) → flags_of key cells ≡ flags → before ≡ []
    → TellsSpans key on flags runs before told → TellsTags told cells (with_tag key on spans cells)
runs-told key on flags cells spans runs before told fits apart covers same none tells =
    subst (TellsTags told cells)
    (with_tag-same key on runs spans cells (apart-fit (length cells + 1) (length cells) runs (omega arith) apart) fits
    covers)
    (tells cells cells same (subst (λ changes. TellsTags changes cells cells) (sym none) refl))
