-- The marks at a place, listed in the order of the marks that a widget can use.
use Rattle.search_dump.proofs.Common.{outlook, Outlook, ◌≡◌, ◌≢◌, ℕ, zero, suc, inl, inr, ◌+◌, ◌-◌, ◌<◌, ◌≤◌, ◌&&◌}
use Rattle.search_dump.proofs.Common.{◌==◌, min, Bool, true, false, Option, None, Some, List, [], ◌∷◌, ◌++◌, length}
use Rattle.search_dump.proofs.Common.{refl, sym, ap, ap₂, subst, ◌∙◌, arith, MatchOption, codes, nat_le, filter, find}
use Rattle.search_dump.proofs.Common.{flat_map, option_and_then, option_map, and_right, cases_eq, cases_lt, cond-true}
use Rattle.search_dump.proofs.Common.{get_or, eq-eqb, false≢true, le-leb, leb-true, lt-ltb, le-ltb, ne_eqb, append-nil}
use Rattle.search_dump.proofs.Common.{append_assoc, none-some, same_Some, earlier, first, mark_of, next_mark}
use Rattle.search_dump.proofs.Common.{next_shown, own_mark, own_place, rank_of, shared_mark, names_of, numbers_of, Goes}
use Rattle.search_dump.proofs.Common.{goes_nowhere, goes_on, shown, Shown, element, if_listed, mark_elements, mark_seen}
use Rattle.search_dump.proofs.Common.{seen_by, stands_at, Has, IsMarkBehind, IsMarkFrom, is_before, mark_element}
use Rattle.search_dump.proofs.Common.{own_place_in, passed, place_in, shared_place_in, usable_by, if◌then◌else◌}
use Rattle.search_dump.proofs.Common.{leb-false, slice_get-get_or, before_bound, by_rank, earlier_place, one-out}
use Rattle.std.proofs.lemmas.Bool.Decides.{nat_tests}
use Rattle.mark_table.proofs.OrderLaws.{first_is, in-turn, next_stands}
use Rattle.mark_table.proofs.RankLaws.{IsRising, find_rank, of_rank, own_out, rising_above, shared_at-out, usable_out}
use Rattle.mark_table.proofs.RankLaws.{usable_rising, usable_within}
use Rattle.mark_table.specs.declared.order.MarkView.{MarkView}
use Rattle.mark_table.specs.declared.order.Origin.{Origin}
use Rattle.mark_table.specs.declared.order.Origin.TheVariants.{Mark as FromMark, Place as Offset}
use Rattle.mark_table.specs.declared.order.WidgetMark.{WidgetMark}
use Rattle.text_model.specs.declared.places.Place.{Place}
use Rattle.search_dump.proofs.DumpLaws.{flat-filter}
use Rattle.std.specs.FinMap as finite

pub mark-from : (marks : List Shown) (place : ℕ) (found : Option Shown) → next_shown (Offset place) marks ≡ found →
    IsMarkFrom marks place found
mark-from marks place None is =
    let none = first_is (λ (shown : Shown). nat_le place shown.place) marks None is in
    λ mark has. leb-false place mark.place (none has.0 mark has.1)
mark-from marks place (Some found) is =
    let best = first_is (λ (shown : Shown). nat_le place shown.place) marks (Some found) is in (
      best.0,
      leb-true place found.place best.1,
      λ mark has above. best.2 has.0 mark has.1 (le-leb place mark.place above),
    )

behind-is : (marks : List Shown) (before : Shown) (found : Option Shown) →
    first (filter (earlier before) marks) ≡ found → IsMarkBehind marks before found
behind-is marks before None is = λ mark has. first_is (earlier before) marks None is has.0 mark has.1
behind-is marks before (Some found) is =
    let best = first_is (earlier before) marks (Some found) is in
    (best.0, best.1, λ mark has. best.2 has.0 mark has.1)

-- the next mark after one that can be used
pub mark-behind : (marks : List Shown) (mark : WidgetMark) (before : Shown) (found : Option Shown) → IsRising 0 marks →
    Has marks before → before.rank ≡ rank_of mark
    → next_shown (FromMark mark) marks ≡ found → IsMarkBehind marks before found
mark-behind marks mark before found rising has same is =
    behind-is marks before found
    (sym (ap (option_and_then (λ from. first (filter (λ shown. earlier from shown) marks)))
    (ap (λ n. find (λ (shown : Shown). shown.rank == n) marks) (sym same) ∙ find_rank 0 marks before rising has)) ∙ is)

-- ---- where the marks of a widget are

own-offset : (view : MarkView) (offset : ℕ) → view.start ≤ view.end →
    min (offset - view.start) (view.end - view.start - 1) ≡ own_place view offset - view.start
own-offset view offset ordered = grind (arith, nat_tests)

own-there : (view : MarkView) (rank : ℕ) (found : Option Place) (shown : Shown) → view.start ≤ view.end →
    Has (own_mark view rank found) shown → own_place_in view.start view.end found ≡ Some (shown.place - view.start)
own-there view rank found shown ordered has =
    let out = own_out view rank found shown has in
    let offset = out.0.offset in
    let at : min (offset - view.start) (view.end - view.start - 1) ≡ own_place view offset - view.start =
    own-offset view offset ordered in
    ap (own_place_in view.start view.end) out.1 ∙ ap Some (at ∙ ap (λ n. n - view.start) out.2)

shared-there : (view : MarkView) (rank : ℕ) (found : Option Place) (shown : Shown) →
    Has (shared_mark view rank found) shown → shared_place_in view.start found ≡ Some (shown.place - view.start)
shared-there view rank found shown has =
    let out = one-out view rank found shown has in
    let offset = out.0.offset in
    let above : view.start ≤ offset = omega (arith, out.2, out.3) in
    ap (shared_place_in view.start) out.1
    ∙ cond-true (nat_le view.start offset) (Some (offset - view.start)) None (le-leb view.start offset above)
    ∙ ap (λ n. Some (n - view.start)) out.2

-- where one of them is shown
pub record IsPlaced (outlook : Outlook) (shown : Shown) : Type 0 where
  pub place : place_in outlook (mark_of shown.rank) ≡ Some (shown.place - outlook.part.start)
  pub above : outlook.part.start ≤ shown.place
  pub known : shown.rank < 2 + length (numbers_of outlook.marks)

module _ (outlook : Outlook) where
  abbrev view : MarkView
  view = record { widget = record { 0 = outlook.widget }; start = outlook.part.start; end = outlook.part.end }

  pub usable-rising : IsRising 0 (usable_by outlook)
  usable-rising = usable_rising view outlook.part.content.marks (numbers_of outlook.marks)

  pub usable-placed : (shown : Shown) → outlook.part.start ≤ outlook.part.end → Has (usable_by outlook) shown →
      IsPlaced outlook shown
  usable-placed shown ordered has =
      let within = usable_within view outlook.part.content.marks (numbers_of outlook.marks) shown ordered has in
      record {
        place = by shown.rank (usable_out view outlook.part.content.marks (numbers_of outlook.marks) shown has);
        above = within.0;
        known = within.2;
      }
    where
      by : (rank : ℕ) → Has (of_rank view outlook.part.content.marks (numbers_of outlook.marks) rank) shown →
          place_in outlook (mark_of rank) ≡ Some (shown.place - outlook.part.start)
      by zero stands = own-there view 0 _ shown ordered stands
      by (suc zero) stands = own-there view 1 _ shown ordered stands
      by (suc (suc at)) stands =
          let out = shared_at-out view outlook.part.content.marks (numbers_of outlook.marks) at shown stands in
          ap (option_and_then (λ n. shared_place_in outlook.part.start (finite.get outlook.part.content.marks n))) out.1
          ∙ shared-there view (2 + at) (finite.get outlook.part.content.marks out.0) shown out.2

-- ---- the marks at a place, one after the other

flat-none : (each : Shown → List (List ℕ)) (xs : List Shown) → ((y : Shown) → Has xs y → each y ≡ []) →
    flat_map each xs ≡ []
flat-none each [] none = refl
flat-none each (x ∷ xs) none = ap (λ ys. ys ++ flat_map each xs) (none x (0, refl))
    ∙ flat-none each xs (λ y has. none y (suc has.0, has.1))

flat-agree : (first second : Shown → List (List ℕ)) (xs : List Shown) →
    ((y : Shown) → Has xs y → first y ≡ second y) → flat_map first xs ≡ flat_map second xs
flat-agree first second [] agree = refl
flat-agree first second (x ∷ xs) agree = ap₂ (λ a b. a ++ b) (agree x (0, refl))
    (flat-agree first second xs (λ y has. agree y (suc has.0, has.1)))

-- what is listed of one mark more
flat-one : (old new : Shown → List (List ℕ)) (mark : Shown) (rank : ℕ) (xs : List Shown) → IsRising rank xs →
    Has xs mark → ((y : Shown) → Has xs y → y.rank < mark.rank → new y ≡ old y)
    → ((y : Shown) → Has xs y → mark.rank ≤ y.rank → old y ≡ [])
    → ((y : Shown) → Has xs y → mark.rank < y.rank → new y ≡ [])
    → flat_map new xs ≡ flat_map old xs ++ new mark
flat-one old new mark rank [] rising has before none after = absurd (none-some mark has.1)
flat-one old new mark rank (x ∷ xs) rising (zero, is) before none after =
    let same = same_Some x mark is in
    let ranked : x.rank ≡ mark.rank = ap (λ (s : Shown). s.rank) same in
    let above : (y : Shown) → Has xs y → mark.rank < y.rank =
    λ y has. omega (arith, ranked, rising_above (suc x.rank) xs y rising.1 has) in
    ap₂ (λ a b. a ++ b) (ap new same) (flat-none new xs (λ y has. after y (suc has.0, has.1) (above y has)))
    ∙ append-nil (new mark)
    ∙ sym (ap₂ (λ a b. (a ++ b) ++ new mark) (none x (0, refl) (omega arith))
    (flat-none old xs (λ y has. none y (suc has.0, has.1) (omega (arith, above y has)))))
flat-one old new mark rank (x ∷ xs) rising (suc at, is) before none after =
    ap₂ (λ a b. a ++ b) (before x (0, refl) (rising_above (suc x.rank) xs mark rising.1 (at, is)))
    (flat-one old new mark (suc x.rank) xs rising.1 (at, is) (λ y has. before y (suc has.0, has.1))
    (λ y has. none y (suc has.0, has.1)) (λ y has. after y (suc has.0, has.1)))
    ∙ sym (append_assoc (old x) (flat_map old xs) (new mark))

listed-none : (place : ℕ) (each : Shown → List (List ℕ)) (next : Option Shown) (mark : Shown) →
    (mark.place ≡ place → is_before next mark ≡ false)
    → if_listed (mark.place == place && is_before next mark) (each mark) ≡ []
listed-none place each next mark none =
    elim (cases_eq mark.place place) [
      | inl same ↦ ap (λ b. if_listed b (each mark)) (and_right (mark.place == place) (is_before next mark) (none same))
      | inr other ↦ ap (λ b. if_listed (b && is_before next mark) (each mark)) (ne_eqb mark.place place other)
    ]

listed-alike : (place : ℕ) (each : Shown → List (List ℕ)) (one other : Option Shown) (mark : Shown) →
    (mark.place ≡ place → is_before one mark ≡ is_before other mark)
    → if_listed (mark.place == place && is_before one mark) (each mark)
    ≡ if_listed (mark.place == place && is_before other mark) (each mark)
listed-alike place each one other mark alike =
    elim (cases_eq mark.place place) [
      | inl same ↦ ap (λ b. if_listed (mark.place == place && b) (each mark)) (alike same)
      | inr differs ↦ ap (λ b. if_listed (b && is_before one mark) (each mark)) (ne_eqb mark.place place differs)
          ∙ sym (ap (λ b. if_listed (b && is_before other mark) (each mark)) (ne_eqb mark.place place differs))
    ]

-- none is passed at first
passed-none : (marks : List Shown) (place : ℕ) (each : Shown → List (List ℕ)) (next : Option Shown) →
    IsMarkFrom marks place next → passed place each next marks ≡ []
passed-none marks place each None from =
    flat-none (λ mark. if_listed (mark.place == place && is_before None mark) (each mark)) marks (λ y has.
    listed-none place each None y (λ same. absurd (omega (arith, from y has))))
passed-none marks place each (Some next) from =
    flat-none (λ mark. if_listed (mark.place == place && is_before (Some next) mark) (each mark)) marks (λ y has.
    listed-none place each (Some next) y (λ same. from.2 y has (omega arith)))

-- all are in the end
passed-all : (marks : List Shown) (place : ℕ) (each : Shown → List (List ℕ)) (next : Option Shown) →
    MatchOption next (Unit {0}) (λ m. place < m.place)
    → passed place each next marks ≡ passed place each None marks
passed-all marks place each None end = refl
passed-all marks place each (Some next) end =
    flat-agree (λ mark. if_listed (mark.place == place && is_before (Some next) mark) (each mark)) (λ mark.
    if_listed (mark.place == place && is_before None mark) (each mark)) marks
    (λ y has. listed-alike place each (Some next) None y (λ same. earlier_place y next (omega arith)))

behind-passed : (next : Option Shown) (marks : List Shown) (mark y : Shown) → IsMarkBehind marks mark next →
    Has marks y → earlier mark y ≡ true → is_before next y ≡ false
behind-passed None marks mark y behind has later = absurd (false≢true (sym (behind y has) ∙ later))
behind-passed (Some next) marks mark y behind has later = behind.2 y has later

before-passed : (next : Option Shown) (marks : List Shown) (mark y : Shown) → IsMarkBehind marks mark next →
    earlier y mark ≡ true → is_before next y ≡ true
before-passed None marks mark y behind before = refl
before-passed (Some next) marks mark y behind before = in-turn y mark next before behind.1

itself-passed : (next : Option Shown) (marks : List Shown) (mark : Shown) → IsMarkBehind marks mark next →
    is_before next mark ≡ true
itself-passed None marks mark behind = refl
itself-passed (Some next) marks mark behind = behind.1

-- one mark more
passed-on : (marks : List Shown) (place : ℕ) (each : Shown → List (List ℕ)) (mark : Shown) (next : Option Shown) →
    IsRising 0 marks → Has marks mark → mark.place ≡ place → IsMarkBehind marks mark next
    → passed place each next marks ≡ passed place each (Some mark) marks ++ each mark
passed-on marks place each mark next rising has here behind =
    let listed = λ (bound : Option Shown) (m : Shown). if_listed (m.place == place && is_before bound m) (each m) in
    flat-one (listed (Some mark)) (listed next) mark 0 marks rising has
    (λ y there less. listed-alike place each next (Some mark) y (λ level.
    let before = by_rank y mark (level ∙ sym here) ∙ lt-ltb y.rank mark.rank less in
    before-passed next marks mark y behind before ∙ sym before))
    (λ y there above. listed-none place each (Some mark) y (λ level.
    by_rank y mark (level ∙ sym here) ∙ le-ltb y.rank mark.rank above))
    (λ y there above. listed-none place each next y (λ level.
    behind-passed next marks mark y behind there
    (by_rank mark y (here ∙ sym level) ∙ lt-ltb mark.rank y.rank above)))
    ∙ ap (λ ys. passed place each (Some mark) marks ++ ys)
    (ap₂ (λ a b. if_listed (a && b) (each mark)) (eq-eqb mark.place place here) (itself-passed next marks mark behind))

-- ---- the next mark, with its place

rank-mark : (rank : ℕ) → rank_of (mark_of rank) ≡ rank
rank-mark zero = refl
rank-mark (suc zero) = refl
rank-mark (suc (suc rank)) = omega arith

pub record IsMarkOf (outlook : Outlook) (origin : Origin)
    (mark : WidgetMark) : Type 0 where
  pub shown : Shown
  pub is : next_shown origin (usable_by outlook) ≡ Some shown
  pub place : place_in outlook mark ≡ Some (shown.place - outlook.part.start)
  pub above : outlook.part.start ≤ shown.place
  pub rank : rank_of mark ≡ shown.rank

pub mark-of : (outlook : Outlook) (origin : Origin) (mark : WidgetMark) → outlook.part.start ≤ outlook.part.end →
    Some mark ≡ next_mark origin (usable_by outlook) → IsMarkOf outlook origin mark
mark-of outlook origin mark ordered is = by (next_shown origin (usable_by outlook)) refl is
  where
    by : (found : Option Shown) → next_shown origin (usable_by outlook) ≡ found →
        Some mark ≡ option_map (λ (shown : Shown). mark_of shown.rank) found → IsMarkOf outlook origin mark
    by None next given = absurd (none-some mark (sym given))
    by (Some shown) next given =
        let same : mark ≡ mark_of shown.rank = same_Some mark (mark_of shown.rank) given in
        let placed = usable-placed outlook shown ordered (next_stands origin (usable_by outlook) shown next) in
        record {
          shown = shown;
          is = next;
          place = ap (place_in outlook) same ∙ placed.place;
          above = placed.above;
          rank = ap rank_of same ∙ rank-mark shown.rank;
        }

pub mark-is : (outlook : Outlook) (origin : Origin) (mark : WidgetMark)
    (place : ℕ) (of : IsMarkOf outlook origin mark)
    → Some place ≡ place_in outlook mark →
    Some (record { place = outlook.part.start + place; rank = rank_of mark })
    ≡ next_shown origin (usable_by outlook)
mark-is outlook origin mark place of is =
    let at : outlook.part.start + place ≡ of.shown.place = omega (
      arith,
      same_Some place (of.shown.place - outlook.part.start) (is ∙ of.place),
      of.above,
    ) in
    let same : ◌≡◌ {A = Shown} (record { place = outlook.part.start + place; rank = rank_of mark }) of.shown = λ i.
    record { place = at i; rank = of.rank i } in
    ap Some same ∙ sym of.is

-- ---- the walk over the marks at a place

-- the next mark to list, where those before it at the place are listed
abbrev pub IsMarkOn : List Shown → ℕ → Option Shown → Type 0
IsMarkOn marks place next =
    MatchOption next ((mark : Shown) → Has marks mark → mark.place ≤ place)
    (λ found. Has marks found × (place ≤ found.place)
    × ((mark : Shown) → Has marks mark → place + 1 ≤ mark.place → earlier mark found ≡ false))

on-begun : (marks : List Shown) (place : ℕ) (next : Option Shown) → IsMarkFrom marks place next →
    IsMarkOn marks place next
on-begun marks place None from = λ mark has. omega (arith, from mark has)
on-begun marks place (Some next) from = (from.0, from.1, λ mark has above. from.2 mark has (omega arith))

on-step : (marks : List Shown) (place : ℕ) (mark : Shown) (next : Option Shown) → mark.place ≡ place →
    IsMarkBehind marks mark next → IsMarkOn marks place next
on-step marks place mark None here behind = λ other has.
    elim (cases_lt place other.place) [
      | inl above ↦ absurd (false≢true (sym (behind other has) ∙ earlier_place mark other (omega arith)))
      | inr within ↦ within
    ]
on-step marks place mark (Some next) here behind = (
  behind.0,
  omega (arith, before_bound mark next behind.1),
  λ other has above. behind.2 other has (earlier_place mark other (omega arith)),
)

on-above : (marks : List Shown) (place : ℕ) (next : Option Shown) → IsMarkOn marks place next →
    MatchOption next (Unit {0}) (λ m. m.place ≢ place) → MatchOption next (Unit {0}) (λ m. place < m.place)
on-above marks place None on end = tt
on-above marks place (Some next) on end =
    elim (cases_eq next.place place) [ inl same ↦ absurd (end same) | inr other ↦ omega (arith, on.1) ]

-- how many ranks are left at a place, from the next mark on
abbrev pub marks_left : ℕ → ℕ → Option Shown → ℕ
marks_left count place None = 0
marks_left count place (Some next) = if next.place == place then count - next.rank else 0

left-fewer : (count place : ℕ) (marks : List Shown) (mark : Shown) (next : Option Shown) → mark.place ≡ place →
    mark.rank < count → IsMarkBehind marks mark next → marks_left count place next < marks_left count place (Some mark)
left-fewer count place marks mark None here known behind = grind (arith, nat_tests)
left-fewer count place marks mark (Some next) here known behind =
    let above = behind.1 in grind (arith, nat_tests)

same-place : (place start at : ℕ) → start ≤ place → (place - start == at) ≡ (place == start + at && true)
same-place place start at above = grind (arith, nat_tests)

-- all the marks at a place
marks-are : (outlook : Outlook) (place : ℕ) →
    outlook.part.start ≤ outlook.part.end
    → passed (outlook.part.start + place) (mark_element (shown outlook.part) (names_of outlook.marks) place) None
    (usable_by outlook) ≡ mark_elements (seen_by outlook) place
marks-are outlook place ordered =
    let all = usable_by outlook in
    let each = mark_element (shown outlook.part) (names_of outlook.marks) place in
    let none : Shown = record { place = 0; rank = 0 } in
    sym (flat-filter (λ mark. element (codes "mark") (shown outlook.part) place mark.name) (stands_at place)
    (mark_seen outlook.marks outlook.part.start) (λ (mark : Shown).
    if_listed (mark.place == outlook.part.start + place && is_before None mark) (each mark)) none all
    (λ at within.
    let mark = get_or all at none in
    let placed = usable-placed outlook mark ordered (at, slice_get-get_or all at none within) in
    ap (λ b. if_listed b (each mark)) (same-place mark.place outlook.part.start place placed.above)))

listed-on : (listed : Bool) (old between new : List ℕ) (some more all : List (List ℕ)) → all ≡ some ++ more →
    Goes old between (if_listed listed some) → Goes between new (if_listed listed more)
    → Goes old new (if_listed listed all)
listed-on true old between new some more all is first second =
    subst (Goes old new) (sym is) (goes_on old between new some more first second)
listed-on false old between new some more all is first second = goes_on old between new [] [] first second

listed-none-yet : (listed : Bool) (old : List ℕ) (some : List (List ℕ)) → some ≡ [] →
    Goes old old (if_listed listed some)
listed-none-yet true old some is = subst (Goes old old) (sym is) (goes_nowhere old)
listed-none-yet false old some is = goes_nowhere old

goes-all : (outlook : Outlook) (place : ℕ)
    (listed : Bool) (old now : List ℕ) (next : Option Shown) → outlook.part.start ≤ outlook.part.end
    → MatchOption next (Unit {0}) (λ m. outlook.part.start + place < m.place)
    →
    Goes old now (if_listed listed (passed (outlook.part.start + place)
    (mark_element (shown outlook.part) (names_of outlook.marks) place) next
    (usable_by outlook)))
    → Goes old now (if_listed listed (mark_elements (seen_by outlook) place))
goes-all outlook place listed old now next ordered above goes =
    subst (λ xs. Goes old now (if_listed listed xs))
    (passed-all (usable_by outlook) (outlook.part.start + place)
    (mark_element (shown outlook.part) (names_of outlook.marks) place) next above
    ∙ marks-are outlook place ordered) goes

-- what is listed of the marks at a place is what is before the next one
pub record AreListed (outlook : Outlook) (place : ℕ) (listed : Bool)
    (old now : List ℕ) (next : Option Shown) : Type 0 where
  pub goes : Goes old now (if_listed listed (passed (outlook.part.start + place)
      (mark_element (shown outlook.part) (names_of outlook.marks) place) next
      (usable_by outlook)))
  pub on : IsMarkOn (usable_by outlook) (outlook.part.start + place) next

pub marks-begun : {outlook : Outlook} {place : ℕ} {listed : Bool}
    {old : List ℕ} {next : Option Shown} → IsMarkFrom (usable_by outlook) (outlook.part.start + place) next →
    AreListed outlook place listed old old next
marks-begun {outlook} {place} {listed} {old} {next} from =
    let all = usable_by outlook in
    let each = mark_element (shown outlook.part) (names_of outlook.marks) place in
    record {
      goes = listed-none-yet listed old (passed (outlook.part.start + place) each next all)
          (passed-none all (outlook.part.start + place) each next from);
      on = on-begun all (outlook.part.start + place) next from;
    }

module _ {outlook : Outlook} {place : ℕ} {listed : Bool} {old now : List ℕ}
    {before : Option Shown} (are : AreListed outlook place listed old now before) where
  pub marks-on : {new : List ℕ} {mark : Shown} {next : Option Shown} → before ≡ Some mark →
      mark.place ≡ outlook.part.start + place → IsMarkBehind (usable_by outlook) mark next
      → Goes now new (if_listed listed (mark_element (shown outlook.part) (names_of outlook.marks) place mark)) →
      AreListed outlook place listed old new next
  marks-on {new} {mark} {next} is here behind pushed =
      let all = usable_by outlook in
      let each = mark_element (shown outlook.part) (names_of outlook.marks) place in
      let at = outlook.part.start + place in
      let still = subst (AreListed outlook place listed old now) is are in
      record {
        goes = listed-on listed old now new (passed at each (Some mark) all) (each mark) (passed at each next all)
            (passed-on all at each mark next (usable-rising outlook) still.on.0 here behind)
            still.goes pushed;
        on = on-step all at mark next here behind;
      }

  pub marks-fewer : {mark : Shown} (next : Option Shown) → outlook.part.start ≤ outlook.part.end → before ≡ Some mark →
      mark.place ≡ outlook.part.start + place → IsMarkBehind (usable_by outlook) mark next
      → marks_left (2 + length (numbers_of outlook.marks)) (outlook.part.start + place) next
      < marks_left (2 + length (numbers_of outlook.marks)) (outlook.part.start + place) before
  marks-fewer {mark} next ordered is here behind =
      let all = usable_by outlook in
      let at = outlook.part.start + place in
      let count = 2 + length (numbers_of outlook.marks) in
      let placed = usable-placed outlook mark ordered (subst (IsMarkOn all at) is are.on).0 in
      subst (λ o. marks_left count at next < marks_left count at o) (sym is)
      (left-fewer count at all mark next here placed.known behind)

  pub marks-past : before ≡ None → IsMarkFrom (usable_by outlook) (outlook.part.start + place + 1) None
  marks-past is =
      let on = subst (IsMarkOn (usable_by outlook) (outlook.part.start + place)) is are.on in
      λ mark has. omega (arith, on mark has)

  pub marks-done : outlook.part.start ≤ outlook.part.end → MatchOption before (Unit {0}) (λ m. m.place ≢ outlook.part.start + place) →
      Goes old now (if_listed listed (mark_elements (seen_by outlook) place))
  marks-done ordered apart =
      goes-all outlook place listed old now before ordered
      (on-above (usable_by outlook) (outlook.part.start + place) before are.on apart) are.goes
