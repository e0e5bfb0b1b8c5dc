-- Marks as a list of names with numbers, and a gravity for each number.
use Rattle.mark_table.proofs.Common.{IfSome, ◌≡◌, ◌≢◌, ℕ, zero, suc, ◌+◌, ◌-◌, ◌<◌, ◌≤◌, Bool, true, false, Option}
use Rattle.mark_table.proofs.Common.{None, if◌then◌else◌, Some, List, [], ◌∷◌, ◌++◌, length, map, slice_get, slice_set}
use Rattle.mark_table.proofs.Common.{Contains, refl, sym, ap, ap₂, ◌∙◌, subst, inl, inr, take, arith, eq-eqb, ne_eqb}
use Rattle.mark_table.proofs.Common.{length-append, length-set, position, find, remove, bytes_eq, unwrap_or}
use Rattle.mark_table.proofs.Common.{MatchOption, SomeIff, option_map, cases_eq, length-map, map_push, none-some}
use Rattle.mark_table.proofs.Common.{same_Some, slice_get-map, without, Named, Names, AreNames, place_of, Stands}
use Rattle.mark_table.proofs.Common.{stands_from_Contains, Contains-from_stands, stands_map, stood_at, map-same}
use Rattle.mark_table.proofs.Common.{map-map, get_set, get_set_other, get_push_cases, get_remove, before_removal}
use Rattle.mark_table.proofs.Common.{Gravity, Right, AreKept, gravity_at, mark, marks_kept, with_gravity_for, Mark}
use Rattle.mark_table.proofs.Common.{SharedMarks, AreMarks, IsLeastFree, first_number, gravity_of, is_named, names_of}
use Rattle.mark_table.proofs.Common.{number_of, numbers_of, turned}
use Rattle.std.proofs.lemmas.Slice.Eq.{bytes_eq-Decides}
use Rattle.name_list.proofs.MoveLaws.{position-map, position-passes, first_is, found_at, not_found, none_found}
use Rattle.name_list.proofs.MoveLaws.{without-push, without-remove, without_none}
use Rattle.name_list.proofs.ViewLaws.{map-remove}
use Rattle.name_list.specs.Names as list

-- what is seen of the list
pub place_seen : (gravities : List Gravity) (name : List ℕ) (es : List Named) →
    position (is_named name) (map (mark gravities) es) ≡ place_of name es
place_seen gravities name es = position-map (mark gravities) (is_named name) es

pub names_seen : (gravities : List Gravity) (es : List Named) → names_of (map (mark gravities) es) ≡ list.names_of es
names_seen gravities es = map-map (λ (m : Mark). m.name) (mark gravities) es

pub numbers_seen : (gravities : List Gravity) (es : List Named) →
    numbers_of (map (mark gravities) es) ≡ map (λ n. first_number + n) (list.numbers_of es)
numbers_seen gravities es = map-map (λ (m : Mark). m.number) (mark gravities) es
    ∙ sym (map-map (λ n. first_number + n) (λ (e : Named). e.number) es)

-- a new number
pub IsLeastFree-number : (gravities : List Gravity) (es : List Named) (number : ℕ) →
    list.IsLeastFree (list.numbers_of es) number →
    IsLeastFree (numbers_of (map (mark gravities) es)) (first_number + number)
IsLeastFree-number gravities es number least =
    let numbers = list.numbers_of es in
    rw (numbers_seen gravities es) (record {
      shared = omega arith;
      free = λ has.
          let own = stands_from_Contains (map (λ n. first_number + n) numbers) _ has in
          let old = stood_at (λ n. first_number + n) numbers own.0 _ own.1 in
          let same : old.0 ≡ number = let e = old.2 in omega arith in
          least.free (Contains-from_stands numbers number (own.0, old.1 ∙ ap (λ n. Some n) same));
      below = λ k shared less.
          let old = stands_from_Contains numbers (k - 128) (least.below (k - 128) (omega arith)) in
          let back : first_number + (k - 128) ≡ k = omega arith in
          Contains-from_stands _ k (subst (Stands (map (λ n. first_number + n) numbers)) back
          (stands_map (λ n. first_number + n) numbers (k - 128) old));
    })

-- the laws of a table
pub AreMarks-kept : (names : Names) (gravities : List Gravity) → AreNames names → AreKept names gravities →
    AreMarks (marks_kept names gravities)
AreMarks-kept names gravities are kept =
    let es = names.entries in
    let numbers = list.numbers_of es in
    record {
      names_apart = rw (names_seen gravities es) are.names_apart;
      numbers_apart = λ i j number is also.
          let one = stood_at (λ n. first_number + n) numbers i number
          (ap (λ ns. slice_get ns i) (sym (numbers_seen gravities es)) ∙ is) in
          let two = stood_at (λ n. first_number + n) numbers j number
          (ap (λ ns. slice_get ns j) (sym (numbers_seen gravities es)) ∙ also) in
          let same : two.0 ≡ one.0 = let a = one.2 in let b = two.2 in omega arith in
          are.numbers_apart i j one.0 one.1 (two.1 ∙ ap (λ n. Some n) same);
      numbers = λ at number is.
          let old = stood_at (λ n. first_number + n) numbers at number
          (ap (λ ns. slice_get ns at) (sym (numbers_seen gravities es)) ∙ is) in
          let below = are.below at old.0 old.1 in
          let same = old.2 in
          (omega arith, omega arith);
      room = let fits = are.room in rw (length-map es (mark gravities)) fits;
      limit = kept.few;
    }

-- a mark is what stands at its place
pub place_of_mark : (name : List ℕ) (names : Names) (gravities : List Gravity) (marks : SharedMarks) (place : Option ℕ)
    → marks_kept names gravities ≡ marks → place ≡ place_of name names.entries →
    position (is_named name) marks.marks ≡ place
place_of_mark name names gravities marks place seen is = ap (λ (ms : SharedMarks). position (is_named name) ms.marks)
    (sym seen) ∙ place_seen gravities name names.entries ∙ sym is

pub number_there : (name : List ℕ) (marks : List Mark) (at : ℕ) → position (is_named name) marks ≡ Some at →
    number_of name marks ≡ slice_get (numbers_of marks) at
number_there name marks at is = ap (option_map (λ (m : Mark). m.number)) (found_at (is_named name) marks at is)
    ∙ sym (slice_get-map (λ (m : Mark). m.number) marks at)

pub no_number : (name : List ℕ) (marks : List Mark) → position (is_named name) marks ≡ None →
    number_of name marks ≡ None
no_number name marks none = ap (option_map (λ (m : Mark). m.number)) (not_found (is_named name) marks none)

pub no_gravity : (name : List ℕ) (marks : List Mark) → position (is_named name) marks ≡ None →
    gravity_of name marks ≡ None
no_gravity name marks none = ap (option_map (λ (m : Mark). m.gravity)) (not_found (is_named name) marks none)

pub no_place : (gravities : List Gravity) (name : List ℕ) (es : List Named) →
    number_of name (map (mark gravities) es) ≡ None → place_of name es ≡ None
no_place gravities name es none = sym (place_seen gravities name es)
    ∙ none_found (is_named name) (map (mark gravities) es)
    (no_mark (find (is_named name) (map (mark gravities) es)) none)
  where
    no_mark : (o : Option Mark) → option_map (λ (m : Mark). m.number) o ≡ None → o ≡ None
    no_mark None e = refl
    no_mark (Some m) e = absurd (none-some m.number (sym e))

-- the entry whose number stands at a place
pub entry_at : (es : List Named) (at number : ℕ) → slice_get (list.numbers_of es) at ≡ Some number →
    (e : Named) × (slice_get es at ≡ Some e) × (e.number ≡ number)
entry_at es at number is = stood_at (λ (e : Named). e.number) es at number is

pub gravity_there : (gravities : List Gravity) (name : List ℕ) (es : List Named) (at number : ℕ) (gravity : Gravity) →
    place_of name es ≡ Some at → slice_get (list.numbers_of es) at ≡ Some number →
    slice_get gravities number ≡ Some gravity
    → gravity_of name (map (mark gravities) es) ≡ Some gravity
gravity_there gravities name es at number gravity is numbered turns =
    let entry = entry_at es at number numbered in
    ap (option_map (λ (m : Mark). m.gravity))
    (found_at (is_named name) (map (mark gravities) es) at (place_seen gravities name es ∙ is)
    ∙ slice_get-map (mark gravities) es at ∙ ap (option_map (mark gravities)) entry.1)
    ∙ ap (λ n. Some (gravity_at gravities n)) entry.2
    ∙ ap (λ o. Some (unwrap_or o Right)) turns

-- the gravity of another number stays
gravity_stays : (gravities : List Gravity) (number : ℕ) (gravity : Gravity) (e : Named) → e.number ≢ number →
    mark (slice_set gravities number gravity) e ≡ mark gravities e
gravity_stays gravities number gravity e other = ap (λ o.
    record { name = e.name; number = first_number + e.number; gravity = unwrap_or o Right })
    (get_set_other gravities number gravity e.number other)

gravity_turns : (gravities : List Gravity) (number : ℕ) (gravity : Gravity) (e : Named) → number < length gravities →
    e.number ≡ number → mark (slice_set gravities number gravity) e
    ≡ record { name = e.name; number = first_number + e.number; gravity = gravity }
gravity_turns gravities number gravity e within same = ap (λ o.
    record { name = e.name; number = first_number + e.number; gravity = unwrap_or o Right })
    (ap (slice_get (slice_set gravities number gravity)) same ∙ get_set gravities number gravity within)

-- a mark is the same where its gravity is
same_mark : (gravities others : List Gravity) (e : Named) →
    gravity_at gravities e.number ≡ gravity_at others e.number → mark gravities e ≡ mark others e
same_mark gravities others e same =
    ap (λ gravity. record { name = e.name; number = first_number + e.number; gravity = gravity }) same

-- a gravity more for a new number, which is what no gravity counts as
gravity_pushed : (gravities : List Gravity) (number : ℕ) →
    gravity_at (gravities ++ Right ∷ []) number ≡ gravity_at gravities number
gravity_pushed [] zero = refl
gravity_pushed [] (suc number) = refl
gravity_pushed (gravity ∷ gravities) zero = refl
gravity_pushed (gravity ∷ gravities) (suc number) = gravity_pushed gravities number

pub marks-placed : (gravities : List Gravity) (es : List Named) (number : ℕ) →
    map (mark (with_gravity_for number gravities)) es ≡ map (mark gravities) es
marks-placed gravities es number = elim (cases_eq number (length gravities)) [
  | inl new ↦ ap (λ b. map (mark (if b then gravities ++ Right ∷ [] else gravities)) es) (eq-eqb number _ new)
      ∙ map-same (mark (gravities ++ Right ∷ [])) (mark gravities) es (λ at e is.
      same_mark (gravities ++ Right ∷ []) gravities e (gravity_pushed gravities e.number))
  | inr old ↦ ap (λ b. map (mark (if b then gravities ++ Right ∷ [] else gravities)) es) (ne_eqb number _ old)
]

pub placed : (gravities : List Gravity) (number : ℕ) → number ≤ length gravities →
    (number < length (with_gravity_for number gravities))
    × (length gravities ≤ length (with_gravity_for number gravities))
placed gravities number within = elim (cases_eq number (length gravities)) [
  | inl new ↦ rw (eq-eqb number (length gravities) new)
      (let more = length-append gravities (Right ∷ []) in (omega arith, omega arith))
  | inr old ↦ rw (ne_eqb number (length gravities) old) (omega arith, omega arith)
]

-- what belongs together stays together: a new number is at most behind the gravities
pub least_within : (names : Names) (gravities : List Gravity) (number : ℕ) → AreKept names gravities →
    list.IsLeastFree (list.numbers_of names.entries) number → number ≤ length gravities
least_within names gravities zero kept least = omega arith
least_within names gravities (suc n) kept least =
    let last = stands_from_Contains (list.numbers_of names.entries) n (least.below n (omega arith)) in
    let within = kept.each last.0 n last.1 in
    omega arith

pub AreKept-push : (names new : Names) (gravities : List Gravity) (name : List ℕ) (number : ℕ) →
    AreKept names gravities → list.IsLeastFree (list.numbers_of names.entries) number
    → new ≡ record names { entries = names.entries ++ record { name = name; number = number } ∷ [] }
    → AreKept new (slice_set (with_gravity_for number gravities) number Right)
AreKept-push names new gravities name number kept least last =
    let more = with_gravity_for number gravities in
    let fits = placed gravities number (least_within names gravities number kept least) in
    let count = length-set more number Right in
    subst (λ ns. AreKept ns (slice_set more number Right)) (sym last) (record {
      few = kept.few;
      each = λ place other is. elim (get_push_cases (list.numbers_of names.entries) number place other
          (ap (λ ns. slice_get ns place) (sym (map_push (λ (e : Named). e.number) names.entries
          (record { name = name; number = number }))) ∙ is)) [
            | inl old ↦ let within = kept.each place other old in let long = fits.1 in omega arith
            | inr new ↦ let within = fits.0 in let same = new.1 in omega arith
          ];
    })

pub AreKept-remove : (names new : Names) (gravities : List Gravity) (at : ℕ) → at < length names.entries →
    AreKept names gravities → new ≡ record names { entries = remove names.entries at } → AreKept new gravities
AreKept-remove names new gravities at within kept is =
    let number = λ (e : Named). e.number in
    subst (λ ns. AreKept ns gravities) (sym is) (record {
      few = kept.few;
      each = λ place n here. kept.each (before_removal at place) n
          (sym (get_remove (map number names.entries) at place (omega (arith, length-map names.entries number)))
          ∙ ap (λ ns. slice_get ns place) (sym (map-remove number names.entries at)) ∙ here);
    })

-- gravities behind the numbers that marks have are taken off
gravity_taken : (bound : ℕ) (gravities : List Gravity) (number : ℕ) → number < bound →
    gravity_at (take bound gravities) number ≡ gravity_at gravities number
gravity_taken zero gravities number below = absurd (omega arith)
gravity_taken (suc bound) [] number below = refl
gravity_taken (suc bound) (gravity ∷ gravities) zero below = refl
gravity_taken (suc bound) (gravity ∷ gravities) (suc number) below =
    gravity_taken bound gravities number (omega arith)

pub marks-take : (names : Names) (gravities : List Gravity) (bound : ℕ) →
    ((place number : ℕ) → slice_get (list.numbers_of names.entries) place ≡ Some number → number < bound) →
    marks_kept names (take bound gravities) ≡ marks_kept names gravities
marks-take names gravities bound above = ap (λ marks. record { marks = marks; limit = names.limit })
    (map-same (mark (take bound gravities)) (mark gravities) names.entries (λ at e is.
    let below = above at e.number (slice_get-map (λ (x : Named). x.number) names.entries at
    ∙ ap (option_map (λ (x : Named). x.number)) is) in
    same_mark (take bound gravities) gravities e (gravity_taken bound gravities e.number below)))

-- a mark more, with right gravity
pub marks-push : (gravities : List Gravity) (es : List Named) (name : List ℕ) (number : ℕ) → number < length gravities →
    list.IsLeastFree (list.numbers_of es) number
    → map (mark (slice_set gravities number Right)) (es ++ record { name = name; number = number } ∷ [])
    ≡ map (mark gravities) es ++ record { name = name; number = first_number + number; gravity = Right } ∷ []
marks-push gravities es name number within least =
    map_push (mark (slice_set gravities number Right)) es (record { name = name; number = number })
    ∙ ap₂ (λ ms m. ms ++ m ∷ [])
    (map-same (mark (slice_set gravities number Right)) (mark gravities) es (λ at e is.
    gravity_stays gravities number Right e (λ same.
    least.free (Contains-from_stands (list.numbers_of es) number (
      at,
      slice_get-map (λ (x : Named). x.number) es at
          ∙ ap (option_map (λ (x : Named). x.number)) is ∙ ap (λ n. Some n) same,
    )))))
    (gravity_turns gravities number Right (record { name = name; number = number }) within refl)

differs : (a b : List ℕ) → ¬ (a ≡ b) → bytes_eq a b ≡ false
differs a b apart = by (bytes_eq a b) refl
  where
    by : (t : Bool) → bytes_eq a b ≡ t → t ≡ false
    by false e = refl
    by true e = absurd (apart ((bytes_eq-Decides a b).0 e))

-- a mark of another gravity
pub marks-turned : (names : Names) (gravities : List Gravity) (name : List ℕ) (at number : ℕ) (gravity : Gravity) →
    AreNames names → place_of name names.entries ≡ Some at →
    slice_get (list.numbers_of names.entries) at ≡ Some number → number < length gravities
    → map (mark (slice_set gravities number gravity)) names.entries
    ≡ turned name gravity (map (mark gravities) names.entries)
marks-turned names gravities name at number gravity are is numbered within =
    let es = names.entries in
    let turn = λ (m : Mark). if is_named name m then record m { gravity = gravity } else m in
    let first = first_is (λ (e : Named). bytes_eq name e.name) es at is in
    let own = (bytes_eq-Decides name first.0.name).0
    (position-passes (λ (e : Named). bytes_eq name e.name) es at first.0 is first.1) in
    let named_here = slice_get-map (λ (x : Named). x.name) es at ∙ ap (option_map (λ (x : Named). x.name)) first.1
    ∙ ap (λ n. Some n) (sym own) in
    map-same (mark (slice_set gravities number gravity)) (λ e. turn (mark gravities e)) es (λ i e here.
    let numbered_e = slice_get-map (λ (x : Named). x.number) es i ∙ ap (option_map (λ (x : Named). x.number)) here in
    let named_e = slice_get-map (λ (x : Named). x.name) es i ∙ ap (option_map (λ (x : Named). x.name)) here in
    elim (cases_eq i at) [
      | inl same ↦
          let number_is = same_Some e.number number (sym numbered_e ∙ ap (slice_get (list.numbers_of es)) same
          ∙ numbered) in
          let name_is = same_Some name e.name (sym named_here ∙ ap (slice_get (list.names_of es)) (sym same)
          ∙ named_e) in
          gravity_turns gravities number gravity e within number_is
          ∙ ap (λ b. if b then record (mark gravities e) { gravity = gravity }
          else mark gravities e) (sym ((bytes_eq-Decides name e.name).1 name_is))
      | inr other ↦
          let not_number : e.number ≢ number = λ same.
          other (are.numbers_apart i at number (numbered_e ∙ ap (λ n. Some n) same) numbered) in
          let not_name : ¬ (name ≡ e.name) = λ same.
          other (are.names_apart i at name (named_e ∙ ap (λ n. Some n) (sym same)) named_here) in
          gravity_stays gravities number gravity e not_number
          ∙ ap (λ b. if b then record (mark gravities e) { gravity = gravity }
          else mark gravities e) (sym (differs name e.name not_name))
    ])
    ∙ sym (map-map turn (mark gravities) es)

-- a mark fewer
pub marks-remove : (gravities : List Gravity) (es : List Named) (name : List ℕ) (at : ℕ) → place_of name es ≡ Some at →
    map (mark gravities) (remove es at) ≡ without (is_named name) (map (mark gravities) es)
marks-remove gravities es name at is = map-remove (mark gravities) es at
    ∙ sym (without-remove (is_named name) (map (mark gravities) es) at (place_seen gravities name es ∙ is))

pub marks-keep : (marks : List Mark) (name : List ℕ) → position (is_named name) marks ≡ None →
    marks ≡ without (is_named name) marks
marks-keep marks name none = sym (without_none (is_named name) marks none)

pub gravity_known : (name : List ℕ) (marks : List Mark) (at : ℕ) → position (is_named name) marks ≡ Some at →
    (gravity : Gravity) × (gravity_of name marks ≡ Some gravity)
gravity_known name marks at is = let first = first_is (is_named name) marks at is in
    (first.0.gravity, ap (option_map (λ (m : Mark). m.gravity)) (found_at (is_named name) marks at is ∙ first.1))

-- the mark of a number
pub mark_with : (gravities : List Gravity) (es : List Named) (number own : ℕ) (found : Option ℕ) →
    first_number + own ≡ number
    → MatchOption found (¬ Contains (list.numbers_of es) own) (λ place. slice_get (list.numbers_of es) place ≡ Some own)
    → MatchOption found (¬ Contains (numbers_of (map (mark gravities) es)) number) (λ place.
    slice_get (numbers_of (map (mark gravities) es)) place ≡ Some number)
mark_with gravities es number own None same gone = rw (numbers_seen gravities es) (λ has.
    let at = stands_from_Contains (map (λ n. first_number + n) (list.numbers_of es)) number has in
    let old = stood_at (λ n. first_number + n) (list.numbers_of es) at.0 number at.1 in
    let own_is : old.0 ≡ own = let e = old.2 in omega arith in
    gone (Contains-from_stands (list.numbers_of es) own (at.0, old.1 ∙ ap (λ n. Some n) own_is)))
mark_with gravities es number own (Some place) same is = rw (numbers_seen gravities es)
    (slice_get-map (λ n. first_number + n) (list.numbers_of es) place ∙ ap (option_map (λ n. first_number + n)) is
    ∙ ap (λ n. Some n) same)

pub mark_only : (gravities : List Gravity) (es : List Named) (number own : ℕ) (found : Option ℕ) →
    first_number + own ≡ number
    → IfSome found (λ place. (other : ℕ) → slice_get (list.numbers_of es) other ≡ Some own → other ≡ place)
    → IfSome found (λ place. (other : ℕ) → slice_get (numbers_of (map (mark gravities) es)) other ≡ Some number →
    other ≡ place)
mark_only gravities es number own None same only = tt
mark_only gravities es number own (Some place) same only = rw (numbers_seen gravities es) (λ other is.
    let old = stood_at (λ n. first_number + n) (list.numbers_of es) other number is in
    let own_is : old.0 ≡ own = let e = old.2 in omega arith in
    only other (old.1 ∙ ap (λ n. Some n) own_is))

-- no shared mark has one of the numbers before
pub no_mark_with : (gravities : List Gravity) (es : List Named) (number : ℕ) → number < first_number →
    ¬ Contains (numbers_of (map (mark gravities) es)) number
no_mark_with gravities es number below = rw (numbers_seen gravities es) (λ has.
    let at = stands_from_Contains (map (λ n. first_number + n) (list.numbers_of es)) number has in
    let old = stood_at (λ n. first_number + n) (list.numbers_of es) at.0 number at.1 in
    let e = old.2 in absurd (omega arith))

pub taken_off : (number : ℕ) (rest : Option ℕ) → SomeIff rest (first_number ≤ number) (number - first_number) →
    (own : ℕ) → rest ≡ Some own → first_number + own ≡ number
taken_off number None h own is = absurd (none-some own is)
taken_off number (Some own) h other is = let same = same_Some own other is in let e = h.1 in let f = h.0 in omega arith

pub not_taken_off : (number : ℕ) (rest : Option ℕ) → SomeIff rest (first_number ≤ number) (number - first_number) →
    rest ≡ None → number < first_number
not_taken_off number None h is = omega arith
not_taken_off number (Some own) h is = absurd (none-some own (sym is))

-- the mark that was created last is what is taken out
pub marks-back : (marks : List Mark) (name : List ℕ) (number : ℕ) (gravity : Gravity) →
    position (is_named name) marks ≡ None →
    without (is_named name) (marks ++ record { name = name; number = number; gravity = gravity } ∷ []) ≡ marks
marks-back marks name number gravity none = without-push (is_named name) marks
    (record { name = name; number = number; gravity = gravity }) none ((bytes_eq-Decides name name).1 refl)
