-- Marks that were listed before changes of a text are settled after them: those stay that the changes don't place.
use Rattle.documents.proofs.Common.{◌≡◌, ◌≢◌, ℕ, ◌+◌, ◌-◌, ◌≤◌, ◌⊎◌, inl, inr, Bool, true, false, cond, List, [], ◌∷◌}
use Rattle.documents.proofs.Common.{◌++◌, Option, None, Some, length, map, take, drop, nat_lt, refl, sym, ap, ◌∙◌}
use Rattle.documents.proofs.Common.{subst, arith, nat_tests, option_map, if◌then◌else◌, IfSome, true≢false, All}
use Rattle.documents.proofs.Common.{All-cons, All-head, All-map, All-nil, All-tail, All-weaker, length-append}
use Rattle.documents.proofs.Common.{length-drop, length-map, length-take, Place, Document, characters, KeyedCell}
use Rattle.documents.proofs.Common.{is_same, Tells, drawn, goes_behind, moved, ◌^◌, AreFalling, after_change}
use Rattle.documents.proofs.Common.{TextChange, IsSettled, all_carried_within, carried_within, mark_taken, AreCarried}
use Rattle.documents.proofs.Common.{AreOthers, AreSingle, AreWatched, IsMarkChange, TellsMarks, carried, carried_all}
use Rattle.documents.proofs.Common.{mark_at, mark_carried, watched, MarkChange, MarkKey, MarkKind, Current, Shared}
use Rattle.documents.proofs.Common.{same-word, words-are}
use Rattle.documents.specs.declared.mark_lists.MarkKind.TheVariants.{Insert}
use Rattle.std.specs.List.Retain.{RetainsInTurn}

-- ---- how long a text is between falling changes

-- changes, the last position first, end at or below an offset
abbrev EndsBelow : ℕ → List TextChange → Type 0
EndsBelow most [] = Unit {0}
EndsBelow most (change ∷ changes) = change.at + change.removed ≤ most

after-length : (change : TextChange) (text : List ℕ) → change.at + change.removed ≤ length text →
    length (after_change change text) + change.removed ≡ length text + length change.inserted
after-length change text within =
    let all = length-append (take change.at text ++ change.inserted) (drop (change.at + change.removed) text) in
    let front = length-append (take change.at text) change.inserted in
    let taken = length-take change.at text in
    let left = length-drop (change.at + change.removed) text in
    omega (arith, all, front, taken, left, within)

falling-rest : (change : TextChange) (changes : List TextChange) → AreFalling (change ∷ changes) →
    EndsBelow change.at changes × AreFalling changes
falling-rest change [] falling = (tt, tt)
falling-rest change (next ∷ changes) falling = (omega (arith, falling.0), falling.1)

text-bounded : (changes : List TextChange) (text end : List ℕ) (most : ℕ) → Tells changes text end →
    AreFalling changes → EndsBelow most changes → length text ≤ most + length end
text-bounded [] text end most same falling below = omega (arith, ap length same)
text-bounded (change ∷ changes) text end most tells falling below =
    let rest = falling-rest change changes falling in
    let grown = text-bounded changes (after_change change text) end change.at tells.1 rest.1 rest.0 in
    let count = after-length change text tells.0.within in
    omega (arith, grown, count, below)

-- ---- a mark that is carried stays in the text

drawn-within : (from removed count : ℕ) (place : Place) → place.offset ≤ count → from + removed ≤ count →
    (drawn from (from + removed) place).offset + removed ≤ count
drawn-within from removed count place within fits = omega arith

moved-within : (at count : ℕ) (place : Place) → (moved at count place).offset ≤ place.offset + count
moved-within at count place =
    elim (goes_behind at place) as (λ b.
    (if b then record place { offset = place.offset + count } else place).offset ≤ place.offset + count)
    [ true ↦ omega arith | false ↦ omega arith ]

carried-plain : (most : ℕ) (change : TextChange) (place : Place) →
    (drawn change.at (change.at + change.removed) place).offset + length change.inserted ≤ most
    → carried_within most change place ≡ carried change place
carried-plain most change place fits =
    let drawn_to = drawn change.at (change.at + change.removed) place in
    let test : nat_lt (most - length change.inserted) drawn_to.offset ≡ false =
    untested (length change.inserted) drawn_to.offset fits in
    ap (λ b. if b then record drawn_to { offset = most } else carried change place) test
  where
    untested : (count offset : ℕ) → offset + count ≤ most → nat_lt (most - count) offset ≡ false
    untested count offset few = grind (arith, nat_tests)

-- a mark is never taken to the limit
carried-exact : (most : ℕ) (changes : List TextChange) (text end : List ℕ) (high : ℕ) (place : Place) →
    Tells changes text end → AreFalling changes → EndsBelow high changes → high + length end ≤ most →
    place.offset ≤ length text → all_carried_within most changes place ≡ carried_all changes place
carried-exact most [] text end high place tells falling below few within = refl
carried-exact most (change ∷ changes) text end high place tells falling below few within =
    let rest = falling-rest change changes falling in
    let after = after_change change text in
    let drawn_to : Place = drawn change.at (change.at + change.removed) place in
    let grown = text-bounded changes after end change.at tells.1 rest.1 rest.0 in
    let count = after-length change text tells.0.within in
    let drawn_in = drawn-within change.at change.removed (length text) place within tells.0.within in
    let room : drawn_to.offset + length change.inserted ≤ length after = omega (arith, count, drawn_in) in
    let fits : drawn_to.offset + length change.inserted ≤ most = omega (arith, room, grown, below, few) in
    let stays : (carried change place).offset ≤ length after =
    omega (arith, room, moved-within change.at (length change.inserted) drawn_to) in
    let fewer : change.at + length end ≤ most = omega (arith, below, few) in
    ap (all_carried_within most changes) (carried-plain most change place fits)
    ∙ carried-exact most changes after end change.at (carried change place) tells.1 rest.1 rest.0 fewer stays

ends-within : (changes : List TextChange) (text end : List ℕ) → Tells changes text end →
    EndsBelow (length text) changes
ends-within [] text end tells = tt
ends-within (change ∷ changes) text end tells = tells.0.within

-- ---- marks that are taken along

-- a mark is where changes of the text take it, and says where it was
pub record IsTaken (changes : List TextChange) (old : Document) (mark : MarkChange) : Type 0 where
  pub before : mark.old ≡ mark_at old mark.key
  pub goes : mark.new ≡ mark_carried changes old mark.key

module _ (most : ℕ) (large : 2 ^ 61 ≤ most) (changes : List TextChange) (old new : Document)
    (carry : AreCarried changes old new) where
  place-taken : (found : Option Place) → IfSome found (λ place. place.offset ≤ length old.cells) →
      option_map (all_carried_within most changes) found ≡ option_map (carried_all changes) found
  place-taken None stands = refl
  place-taken (Some place) stands =
      let a : List ℕ = characters old.cells in
      let b : List ℕ = characters new.cells in
      let before : length a ≡ length old.cells = length-map old.cells (λ (cell : KeyedCell). cell.character) in
      let after : length b ≡ length new.cells = length-map new.cells (λ (cell : KeyedCell). cell.character) in
      ap Some (carried-exact most changes a b (length a) place carry.tells carry.falling
      (ends-within changes a b carry.tells) (omega (arith, before, after, carry.short.0, carry.short.1, large))
      (omega (arith, before, stands)))

  mark-taken : (mark : MarkChange) → mark ≡ watched old mark.key →
      IsTaken changes old (mark_taken (all_carried_within most changes) mark)
  mark-taken mark is = record {
    before = ap (λ (m : MarkChange). m.old) is;
    goes = ap (λ (m : MarkChange). option_map (all_carried_within most changes) m.new) is
        ∙ place-taken (mark_at old mark.key) (carry.stand mark.key);
  }

  pub marks-taken : (marks : List MarkChange) → AreWatched old marks →
      All (IsTaken changes old) (map (mark_taken (all_carried_within most changes)) marks)
  marks-taken marks listed =
      All-map (IsTaken changes old) (mark_taken (all_carried_within most changes)) marks
      (All-weaker (λ (mark : MarkChange). mark ≡ watched old mark.key)
      (λ (mark : MarkChange). IsTaken changes old (mark_taken (all_carried_within most changes) mark)) mark-taken
      marks listed.each)

-- their keys stay
taken-others : (goes : Place → Place) (key : MarkKey) (marks : List MarkChange) → AreOthers key marks →
    AreOthers key (map (mark_taken goes) marks)
taken-others goes key marks others =
    All-map (λ (mark : MarkChange). mark.key ≢ key) (mark_taken goes) marks others

pub others-taken : (goes : Place → Place) (key : MarkKey) (marks : List MarkChange) →
    AreOthers key (map (mark_taken goes) marks) → AreOthers key marks
others-taken goes key [] others = All-nil (λ (mark : MarkChange). mark.key ≢ key)
others-taken goes key (mark ∷ marks) others =
    let P : MarkChange → Type 0 = λ (mark : MarkChange). mark.key ≢ key in
    All-cons P mark marks (All-head P (mark_taken goes mark) (map (mark_taken goes) marks) others)
    (others-taken goes key marks (All-tail P (mark_taken goes mark) (map (mark_taken goes) marks) others))

pub taken-single : (goes : Place → Place) (marks : List MarkChange) → AreSingle marks →
    AreSingle (map (mark_taken goes) marks)
taken-single goes [] single = tt
taken-single goes (mark ∷ marks) single =
    (taken-others goes mark.key marks single.0, taken-single goes marks single.1)

-- ---- keys are the same, or not

kinds : (a b : MarkKind) → (a ≡ b) ⊎ (a ≢ b)
kinds Insert Insert = inl refl
kinds Insert Current = inr (λ same. (let h : Insert ≡ Current = same in absurd (cc)))
kinds Insert Shared = inr (λ same. (let h : Insert ≡ Shared = same in absurd (cc)))
kinds Current Insert = inr (λ same. (let h : Current ≡ Insert = same in absurd (cc)))
kinds Current Current = inl refl
kinds Current Shared = inr (λ same. (let h : Current ≡ Shared = same in absurd (cc)))
kinds Shared Insert = inr (λ same. (let h : Shared ≡ Insert = same in absurd (cc)))
kinds Shared Current = inr (λ same. (let h : Shared ≡ Current = same in absurd (cc)))
kinds Shared Shared = inl refl

one-key : (a b : MarkKey) → (a ≡ b) ⊎ (a ≢ b)
one-key a b = elim (kinds a.kind b.kind) [
  | inl kind ↦ elim (is_same a.name b.name) as (λ t. is_same a.name b.name ≡ t → (a ≡ b) ⊎ (a ≢ b)) [
    | true ↦ λ is. inl (λ i. record { kind = kind i; name = words-are a.name b.name is i })
    | false ↦ λ other. inr (λ same. true≢false (sym (same-word a.name)
        ∙ ap (λ (key : MarkKey). is_same a.name key.name) same ∙ other))
  ] refl
  | inr other ↦ inr (λ same. other (ap (λ (key : MarkKey). key.kind) same))
]

-- ---- marks that are settled

-- of taken marks those are left that aren't where they were taken
pub record AreSettled (changes : List TextChange) (old new : Document) (marks left : List MarkChange) : Type 0 where
  pub each : All (IsMarkChange changes old new) left
  pub single : AreSingle left
  pub fewer : (key : MarkKey) → AreOthers key marks → AreOthers key left
  pub others : (key : MarkKey) → AreOthers key left →
      AreOthers key marks ⊎ (mark_at new key ≡ mark_carried changes old key)

module _ (changes : List TextChange) (old new : Document) where
  settled-left : (mark after : MarkChange) (marks left : List MarkChange) → IsTaken changes old mark →
      AreOthers mark.key marks → after ≡ record mark { new = mark_at new mark.key }
      → mark_at new mark.key ≢ mark.new → AreSettled changes old new marks left
      → AreSettled changes old new (mark ∷ marks) (after ∷ left)
  settled-left mark after marks left taken apart place moved settled =
      let set : MarkChange = record mark { new = mark_at new mark.key } in
      subst (λ (m : MarkChange). AreSettled changes old new (mark ∷ marks) (m ∷ left)) (sym place) (record {
        each = All-cons (IsMarkChange changes old new) set left (record {
          before = taken.before;
          after = refl;
          differs = λ same. moved (same ∙ sym taken.goes);
        }) settled.each;
        single = (settled.fewer mark.key apart, settled.single);
        fewer = λ key others.
            let P : MarkChange → Type 0 = λ (m : MarkChange). m.key ≢ key in
            All-cons P set left (All-head P mark marks others)
            (settled.fewer key (All-tail P mark marks others));
        others = λ key others.
            let P : MarkChange → Type 0 = λ (m : MarkChange). m.key ≢ key in
            elim (settled.others key (All-tail P set left others)) [
              | inl rest ↦ inl (All-cons P mark marks (All-head P set left others) rest)
              | inr is ↦ inr is
            ];
      })

  settled-gone : (mark : MarkChange) (marks left : List MarkChange) → IsTaken changes old mark →
      mark_at new mark.key ≡ mark.new → AreSettled changes old new marks left
      → AreSettled changes old new (mark ∷ marks) left
  settled-gone mark marks left taken there settled = record {
    each = settled.each;
    single = settled.single;
    fewer = λ key others. settled.fewer key (All-tail (λ (m : MarkChange). m.key ≢ key) mark marks others);
    others = λ key others.
        let P : MarkChange → Type 0 = λ (m : MarkChange). m.key ≢ key in
        elim (settled.others key others) [
          | inl rest ↦ elim (one-key mark.key key) [
            | inl same ↦ inr (ap (mark_at new) (sym same) ∙ there ∙ taken.goes ∙ ap (mark_carried changes old) same)
            | inr other ↦ inl (All-cons P mark marks other rest)
          ]
          | inr is ↦ inr is
        ];
  }

  settled-next : (mark after : MarkChange) (elsewhere : Bool) (marks left : List MarkChange) →
      IsTaken changes old mark → AreOthers mark.key marks → IsSettled new mark elsewhere after →
      AreSettled changes old new marks left
      → AreSettled changes old new (mark ∷ marks) (cond elsewhere (after ∷ left) left)
  settled-next mark after true marks left taken apart settled rest =
      settled-left mark after marks left taken apart settled.place (settled.moved refl) rest
  settled-next mark after false marks left taken apart settled rest =
      settled-gone mark marks left taken (settled.there refl) rest

  -- the closure that settles them stays as it is
  settled-all : {S : Type 0} (R : S → MarkChange → Bool → S → MarkChange → Type 0) (Stays : S → Type 0) →
      ((s : S) (mark : MarkChange) (elsewhere : Bool) (t : S) (after : MarkChange) → Stays s →
      R s mark elsewhere t after → IsSettled new mark elsewhere after × Stays t)
      → (s : S) → Stays s → (marks left : List MarkChange) → All (IsTaken changes old) marks → AreSingle marks
      → RetainsInTurn R s marks left → AreSettled changes old new marks left
  settled-all R Stays settles s stays [] left taken single is =
      subst (AreSettled changes old new []) (sym is) (record {
        each = All-nil (IsMarkChange changes old new);
        single = tt;
        fewer = λ key others. others;
        others = λ key others. inl others;
      })
  settled-all R Stays settles s stays (mark ∷ marks) left taken single ran =
      let one = settles s mark ran.0 ran.1 ran.2 stays ran.3 in
      subst (AreSettled changes old new (mark ∷ marks)) (sym ran.6)
      (settled-next mark ran.2 ran.0 marks ran.4 (All-head (IsTaken changes old) mark marks taken) single.0 one.0
      (settled-all R Stays settles ran.1 one.1 marks ran.4 (All-tail (IsTaken changes old) mark marks taken) single.1
      ran.5))

-- marks that were listed, taken and settled are those that changes of the text alone don't place
pub settled-told : {S : Type 0} (R : S → MarkChange → Bool → S → MarkChange → Type 0) (Stays : S → Type 0)
    (most : ℕ) → 2 ^ 61 ≤ most →
    (changes : List TextChange) (old new : Document) (s : S) → Stays s → (marks taken left : List MarkChange) →
    ((s : S) (mark : MarkChange) (elsewhere : Bool) (t : S) (after : MarkChange) → Stays s →
    R s mark elsewhere t after → IsSettled new mark elsewhere after × Stays t)
    → RetainsInTurn R s taken left → taken ≡ map (mark_taken (all_carried_within most changes)) marks
    → AreWatched old marks → AreCarried changes old new
    → ((key : MarkKey) → AreOthers key marks → mark_at new key ≡ mark_carried changes old key)
    → TellsMarks changes old new left
settled-told R Stays most large changes old new s stays marks taken left settles ran is listed carry stay =
    let goes : Place → Place = all_carried_within most changes in
    let settled = settled-all changes old new R Stays settles s stays (map (mark_taken goes) marks) left
    (marks-taken most large changes old new carry marks listed) (taken-single goes marks listed.single)
    (subst (λ (ms : List MarkChange). RetainsInTurn R s ms left) is ran) in
    record {
      each = settled.each;
      single = settled.single;
      others = λ key others. elim (settled.others key others) [
        | inl rest ↦ stay key (others-taken goes key marks rest)
        | inr is ↦ is
      ];
    }

-- nothing is left of no marks
pub settled-none : {S : Type 0} (R : S → MarkChange → Bool → S → MarkChange → Type 0) (goes : Place → Place) (s : S)
    (marks taken left : List MarkChange) → RetainsInTurn R s taken left → taken ≡ map (mark_taken goes) marks
    → marks ≡ [] → left ≡ []
settled-none R goes s marks taken left ran is none =
    subst (λ (ms : List MarkChange). RetainsInTurn R s ms left) (is ∙ ap (map (mark_taken goes)) none) ran
