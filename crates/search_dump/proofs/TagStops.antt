-- Where a dump stops at tags.
use Rattle.search_dump.proofs.Common.{outlook, Outlook, slot_at, ◌≡◌, ℕ, zero, suc, inl, inr, ◌-◌, ◌<◌, ◌≤◌, ◌||◌, Bool}
use Rattle.search_dump.proofs.Common.{true, false, List, [], ◌∷◌, length, map, get_or, refl, sym, ap, ◌∙◌, arith}
use Rattle.search_dump.proofs.Common.{list_any, cases_Bool, cases_lt, or_left, or_right, true≢false, get_or-map, Tag}
use Rattle.search_dump.proofs.Common.{next_change, Slots, shown_flags, AreAt, AreBefore, IsKnown, IsNearest, begins_at}
use Rattle.search_dump.proofs.Common.{ends_at, own_slot, seen_by, tag_seen, FailsBetween, IsNextStop, has_tag_at}
use Rattle.search_dump.proofs.ChangeLaws.{quiet-between, quiet-upto, turns, turns-there}
use Rattle.search_dump.proofs.DumpLaws.{no_tag, slot-there}

-- whether one of some tags turns at a place
abbrev tag_turns : Outlook → ℕ → Tag → Bool
tag_turns outlook place tag = turns (shown_flags (own_slot outlook.widget tag.slot) outlook.part) place

pub any-map : {A B : Type 0} (test : B → Bool) (f : A → B) (xs : List A) →
    list_any test (map f xs) ≡ list_any (λ x. test (f x)) xs
any-map test f [] = refl
any-map test f (x ∷ xs) = ap (λ b. test (f x) || b) (any-map test f xs)

pub none-of : {A : Type 0} (test : A → Bool) (d : A) (xs : List A) →
    ((at : ℕ) → at < length xs → test (get_or xs at d) ≡ false) → list_any test xs ≡ false
none-of test d [] none = refl
none-of test d (x ∷ xs) none = ap (λ b. b || list_any test xs) (none 0 (omega arith))
    ∙ none-of test d xs (λ at within. none (suc at) (omega arith))

pub one-of : {A : Type 0} (test : A → Bool) (d : A) (xs : List A) (at : ℕ) → at < length xs → test (get_or xs at d) ≡ true →
    list_any test xs ≡ true
one-of test d [] at within is = absurd (omega arith)
one-of test d (x ∷ xs) zero within is = or_left (test x) (list_any test xs) is
one-of test d (x ∷ xs) (suc at) within is = or_right (test x) (list_any test xs) (one-of test d xs at (omega arith) is)

turns-same : (outlook : Outlook) (place : ℕ)
    → has_tag_at (seen_by outlook) place
    ≡ list_any (tag_turns outlook place) outlook.tags
turns-same outlook place =
    any-map (λ tag. begins_at place tag || ends_at place tag) (tag_seen outlook) outlook.tags

pub tag-stop : (outlook : Outlook) (place to stop : ℕ)
    (next : List ℕ) → place < to → to ≤ outlook.part.end - outlook.part.start
    → ((slot : ℕ) → slot ≡ slot → length (shown_flags slot outlook.part) ≡ outlook.part.end - outlook.part.start)
    → ((at : ℕ) → at < length outlook.tags → IsKnown outlook place next at)
    → ((at : ℕ) → at < length outlook.tags → place
    < next_change (shown_flags (slot_at outlook at) outlook.part) place)
    → IsNearest next (length outlook.tags) to stop
    → (place < stop) × IsNextStop (has_tag_at (seen_by outlook)) place to stop
tag-stop outlook place to stop next some within long known later nearest =
    let change : ℕ → ℕ = λ at. next_change (shown_flags (slot_at outlook at) outlook.part) place
    in
    let slot-of : (at : ℕ) → at < length outlook.tags → slot_at outlook at
    ≡ own_slot outlook.widget (get_or outlook.tags at no_tag).slot =
    λ at inside. ap (own_slot outlook.widget) (get_or-map (λ (tag : Tag). tag.slot) outlook.tags at no_tag 0 inside) in
    let above : place < stop = elim nearest.reached [
      | inl end-is ↦ omega arith
      | inr row ↦ omega (arith, row.2, known row.0 row.1, later row.0 row.1)
    ] in (
      above,
      record {
        fails = λ k from upto.
            turns-same outlook k
            ∙ none-of (tag_turns outlook k) no_tag outlook.tags (λ at inside.
            ap (λ s. turns (shown_flags s outlook.part) k) (sym (slot-of at inside))
            ∙ quiet-between (shown_flags (slot_at outlook at) outlook.part) place k from
            (omega (arith, nearest.each at inside, known at inside)));
        reached = elim (cases_lt stop to) [
          | inr end-is ↦ inl (omega (arith, nearest.within))
          | inl before ↦ elim nearest.reached [
            | inl end-is ↦ inl end-is
            | inr row ↦
                let there : next_change (shown_flags (slot_at outlook row.0) outlook.part) place
                ≡ stop = sym (known row.0 row.1) ∙ row.2 in
                inr (turns-same outlook stop
                ∙ one-of (tag_turns outlook stop) no_tag outlook.tags row.0 row.1
                (ap (λ s. turns (shown_flags s outlook.part) stop) (sym (slot-of row.0 row.1))
                ∙ ap (turns (shown_flags (slot_at outlook row.0) outlook.part)) (sym there)
                ∙ turns-there (shown_flags (slot_at outlook row.0) outlook.part) place
                (later row.0 row.1)
                (omega (arith, there, long (slot_at outlook row.0) refl))))
          ]
        ];
      },
    )

-- ---- where no tag turns

module _ (outlook : Outlook) where
  none-turns : (k : ℕ) → has_tag_at (seen_by outlook) k ≡ false →
      (at : ℕ) → at < length outlook.tags
      → turns (shown_flags (slot_at outlook at) outlook.part) k ≡ false
  none-turns k none at within =
      let test = tag_turns outlook k in
      ap (λ s. turns (shown_flags s outlook.part) k) (slot-there outlook.widget outlook.tags at within)
      ∙ elim (cases_Bool (test (get_or outlook.tags at no_tag))) [
        | inl on ↦ absurd (true≢false (sym (one-of test no_tag outlook.tags at within on)
            ∙ sym (turns-same outlook k) ∙ none))
        | inr off ↦ off
      ]

  -- the tags at a place are those before the next one where a tag may turn
  pub before-on : (place next : ℕ) (slots : Slots) → place < next →
      FailsBetween (has_tag_at (seen_by outlook)) place next →
      AreAt outlook place slots → AreBefore outlook next slots
  before-on place next slots above quiet are at within =
      are at within
      ∙ sym (quiet-upto (shown_flags (slot_at outlook at) outlook.part) place next above
      (λ k low high. none-turns k (quiet k low high) at within))
