-- Which slots change where one is put in a set, or taken out of it: none, or that one.
use Rattle.line_lists.proofs.Common.{◌≡◌, ℕ, Bool, true, false, not, ◌&&◌, ◌||◌, ◌==◌, refl, sym, ap, ◌∙◌, arith}
use Rattle.line_lists.proofs.Common.{false≢true, nat_tests, nat_cmp_total, unsigned_tied, nat_cmp, Slots, differing}
use Rattle.line_lists.proofs.Common.{set_slot, contains-differing, either, same_slots, ap₂, beq}
use Rattle.segments.proofs.EntryLaws.{unequal}
use Rattle.text_model.specs.TagBitLaws.{contains_inserted}
use Rattle.std.specs.FinSet as set

stays_on : (k q : ℕ) (c : Bool) → (q ≡ k → c ≡ true) → false ≡ either c (q == k || c)
stays_on k q true is = grind (arith, nat_tests)
stays_on k q false is = grind (arith, nat_tests)

stays_off : (k q : ℕ) (c : Bool) → (q ≡ k → c ≡ false) → false ≡ either c (not (q == k) && c)
stays_off k q true is = grind (arith, nat_tests)
stays_off k q false is = grind (arith, nat_tests)

turns_on : (k q : ℕ) (c : Bool) → (q ≡ k → c ≡ false) → (q == k || false) ≡ either c (q == k || c)
turns_on k q true is = grind (arith, nat_tests)
turns_on k q false is = grind (arith, nat_tests)

turns_off : (k q : ℕ) (c : Bool) → (q ≡ k → c ≡ true) → (q == k || false) ≡ either c (not (q == k) && c)
turns_off k q true is = grind (arith, nat_tests)
turns_off k q false is = grind (arith, nat_tests)

contains_removed : (slots : Slots) (k q : ℕ) →
    set.contains (set.remove slots k) q ≡ (not (q == k) && set.contains slots q)
contains_removed slots k q =
    set.contains-remove nat_cmp_total slots k q ∙ ap (λ t. not t && set.contains slots q) (unsigned_tied q k)

contains_one : (k q : ℕ) → set.contains {R = nat_cmp} (set.insert set.empty k) q ≡ (q == k || false)
contains_one k q =
    contains_inserted set.empty k q ∙ ap (λ b. q == k || b) (set.contains-empty nat_cmp q)

-- a slot that is as it is to be
pub unswitched : (slots : Slots) (k : ℕ) (on : Bool) → set.contains slots k ≡ on →
    set.empty ≡ differing slots (set_slot k on slots)
unswitched slots k true is =
    same_slots _ _ (λ q.
    set.contains-empty nat_cmp q
    ∙ stays_on k q (set.contains slots q) (λ e. ap (set.contains slots) e ∙ is)
    ∙ sym (contains-differing slots (set.insert slots k) q
    ∙ ap (either (set.contains slots q)) (contains_inserted slots k q)))
unswitched slots k false is =
    same_slots _ _ (λ q.
    set.contains-empty nat_cmp q
    ∙ stays_off k q (set.contains slots q) (λ e. ap (set.contains slots) e ∙ is)
    ∙ sym (contains-differing slots (set.remove slots k) q
    ∙ ap (either (set.contains slots q)) (contains_removed slots k q)))

-- one that isn't
pub switched_one : (slots : Slots) (k : ℕ) (on : Bool) → set.contains slots k ≡ not on →
    set.insert set.empty k ≡ differing slots (set_slot k on slots)
switched_one slots k true is =
    same_slots _ _ (λ q.
    contains_one k q
    ∙ turns_on k q (set.contains slots q) (λ e. ap (set.contains slots) e ∙ is)
    ∙ sym (contains-differing slots (set.insert slots k) q
    ∙ ap (either (set.contains slots q)) (contains_inserted slots k q)))
switched_one slots k false is =
    same_slots _ _ (λ q.
    contains_one k q
    ∙ turns_off k q (set.contains slots q) (λ e. ap (set.contains slots) e ∙ is)
    ∙ sym (contains-differing slots (set.remove slots k) q
    ∙ ap (either (set.contains slots q)) (contains_removed slots k q)))

-- two flags that are the same
pub same_flag : (b on : Bool) → beq b on ≡ true → b ≡ on
same_flag true true e = refl
same_flag true false e = sym e
same_flag false true e = e
same_flag false false e = refl

-- of two flags that aren't the same one is the other's opposite
pub opposite : (b on : Bool) → beq b on ≡ false → b ≡ not on
opposite true true e = absurd (false≢true (sym e))
opposite true false e = refl
opposite false true e = refl
opposite false false e = absurd (false≢true (sym e))

-- whether a slot is in one of two sets alone
pub in_one : (first second : Slots) (slot : ℕ) (a b : Bool) → a ≡ set.contains first slot →
    b ≡ set.contains second slot → not (beq a b) ≡ set.contains (differing first second) slot
in_one first second slot a b in_first in_second =
    unequal a b ∙ ap₂ either in_first in_second ∙ sym (contains-differing first second slot)
