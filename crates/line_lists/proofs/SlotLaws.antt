-- Sets of slots that differ.
use Rattle.line_lists.proofs.Common.{◌≡◌, ℕ, Bool, true, false, cond, ◌==◌, refl, sym, ap, ap₂, ◌∙◌, nat_cmp, Slots}
use Rattle.line_lists.proofs.Common.{differing, set_slot, contains-set_slot, contains-differing, differing-commutative}
use Rattle.line_lists.proofs.Common.{either, same_slots}
use Rattle.std.specs.FinSet as set

either-again : (a b : Bool) → either a (either a b) ≡ b
either-again true true = refl
either-again true false = refl
either-again false true = refl
either-again false false = refl

-- what differs twice is as before
pub differing-again : (s t : Slots) → differing s (differing s t) ≡ t
differing-again s t =
    same_slots _ _ (λ q.
    contains-differing s (differing s t) q
    ∙ ap (either (set.contains s q)) (contains-differing s t q)
    ∙ either-again (set.contains s q) (set.contains t q))

pub differing-back : (s t : Slots) → differing t (differing s t) ≡ s
differing-back s t = ap (differing t) (differing-commutative s t) ∙ differing-again t s

either-set : (same on a b : Bool) → either (cond same on a) (cond same false b) ≡ cond same on (either a b)
either-set true true a b = refl
either-set true false a b = refl
either-set false on a b = refl

-- a slot is put in a set, and is no longer among those that differ
pub differing-set : (slot : ℕ) (on : Bool) (s t : Slots) →
    differing (set_slot slot on s) (set_slot slot false t) ≡ set_slot slot on (differing s t)
differing-set slot on s t =
    same_slots _ _ (λ q.
    contains-differing (set_slot slot on s) (set_slot slot false t) q
    ∙ ap₂ either (contains-set_slot slot on s q) (contains-set_slot slot false t q)
    ∙ either-set (q == slot) on (set.contains s q) (set.contains t q)
    ∙ sym (contains-set_slot slot on (differing s t) q ∙ ap (cond (q == slot) on) (contains-differing s t q)))

either-self : (a : Bool) → either a a ≡ false
either-self true = refl
either-self false = refl

pub differing-self : (s : Slots) → differing s s ≡ set.empty
differing-self s =
    same_slots _ _ (λ q. contains-differing s s q ∙ either-self (set.contains s q) ∙ sym (set.contains-empty nat_cmp q))
