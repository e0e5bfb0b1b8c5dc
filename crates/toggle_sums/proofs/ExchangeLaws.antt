-- What goes and what comes in its place, where the toggles of both are the same or those of the one are in the other.
use Rattle.toggle_sums.proofs.Common.{◌≡◌, Bool, true, false, ◌||◌, refl, sym, ap, ◌∙◌, nat_cmp_total, Slots, differing}
use Rattle.toggle_sums.proofs.Common.{differing-associative, differing-empty, differing-self, same_slots, union-empty}
use Rattle.toggle_sums.specs.Counts.{ArePart, AreSame, Count, IsWithin, counting, less, plus, without}
use Rattle.std.specs.FinSet as set

or_true : (b : Bool) → (b || true) ≡ true
or_true true = refl
or_true false = refl

absorbs : (a b : Bool) → (b ≡ true → a ≡ true) → (a || b) ≡ a
absorbs true b part = refl
absorbs false true part = sym (part refl)
absorbs false false part = refl

-- a part of a set adds nothing to it
pub part_of-union : (s t : Slots) → set.union t s ≡ t → ArePart s t
part_of-union s t within = λ q is.
    ap (λ u. set.contains u q) (sym within) ∙ set.contains-union nat_cmp_total t s q
    ∙ ap (λ b. set.contains t q || b) is ∙ or_true (set.contains t q)

pub union-part : (s t : Slots) → ArePart s t → set.union t s ≡ t
union-part s t part =
    same_slots _ _ (λ q. set.contains-union nat_cmp_total t s q
    ∙ absorbs (set.contains t q) (set.contains s q) (part q))

pub part-same : (s t : Slots) → AreSame s t → ArePart s t
part-same s t same = λ q is. sym (same q) ∙ is

-- to count alone is enough where the toggles are the same
pub levelled : (gone more old : Count) → AreSame gone.parity more.parity → IsWithin more old →
    less gone.lines gone.characters gone.marks (plus old (counting more.lines more.characters more.marks))
    ≡ without gone (plus old more)
levelled gone more old same within =
    let both = plus old more in
    let odd : differing (differing old.parity more.parity) gone.parity ≡ old.parity =
    differing-associative old.parity more.parity gone.parity
    ∙ ap (λ s. differing old.parity (differing more.parity s)) (same_slots gone.parity more.parity same)
    ∙ ap (differing old.parity) (differing-self more.parity) ∙ differing-empty old.parity in
    λ i. record (without gone both) {
      parity = (differing-empty old.parity ∙ sym odd) i;
      presence = (union-empty old.presence ∙ sym within) i;
    }
