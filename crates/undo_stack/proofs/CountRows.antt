-- The counts that were worked out by hand: at both ends of their type, and below 0.
use Rattle.undo_stack.proofs.Common.{◌≡◌, true, false, refl, pos, negsuc, counted_up, counted_down, counted_new, times}

at-the-greatest : times 1 counted_up (record { count = pos 9223372036854775807; fixed = false })
    ≡ record { count = pos 9223372036854775807; fixed = true }
at-the-greatest = refl

at-the-least : times 1 counted_down (record { count = negsuc 9223372036854775807; fixed = false })
    ≡ record { count = negsuc 9223372036854775807; fixed = true }
at-the-least = refl

new-below-0 : counted_new (record { count = negsuc 0; fixed = false }) ≡ record { count = negsuc 0; fixed = true }
new-below-0 = refl
