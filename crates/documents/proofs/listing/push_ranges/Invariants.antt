use Rattle.documents.proofs.Common.{part_of, ◌≡◌, ◌<◌, ◌≤◌, ◌+◌, false, string_bytes, IfSome, flag_at}
use Rattle.text_index.specs.Views.{shown, shown_flags}
use Rattle.documents.proofs.ListingLaws.{IsListed, left_of}
use Rattle.documents.proofs.listing.push_ranges.Given as goal

abbrev pub invariant-loop-next : goal.invariant-loop-next
invariant-loop-next g l = record {
  some : IfSome l.next (λ range. range.start < range.end);
  within : IfSome l.next (λ range. l.view.start + range.end ≤ l.view.end);
  unset : IfSome l.next (λ range. flag_at (shown_flags l.slot.0 (part_of l.view)) range.end ≡ false);
  listed : IsListed (shown (part_of l.view))
      (shown_flags l.slot.0 (part_of l.view)) (string_bytes l.fn.list)
      (string_bytes l.list) l.next;
}

abbrev pub decreases-loop-next : goal.decreases-loop-next
decreases-loop-next g l = left_of l.view.start l.view.end l.next
