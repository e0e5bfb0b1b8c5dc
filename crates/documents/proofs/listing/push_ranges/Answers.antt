use Rattle.documents.proofs.Common.{part_of, string_bytes, range-unset}
use Rattle.text_index.specs.Views.{shown, shown_flags}
use Rattle.documents.proofs.ListingLaws.{listed-none, listed-more}
use Rattle.documents.proofs.listing.push_ranges.Goals as goal

pub loop-next-init : goal.loop-next-init
loop-next-init g c =
    let view = c.args.view.now in
    let flags = shown_flags c.args.slot.0 (part_of view) in
    let next = c.next_range-next.result in
    record {
      some = c.next_range-next.ensures.some;
      within = c.next_range-next.ensures.bound;
      unset = range-unset flags 0 next c.next_range-next.ensures.value;
      listed = listed-none (shown (part_of view)) flags (string_bytes c.args.list.now) next
          c.next_range-next.ensures.later;
    }

pub loop-next-preserved : goal.loop-next-preserved
loop-next-preserved g c =
    let view = c.args.view.now in
    let flags = shown_flags c.args.slot.0 (part_of view) in
    let range = c.in-Some.range in
    let next = c.range_behind-next.result in
    record {
      some = c.range_behind-next.ensures.some;
      within = c.range_behind-next.ensures.bound;
      unset = range-unset flags range.end next c.range_behind-next.ensures.value;
      listed = listed-more (shown (part_of view)) flags (string_bytes c.args.list.now)
          (string_bytes c.loop-next.list) (string_bytes c.push_range.new.list) c.loop-next.next range next
          c.loop-next.invariant.listed c.in-Some.is c.range_behind-next.ensures.later c.in_ok-push_range.ensures;
    }
