use Rattle.search_dump.proofs.Common.{part_of, [], arith, chars, inl, inr, string_bytes, subst, sym, slice_index_or}
use Rattle.search_dump.proofs.Common.{goes_nowhere, shown, element, if_listed, only_in, Goes}
use Rattle.tag_table.specs.Tags.{names_of}
use Rattle.search_dump.proofs.DumpLaws.{alike-none, flat-front, flat-rest, goes_flat, no_tag, tag-row}
use Rattle.search_dump.proofs.dumping.push_tags.Goals as goal

pub loop-at-init : goal.loop-at-init
loop-at-init g c =
    let view = c.args.sight.now.view.now in
    let text = shown (part_of view) in
    let tags = c.args.sight.now.names.now.tags.now.tags in
    let key = chars c.args.key.now in
    let widget = c.args.sight.now.names.now.widget.0 in
    let sides = c.args.sides.now in
    subst (Goes (string_bytes c.args.out.now.list) (string_bytes c.args.out.now.list))
    (sym (flat-front (only_in sides.on.now sides.off.now widget key text c.args.spot.place) no_tag tags sides.rows.first
    (λ at within below. alike-none sides.on.now sides.off.now widget key text c.args.spot.place tags at within
    (c.requires.alike at within (inl below)))))
    (goes_nowhere (string_bytes c.args.out.now.list))

pub loop-at-preserved : goal.loop-at-preserved
loop-at-preserved g c =
    let view = c.args.sight.now.view.now in
    let text = shown (part_of view) in
    let tags = c.args.sight.now.names.now.tags.now.tags in
    let key = chars c.args.key.now in
    let widget = c.args.sight.now.names.now.widget.0 in
    let sides = c.args.sides.now in
    goes_flat (only_in sides.on.now sides.off.now widget key text c.args.spot.place) (string_bytes c.args.out.now.list)
    (string_bytes c.loop-at.out.list) (string_bytes c.push_tag.new.out.list) tags c.loop-at.at no_tag
    (if_listed c.is_only_in.result (element key text c.args.spot.place (slice_index_or (names_of tags) c.loop-at.at [])))
    (omega (arith, c.requires.rows))
    (tag-row sides.on.now sides.off.now widget key text c.args.spot.place tags c.loop-at.at no_tag c.is_only_in.result
    c.own_slot-slot.result.0 (omega (arith, c.requires.rows))
    c.is_only_in.ensures c.own_slot-slot.ensures.value)
    c.loop-at.invariant c.in_ok-push_tag.ensures

pub returns : goal.returns
returns g c =
    let view = c.args.sight.now.view.now in
    let text = shown (part_of view) in
    let tags = c.args.sight.now.names.now.tags.now.tags in
    let key = chars c.args.key.now in
    let widget = c.args.sight.now.names.now.widget.0 in
    let sides = c.args.sides.now in
    subst (Goes (string_bytes c.args.out.now.list) (string_bytes c.loop-at.out.list))
    (flat-rest (only_in sides.on.now sides.off.now widget key text c.args.spot.place) no_tag tags c.loop-at.at
    (λ at within above. alike-none sides.on.now sides.off.now widget key text c.args.spot.place tags at within
    (c.requires.alike at within (inr (omega (arith, above, c.loop-at-test.false))))))
    c.loop-at.invariant
