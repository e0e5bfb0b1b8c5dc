use Rattle.search_dump.proofs.Common.{part_of, outlook, ◌++◌, ap, string_bytes, subst, sym, ◌∙◌, flat_map, not-false}
use Rattle.search_dump.proofs.Common.{Goes, goes_on, shown, if_listed, only_in, seen_by, tagoff_elements}
use Rattle.search_dump.proofs.Common.{tagon_elements}
use Rattle.search_dump.proofs.PlainWords.{tagoff-plain, tagon-plain}
use Rattle.search_dump.proofs.SeenLaws.{tagoff-characters, tagoffs-are, tagon-characters, tagons-are}
use Rattle.search_dump.proofs.dumping.push_listed_tags.Goals as goal

pub returns : goal.returns
returns g c =
    let view = c.args.sight.now.view.now in
    let text = shown (part_of view) in
    let tags = c.args.sight.now.names.now.tags.now.tags in
    let widget = c.args.sight.now.names.now.widget.0 in
    let place = c.args.spot.place in
    let before = c.args.sides.now.on.now in
    let behind = c.args.sides.now.off.now in
    let seen = seen_by (outlook c.args.sight.now) in
    let is = not-false c.args.listed.tags c.if-not-listed.false in
    subst (λ b. Goes (string_bytes c.args.out.now.list) (string_bytes c.push_tags-2.new.out.list)
    (if_listed b (tagoff_elements seen place) ++ if_listed b (tagon_elements seen place))) (sym is)
    (goes_on (string_bytes c.args.out.now.list) (string_bytes c.push_tags.new.out.list)
    (string_bytes c.push_tags-2.new.out.list)
    (tagoff_elements seen place) (tagon_elements seen place)
    (subst (Goes (string_bytes c.args.out.now.list) (string_bytes c.push_tags.new.out.list))
    (ap (λ key. flat_map (only_in before behind widget key text place) tags) tagoff-characters
    ∙ tagoffs-are (outlook c.args.sight.now) place before behind (c.requires.before is)
    (c.requires.behind is))
    c.in_ok-push_tags.ensures)
    (subst (Goes (string_bytes c.push_tags.new.out.list) (string_bytes c.push_tags-2.new.out.list))
    (ap (λ key. flat_map (only_in behind before widget key text place) tags) tagon-characters
    ∙ tagons-are (outlook c.args.sight.now) place before behind (c.requires.before is)
    (c.requires.behind is))
    c.in_ok-push_tags-2.ensures))

pub push_tags-requires-clause-plain : goal.push_tags-requires-clause-plain
push_tags-requires-clause-plain g c = tagoff-plain

pub push_tags-requires-2-clause-plain : goal.push_tags-requires-2-clause-plain
push_tags-requires-2-clause-plain g c = tagon-plain

pub push_tags-requires-clause-alike : goal.push_tags-requires-clause-alike
push_tags-requires-clause-alike g c at within outside =
    let is = not-false c.args.listed.tags c.if-not-listed.false in
    c.requires.before is at within ∙ c.requires.quiet is at within outside ∙ sym (c.requires.behind is at within)

pub push_tags-requires-2-clause-alike : goal.push_tags-requires-2-clause-alike
push_tags-requires-2-clause-alike g c at within outside =
    let is = not-false c.args.listed.tags c.if-not-listed.false in
    c.requires.behind is at within ∙ sym (c.requires.before is at within ∙ c.requires.quiet is at within outside)
