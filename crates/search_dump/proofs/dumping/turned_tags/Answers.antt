use Rattle.search_dump.proofs.Common.{length-shown_flags, part_of, outlook, arith, not-false}
use Rattle.search_dump.proofs.TurnLaws.{turned-are}
use Rattle.search_dump.proofs.dumping.turned_tags.Goals as goal

pub returns : goal.returns
returns g c is within =
    let view = c.args.sight.now.view.now in
    let known = c.requires.known is in
    turned-are (outlook c.args.sight.now) known.0 c.args.stop
    c.args.changes.now.next.items c.args.before.now c.turned.result known.1
    (λ slot. omega (arith, within, length-shown_flags (part_of view) slot view.whole_lines))
    known.2 (c.requires.before is) c.turned.ensures

pub turned-requires-clause-kept : goal.turned-requires-clause-kept
turned-requires-clause-kept g c = (c.requires.known (not-false c.args.listed.tags c.if-not-listed.false)).2.rows

pub turned-requires-clause-apart : goal.turned-requires-clause-apart
turned-requires-clause-apart g c = c.requires.apart (not-false c.args.listed.tags c.if-not-listed.false)
