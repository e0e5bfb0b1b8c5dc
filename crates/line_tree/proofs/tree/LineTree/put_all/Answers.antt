use Rattle.line_tree.proofs.Common.{◌≡◌, ◌+◌, ◌-◌, ◌++◌, length, take, drop, min, ap, sym, ◌∙◌, subst, arith, FitsSum}
use Rattle.line_tree.proofs.Common.{plus, total, count_of, more_lines, PutsRoom, length-take}
use Rattle.line_tree.proofs.SpendingLaws.{puts-none, room-alone, room-row, spends-alone, spends-keeps, spends-row}
use Rattle.line_tree.proofs.SpliceLaws.{all-in, few-lines, no-fewer, rest-fits, then-fits}
use Rattle.line_tree.proofs.tree.LineTree.put_all.Goals as goal

pub overflow_add-k : goal.overflow_add-k
overflow_add-k g c = let few = few-lines c.args.self.now.lines c.args.lines.items c.requires.fits in
    let within = c.requires.within in omega (arith, few, within)

pub put_rows-requires-clause-fits : goal.put_rows-requires-clause-fits
put_rows-requires-clause-fits g c =
    rest-fits (total c.args.self.now.lines) c.args.lines.items c.args.gone c.requires.fits

pub put_in-requires-clause-room : goal.put_in-requires-clause-room
put_in-requires-clause-room g c = let room = c.requires.room in
    let count : c.saturating_sub.result ≡ length c.args.lines.items - c.args.gone = omega arith in
    room-alone c.args.self.now (more_lines c.args.gone c.args.lines.items) room.0 room.1 room.2
    (λ many. c.is_row.ensures.no c.if-not-is_row.true (omega (arith, many, count)))

pub returns-then-not-is_row-clause-room : goal.returns-then-not-is_row-clause-room
returns-then-not-is_row-clause-room g c =
    let count : c.saturating_sub.result ≡ length c.args.lines.items - c.args.gone = omega arith in
    spends-alone c.args.self.now _ (more_lines c.args.gone c.args.lines.items) c.put_in.ensures.room
    (λ many. c.is_row.ensures.no c.if-not-is_row.true (omega (arith, many, count)))

pub put_rows-requires-clause-room : goal.put_rows-requires-clause-room
put_rows-requires-clause-room g c = let room = c.requires.room in
    let count : c.saturating_sub.result ≡ length c.args.lines.items - c.args.gone = omega arith in
    let row = c.is_row.ensures.yes c.if-not-is_row.false in
    room-row c.args.self.now (more_lines c.args.gone c.args.lines.items) room.0 room.1 room.2
    (let many = row.0 in omega (arith, many, count)) row.1

pub put_in-requires-2-clause-fits : goal.put_in-requires-2-clause-fits
put_in-requires-2-clause-fits g c = let put = c.put_rows.ensures in
    subst (λ ls. FitsSum (plus (total c.put_rows.new.self.lines) (count_of ls))) (sym put.left)
    (then-fits c.args.self.now.lines c.put_rows.new.self.lines (c.args.k + c.args.gone) c.args.gone c.args.lines.items
    put.lines.0 c.requires.fits put.lines.1 put.lines.2)

pub put_in-requires-2-clause-within : goal.put_in-requires-2-clause-within
put_in-requires-2-clause-within g c = let put = c.put_rows.ensures.lines in
    let more = no-fewer c.args.self.now.lines c.put_rows.new.self.lines put.0 (c.args.k + c.args.gone) put.2 in
    let within = c.requires.within in omega (arith, more, within)

pub put_in-requires-2-clause-room : goal.put_in-requires-2-clause-room
put_in-requires-2-clause-room g c =
    let short = length-take c.args.gone c.args.lines.items in let same = ap length c.put_rows.ensures.left in
    omega (arith, short, same)

pub returns-clause-lines : goal.returns-clause-lines
returns-clause-lines g c =
    let put = c.put_rows.ensures in let left = put.left in let then = c.put_in-2.ensures.lines in
    let all = all-in c.args.self.now.lines c.put_rows.new.self.lines c.put_in-2.new.self.lines c.args.k c.args.gone
    c.args.lines.items then.0 put.lines.0 c.requires.within
    (let row = c.is_row.ensures.yes c.if-not-is_row.false in let many = row.0 in omega arith) put.lines.1 put.lines.2
    (then.1 ∙ left) (then.2 ∙ ap (λ ls. take c.args.k c.put_rows.new.self.lines ++ then.0
    ++ drop (c.args.k + min c.args.gone (length ls)) c.put_rows.new.self.lines) left) in
    (then.0 ++ put.lines.0, all.0, all.1)

pub returns-clause-room : goal.returns-clause-room
returns-clause-room g c =
    let old = c.args.self.now in let mid = c.put_rows.new.self in let now = c.put_in-2.new.self in
    let n = more_lines c.args.gone c.args.lines.items in
    let put = c.put_rows.ensures in let row = c.is_row.ensures.yes c.if-not-is_row.false in
    let count : c.saturating_sub.result ≡ n = omega arith in
    let none : length c.put_rows.new.lines.items - c.args.gone
    ≡ 0 = let short = length-take c.args.gone c.args.lines.items in let same = ap length put.left in omega arith in
    spends-keeps old mid now n (min 1 n)
    (spends-row old mid n (let many = row.0 in omega (arith, many, count)) row.1 put.nodes put.used put.rooms put.names)
    (puts-none mid now (subst (λ z. PutsRoom mid now z) none c.put_in-2.ensures.room))
