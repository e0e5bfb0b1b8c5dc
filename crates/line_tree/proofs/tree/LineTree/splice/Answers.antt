use Rattle.line_tree.proofs.Common.{◌≡◌, ◌+◌, ◌++◌, length, take, drop, min, ap, ◌∙◌, arith, length-map, more_lines}
use Rattle.line_tree.proofs.Common.{row_of}
use Rattle.line_tree.proofs.SpendingLaws.{spends-keeps}
use Rattle.line_tree.proofs.SpliceLaws.{few-lines, taken-behind}
use Rattle.line_tree.proofs.tree.LineTree.splice.Goals as goal

pub overflow_add-behind : goal.overflow_add-behind
overflow_add-behind g c = let few = few-lines c.args.self.now.lines c.args.lines.items c.requires.fits in
    let within = c.requires.within in omega (arith, few, within)

pub returns-clause-lines : goal.returns-clause-lines
returns-clause-lines g c = let old = c.args.self.now.lines in let now = c.put_all.new.self.lines in
    let put = c.put_all.ensures.lines in let k = c.args.k in let gone = c.args.gone in let within = c.requires.within in
    let went = min gone (length c.args.lines.items) in let rest = c.saturating_sub-rest.result in
    let long = ap length put.1 in let same = length-map put.0 (λ l. l.1) in
    let e : k + c.len.result ≡ k + length put.0 = omega (arith, long, same) in
    let all : went + rest ≡ gone = omega arith in (
      put.0,
      put.1,
      c.take_out.ensures.lines ∙ ap (λ n. take n now ++ drop (n + rest) now) e
          ∙ taken-behind old now k went rest put.0 (omega (arith, within)) put.2
          ∙ ap (λ n. take k old ++ put.0 ++ drop (k + n) old) all,
    )

pub returns-clause-room : goal.returns-clause-room
returns-clause-room g c = let new = c.args.lines.items in
    spends-keeps c.args.self.now _ _ (more_lines c.args.gone new) (row_of c.args.gone new) c.put_all.ensures.room
    c.take_out.ensures.room
