use Rattle.tcl_words.proofs.Common.{arith, ap, Unread}
use Rattle.tcl_words.proofs.Splitting.{passed_in}
use Rattle.tcl_words.proofs.splitter.Splitter.give.Goals as goal

pub invariant_of-self : goal.invariant_of-self
invariant_of-self c =
    let inside = c.self.inside in
    let items_len = inside.script.ok.0 in
    let p = passed_in inside.script.items c.args.self.now.rest inside.given inside.progress c.args.len
    (ap (λ (u : Unread). u.rest) c.self.view_is) (omega arith) c.self.invariant.2 c.requires.within c.requires.text
    in
    let within = p.0 in
    (omega arith, c.self.invariant.1, rw (c.starting-self-inside.ensures, c.saturating_sub.ensures) p.1)
