use Rattle.edit_ops.proofs.Common.{arith, taken_back}
use Rattle.edit_ops.proofs.CursorTextLaws.{take-acts}
use Rattle.edit_ops.proofs.ReplayLaws.{Replayed, take-replayed}
use Rattle.edit_ops.proofs.outlines.Outline.take_back.Goals as goal

all : (g : _) (c : goal.In_ok-take_out g) → Replayed (g.S.TextStore.content c.args.store.now) c.args.self.now
    c.take_out.new.self c.remove.new.self (taken_back c.args.from c.args.to)
all g c =
    take-replayed c.requires.follows c.in_ok-seek.ensures.moves c.in_ok-seek.ensures.there c.in_ok-remove.ensures.takes
    c.in_ok-remove.ensures.len c.requires.ordered c.requires.within c.line-line.ensures c.next.ensures.value
    c.next.ensures.bound c.in_ok-take_out.ensures

pub returns-clause-follows : goal.returns-clause-follows
returns-clause-follows g c = (all g c).follows

pub returns-clause-makes : goal.returns-clause-makes
returns-clause-makes g c = (all g c).makes

pub returns-clause-acts : goal.returns-clause-acts
returns-clause-acts g c =
    take-acts c.in_ok-seek.ensures.moves c.in_ok-seek.ensures.there c.in_ok-remove.ensures.takes
    c.in_ok-remove.ensures.len c.requires.ordered (omega arith)
