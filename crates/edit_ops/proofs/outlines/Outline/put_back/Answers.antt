use Rattle.edit_ops.proofs.Common.{put_back}
use Rattle.edit_ops.proofs.CursorTextLaws.{put-acts}
use Rattle.edit_ops.proofs.ReplayLaws.{Replayed, put-replayed}
use Rattle.edit_ops.proofs.outlines.Outline.put_back.Goals as goal

all : (g : _) (c : goal.In_ok-put g) → Replayed (g.S.TextStore.content c.args.store.now) c.args.self.now
    c.put_copy.new.self c.put.new.self (put_back c.args.at c.args.text.now)
all g c =
    put-replayed c.requires.follows c.in_ok-seek.ensures.moves c.in_ok-seek.ensures.there c.in_ok-put.ensures
    c.shared-slots.ensures c.requires.within c.requires.fits (rw c.requires.counted at c.in_ok-put_copy.ensures)

pub returns-clause-follows : goal.returns-clause-follows
returns-clause-follows g c = (all g c).follows

pub returns-clause-makes : goal.returns-clause-makes
returns-clause-makes g c = (all g c).makes

pub returns-clause-acts : goal.returns-clause-acts
returns-clause-acts g c = put-acts c.in_ok-seek.ensures.moves c.in_ok-seek.ensures.there c.in_ok-put.ensures
