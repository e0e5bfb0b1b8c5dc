use Rattle.edit_ops.proofs.Common.{length, characters}
use Rattle.edit_ops.proofs.RunLaws.{apart-wider}
use Rattle.edit_ops.proofs.DeleteLaws.{runs-left}
use Rattle.edit_ops.proofs.deletions.deleted_runs.Goals as goal

pub returns-clause-apart : goal.returns-clause-apart
returns-clause-apart g c =
    apart-wider c.args.end (length (g.S.TextStore.content c.args.store.now).cells)
    c.spare_shown-takes_last.new.runs.items c.spare_shown-takes_last.ensures.apart c.requires.within

pub returns-clause-runs : goal.returns-clause-runs
returns-clause-runs g c =
    let cells = (g.S.TextStore.content c.args.store.now).cells in
    runs-left (characters cells) (length cells) c.args.start c.args.end c.args.spans.now c.in_ok-runs.runs.items
    c.spare_shown-takes_last.new.runs.items c.requires.within c.in_ok-runs.ensures.covers
    c.spare_shown-takes_last.ensures.apart c.spare_shown-takes_last.ensures.covers
