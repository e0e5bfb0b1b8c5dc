use Rattle.text_index.proofs.Common.{part_of, shown}
use Rattle.text_index.proofs.positions.push_index.Goals as goal

pub returns-clause-ok : goal.returns-clause-ok
returns-clause-ok g c =
    let view = c.args.view.now in
    c.in_ok-push_index_on.ensures.ok (shown (part_of view)) c.line_at.ensures.line
