use Rattle.line_lists.proofs.Common.{◌∙◌, ap, sym}
use Rattle.line_lists.proofs.LineStarts.{start-all, start_of}
use Rattle.line_lists.proofs.PlaceRows.{length-content}
use Rattle.line_lists.proofs.queries.len.Goals as goal

pub returns : goal.returns
returns g c =
    let list = g.L.LineList.lines c.args.list.now in
    c.start.ensures ∙ ap (start_of list) c.len.ensures ∙ start-all list ∙ sym (length-content list)
