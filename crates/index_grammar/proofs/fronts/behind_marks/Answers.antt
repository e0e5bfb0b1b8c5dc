use Rattle.index_grammar.proofs.Common.{ap, ◌∙◌, min}
use Rattle.index_grammar.proofs.BoundLaws.{marks-bound}
use Rattle.index_grammar.proofs.fronts.behind_marks.Goals as goal

pub returns : goal.returns
returns c =
    marks-bound c.args.names.now.marks.now.marks c.args.names.now.widget.0 c.args.word.now c.min-2.result
    c.count_behind-insert.result c.count_behind-current.result c.behind_names.result c.utf8.word
    (λ rest split. c.count_behind-insert.ensures rest (c.as_bytes.ensures.value ∙ split))
    (λ rest split. c.count_behind-current.ensures rest (c.as_bytes-2.ensures.value ∙ split))
    c.behind_names.ensures
    (c.min-2.ensures ∙ ap (λ least. min least c.count_behind-current.result) c.min.ensures)
