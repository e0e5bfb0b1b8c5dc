use Rattle.index_grammar.proofs.BoundLaws.{tags-bound}
use Rattle.index_grammar.proofs.fronts.behind_tags.Goals as goal

pub returns : goal.returns
returns c =
    tags-bound c.args.names.now.tags.now.tags c.args.names.now.widget.0 c.args.word.now c.min.result
    c.behind_names-first.result c.behind_names.result c.utf8.word c.behind_names-first.ensures c.behind_names.ensures
    c.min.ensures
