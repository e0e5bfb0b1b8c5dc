use Rattle.tcl_words.proofs.Blocks.{first_end, whole_block}
use Rattle.tcl_words.proofs.runs.first_stop.Goals as goal

pub returns-then-stops-eq0-clause-none : goal.returns-then-stops-eq0-clause-none
returns-then-stops-eq0-clause-none g c =
    λ _. whole_block g.W.Ordinary.ordinary c.args.bytes.now c.args.start c.stops-stops.result c.requires
    c.stops-stops.ensures c.if-stops-eq0.true

pub returns-clause-some : goal.returns-clause-some
returns-clause-some g c =
    first_end g.W.Ordinary.ordinary c.args.bytes.now c.args.start c.stops-stops.result c.requires
    c.stops-stops.ensures c.if-stops-eq0.false
