use Rattle.text_index.proofs.Common.{◌∙◌, characters, is_word}
use Rattle.text_index.proofs.RunLaws.{run_start-part}
use Rattle.text_index.proofs.moves.run_begin.Goals as goal

pub returns-clause-value : goal.returns-clause-value
returns-clause-value g c =
    let view = c.args.view.now in
    let text = characters (g.S.TextStore.content view.store.now).cells in
    c.saturating_sub.ensures
    ∙ run_start-part is_word text view.start view.end c.args.place c.run_start-start.result c.requires.within
    view.whole_lines.behind.within c.run_start-start.ensures.value
