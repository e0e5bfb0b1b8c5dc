use Rattle.text_index.proofs.Common.{◌-◌, ap, ◌∙◌, characters, is_word}
use Rattle.text_index.proofs.RunLaws.{run_end-part}
use Rattle.text_index.proofs.moves.run_end.Goals as goal

pub returns-clause-value : goal.returns-clause-value
returns-clause-value g c =
    let view = c.args.view.now in
    let text = characters (g.S.TextStore.content view.store.now).cells in
    ap (λ n. n - view.start) c.min.ensures
    ∙ run_end-part is_word text view.start view.end c.args.place c.run_end-end.result c.requires.within
    c.run_end-end.ensures.value
