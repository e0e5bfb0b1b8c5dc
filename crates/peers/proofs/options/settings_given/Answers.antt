use Rattle.peers.proofs.Common.{sym, ap, subst, ◌∙◌, IfOk, texts_of, with_value, settings_checked, AreLines}
use Rattle.peers.proofs.OptionLaws.{given-lines}
use Rattle.peers.proofs.options.settings_given.Goals as goal

pub returns-clause-lines : goal.returns-clause-lines
returns-clause-lines c =
    subst (λ result. IfOk result (AreLines c.args.lines))
    (ap (λ found. with_value found settings_checked) (sym c.read.ensures ∙ c.in_ok-settings.was) ∙ sym c.checked.ensures)
    (given-lines c.args.lines c.args.position (texts_of c.args.words.now) c.args.settings c.requires.lines)
