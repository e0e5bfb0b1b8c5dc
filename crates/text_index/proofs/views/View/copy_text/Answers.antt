use Rattle.text_index.proofs.Common.{◌≡◌, chars, characters, part_of, string_bytes, subst, sym, IfOk}
use Rattle.text_index.proofs.ViewLaws.{slice-part}
use Rattle.text_index.proofs.views.View.copy_text.Goals as goal

pub returns : goal.returns
returns g c =
    let view = c.args.self.now in
    subst (λ xs. IfOk c.copy_text.result (λ text. chars (string_bytes text) ≡ xs))
    (sym (slice-part (characters (part_of view).content.cells) view.start view.end c.args.from c.args.to
    c.requires.ordered c.requires.within)) c.copy_text.ensures
