use Rattle.tcl_words.proofs.Common.{◌≡◌, ◌∙◌, None, sym, ap, rules, subst, take, drop, take_rest, Unread, IsProgress}
use Rattle.tcl_words.proofs.Splitting.{plain_result}
use Rattle.tcl_words.proofs.splitter.Splitter.plain_command.Goals as goal

pub returns-clause-found : goal.returns-clause-found
returns-clause-found c =
    let given = c.self.inside.given in
    let progress = c.read_text.new.self in
    let rest = take_rest c.deref.result.now given ∙ ap (drop given) c.deref.ensures.value
    ∙ ap (λ (u : Unread). u.rest) c.self.view_is in
    let none : c.self.inside.fault ≡ None = search rules in
    plain_result c.plain_command.result c.args.self.now progress _ _ (sym (ap (λ (u : Unread). u.fault) c.self.view_is)
    ∙ none) (subst (λ l. IsProgress l progress) rest c.read_text.ensures.progress)
    (c.from_utf8_unchecked-text.ensures ∙ ap (take progress.valid) rest) c.plain_command.ensures
