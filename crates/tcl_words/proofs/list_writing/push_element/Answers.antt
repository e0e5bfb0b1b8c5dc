use Rattle.tcl_words.proofs.Common.{chars, string_bytes, sym, ◌∙◌, encodes-chars}
use Rattle.tcl_words.proofs.ListForms.{goes_on, push_bare, push_braced, push_escaped}
use Rattle.tcl_words.proofs.list_writing.push_element.Goals as goal

pub returns-in_ok-push_bare-clause-text : goal.returns-in_ok-push_bare-clause-text
returns-in_ok-push_bare-clause-text c =
    push_bare (string_bytes c.args.list.now) _ c.args.element.now (chars c.args.element.now)
    (encodes-chars c.args.element.now c.utf8.element)
    (sym c.needs_quotes.ensures ∙ c.if-not-needs_quotes.true) c.in_ok-push_bare.ensures.ok

pub returns-in_ok-push_bare-clause-list : goal.returns-in_ok-push_bare-clause-list
returns-in_ok-push_bare-clause-list c = goes_on _ _ _ (returns-in_ok-push_bare-clause-text c)

pub returns-in_ok-push_braced-clause-text : goal.returns-in_ok-push_braced-clause-text
returns-in_ok-push_braced-clause-text c =
    push_braced (string_bytes c.args.list.now) _ c.args.element.now (chars c.args.element.now)
    (encodes-chars c.args.element.now c.utf8.element)
    (sym c.needs_quotes.ensures ∙ c.if-not-needs_quotes.false) (sym c.balances.ensures
    ∙ c.if-balances.true) c.in_ok-push_braced.ensures.ok

pub returns-in_ok-push_braced-clause-list : goal.returns-in_ok-push_braced-clause-list
returns-in_ok-push_braced-clause-list c = goes_on _ _ _ (returns-in_ok-push_braced-clause-text c)

pub returns-in_ok-push_bare-2-clause-text : goal.returns-in_ok-push_bare-2-clause-text
returns-in_ok-push_bare-2-clause-text c =
    push_escaped (string_bytes c.args.list.now) _ _ (chars c.args.element.now) (c.as_str.ensures.value
    ∙ c.in_ok-text.ensures)
    (sym c.needs_quotes.ensures ∙ c.if-not-needs_quotes.false) (sym c.balances.ensures
    ∙ c.if-balances.false) c.in_ok-push_bare-2.ensures.ok

pub returns-in_ok-push_bare-2-clause-list : goal.returns-in_ok-push_bare-2-clause-list
returns-in_ok-push_bare-2-clause-list c = goes_on _ _ _ (returns-in_ok-push_bare-2-clause-text c)
