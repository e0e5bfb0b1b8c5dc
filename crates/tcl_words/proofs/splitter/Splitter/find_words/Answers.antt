use Rattle.tcl_words.proofs.Common.{◌∙◌, sym, subst, ap, take, Unread, IsCommandOf}
use Rattle.tcl_words.proofs.Splitting.{words_found, not_none}
use Rattle.tcl_words.proofs.splitter.Splitter.find_words.Goals as goal

pub returns-then-is_refused-clause-memory : goal.returns-then-is_refused-clause-memory
returns-then-is_refused-clause-memory c =
    let same = c.plain_command.ensures.same in
    let k = subst (λ (u : Unread). IsCommandOf u.finished u.rest c.in-Some.len) same
    (rw c.in-Some.is at c.in_ok-len.ensures.found) in
    λ e. (
      c.in_ok-len.ensures.same.0 ∙ same,
      sym (ap (λ (u : Unread). u.fault) same) ∙ c.in_ok-len.ensures.same.1,
      not_none c.args.self.now.finished c.args.self.now.rest c.in-Some.len k,
    )

pub returns-in_err-words-clause-memory : goal.returns-in_err-words-clause-memory
returns-in_err-words-clause-memory c =
    let same = c.plain_command.ensures.same in
    let k = subst (λ (u : Unread). IsCommandOf u.finished u.rest c.in-Some.len) same
    (rw c.in-Some.is at c.in_ok-len.ensures.found) in
    λ e. (
      c.in_ok-len.ensures.same.0 ∙ same,
      sym (ap (λ (u : Unread). u.fault) same) ∙ c.in_ok-len.ensures.same.1,
      not_none c.args.self.now.finished c.args.self.now.rest c.in-Some.len k,
    )

pub returns-clause-found : goal.returns-clause-found
returns-clause-found c =
    let found = c.in_ok-len.ensures.same in
    words_found c.args.self.now c.plain_command.new.self _ c.in-Some.len c.in_ok-words.field-0.items
    c.plain_command.ensures.same found.1 (rw c.in-Some.is at c.in_ok-len.ensures.found)
    (c.front.ensures ∙ ap (λ (u : Unread). take c.in-Some.len u.rest) found.0) c.in_ok-words.ensures
