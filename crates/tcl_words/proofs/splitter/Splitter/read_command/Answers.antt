use Rattle.tcl_words.proofs.Common.{◌≡◌, ◌∙◌, false, is_some, sym, ap, subst, Unread, TakesCommand, texts_of}
use Rattle.tcl_words.proofs.Splitting.{takes}
use Rattle.tcl_words.proofs.splitter.Splitter.read_command.Goals.{in-Some, in_default}
use Rattle.tcl_words.proofs.splitter.Splitter.read_command.Goals as goal

pub returns-clause-command : goal.returns-clause-command
returns-clause-command c =
    elim c.match-found.branch [
      | in-Some w ↦ λ e.
          let found = rw w.in-Some.is at c.in_ok-found.ensures.found in
          subst (λ (u : Unread). TakesCommand c.args.self.now (texts_of c.find_words.new.words.items) u) (sym w.self-is)
          (takes c.args.self.now c.find_words.new.self w.pass.new.self w.in-Some.len _ c.in_ok-found.ensures.same
          found.is w.pass.ensures found.same)
      | in_default w ↦ λ e.
          let none : c.is_some.result ≡ false = c.is_some.ensures ∙ ap is_some (w.found-is ∙ w.in_default.is) in
          absurd cc
    ]
