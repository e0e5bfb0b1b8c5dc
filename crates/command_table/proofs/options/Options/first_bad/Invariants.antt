use Rattle.command_table.proofs.Common.{◌≡◌, drop, find, enumerate_from, texts_of, is_bad_option, option_rule}
use Rattle.command_table.proofs.options.Options.first_bad.Given as goal

abbrev pub invariant-loop-place : goal.invariant-loop-place
invariant-loop-place l =
    find (is_bad_option (option_rule l.self)) (enumerate_from 0 (texts_of l.arguments))
    ≡ find (is_bad_option (option_rule l.self)) (enumerate_from l.place (texts_of (drop l.place l.arguments)))
