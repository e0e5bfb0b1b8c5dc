use Rattle.script_cli.proofs.Common.{ap, ◌∙◌, line_text}
use Rattle.script_cli.proofs.LineLaws.{alone_text, no_close_brace, no_quote, more_after_brace, more_after_quote}
use Rattle.script_cli.proofs.LineLaws.{no_substitution, not_utf8, bad_code, no_memory}
use Rattle.script_cli.proofs.lines.Line.of_script_fault.Goals as goal

pub returns-in-MissingBrace : goal.returns-in-MissingBrace
returns-in-MissingBrace c = rw c.in-MissingBrace.is (ap line_text c.alone.ensures ∙ alone_text _ _ no_close_brace)

pub returns-in-MissingQuote : goal.returns-in-MissingQuote
returns-in-MissingQuote c = rw c.in-MissingQuote.is (ap line_text c.alone-in-MissingQuote.ensures ∙ alone_text _ _ no_quote)

pub returns-in-ExtraAfterBrace : goal.returns-in-ExtraAfterBrace
returns-in-ExtraAfterBrace c = rw c.in-ExtraAfterBrace.is (ap line_text c.alone-in-ExtraAfterBrace.ensures ∙ alone_text _ _ more_after_brace)

pub returns-in-ExtraAfterQuote : goal.returns-in-ExtraAfterQuote
returns-in-ExtraAfterQuote c = rw c.in-ExtraAfterQuote.is (ap line_text c.alone-in-ExtraAfterQuote.ensures ∙ alone_text _ _ more_after_quote)

pub returns-in-Substitution : goal.returns-in-Substitution
returns-in-Substitution c = rw c.in-Substitution.is (ap line_text c.alone-in-Substitution.ensures ∙ alone_text _ _ no_substitution)

pub returns-in-NotUtf8 : goal.returns-in-NotUtf8
returns-in-NotUtf8 c = rw c.in-NotUtf8.is (ap line_text c.alone-in-NotUtf8.ensures ∙ alone_text _ _ not_utf8)

pub returns-in-BadCharacterCode : goal.returns-in-BadCharacterCode
returns-in-BadCharacterCode c = rw c.in-BadCharacterCode.is (ap line_text c.alone-in-BadCharacterCode.ensures ∙ alone_text _ _ bad_code)

pub returns-in-Memory : goal.returns-in-Memory
returns-in-Memory c = rw c.in-Memory.is (ap line_text c.alone-in-Memory.ensures ∙ alone_text _ _ no_memory)
