use Rattle.search_dump.proofs.Common.{sym, ◌∙◌, ltb-true, simple_fold-ascii}
use Rattle.search_dump.proofs.patterns.fold_of.Goals as goal

pub returns-then-is_ascii : goal.returns-then-is_ascii
returns-then-is_ascii c =
    c.to_ascii_lowercase.ensures.value
    ∙ sym (simple_fold-ascii c.args.character (ltb-true _ _ (sym c.is_ascii.ensures ∙ c.if-is_ascii.true)))
