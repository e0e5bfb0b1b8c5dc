use Rattle.search_dump.proofs.Common.{ap, chars, string_bytes, sym, ◌∙◌, drop-drop}
use Rattle.search_dump.proofs.CopiedLaws.{left-rest}
use Rattle.search_dump.proofs.copied.Copied.pass.Goals as goal

pub returns-clause-left : goal.returns-clause-left
returns-clause-left c = λ text left.
    let copied = c.args.self.now in
    record {
      within = left.within;
      limit = left.limit;
      are = ap chars (sym (drop-drop c.args.bytes copied.byte (string_bytes copied.text))) ∙ c.requires.behind
          ∙ left-rest text copied c.args.to left c.requires.ordered c.requires.within;
    }
