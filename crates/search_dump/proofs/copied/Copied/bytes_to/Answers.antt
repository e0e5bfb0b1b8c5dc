use Rattle.search_dump.proofs.Common.{arith, drop, ap, length, string_bytes}
use Rattle.search_dump.proofs.CopiedLaws.{behind-all}
use Rattle.search_dump.proofs.copied.Copied.bytes_to.Goals as goal

pub returns-then-to-self-clause-behind : goal.returns-then-to-self-clause-behind
returns-then-to-self-clause-behind c =
    let copied = c.args.self.now in
    behind-all (drop copied.byte (string_bytes copied.text)) _ _ (omega (arith, ap length c.rest-rest.ensures))
    (omega (arith, copied.counted))
