use Rattle.search_dump.proofs.Common.{◌≡◌, chars, string_bytes, subst, IfOk, compared}
use Rattle.search_dump.proofs.matching.read.Goals as goal

pub returns : goal.returns
returns g c =
    subst (λ xs. IfOk c.compared.result (λ made. chars (string_bytes made) ≡ compared c.args.ignores_case xs))
    c.in_ok-copy_text.ensures c.compared.ensures
