use Rattle.search_dump.proofs.Common.{◌++◌, ap, ◌∙◌, arith, string_bytes, difference, goes-plain, encodes-IsAscii}
use Rattle.search_dump.proofs.CountLaws.{plain-difference}
use Rattle.search_dump.proofs.counting.push_difference.Goals as goal

pub returns : goal.returns
returns c =
    let number = difference c.args.from c.args.to in
    goes-plain (string_bytes c.args.list.now) (string_bytes c.push_signed.new.list) number number
    (encodes-IsAscii number c.in_ok-push_signed.ensures.ascii)
    (plain-difference c.args.from c.args.to (omega arith) (omega arith))
    (c.in_ok-push_signed.ensures.ok ∙ ap (λ bytes. bytes ++ number) c.in_ok-push_space.ensures.ok)
