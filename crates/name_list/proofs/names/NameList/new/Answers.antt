use Rattle.name_list.proofs.Common.{arith}
use Rattle.name_list.proofs.PlaceLaws.{AreKept-none}
use Rattle.name_list.proofs.names.NameList.new.Goals as goal

pub invariant_of-result : goal.invariant_of-result
invariant_of-result c =
    rw (c.new.ensures.empty, c.new-2.ensures.items) (AreKept-none c.args.limit (omega arith))
