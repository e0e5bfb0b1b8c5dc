use Rattle.search_dump.proofs.Common.{ap, arith, chars, length, ◌∙◌, IsCharBoundary-start, IsUtf8-string_bytes}
use Rattle.search_dump.proofs.Common.{chars-nil}
use Rattle.search_dump.proofs.copied.Copied.new.Goals as goal

pub invariant_of-result : goal.invariant_of-result
invariant_of-result c = record {
  boundary = IsCharBoundary-start _ (IsUtf8-string_bytes c.new.result);
  counted = omega (arith, ap length (ap chars c.new.ensures.bytes ∙ chars-nil));
}
