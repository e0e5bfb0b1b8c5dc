use Rattle.reports.proofs.Common.{◌≡◌, ◌+◌, Bool, List, ℕ, drop, length, take, false, true, All, TellsSpans}
use Rattle.edit_ops.specs.Deletions.{AreApart}
use Rattle.reports.proofs.AddedRunLaws.{AddsDownTo}
use Rattle.reports.proofs.tag_lists.TagList.push_whole.Given as goal

abbrev pub invariant-loop-span : goal.invariant-loop-span
invariant-loop-span l = record {
  told : (flags : List Bool) → AreApart (length flags + 1) l.spans → All (λ flag. flag ≡ false) flags
      → TellsSpans l.key true flags (take l.span-index l.spans) l.fn.self l.self;
  runs : (len : ℕ) → AreApart (len + 1) l.spans
      → AddsDownTo l.key len (drop l.span-index l.spans) l.fn.self l.self;
}
