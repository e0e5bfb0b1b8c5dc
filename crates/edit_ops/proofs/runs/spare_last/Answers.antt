use Rattle.edit_ops.proofs.Common.{◌≡◌, ◌+◌, ◌-◌, ◌<◌, ◌==◌, ◌&&◌, ◌||◌, ℕ, length, get_or, set, not, sym, ap, ◌∙◌}
use Rattle.edit_ops.proofs.Common.{arith, get_or_default, Span, in_spans}
use Rattle.edit_ops.proofs.RunLaws.{empty-first, spare-alone, spare-joined, spare-both}
use Rattle.edit_ops.proofs.runs.spare_last.Goals.{then-joins+then-len-gt1+then-index-from, then-joins+else-len-gt1}
use Rattle.edit_ops.proofs.runs.spare_last.Goals.{else-joins, Joined-joins}
use Rattle.edit_ops.proofs.runs.spare_last.Goals as goal

-- the run that takes the place of the first one
spared : (c : Joined-joins) (d : Span) (offset : ℕ)
    → in_spans (set c.if-joins.runs.items 0 (record { from = c.if-joins.from; to = c.args.last })) offset
    ≡ (in_spans c.args.runs.now.items offset && not (offset == c.args.last)
    || (c.args.joins && (offset + 1 == (get_or c.args.runs.now.items 0 d).from)))
spared c d offset =
    let runs = c.args.runs.now.items in
    let first = c.index.result.now in
    elim c.if-joins.branch [
      | then-joins+then-len-gt1+then-index-from w ↦
          let f = w.index-then-len-gt1.result.now in
          let g = w.index-then-index-from.result.now in
          let some : 1 < length runs = omega (arith, w.if-len-gt1.true, w.len.ensures, c.args.runs.now.ok.0) in
          let touch : (get_or runs 1 f).to ≡ (get_or runs 0 first).from
          - 1 = sym (ap (λ (s : Span). s.to) w.index-then-len-gt1.ensures) ∙ w.if-index-from.true
          ∙ ap (λ (s : Span). s.from - 1) c.index.ensures in
          let from_is : c.if-joins.from ≡ (get_or runs 1 f).from = w.from-is
          ∙ ap (λ (s : Span). s.from) w.index-then-index-from.ensures
          ∙ ap (λ (s : Span). s.from) (get_or_default runs 1 g f some) in
          rw (w.runs-is, w.remove.ensures.items)
          (spare-both runs (c.args.last + 2) c.args.last c.if-joins.from c.args.joins first d f some c.requires.apart
          (c.requires.held first) w.if-joins.true
          (c.requires.before first w.if-joins.true) touch from_is offset)
      | then-joins+else-len-gt1 w ↦
          rw w.runs-is
          (spare-joined runs (c.args.last + 2) c.args.last c.if-joins.from c.args.joins first d c.requires.some
          c.requires.apart (c.requires.held first) w.if-joins.true
          (c.requires.before first w.if-joins.true) (w.from-is ∙ ap (λ (s : Span). s.from - 1) c.index.ensures) offset)
      | else-joins w ↦
          rw w.runs-is
          (spare-alone runs (c.args.last + 2) c.args.last c.if-joins.from c.args.joins first d c.requires.some
          c.requires.apart (c.requires.held first) w.if-joins.false
          (w.from-is ∙ ap (λ (s : Span). s.from) c.index.ensures) offset)
    ]

pub returns-then-from-last-clause-covers : goal.returns-then-from-last-clause-covers
returns-then-from-last-clause-covers c = spared (goal.at.returns-then-from-last-clause-covers c).Joined-joins

pub returns-else-from-last-clause-covers : goal.returns-else-from-last-clause-covers
returns-else-from-last-clause-covers c = λ d offset.
    rw c.remove-else-from-last.ensures.items
    (empty-first c.if-joins.runs.items c.if-joins.from c.args.last offset c.if-from-last.false
    ∙ spared (goal.at.returns-else-from-last-clause-covers c).Joined-joins d offset)
