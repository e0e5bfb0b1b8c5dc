use Rattle.toggle_sums.proofs.Common.{sym, ap, ◌∙◌}
use Rattle.toggle_sums.proofs.ExchangeLaws.{part-same, part_of-union}
use Rattle.toggle_sums.proofs.exchange.Exchange.between.Goals.{then-is_level, else-is_level}
use Rattle.std.specs.FinSet as set
use Rattle.toggle_sums.proofs.exchange.Exchange.between.Goals as goal

pub invariant_of-result : goal.invariant_of-result
invariant_of-result c =
    let gone = c.args.gone.now in
    let more = c.args.more.now in
    let same = c.has_toggles_of-is_level.ensures.yes in
    record {
      level_told = λ level. (
        λ q. ap (λ s. set.contains s q) (same level).parity,
        λ q. ap (λ s. set.contains s q) (same level).presence,
      );
      within_told = λ within. elim c.if-is_level.branch [
        | then-is_level w ↦ part-same gone.presence more.presence
            (λ q. ap (λ s. set.contains s q) (same w.if-is_level.true).presence)
        | else-is_level w ↦ part_of-union gone.presence more.presence
            (w.is_within.ensures.yes (sym w.result-is ∙ within))
      ];
      level_within = λ outside. elim c.if-is_level.branch [
        | then-is_level w ↦ sym w.result-is ∙ outside
        | else-is_level w ↦ w.if-is_level.false
      ];
    }
