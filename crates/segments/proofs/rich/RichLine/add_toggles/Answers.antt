use Rattle.segments.proofs.Common.{◌≡◌, ◌+◌, drop, sym, ap, ◌∙◌, drop_all, differing, differing-empty, union-empty}
use Rattle.segments.proofs.Common.{Count, parity, presence, Toggled, toggles, any_of, odd_of}
use Rattle.segments.proofs.EntryLaws.{any_more, odd_more}
use Rattle.segments.proofs.RichLaws.{same_parity, same_presence}
use Rattle.std.specs.FinSet as set
use Rattle.segments.proofs.rich.RichLine.add_toggles.Goals as goal

pub loop-entry-preserved : goal.loop-entry-preserved
loop-entry-preserved c =
    let entries = c.deref-entry-items.result.now in
    let index = c.loop-entry.entry-index in
    let so_far = c.loop-entry.sum in
    let kept = c.loop-entry.invariant in
    let sums = c.add_word.ensures in
    let item = c.entry-item.result in record {
      lines = ap (λ (count : Count). count.lines) sums ∙ kept.lines;
      characters = ap (λ (count : Count). count.characters) sums ∙ kept.characters;
      marks = ap (λ (count : Count). count.marks) sums ∙ kept.marks;
      parity =
          ap (λ (count : Count). differing count.parity (odd_of (drop (index + 1) entries))) sums
          ∙ ap (λ (e : Toggled). differing (differing so_far.parity e.slots) (odd_of (drop (index + 1) entries)))
          c.entry-item.is
          ∙ odd_more entries index item so_far.parity _ c.loop-entry-test.true kept.parity;
      presence =
          ap (λ (count : Count). set.union count.presence (any_of (drop (index + 1) entries))) sums
          ∙ ap (λ (e : Toggled). set.union (set.union so_far.presence e.slots) (any_of (drop (index + 1) entries)))
          c.entry-item.is
          ∙ any_more entries index item so_far.presence _ c.loop-entry-test.true kept.presence;
    }

pub returns : goal.returns
returns c =
    let line = c.args.self.now in
    let old = c.args.sum.now in
    let sum = c.loop-entry.sum in
    let inv = c.loop-entry.invariant in
    let all = drop_all c.loop-entry.entry-index c.deref-entry-items.result.now c.loop-entry-test.false in
    let odd : sum.parity ≡ differing old.parity (parity (toggles line.columns)) =
    sym (differing-empty sum.parity)
    ∙ ap (λ es. differing sum.parity (odd_of es)) (sym all)
    ∙ inv.parity
    ∙ ap (differing old.parity) (ap odd_of c.deref-entry-items.ensures.value
    ∙ sym (same_parity c.self.inside c.self.view_is c.self.invariant.0)) in
    let any : sum.presence ≡ set.union old.presence (presence (toggles line.columns)) =
    sym (union-empty sum.presence)
    ∙ ap (λ es. set.union sum.presence (any_of es)) (sym all)
    ∙ inv.presence
    ∙ ap (set.union old.presence) (ap any_of c.deref-entry-items.ensures.value
    ∙ sym (same_presence c.self.inside c.self.view_is c.self.invariant.0)) in
    λ i. record {
      lines = inv.lines i;
      characters = inv.characters i;
      marks = inv.marks i;
      parity = odd i;
      presence = any i;
    }
