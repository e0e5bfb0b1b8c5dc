use Rattle.segments.proofs.Common.{sym, ap, ◌∙◌, odd_of}
use Rattle.segments.proofs.RichLaws.{same_parity}
use Rattle.std.specs.FinSet as set
use Rattle.segments.proofs.rich.RichLine.is_odd.Goals as goal

pub returns : goal.returns
returns c =
    let slot = c.args.slot.0 in
    c.is_odd.ensures ∙ ap (λ es. set.contains (odd_of es) slot) c.deref.ensures.value
    ∙ ap (λ s. set.contains s slot) (sym (same_parity c.self.inside c.self.view_is c.self.invariant.0))
