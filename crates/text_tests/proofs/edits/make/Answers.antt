use Rattle.std.proofs.Common.{subst}
use Rattle.text_model.specs.Steps.{FitsIn}
use Rattle.text_model.proofs.StepLaws.{Fits-from_FitsIn}
use Rattle.text_tests.proofs.edits.make.Goals as goal

pub prepare-requires : goal.prepare-requires
prepare-requires g c =
    let content = g.S.TextStore.content c.args.store.now in
    Fits-from_FitsIn c.args.edit.now.steps content
    (subst (λ n. FitsIn c.args.edit.now.steps n) c.len.ensures
    (subst (λ steps. FitsIn steps c.len.result) c.as_slice.ensures (c.fits-fits.ensures c.if-fits.true)))
