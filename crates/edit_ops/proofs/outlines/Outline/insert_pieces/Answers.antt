use Rattle.edit_ops.proofs.Common.{◌≡◌, [], ap, sym, ◌∙◌, arith, nil_from_length, inserted_texts, total, outlineed}
use Rattle.edit_ops.proofs.InsertLaws.{inserting-first, inserting-more, inserting-none, piece-fits}
use Rattle.edit_ops.proofs.RowLaws.{row-last}
use Rattle.std.specs.FinSet as set
use Rattle.edit_ops.proofs.outlines.Outline.insert_pieces.Goals as goal

pub loop-piece-init : goal.loop-piece-init
loop-piece-init c =
    let around = set.intersection c.args.gap.now.before c.args.gap.now.behind in
    inserting-first c.args.keeps c.args.self.now c.args.gap.now.at c.args.gap.now.len around c.args.gap.now.behind c.args.pieces.items _
    c.into_iter-piece-iterator.ensures.into_iter_gives.0 c.requires.within c.requires.stand c.requires.fits

pub insert-requires-clause-fits : goal.insert-requires-clause-fits
insert-requires-clause-fits c =
    (piece-fits c.loop-piece.invariant c.in-Some.ensures.steps.0 c.count_of-count.result c.count_of-count.ensures).0

pub overflow_add-at : goal.overflow_add-at
overflow_add-at c =
    let fits = piece-fits c.loop-piece.invariant c.in-Some.ensures.steps.0 c.count_of-count.result
    c.count_of-count.ensures in
    omega (arith, fits.1)

pub loop-piece-preserved-then-count-gt0 : goal.loop-piece-preserved-then-count-gt0
loop-piece-preserved-then-count-gt0 c =
    let counted = c.count_of-count.ensures in
    rw counted (inserting-more c.loop-piece.invariant c.in-Some.ensures.steps.0 (rw counted at c.if-count-gt0.true)
    c.slots_or-slots.ensures c.in_ok-kept.ensures (rw counted at c.in_ok-insert.ensures))

pub loop-piece-preserved : goal.loop-piece-preserved
loop-piece-preserved c =
    inserting-none c.loop-piece.invariant c.in-Some.ensures.steps.0
    (omega (arith, c.if-count-gt0.false, c.count_of-count.ensures))

pub returns-clause-end : goal.returns-clause-end
returns-clause-end c =
    let rest = c.loop-piece.piece-iterator.rest.items in
    let none : rest ≡ [] = nil_from_length rest
    (omega (arith, c.in-None.ensures.steps.0, c.loop-piece.piece-iterator.rest.ok.0)) in
    let nothing : total rest ≡ 0 = ap total none in
    omega (arith, nothing, c.loop-piece.invariant.whole, c.loop-piece.invariant.place)

pub returns-clause-makes : goal.returns-clause-makes
returns-clause-makes c = λ recording kind state keeping fits is.
    let done = c.loop-piece.invariant.goes recording kind state keeping fits is in
    let rest = c.loop-piece.piece-iterator.rest.items in
    let none : rest ≡ [] = nil_from_length rest
    (omega (arith, c.in-None.ensures.steps.0, c.loop-piece.piece-iterator.rest.ok.0)) in
    let nothing : total rest ≡ 0 = ap total none in (
      done.fits,
      done.between.counted ∙ omega (arith, nothing, c.loop-piece.invariant.whole),
      sym (ap (λ ps. inserted_texts recording kind c.loop-piece.at ps (outlineed recording kind c.loop-piece.self state))
          none) ∙ done.makes,
    )

pub returns-clause-steps : goal.returns-clause-steps
returns-clause-steps c =
    let rest = c.loop-piece.piece-iterator.rest.items in
    row-last c.loop-piece.invariant.row
    (nil_from_length rest (omega (arith, c.in-None.ensures.steps.0, c.loop-piece.piece-iterator.rest.ok.0)))
