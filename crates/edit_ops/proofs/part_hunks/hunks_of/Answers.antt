use Rattle.edit_ops.proofs.Common.{drop, sym, arith, subst, drop_all, part_hunks, AreHunks, AreSeparate, chars}
use Rattle.edit_ops.proofs.Common.{string_bytes, [], ◌++◌, ◌∙◌, ap, ap₂, chars-nil}
use Rattle.edit_ops.proofs.PartHunkLaws.{hunks-end, parts-separate, parts-stand, parts-written}
use Rattle.edit_ops.proofs.part_hunks.hunks_of.Goals as goal

pub loop-part-init : goal.loop-part-init
loop-part-init c =
    ap₂ (λ hunks text. hunks ++ part_hunks 0 text c.args.len c.args.parts.now.fresh.items c.args.parts.now.parts.items)
    c.new.ensures.items (ap chars c.new-2.ensures.bytes ∙ chars-nil)

pub returns-clause-hunks : goal.returns-clause-hunks
returns-clause-hunks c =
    let len = c.args.len in let fresh = c.args.parts.now.fresh.items in let parts = c.args.parts.now.parts.items in
    let i = c.loop-part.part-index in let writer = c.loop-part.writer in
    hunks-end writer.hunks.items c.keep.new.self.hunks.items writer.border len (chars (string_bytes writer.text)) fresh
    (drop i parts) (part_hunks 0 [] len fresh parts) c.loop-part.invariant (drop_all i parts (omega arith))
    c.in_ok-keep.ensures.hunks

pub returns-clause-stand : goal.returns-clause-stand
returns-clause-stand c =
    let len = c.args.len in let fresh = c.args.parts.now.fresh.items in let parts = c.args.parts.now.parts.items in
    subst (AreHunks 0 len) (sym (returns-clause-hunks c))
    (parts-stand 0 len fresh [] parts c.requires.rising c.requires.fit)

pub returns-clause-apart : goal.returns-clause-apart
returns-clause-apart c =
    let len = c.args.len in let fresh = c.args.parts.now.fresh.items in let parts = c.args.parts.now.parts.items in
    subst AreSeparate (sym (returns-clause-hunks c))
    (parts-separate 0 len fresh [] parts c.requires.rising c.requires.fit)

pub returns-clause-patched : goal.returns-clause-patched
returns-clause-patched c = λ old long.
    parts-written c.args.len c.args.parts.now.fresh.items old c.args.parts.now.parts.items
    c.keep.new.self.hunks.items long c.requires.rising c.requires.fit (returns-clause-hunks c)
