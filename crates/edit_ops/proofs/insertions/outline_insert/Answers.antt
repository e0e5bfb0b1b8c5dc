use Rattle.edit_ops.proofs.Common.{◌≡◌, true, arith, ap, sym, ◌∙◌, needs_shared, Outline}
use Rattle.edit_ops.proofs.InsertLaws.{put-in, around-is, behind-is}
use Rattle.edit_ops.proofs.InsertedLaws.{put-at-first}
use Rattle.std.specs.FinSet as set
use Rattle.edit_ops.proofs.insertions.outline_insert.Goals as goal

pub returns-clause-makes : goal.returns-clause-makes
returns-clause-makes g c =
    let content = g.S.TextStore.content c.args.text.now.store in
    let counted = c.len-2.ensures in
    let on : needs_shared c.args.pieces.items ≡ true → c.needs_shared.result ≡ true = λ some.
    c.needs_shared.ensures ∙ ap needs_shared c.deref.ensures.value ∙ some in
    let before = c.slots_beside-before.result.0 in
    let behind = c.slots_beside-before.result.1 in
    put-in c.args.rules.now.recording.undo c.in_ok-outline.outline c.insert_pieces.new.self content c.args.text.now.anchors.items
    (set.intersection before behind) behind c.len-2.result c.args.at c.args.pieces.items
    c.in_ok-outline.ensures (record {
      counted = sym c.len-2.ensures;
      within = omega (arith, c.requires.within, counted);
      after = λ some. behind-is c.args.at content.cells behind (c.slots_beside-before.ensures.behind (on some));
      around = λ some. around-is c.args.at c.args.at content.cells behind (c.slots_beside-before.ensures.behind (on some))
          ∙ ap (λ s. set.intersection s behind) (sym (c.slots_beside-before.ensures.before (on some)));
    })
    c.in_ok-insert_pieces.ensures.makes

pub returns-clause-put : goal.returns-clause-put
returns-clause-put g c =
    let content = g.S.TextStore.content c.args.text.now.store in
    put-at-first content (ap (λ (d : Outline). d.steps) c.in_ok-outline.ensures) c.requires.within
    (omega (arith, c.requires.within, c.requires.fits)) c.in_ok-insert_pieces.ensures.steps
