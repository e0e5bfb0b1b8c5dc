use Rattle.documents.proofs.Common.{◌≡◌, true, ◌+◌, ◌≤◌, [], ◌∷◌, None, Ok, Empty, LimitTable, ap, arith, chars, ◌∙◌}
use Rattle.documents.proofs.Common.{inserted_texts, insert_at, length, log_of, parts_of, state_of, subst, widget_at}
use Rattle.documents.proofs.Common.{Insert}
use Rattle.text_model.proofs.TextLaws.{chars-scalars}
use Rattle.documents.proofs.ChangeLaws.{Leaves}
use Rattle.documents.proofs.PartsLaws.{stand}
use Rattle.documents.proofs.StateLaws.{state_in, with_state}
use Rattle.documents.proofs.WithinLaws.{leaves-lone, lone}
use Rattle.documents.proofs.documents.Document.insert_piece.Given.{Over}
use Rattle.documents.proofs.documents.Document.insert_piece.Goals.{In_ok-insert_within}
use Rattle.documents.proofs.documents.Document.insert_piece.Goals as goal

-- what is left where the text is inserted
left : (g : Over) (c : In_ok-insert_within g) → c.in_ok-insert_within.field-0 ≡ true
    → Leaves c.args.caller.now.limits.now (with_state (parts_of g.S.TextStore.content c.self.inside) (state_of
    (g.S.TextStore.content c.insert_within.new.text.store) c.insert_within.new.text.anchors.items
    (log_of c.insert_within.new.text.history))) c.args.self.now (Ok Empty)
    (insert_at c.args.caller.now.limits.now c.args.self.now (widget_at c.args.self.now c.args.caller.now.seat) c.args.at
    (lone (chars c.args.text.now)))
left g c is_made =
    let parts = parts_of g.S.TextStore.content c.self.inside in
    let text = chars c.args.text.now in
    let rules = c.rules-rules.ensures in
    let did = c.in_ok-insert_within.ensures in
    leaves-lone c.args.caller.now.seat c.args.at text (stand c.self.invariant c.self.view_is) c.requires.shown
    c.requires.within c.tags.ensures.bounds
    (omega (arith, c.if-len-tags.false, c.len.ensures.value, c.tags.ensures.value)) (chars-scalars c.args.text.now c.utf8.text)
    (subst (λ (limits : LimitTable). length parts.content.cells + length text ≤ limits.chars) rules.limits
    (did.fits is_made))
    (did.made is_made ∙ ap (λ recording. inserted_texts recording Insert c.args.at
    (record { text = text; slots = None } ∷ []) (state_in parts)) rules.recording)

pub invariant_of-self-2 : goal.invariant_of-self-2
invariant_of-self-2 g c =
    (left g (goal.at.invariant_of-self-2 g c).In_ok-insert_within c.if-not-branch.false).sound

pub returns-clause-made : goal.returns-clause-made
returns-clause-made g c = λ _.
    (left g (goal.at.returns-clause-made g c).In_ok-insert_within c.if-not-branch.false).does
