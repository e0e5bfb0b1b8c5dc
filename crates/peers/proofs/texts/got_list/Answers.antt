use Rattle.peers.proofs.Common.{◌≤◌, ◌-◌, ℕ, length, drop, sym, subst, ◌∙◌, arith, string_bytes, filter}
use Rattle.peers.proofs.Common.{IsUtf8-string_bytes, All-take, All-drop, Goes, texts_of_places, is_filled, shown}
use Rattle.peers.proofs.Common.{widget_at, eqb-true, eqb-false}
use Rattle.peers.proofs.GotLaws.{got-more, got-end, got-last}
use Rattle.documents.proofs.ListedLaws.{written}
use Rattle.peers.proofs.texts.got_list.Goals as goal

pub loop-rest-preserved : goal.loop-rest-preserved
loop-rest-preserved g c =
    let document = c.args.document.now in let widget = widget_at document c.args.seat in
    let rest = c.loop-rest.rest.now in
    let holds = λ (place : ℕ). place ≤ length (shown document widget) in
    record {
      got = got-more c.loop-rest.invariant.got (string_bytes c.push_filled.new.list) c.in_ok-text_between.field-0
          (omega (arith, c.loop-rest-test.true)) c.in_ok-text_between.ensures c.in_ok-push_filled.ensures;
      within = All-take holds (length rest - 2) (drop 2 rest) (All-drop holds 2 rest c.loop-rest.invariant.within);
    }

pub returns-then-is_empty : goal.returns-then-is_empty
returns-then-is_empty g c =
    let document = c.args.document.now in let widget = widget_at document c.args.seat in
    let list = c.loop-rest.list in
    let texts = filter is_filled (texts_of_places document widget c.args.places.now) in
    c.new.ensures ∙ written (string_bytes list) texts (IsUtf8-string_bytes list)
    (subst (λ bytes. Goes bytes (string_bytes list) texts) c.new-list.ensures.bytes
    (got-end c.loop-rest.invariant.got (eqb-true (length c.loop-rest.rest.now) 0 (sym c.if-is_empty.ensures))))

pub returns : goal.returns
returns g c =
    let document = c.args.document.now in let widget = widget_at document c.args.seat in
    let list = c.push_filled-2.new.list in
    let texts = filter is_filled (texts_of_places document widget c.args.places.now) in
    c.new-2.ensures ∙ written (string_bytes list) texts (IsUtf8-string_bytes list)
    (subst (λ bytes. Goes bytes (string_bytes list) texts) c.new-list.ensures.bytes
    (got-last document widget c.args.places.now c.loop-rest.rest.now (string_bytes c.new-list.result)
    (string_bytes c.loop-rest.list) (string_bytes list) c.in_ok-character_at.field-0
    (omega (arith, eqb-false (length c.loop-rest.rest.now) 0 (sym c.if-is_empty.ensures), c.loop-rest-test.false))
    c.loop-rest.invariant.got c.in_ok-character_at.ensures c.in_ok-push_filled-2.ensures))
