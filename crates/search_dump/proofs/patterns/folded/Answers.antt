use Rattle.search_dump.proofs.Common.{length, chars, string_bytes, map, sym, ap, ◌∙◌, encode_utf8_all, arith}
use Rattle.search_dump.proofs.Common.{YieldsList-from_chars, YieldsList-turn, YieldsList-end, length_push, take_all}
use Rattle.search_dump.proofs.Common.{chars_from_encodes, IsUtf8-string_bytes, simple_fold}
use Rattle.search_dump.proofs.TextLaws.{folded-more}
use Rattle.search_dump.proofs.patterns.folded.Goals as goal

pub loop-character-init : goal.loop-character-init
loop-character-init c = c.in_ok-folds.ensures.bytes

pub loop-character-preserved : goal.loop-character-preserved
loop-character-preserved c =
    let t = YieldsList-turn (YieldsList-from_chars c.args.text.now c.utf8.text cc) c.loop-character.yielded _
    c.loop-character.yielded_by _ _ c.in-Some.character c.in-Some.is c.next.ensures.steps in
    folded-more (chars c.args.text.now) (length c.loop-character.yielded) _ c.in-Some.character c.fold_of.result _ _
    t
    (length_push c.loop-character.yielded c.in-Some.character) c.fold_of.ensures c.loop-character.invariant
    c.in_ok-push.ensures.bytes

pub returns : goal.returns
returns c =
    let t = YieldsList-end (YieldsList-from_chars c.args.text.now c.utf8.text cc) c.loop-character.yielded _
    c.loop-character.yielded_by _ _ c.in-None.is c.next.ensures.steps in
    sym (chars_from_encodes (map simple_fold (chars c.args.text.now)) (string_bytes c.loop-character.folds)
    (IsUtf8-string_bytes c.loop-character.folds)
    (sym (c.loop-character.invariant ∙ ap (λ cs. encode_utf8_all (map simple_fold cs))
    (take_all (length c.loop-character.yielded) (chars c.args.text.now) (omega (arith, t.1))))))
