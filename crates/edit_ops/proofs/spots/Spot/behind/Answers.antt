use Rattle.edit_ops.proofs.Common.{◌+◌, ◌++◌, ap, length, take, drop, sym, subst, append-nil, ◌∙◌, arith, chars}
use Rattle.edit_ops.proofs.Common.{encode_utf8_all, len_utf8, length_push, take_all, encodes-chars, end_of, HasRoom}
use Rattle.std.proofs.lemmas.Iterator.{YieldsList-from_chars}
use Rattle.std.proofs.lemmas.Iterator.Consumers.{YieldsList-turn, YieldsList-end}
use Rattle.edit_ops.proofs.SpotLaws.{front-more, rest-more, room-less}
use Rattle.edit_ops.proofs.spots.Spot.behind.Goals as goal

pub loop-character-init : goal.loop-character-init
loop-character-init c = record {
  room = subst (λ bytes. HasRoom c.args.self (length bytes)) (sym (encodes-chars c.args.text.now c.utf8.text))
      c.requires;
  end = λ before is. is ∙ ap end_of (sym (append-nil before));
}

pub past-spot-requires : goal.past-spot-requires
past-spot-requires c =
    let t = YieldsList-turn (YieldsList-from_chars c.args.text.now c.utf8.text cc) c.loop-character.yielded _
    c.loop-character.yielded_by _ _ c.in-Some.character c.in-Some.is c.next.ensures.steps in
    let cs = chars c.args.text.now in
    let index = length c.loop-character.yielded in
    room-less c.loop-character.spot (length (encode_utf8_all (drop index cs))) (len_utf8 c.in-Some.character)
    c.loop-character.invariant.room (omega (arith, rest-more cs index c.in-Some.character t))

pub loop-character-preserved : goal.loop-character-preserved
loop-character-preserved c =
    let t = YieldsList-turn (YieldsList-from_chars c.args.text.now c.utf8.text cc) c.loop-character.yielded _
    c.loop-character.yielded_by _ _ c.in-Some.character c.in-Some.is c.next.ensures.steps in
    let cs = chars c.args.text.now in
    let index = length c.loop-character.yielded in
    let next = length_push c.loop-character.yielded c.in-Some.character in
    record {
      room = subst (λ n. HasRoom c.past-spot.result (length (encode_utf8_all (drop n cs)))) (sym next)
          (c.past-spot.ensures.room (length (encode_utf8_all (drop (index + 1) cs)))
          (subst (HasRoom c.loop-character.spot) (rest-more cs index c.in-Some.character t)
          c.loop-character.invariant.room));
      end = λ before is. c.past-spot.ensures.end (before ++ take index cs) (c.loop-character.invariant.end before is)
          ∙ ap end_of (front-more before cs index _ c.in-Some.character t next);
    }

pub returns : goal.returns
returns c = λ before is.
    let t = YieldsList-end (YieldsList-from_chars c.args.text.now c.utf8.text cc) c.loop-character.yielded _
    c.loop-character.yielded_by _ _ c.in-None.is c.next.ensures.steps in
    let cs = chars c.args.text.now in
    c.loop-character.invariant.end before is
    ∙ ap (λ front. end_of (before ++ front)) (take_all (length c.loop-character.yielded) cs (omega (arith, t.1)))
