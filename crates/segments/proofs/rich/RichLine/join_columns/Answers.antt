use Rattle.segments.proofs.Common.{◌≡◌, ◌+◌, ◌++◌, ◌<◌, ◌^◌, length, map, sym, ap, ap₂, subst, ◌∙◌, arith}
use Rattle.segments.proofs.Common.{length-append, All, LineContent, CanMoveOn, LieIn, moved_on, columns_from, ◌*◌}
use Rattle.segments.proofs.Common.{WORDS}
use Rattle.segments.proofs.MovedLaws.{can_move_on}
use Rattle.segments.proofs.PartLaws.{columns_joined, joined_lie, not_refused, rest_added, rest_moved}
use Rattle.segments.proofs.RichLaws.{as_long}
use Rattle.segments.proofs.rich.RichLine.join_columns.Goals.{After-move_rest_on}
use Rattle.segments.proofs.rich.RichLine.join_columns.Goals as goal

pub move_rest_on-requires-clause-room : goal.move_rest_on-requires-clause-room
move_rest_on-requires-clause-room c =
    let entries = c.self.inside.toggles.items in
    let others = c.other.inside.toggles.items in
    let room : length c.other.inside.text + c.len-len.result < 2 ^ 64 = omega (
      arith,
      c.requires,
      c.len-len.ensures,
      as_long c.self.inside c.self.view_is,
      as_long c.other.inside c.other.view_is,
    ) in
    subst (All (CanMoveOn c.len-len.result))
    (sym (rest_added c.len-count.result entries others c.extend_from_slice.new.self.items (c.len-count.ensures
    ∙ c.self.inside.toggles.ok.0) (c.in_ok-extend_from_slice.ensures.items
    ∙ ap (λ es. entries ++ es) c.deref.ensures.value)))
    (can_move_on (WORDS * 0) (WORDS * length c.other.inside.text) c.len-len.result others c.other.invariant.0
    (omega (arith, room)))

-- the toggles and the characters of both
moved : (c : After-move_rest_on) → c.move_rest_on.new.toggles.items
    ≡ c.self.inside.toggles.items ++ map (moved_on (length c.self.inside.text)) c.other.inside.toggles.items
moved c =
    let entries = c.self.inside.toggles.items in
    let others = c.other.inside.toggles.items in
    c.move_rest_on.ensures
    ∙ rest_moved (moved_on c.len-len.result) c.len-count.result entries others c.extend_from_slice.new.self.items
    (c.len-count.ensures ∙ c.self.inside.toggles.ok.0) (c.in_ok-extend_from_slice.ensures.items
    ∙ ap (λ es. entries ++ es) c.deref.ensures.value)
    ∙ ap (λ n. entries ++ map (moved_on n) others) c.len-len.ensures

text : (c : After-move_rest_on) → c.join.new.self ≡ c.self.inside.text ++ c.other.inside.text
text c = not_refused c.join.result c.if-is_err.ensures.value c.join.ensures.new

pub invariant_of-self-2 : goal.invariant_of-self-2
invariant_of-self-2 c =
    let first = c.self.inside.text in
    let second = c.other.inside.text in
    let kept = c.self.invariant.1 in
    let place = (goal.at.invariant_of-self-2 c).After-move_rest_on in
    let long : length first + length second ≡ length c.join.new.self = sym (ap length (text place)
    ∙ length-append first second) in (
      subst (λ n. LieIn 0 n c.move_rest_on.new.toggles.items) long
          (subst (LieIn 0 (length first + length second)) (sym (moved place))
          (joined_lie first second c.self.inside.toggles.items c.other.inside.toggles.items c.self.invariant.0
          c.other.invariant.0)),
      record { rise = kept.rise; stand = kept.stand; within = let low = kept.within in omega (arith, low, long) },
    )

pub returns-clause-columns : goal.returns-clause-columns
returns-clause-columns c =
    let place = (goal.at.returns-clause-columns c).After-move_rest_on in
    ap₂ (columns_from 0) (text place) (moved place)
    ∙ columns_joined c.self.inside.text c.other.inside.text c.self.inside.toggles.items c.other.inside.toggles.items
    c.self.invariant.0 c.other.invariant.0
    ∙ ap₂ (λ (one two : LineContent). one.columns ++ two.columns) c.self.view_is c.other.view_is
