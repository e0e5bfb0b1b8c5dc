use Rattle.command_effects.proofs.Common.{take, sym, ap, ◌∙◌, subst, chars, deleted, names_of, Tags, texts_of}
use Rattle.command_effects.proofs.Common.{tags_left, AreApart}
use Rattle.command_effects.proofs.LeftLaws.{tags_left-more, tags_left-none}
use Rattle.command_effects.proofs.SlotLaws.{texts-more}
use Rattle.command_effects.proofs.tagging.delete_names.Goals as goal

pub loop-name-init : goal.loop-name-init
loop-name-init c = record {
  value = ap (λ tags. record c.args.tags.now { tags = tags }) (sym (tags_left-none c.args.tags.now.tags));
  sound = λ sound. sound;
}

pub loop-name-preserved : goal.loop-name-preserved
loop-name-preserved c =
    let old = c.args.tags.now in
    let at = c.loop-name.name-index in
    let name = chars c.as_str.result.now in
    let is = c.loop-name.invariant.value in
    record {
      value = c.delete.ensures.value ∙ ap (λ (t : Tags). record t { tags = deleted name t.tags }) is
          ∙ ap (λ tags. record old { tags = tags })
          (tags_left-more (texts_of (take at c.args.names.now)) name old.tags
          (subst (λ (t : Tags). AreApart (names_of t.tags)) is c.delete.ensures.sound.0.names_apart)
          ∙ ap (λ names. tags_left names old.tags) (sym (texts-more c.args.names.now at c.name-item.result
          c.as_str.result.now c.loop-name-test.true c.name-item.is c.as_str.ensures.value)));
      sound = λ _. c.delete.ensures.sound.1;
    }
