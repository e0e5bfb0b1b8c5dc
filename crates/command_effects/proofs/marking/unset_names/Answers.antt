use Rattle.command_effects.proofs.Common.{take, sym, ap, ◌∙◌, subst, chars, SharedMarks, without, texts_of, marks_left}
use Rattle.command_effects.proofs.Common.{AreApart}
use Rattle.mark_table.specs.SharedMarks.{is_named, names_of}
use Rattle.command_effects.proofs.LeftLaws.{marks_left-more, marks_left-none}
use Rattle.command_effects.proofs.SlotLaws.{texts-more}
use Rattle.command_effects.proofs.marking.unset_names.Goals as goal

pub loop-name-init : goal.loop-name-init
loop-name-init c = record {
  value = ap (λ marks. record c.args.marks.now { marks = marks }) (sym (marks_left-none c.args.marks.now.marks));
  sound = λ sound. sound;
}

pub loop-name-preserved : goal.loop-name-preserved
loop-name-preserved c =
    let old = c.args.marks.now in
    let at = c.loop-name.name-index in
    let name = chars c.as_str.result.now in
    let is = c.loop-name.invariant.value in
    record {
      value = c.unset.ensures.value ∙ ap (λ (t : SharedMarks). record t { marks = without (is_named name) t.marks }) is
          ∙ ap (λ marks. record old { marks = marks })
          (marks_left-more (texts_of (take at c.args.names.now)) name old.marks
          (subst (λ (t : SharedMarks). AreApart (names_of t.marks)) is c.unset.ensures.sound.0.names_apart)
          ∙ ap (λ names. marks_left names old.marks) (sym (texts-more c.args.names.now at c.name-item.result
          c.as_str.result.now c.loop-name-test.true c.name-item.is c.as_str.ensures.value)));
      sound = λ _. c.unset.ensures.sound.1;
    }
