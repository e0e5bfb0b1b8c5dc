use Rattle.handles.proofs.Common.{◌≡◌, ◌++◌, ◌∷◌, [], ◌∙◌, ap, sym, rules, Ok, said_text, texts_of}
use Rattle.command_effects.specs.declared.answers.Answer.TheVariants.{Text}
use Rattle.handles.proofs.RoomLaws.{copied-as, text-line}
use Rattle.handles.specs.declared.session.Said.TheVariants.{Reply}
use Rattle.handles.proofs.session.Session.copy_said.Goals as goal

pub returns-in-Reply-Ok-Text : goal.returns-in-Reply-Ok-Text
returns-in-Reply-Ok-Text c =
    let here = c.in-Reply-Ok-Text in
    let bytes = c.as_str.result.now in
    let words = texts_of c.args.self.now.words.items in
    let wanted = said_text words c.args.self.now.said in
    let said : c.args.self.now.said ≡ Reply (Ok (Text here.text)) = search (rules) in
    let same : bytes ++ 10 ∷ [] ≡ wanted =
    text-line bytes here.text c.as_str.ensures.bytes ∙ sym (ap (said_text words) said) in
    let all = copied-as (bytes ++ 10 ∷ []) wanted c.args.room.now c.copy_two.new.room c.copy_two.result same
    c.copy_two.ensures.length c.copy_two.ensures.copied in
    record { length = all.0; copied = all.1 }
