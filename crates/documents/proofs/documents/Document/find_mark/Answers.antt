use Rattle.documents.proofs.Common.{◌≡◌, None, Some, sym, ap, ◌∙◌, chars, rank_of, number_of, MarkNo}
use Rattle.std.specs.Option.{option_map}
use Rattle.documents.proofs.MarkQueryLaws.{IsShared, number-known, number-none, number-there}
use Rattle.documents.proofs.PartsLaws.{stand}
use Rattle.documents.proofs.documents.Document.find_mark.Goals as goal

pub returns-in_err-number : goal.returns-in_err-number
returns-in_err-number g c =
    let word = chars c.args.name.now in
    let shared : IsShared word = record { insert = sym c.if-is_word.ensures; current = sym c.if-is_word-2.ensures } in
    let none : number_of word c.self.inside.marks.marks ≡ None = sym c.find.ensures
    ∙ ap (option_map (λ (n : MarkNo). n.0)) c.in_err-number.was in
    ap (option_map rank_of) c.from_residual.ensures
    ∙ number-none (stand c.self.invariant c.self.view_is) word shared none

pub returns-in_err-place : goal.returns-in_err-place
returns-in_err-place g c =
    let word = chars c.args.name.now in
    let known : number_of word c.self.inside.marks.marks ≡ Some c.in_ok-number.number.0 = sym c.find.ensures
    ∙ ap (option_map (λ (n : MarkNo). n.0)) c.in_ok-number.was in
    absurd (c.in_err-place.ensures.value (number-there (stand c.self.invariant c.self.view_is) word
    c.in_ok-number.number.0 known))

pub returns : goal.returns
returns g c =
    let word = chars c.args.name.now in
    let shared : IsShared word = record { insert = sym c.if-is_word.ensures; current = sym c.if-is_word-2.ensures } in
    let known : number_of word c.self.inside.marks.marks ≡ Some c.in_ok-number.number.0 = sym c.find.ensures
    ∙ ap (option_map (λ (n : MarkNo). n.0)) c.in_ok-number.was in
    number-known (stand c.self.invariant c.self.view_is) word c.in_ok-number.number.0 c.in_ok-place.field-0 shared known
    c.in_ok-place.ensures.value
