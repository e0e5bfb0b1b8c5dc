use Rattle.documents.proofs.Common.{◌≡◌, None, Some, sym, ap, ◌∙◌, chars, number_of, MarkNo}
use Rattle.std.specs.Option.{option_map}
use Rattle.documents.proofs.MarkAtLaws.{current-at, insert-at, shared-at, shared-none}
use Rattle.documents.proofs.PartsLaws.{sits, stand}
use Rattle.documents.proofs.documents.Document.mark_at.Goals as goal

pub returns-in_ok-seat-in-Insert : goal.returns-in_ok-seat-in-Insert
returns-in_ok-seat-in-Insert g c =
    let stands = stand c.self.invariant c.self.view_is in
    c.mark_place.ensures.value
    ∙ insert-at stands c.args.key.now (chars c.as_str-name.result.now) c.as_str-name.ensures.characters
    (sits c.in_ok-seat-in-Insert.seat stands c.number.ensures.value) c.in_ok-seat-in-Insert.ensures.some c.in-Insert.is

pub returns-in_ok-seat-in-Current : goal.returns-in_ok-seat-in-Current
returns-in_ok-seat-in-Current g c =
    let stands = stand c.self.invariant c.self.view_is in
    c.mark_place-in-Current.ensures.value
    ∙ current-at stands c.args.key.now (chars c.as_str-name.result.now) c.as_str-name.ensures.characters
    (sits c.in_ok-seat-in-Current.seat stands c.number-in-Current.ensures.value) c.in_ok-seat-in-Current.ensures.some
    c.in-Current.is

pub returns-in_err-find-in-Shared : goal.returns-in_err-find-in-Shared
returns-in_err-find-in-Shared g c =
    let word = chars c.as_str-name.result.now in
    let none : number_of word c.self.inside.marks.marks ≡ None = sym c.find.ensures
    ∙ ap (option_map (λ (n : MarkNo). n.0)) c.in_err-find-in-Shared.was in
    c.from_residual-in_err-find-in-Shared.ensures
    ∙ shared-none (stand c.self.invariant c.self.view_is) c.args.key.now word c.as_str-name.ensures.characters
    c.in-Shared.is none

pub returns-in_ok-find-in-Shared : goal.returns-in_ok-find-in-Shared
returns-in_ok-find-in-Shared g c =
    let word = chars c.as_str-name.result.now in
    let number = c.in_ok-find-in-Shared.field-0.0 in
    let known : number_of word c.self.inside.marks.marks ≡ Some number = sym c.find.ensures
    ∙ ap (option_map (λ (n : MarkNo). n.0)) c.in_ok-find-in-Shared.was in
    c.mark_place-in-Shared.ensures.value
    ∙ shared-at (stand c.self.invariant c.self.view_is) c.args.key.now word c.as_str-name.ensures.characters number
    c.in-Shared.is known
