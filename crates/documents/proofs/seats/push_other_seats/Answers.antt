use Rattle.documents.proofs.Common.{◌+◌, List, Bool, ℕ, [], ◌∷◌, sym, subst, ap, ◌∙◌, chars, filter, not, string_bytes}
use Rattle.documents.proofs.Common.{take, same_Some, is_same, Goes}
use Rattle.name_list.specs.Names.{names_of}
use Rattle.documents.proofs.SeatLaws.{goes_failing, goes_passing}
use Rattle.documents.proofs.seats.push_other_seats.Goals.{then-not-is_word+in_ok-push_element, else-not-is_word}
use Rattle.documents.proofs.seats.push_other_seats.Goals as goal

pub loop-place-preserved : goal.loop-place-preserved
loop-place-preserved c =
    let names = names_of c.args.seats.now.entries in
    let place = c.loop-place.place in
    let own = chars c.args.name.now in
    let passes : List ℕ → Bool = λ other. not (is_same other own) in
    let P : List ℕ → Type 0 = λ bytes. Goes (string_bytes c.args.list.now) bytes
    (filter passes (take (place + 1) names)) in
    elim c.if-not-is_word.branch [
      | then-not-is_word+in_ok-push_element w ↦
          subst P (sym (ap (λ l. string_bytes l) w.list-is))
          (goes_passing (string_bytes c.args.list.now) (string_bytes c.loop-place.list)
          (string_bytes w.push_element.new.list) names passes place (chars c.name.result.now) c.loop-place.invariant
          (subst (λ n. Goes (string_bytes c.loop-place.list) (string_bytes w.push_element.new.list) (n ∷ []))
          (same_Some _ _ (sym w.name-then-not-is_word.ensures ∙ c.name.ensures)) w.in_ok-push_element.ensures.list)
          c.name.ensures (ap not (sym c.is_word.ensures ∙ w.if-not-is_word.true)))
      | else-not-is_word w ↦
          subst P (sym (ap (λ l. string_bytes l) w.list-is))
          (goes_failing (string_bytes c.args.list.now) (string_bytes c.loop-place.list) names passes place
          (chars c.name.result.now) c.loop-place.invariant c.name.ensures
          (ap not (sym c.is_word.ensures ∙ w.if-not-is_word.false)))
    ]
