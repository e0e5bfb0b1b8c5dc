use Rattle.text_model.proofs.Common.{◌≡◌, ◌+◌, ◌-◌, ◌≤◌, ◌++◌, length, vec_len, replicate, None, ap, ◌∙◌, arith}
use Rattle.text_model.proofs.Common.{take_all, plain_marks}
use Rattle.text_model.proofs.PlaceLaws.{plain_marks-put, plain_marks-padded}
use Rattle.text_model.proofs.plain_store.put_place.Goals.{then-len-index+in_ok-resize, else-len-index}
use Rattle.std.specs.FinMap as finite
use Rattle.text_model.proofs.plain_store.put_place.Goals as goal

pub returns-clause-marks : goal.returns-clause-marks
returns-clause-marks c =
    let number = c.args.number.0 in
    let old = c.args.places.now in
    let new = c.if-len-index.places in
    let place = c.args.place in
    elim c.if-len-index.branch [
      | then-len-index+in_ok-resize w ↦
          let grown = w.in_ok-resize.ensures.items in
          let few : length old.items ≤ number + 1 = omega (arith, old.ok.0, w.if-len-index.true, c.len.ensures) in
          let padded : new.items ≡ old.items ++ replicate (number + 1 - vec_len old) None =
          ap (λ v. v.items) w.places-is ∙ grown
          ∙ ap (λ items. items ++ replicate (number + 1 - vec_len old) None) (take_all (number + 1) old.items few)
          in
          let long = ap vec_len w.places-is ∙ w.in_ok-resize.ensures.len in
          plain_marks-put new.items number place (omega (arith, new.ok.0, long))
          ∙ ap (λ marks. finite.insert marks number place) (ap plain_marks padded
          ∙ plain_marks-padded old.items (number + 1 - vec_len old))
      | else-len-index w ↦
          plain_marks-put new.items number place
          (omega (arith, new.ok.0, ap vec_len w.places-is, w.if-len-index.false, c.len.ensures))
          ∙ ap (λ v. finite.insert (plain_marks v.items) number place) w.places-is
    ]
