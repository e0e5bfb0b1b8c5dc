use Rattle.segments.proofs.Common.{◌+◌, ◌<◌, Bool, true, false, length, refl, sym, ap, ◌∙◌, arith, changed, LineContent}
use Rattle.segments.proofs.Common.{with_toggle, content, is_plain, ◌≡◌}
use Rattle.segments.proofs.PlainLaws.{length-plain, set-plain}
use Rattle.segments.proofs.form.Form.set_toggle.Goals as goal

-- no slot is toggled where there is no room
off : (on plain : Bool) → (on ≡ true → plain ≡ false) → plain ≡ true → on ≡ false
off false plain room is = refl
off true plain room is = let no : true ≡ false = sym is ∙ room refl in absurd (cc)

pub returns-in-Plain-clause-columns : goal.returns-in-Plain-clause-columns
returns-in-Plain-clause-columns c =
    let text = c.in-Plain.field-0 in
    let same = ap content c.in-Plain.is in
    let long = ap (λ (line : LineContent). length line.columns) same in
    let within : c.args.column < length text = omega (arith, c.requires.within, long, length-plain text) in
    let none = sym (off c.args.is_toggled (is_plain c.args.self.now) c.requires.room (ap is_plain c.in-Plain.is)) in
    ap (λ (line : LineContent). line.columns) same ∙ set-plain c.args.slot.0 c.args.column text within
    ∙ ap (λ (line : LineContent). changed (with_toggle c.args.slot.0 false) c.args.column (c.args.column + 1)
    line.columns) (sym same)
    ∙ ap (λ on. changed (with_toggle c.args.slot.0 on) c.args.column (c.args.column + 1)
    (content c.args.self.now).columns) none
