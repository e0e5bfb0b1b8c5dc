use Rattle.reports.proofs.Common.{◌≡◌, List, Bool, ℕ, true, false, sym, subst, ap, ◌∙◌, chars, IfOk, sel, is_same, Key}
use Rattle.reports.proofs.Common.{key_named, if◌then◌else◌}
use Rattle.reports.proofs.KeyListLaws.{sel-is}
use Rattle.reports.proofs.keys.Key.named.Goals as goal

-- the key that a name is found to have
by_test : (widget name : List ℕ) (test : Bool) → is_same name sel ≡ test →
    (if test then record { selects = true; name = widget } else record { selects = false; name = name })
    ≡ key_named widget name
by_test widget name test is =
    ap (λ b. if b then record { selects = true; name = widget } else record { selects = false; name = name }) (sym is)

pub returns-then-is_word : goal.returns-then-is_word
returns-then-is_word c =
    let name = chars c.args.name.now in
    subst (λ found. IfOk c.new.result (λ (key : Key). key ≡ found))
    (by_test (chars c.args.widget.now) name true
    (sym (c.is_word.ensures ∙ ap (is_same name) sel-is) ∙ c.if-is_word.true)) c.new.ensures

pub returns-else-is_word : goal.returns-else-is_word
returns-else-is_word c =
    let name = chars c.args.name.now in
    subst (λ found. IfOk c.new-else-is_word.result (λ (key : Key). key ≡ found))
    (by_test (chars c.args.widget.now) name false
    (sym (c.is_word.ensures ∙ ap (is_same name) sel-is) ∙ c.if-is_word.false)) c.new-else-is_word.ensures
