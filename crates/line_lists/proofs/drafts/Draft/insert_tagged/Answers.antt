use Rattle.line_lists.proofs.Common.{◌≡◌, ◌+◌, ◌<◌, ◌^◌, length, chars, ap, ◌∙◌, arith, differing, after_text, text_in}
use Rattle.line_lists.proofs.Common.{whole}
use Rattle.line_lists.proofs.StepTexts.{inserted-long, inserted-made, more-there, toggled-long}
use Rattle.line_lists.proofs.drafts.Draft.insert_tagged.Given.{Over}
use Rattle.line_lists.proofs.drafts.Draft.insert_tagged.Goals.{In_ok-insert, In_ok-longer}
use Rattle.line_lists.proofs.drafts.Draft.insert_tagged.Goals as goal

more : (g : Over) (c : In_ok-longer g) → c.count_characters-count.result ≡ length (chars c.args.text.now)
    → (c.args.len + length (chars c.args.text.now) < 2 ^ 64)
    × (c.in_ok-longer.longer ≡ c.args.len + length (chars c.args.text.now))
more g c counted =
    more-there c.checked_add.result _ (2 ^ 64) c.args.len c.count_characters-count.result (length (chars c.args.text.now))
    c.in_ok-longer.longer c.checked_add.ensures c.in_ok-longer.ensures.value counted

-- the text with the characters
inserted : (g : Over) (c : In_ok-insert g)
    → text_in g.L.LineList.lines c.insert.new.self
    ≡ after_text c.args.offset (chars c.args.text.now) (text_in g.L.LineList.lines c.args.self.now)
inserted g c =
    c.in_ok-insert.ensures.new
    ∙ ap (λ lines. after_text c.args.offset (chars c.args.text.now) (whole lines)) c.in_ok-before.ensures.same

pub insert-requires-clause-counted : goal.insert-requires-clause-counted
insert-requires-clause-counted g c =
    let at = goal.at.insert-requires-clause-counted g c in
    let fits = (more g at.In_ok-longer c.count_characters-count.ensures).0 in
    omega (arith, fits, c.requires.len, ap (λ lines. length (whole lines).columns) c.in_ok-before.ensures.same)

pub toggle_before-requires-clause-len : goal.toggle_before-requires-clause-len
toggle_before-requires-clause-len g c =
    let at = goal.at.toggle_before-requires-clause-len g c in
    inserted-long c.args.offset (chars c.args.text.now) (text_in g.L.LineList.lines c.args.self.now)
    (text_in g.L.LineList.lines c.insert.new.self) c.args.len c.in_ok-longer.longer c.requires.within c.requires.len
    (more g at.In_ok-longer c.count_characters-count.ensures).1 (inserted g at.In_ok-insert)

pub toggle_before-requires-2-clause-len : goal.toggle_before-requires-2-clause-len
toggle_before-requires-2-clause-len g c =
    let one = text_in g.L.LineList.lines c.insert.new.self in
    let two = text_in g.L.LineList.lines c.toggle_before.new.self in
    let at = goal.at.toggle_before-requires-2-clause-len g c in
    toggled-long (c.args.offset + c.count_characters-count.result) c.differing-differ.result one two c.in_ok-longer.longer
    (inserted-long c.args.offset (chars c.args.text.now) (text_in g.L.LineList.lines c.args.self.now) one c.args.len
    c.in_ok-longer.longer c.requires.within c.requires.len
    (more g at.In_ok-longer c.count_characters-count.ensures).1 (inserted g at.In_ok-insert))
    c.in_ok-toggle_before.ensures.new

pub returns-clause-new : goal.returns-clause-new
returns-clause-new g c =
    let at = goal.at.returns-clause-new g c in
    let differ_is = c.differing-differ.ensures
    ∙ ap (λ slots. differing slots c.args.slots.now) c.in_ok-before.ensures.value in
    c.in_ok-toggle_before-2.ensures.new
    ∙ inserted-made c.args.offset (c.args.offset + c.count_characters-count.result) (chars c.args.text.now) c.args.slots.now
    c.differing-differ.result (text_in g.L.LineList.lines c.args.self.now)
    (text_in g.L.LineList.lines c.insert.new.self) (text_in g.L.LineList.lines c.toggle_before.new.self)
    (ap (λ n. c.args.offset + n) c.count_characters-count.ensures) differ_is (inserted g at.In_ok-insert)
    c.in_ok-toggle_before.ensures.new

pub returns-clause-len : goal.returns-clause-len
returns-clause-len g c =
    let at = goal.at.returns-clause-len g c in
    (more g at.In_ok-longer c.count_characters-count.ensures).1
