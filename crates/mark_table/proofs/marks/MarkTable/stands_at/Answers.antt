use Rattle.mark_table.proofs.Common.{ap, sym, ◌∙◌, arith, nat_tests, none-some, same_Some, Place, numbers_of}
use Rattle.mark_table.proofs.StoreLaws.{stands-here, stands-there}
use Rattle.mark_table.proofs.marks.MarkTable.stands_at.Goals as goal

pub returns-in-Some-clause-yes : goal.returns-in-Some-clause-yes
returns-in-Some-clause-yes g c = λ same.
    stands-here c.args.offset c.args.place (g.S.TextStore.content c.args.store.now).marks
    (numbers_of c.args.self.now.marks) c.number.result.0 c.in-Some.found c.number.ensures
    (sym c.mark_place.ensures.value ∙ c.in-Some.is) (grind (arith, nat_tests))

pub returns-in-Some-clause-no : goal.returns-in-Some-clause-no
returns-in-Some-clause-no g c = λ other stands.
    let there = stands-there c.args.offset c.args.place (g.S.TextStore.content c.args.store.now).marks
    (numbers_of c.args.self.now.marks) c.number.result.0 c.number.ensures stands in
    let same = same_Some there.0 c.in-Some.found (sym there.1 ∙ sym c.mark_place.ensures.value ∙ c.in-Some.is) in
    let here = ap (λ (p : Place). p.offset) (sym same) ∙ there.2 in
    absurd (grind (arith, nat_tests))

pub returns-in-None-clause-no : goal.returns-in-None-clause-no
returns-in-None-clause-no g c = λ _ stands.
    let there = stands-there c.args.offset c.args.place (g.S.TextStore.content c.args.store.now).marks
    (numbers_of c.args.self.now.marks) c.number.result.0 c.number.ensures stands in
    absurd (none-some there.0 (sym (sym c.mark_place.ensures.value ∙ c.in-None.is) ∙ there.1))
