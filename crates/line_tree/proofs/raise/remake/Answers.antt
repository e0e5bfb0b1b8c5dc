use Rattle.line_tree.proofs.Common.{◌≡◌, List, ◌++◌, length, take, drop, sym, ap, ◌∙◌, subst, arith, NodePtr, kids}
use Rattle.line_tree.proofs.Common.{records, CanRaise, Raises}
use Rattle.line_tree.proofs.raise.remake.Goals as goal

pub raise-requires-clause-raise : goal.raise-requires-clause-raise
raise-requires-clause-raise g c =
    let cs = kids (records c.args.store.now) c.args.gap.node in
    let front = take c.args.gap.front cs in let back = drop c.args.gap.back cs in
    let list = c.deref-2.ensures.value ∙ c.list_with.ensures.list
    ∙ ap (λ (xs : List NodePtr). front ++ (xs ++ back)) c.deref.ensures.value in
    let h = c.requires.raise.0 in (
      h,
      subst (λ xs. CanRaise (records c.give_back.new.self) h xs) (sym list)
          (subst (λ m. CanRaise m h (front ++ (c.args.row.now.items ++ back))) (sym c.give_back.ensures.records)
          c.requires.raise.1),
    )

pub returns-clause-raises : goal.returns-clause-raises
returns-clause-raises g c h all is can =
    let cs = kids (records c.args.store.now) c.args.gap.node in
    let front = take c.args.gap.front cs in let back = drop c.args.gap.back cs in
    let list : c.deref-2.result.now ≡ all = c.deref-2.ensures.value ∙ c.list_with.ensures.list
    ∙ ap (λ (xs : List NodePtr). front ++ (xs ++ back)) c.deref.ensures.value ∙ sym is in
    let n = records c.raise.new.store in let ps = c.raise.new.row.items in
    subst (λ m. Raises m n h all (length all) ps) c.give_back.ensures.records
    (subst (λ xs. Raises (records c.give_back.new.self) n h xs (length xs) ps) list
    (c.raise.ensures.raises h (subst (λ xs. CanRaise (records c.give_back.new.self) h xs) (sym list)
    (subst (λ m. CanRaise m h all) (sym c.give_back.ensures.records) can))))

pub returns-clause-ends : goal.returns-clause-ends
returns-clause-ends g c all is =
    let cs = kids (records c.args.store.now) c.args.gap.node in
    let front = take c.args.gap.front cs in let back = drop c.args.gap.back cs in
    let list : c.deref-2.result.now ≡ all = c.deref-2.ensures.value ∙ c.list_with.ensures.list
    ∙ ap (λ (xs : List NodePtr). front ++ (xs ++ back)) c.deref.ensures.value ∙ sym is in
    let e = ap length list in let few = c.raise.ensures.few in omega arith
