use Rattle.search_dump.proofs.Common.{outlook, IsKnown, arith, cases_eq, cases_lt, inl, inr, subst, sym}
use Rattle.search_dump.proofs.tag_changes.TagChanges.pass.Goals as goal

pub loop-at-init : goal.loop-at-init
loop-at-init g c = record {
  known = λ k below which. c.requires.ahead.each k below (c.requires.apart k below (elim which [
    | inl outside ↦ outside
    | inr front ↦ inl front
  ]));
  ahead = c.requires.ahead;
}

pub loop-at-preserved : goal.loop-at-preserved
loop-at-preserved g c = record {
  known = λ k below which. elim (cases_eq k c.loop-at.at) [
    | inl same ↦ subst (IsKnown (outlook c.args.sight.now) c.args.place
        c.look.new.self.next.items) (sym same) c.look.ensures.known
    | inr other ↦ c.look.ensures.keeps k (c.loop-at.invariant.known k below (elim which [
      | inl outside ↦ inl outside
      | inr upto ↦ inr (omega (arith, upto, other))
    ]))
  ];
  ahead = c.look.ensures.ahead;
}

pub returns-clause-known : goal.returns-clause-known
returns-clause-known g c at below = c.loop-at.invariant.known at below (elim (cases_lt at c.args.rows.end) [
  | inl inside ↦ inr (omega (arith, inside))
  | inr behind ↦ inl (inr behind)
])
