use Rattle.line_tree.proofs.Common.{◌≡◌, ◌∷◌, [], ◌+◌, ◌-◌, ◌++◌, length, ap, sym, ◌∙◌, subst, arith, append_assoc}
use Rattle.line_tree.proofs.Common.{length-append, drop, min, take, append-nil, nil_from_length, none-some, IsLineAt}
use Rattle.line_tree.proofs.Common.{FitsSum, plus, total, count_of, PutsRoom}
use Rattle.line_tree.proofs.SpendingLaws.{keeps-self, puts-kept, puts-on}
use Rattle.line_tree.proofs.SpliceLaws.{few-lines, in-length, next-fits, next-in, none-in, went-within}
use Rattle.line_tree.proofs.tree.LineTree.put_in.Goals as goal

pub overflow_add-end : goal.overflow_add-end
overflow_add-end g c = let few = few-lines c.args.self.now.lines c.args.lines.items c.requires.fits in
    let within = c.requires.within in omega (arith, few, within)

pub loop-line-init : goal.loop-line-init
loop-line-init g c = record {
  whole = sym c.into_iter-line-iterator.ensures.into_iter_gives.0;
  place = omega arith;
  lines = none-in c.args.self.now.lines c.args.k c.args.gone;
  room = let none : 0 ≡ 0 - c.args.gone = omega arith in subst (PutsRoom c.args.self.now c.args.self.now) none
      (puts-kept c.args.self.now c.args.self.now (keeps-self c.args.self.now));
  named = λ p is. absurd (none-some p is);
}

pub put_line-behind-requires : goal.put_line-behind-requires
put_line-behind-requires g c = let l = c.loop-line in let s = l.invariant.lines in
    let now = in-length c.args.self.now.lines l.self.lines c.args.k (min c.args.gone (length l.yielded)) l.yielded
    (went-within (length c.args.self.now.lines) c.args.k c.args.gone l.yielded c.requires.within) s in
    let at = l.invariant.place in let within = c.requires.within in
    record {
      within = omega (arith, now, at, within);
      behind = c.loop-line.invariant.named;
      end = omega (arith, now, within);
      fits =
          let old = c.args.self.now.lines in
          let whole = l.invariant.whole ∙ ap (λ ls. l.yielded ++ ls) c.in-Some.ensures.steps.0 in
          next-fits old l.self.lines c.args.k (min c.args.gone (length l.yielded)) l.yielded c.next.new.self.rest.items
          c.in-Some.line l.invariant.lines
          (subst (λ ls. FitsSum (plus (total old) (count_of ls))) whole c.requires.fits);
      room = λ past.
          let whole = ap length (l.invariant.whole ∙ ap (λ ls. l.yielded ++ ls) c.in-Some.ensures.steps.0) in
          let long = length-append l.yielded (c.in-Some.line ∷ c.next.new.self.rest.items) in
          let old = c.requires.room in let room = l.invariant.room.lines in
          omega (arith, whole, long, old, room, at, past);
    }

pub overflow_add-at : goal.overflow_add-at
overflow_add-at g c = let l = c.loop-line in
    let whole = ap length (l.invariant.whole ∙ ap (λ ls. l.yielded ++ ls) c.in-Some.ensures.steps.0) in
    let long = length-append l.yielded (c.in-Some.line ∷ c.next.new.self.rest.items) in
    let few = few-lines c.args.self.now.lines c.args.lines.items c.requires.fits in let within = c.requires.within in
    let at = l.invariant.place in
    omega (arith, whole, long, few, within, at)

pub loop-line-preserved : goal.loop-line-preserved
loop-line-preserved g c = let l = c.loop-line in
    let whole = l.invariant.whole ∙ ap (λ ls. l.yielded ++ ls) c.in-Some.ensures.steps.0 in
    let more = length-append l.yielded (c.in-Some.line ∷ []) in let at = l.invariant.place in
    let step : length l.yielded - c.args.gone + min 1 (l.at + 1 - (c.args.k + c.args.gone))
    ≡ length (l.yielded ++ c.in-Some.line ∷ []) - c.args.gone = omega (arith, more, at) in
    record {
      whole = whole ∙ sym (append_assoc l.yielded (c.in-Some.line ∷ []) c.next.new.self.rest.items);
      place = omega (arith, more, at);
      lines = next-in c.args.self.now.lines l.self.lines c.put_line-behind.new.self.lines c.args.k c.args.gone l.at
          l.yielded c.in-Some.line c.requires.within l.invariant.lines l.invariant.place c.put_line-behind.ensures.over
          c.put_line-behind.ensures.more;
      room = subst (PutsRoom c.args.self.now c.put_line-behind.new.self) step
          (puts-on c.args.self.now l.self c.put_line-behind.new.self (length l.yielded - c.args.gone)
          (min 1 (l.at + 1 - (c.args.k + c.args.gone))) l.invariant.room c.put_line-behind.ensures.room);
      named = λ p is. let e : l.at ≡ l.at + 1 - 1 = omega arith in (
        omega arith,
        subst (λ n. IsLineAt c.put_line-behind.new.self.lines n p) e
            (c.put_line-behind.ensures.named p is),
      );
    }

pub returns : goal.returns
returns g c = let l = c.loop-line in
    let none = nil_from_length l.line-iterator.rest.items
    (omega (arith, c.in-None.ensures.steps.0, l.line-iterator.rest.ok.0)) in
    let whole = l.invariant.whole ∙ ap (λ ls. l.yielded ++ ls) none ∙ append-nil l.yielded in
    record {
      lines =
          let s = l.invariant.lines in (
            s.added,
            s.contents_of ∙ sym whole,
            s.is
                ∙ ap (λ ls. take c.args.k c.args.self.now.lines
                ++ s.added ++ drop (c.args.k + min c.args.gone (length ls)) c.args.self.now.lines) (sym whole),
          );
      room = subst (λ ls. PutsRoom c.args.self.now l.self (length ls - c.args.gone)) (sym whole) l.invariant.room;
    }
