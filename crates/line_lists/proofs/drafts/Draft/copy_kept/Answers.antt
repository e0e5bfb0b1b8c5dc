use Rattle.line_lists.proofs.Common.{Vec, Global, ℕ, List, ◌≡◌, ◌+◌, ◌-◌, ◌++◌, ◌∷◌, [], Some, refl, sym, ap, ◌∙◌}
use Rattle.line_lists.proofs.Common.{arith, LineContent, Copied, Stop, IsTaken, StandsAt, drafted_at, taken_lines}
use Rattle.line_lists.proofs.CountRows.{count-lines}
use Rattle.line_lists.proofs.FindLaws.{IsKept, begin-le, kept-within, opened, opened-before, opened-kept, opened-stands}
use Rattle.line_lists.proofs.FindLaws.{opened-stop, still, taken-kept}
use Rattle.line_lists.proofs.drafts.Draft.copy_kept.Given.{Over}
use Rattle.line_lists.proofs.drafts.Draft.copy_kept.Goals.{After-push_reserved, In_ok-try_clone}
use Rattle.line_lists.proofs.drafts.Draft.copy_kept.Goals as goal

pub find_line-index-requires-clause-within : goal.find_line-index-requires-clause-within
find_line-index-requires-clause-within g c =
    let lines = g.L.LineList.lines c.args.self.now.list.now in
    let before = kept-within lines c.args.self.now.front.items c.args.reached c.args.next c.args.offset
    c.requires.reached c.requires.ahead in
    omega (arith, before, begin-le lines (c.args.reached.used + c.args.next.kept))

pub overflow_add-next : goal.overflow_add-next
overflow_add-next g c =
    let lines = g.L.LineList.lines c.args.self.now.list.now in
    let few = (g.L.LineList.are_lines c.args.self.now.list.now).counted.lines in
    omega (arith, few, count-lines lines, c.find_line-index.ensures.place.within)

-- the line that is copied
kept : (g : Over) (c : In_ok-try_clone g)
    → IsKept (g.L.LineList.lines c.args.self.now.list.now) c.args.self.now.front.items c.args.reached c.args.offset
    c.find_line-index.result.0 c.find_line-index.result.1 c.in_ok-try_clone.field-0
kept g c = record {
  so_far = c.requires.reached;
  found = c.find_line-index.ensures.place;
  get = c.find_line-index.ensures.line ∙ ap Some (sym c.in_ok-try_clone.ensures);
}

-- the next copy, before which fewer lines are kept then
abbrev less : Copied → ℕ → Copied
less next kept = record next { kept = next.kept - (kept + 1) }

moved : (g : Over) (c : After-push_reserved g) (P : List LineContent → List Stop → List Copied → Type 0)
    → P (g.L.LineList.lines c.args.self.now.list.now) c.args.self.now.front.items
    (c.args.self.now.back.items ++ less c.args.next (c.find_line-index.result.0 - c.args.reached.used) ∷ [])
    → P (g.L.LineList.lines c.find_line-index.new.self.list.now) c.find_line-index.new.self.front.items
    c.push_reserved.new.self.items
moved g c P =
    let next = less c.args.next (c.find_line-index.result.0 - c.args.reached.used) in
    let items : c.push_reserved.new.self.items ≡ c.args.self.now.back.items ++ next ∷ [] =
    c.push_reserved.ensures.items
    ∙ ap (λ (back : Vec Copied Global). back.items ++ next ∷ []) c.find_line-index.ensures.back in
    still P (g.L.LineList.lines c.args.self.now.list.now) (g.L.LineList.lines c.find_line-index.new.self.list.now)
    c.args.self.now.front.items c.find_line-index.new.self.front.items
    (c.args.self.now.back.items ++ next ∷ []) c.push_reserved.new.self.items
    (ap g.L.LineList.lines c.find_line-index.ensures.list)
    (ap (λ (front : Vec Stop Global). front.items) c.find_line-index.ensures.front) items

pub overflow_sub-result : goal.overflow_sub-result
overflow_sub-result g c =
    omega (arith, (opened-stands (kept g (goal.at.overflow_sub-result g c).In_ok-try_clone)).place)

pub overflow_sub-next : goal.overflow_sub-next
overflow_sub-next g c =
    let at = (goal.at.overflow_sub-next g c).In_ok-try_clone in
    omega (arith, opened-before (kept g at) c.args.next c.requires.ahead)

pub returns-clause-taken : goal.returns-clause-taken
returns-clause-taken g c =
    let lines = g.L.LineList.lines c.args.self.now.list.now in
    let next = c.args.next in
    let copy = opened c.args.reached c.find_line-index.result.0 c.in_ok-try_clone.field-0 in
    let is = kept g (goal.at.returns-clause-taken g c).In_ok-try_clone in
    let stop : Stop = record {
      reached = c.args.reached;
      start = c.args.offset - c.find_line-index.result.1;
      copy = copy;
    } in
    moved g (goal.at.returns-clause-taken g c).After-push_reserved (λ xs stops back. IsTaken xs stops back stop)
    (taken-kept lines c.args.self.now.front.items c.args.self.now.back.items stop next (less next copy.kept)
    c.requires.is (opened-stop is) refl (opened-before is next c.requires.ahead) refl refl)

pub returns-clause-same : goal.returns-clause-same
returns-clause-same g c =
    let lines = g.L.LineList.lines c.args.self.now.list.now in
    let front = c.args.self.now.front.items in
    let back = c.args.self.now.back.items in
    let next = c.args.next in
    let copy = opened c.args.reached c.find_line-index.result.0 c.in_ok-try_clone.field-0 in
    let is = kept g (goal.at.returns-clause-same g c).In_ok-try_clone in
    moved g (goal.at.returns-clause-same g c).After-push_reserved
    (λ xs stops others. taken_lines xs stops others copy ≡ drafted_at lines front (back ++ next ∷ []))
    (opened-kept is back next (less next copy.kept) (opened-before is next c.requires.ahead) refl refl refl)

pub returns-clause-place : goal.returns-clause-place
returns-clause-place g c =
    let copy = opened c.args.reached c.find_line-index.result.0 c.in_ok-try_clone.field-0 in
    moved g (goal.at.returns-clause-place g c).After-push_reserved
    (λ xs stops _. StandsAt xs stops copy c.args.offset c.find_line-index.result.1)
    (opened-stands (kept g (goal.at.returns-clause-place g c).In_ok-try_clone))
