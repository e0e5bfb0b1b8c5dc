use Rattle.line_lists.proofs.Common.{Vec, Global, List, ◌≡◌, ◌-◌, [], Some, sym, ap, ◌∙◌, arith, reverse, LineContent}
use Rattle.line_lists.proofs.Common.{Copied, Stop, IsTaken, StandsAt, drafted_at, taken_lines, used}
use Rattle.line_lists.proofs.FindLaws.{IsKept, opened, opened-rest, opened-stands, opened-stop, rest-within, still}
use Rattle.line_lists.proofs.drafts.Draft.copy_rest.Given.{Over}
use Rattle.line_lists.proofs.drafts.Draft.copy_rest.Goals.{In_ok-try_clone}
use Rattle.line_lists.proofs.drafts.Draft.copy_rest.Goals as goal

pub find_line-index-requires-clause-within : goal.find_line-index-requires-clause-within
find_line-index-requires-clause-within g c =
    rest-within (g.L.LineList.lines c.args.self.now.list.now) c.args.self.now.front.items c.args.reached c.args.offset
    c.requires.reached c.requires.within

-- the line that is copied
kept : (g : Over) (c : In_ok-try_clone g)
    → IsKept (g.L.LineList.lines c.args.self.now.list.now) c.args.self.now.front.items c.args.reached c.args.offset
    c.find_line-index.result.0 c.find_line-index.result.1 c.in_ok-try_clone.field-0
kept g c = record {
  so_far = c.requires.reached;
  found = c.find_line-index.ensures.place;
  get = c.find_line-index.ensures.line ∙ ap Some (sym c.in_ok-try_clone.ensures);
}

moved : (g : Over) (c : In_ok-try_clone g) (P : List LineContent → List Stop → List Copied → Type 0)
    → P (g.L.LineList.lines c.args.self.now.list.now) c.args.self.now.front.items c.args.self.now.back.items
    → P (g.L.LineList.lines c.find_line-index.new.self.list.now) c.find_line-index.new.self.front.items
    c.find_line-index.new.self.back.items
moved g c P =
    still P (g.L.LineList.lines c.args.self.now.list.now) (g.L.LineList.lines c.find_line-index.new.self.list.now)
    c.args.self.now.front.items c.find_line-index.new.self.front.items
    c.args.self.now.back.items c.find_line-index.new.self.back.items
    (ap g.L.LineList.lines c.find_line-index.ensures.list)
    (ap (λ (front : Vec Stop Global). front.items) c.find_line-index.ensures.front)
    (ap (λ (back : Vec Copied Global). back.items) c.find_line-index.ensures.back)

pub overflow_sub-result : goal.overflow_sub-result
overflow_sub-result g c =
    omega (arith, (opened-stands (kept g (goal.at.overflow_sub-result g c).In_ok-try_clone)).place)

pub returns-clause-taken : goal.returns-clause-taken
returns-clause-taken g c =
    let at = (goal.at.returns-clause-taken g c).In_ok-try_clone in
    let stop : Stop = record {
      reached = c.args.reached;
      start = c.args.offset - c.find_line-index.result.1;
      copy = opened c.args.reached c.find_line-index.result.0 c.in_ok-try_clone.field-0;
    } in
    moved g at (λ xs front back. IsTaken xs front back stop) (record {
      stops = c.requires.is.stops;
      placed = opened-stop (kept g at);
      there = omega (
        arith,
        c.requires.reached.used,
        c.find_line-index.ensures.place.first,
        c.find_line-index.ensures.place.within,
        ap (λ back. used (reverse back)) c.requires.back,
      );
    })

pub returns-clause-same : goal.returns-clause-same
returns-clause-same g c =
    let lines = g.L.LineList.lines c.args.self.now.list.now in
    let front = c.args.self.now.front.items in
    let copy = opened c.args.reached c.find_line-index.result.0 c.in_ok-try_clone.field-0 in
    let at = (goal.at.returns-clause-same g c).In_ok-try_clone in
    moved g at (λ xs stops back. taken_lines xs stops back copy ≡ drafted_at lines front [])
    (ap (λ back. taken_lines lines front back copy) c.requires.back ∙ opened-rest (kept g at))

pub returns-clause-place : goal.returns-clause-place
returns-clause-place g c =
    let copy = opened c.args.reached c.find_line-index.result.0 c.in_ok-try_clone.field-0 in
    let at = (goal.at.returns-clause-place g c).In_ok-try_clone in
    moved g at (λ xs front back. StandsAt xs front copy c.args.offset c.find_line-index.result.1)
    (opened-stands (kept g at))
