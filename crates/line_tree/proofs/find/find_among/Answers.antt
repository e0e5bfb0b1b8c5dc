use Rattle.line_tree.proofs.Common.{◌≡◌, ℕ, ◌-◌, take, sym, ap, subst, arith, NodePtr, Records, kids, records}
use Rattle.line_tree.proofs.Common.{nothing-adds, Finds, Reaches, sum_below}
use Rattle.line_tree.specs.declared.search.Reached.{Reached}
use Rattle.line_tree.proofs.SearchLaws.{wide-all}
use Rattle.line_tree.proofs.find.find_among.Goals.{then-k-lines, else-k-lines}
use Rattle.line_tree.proofs.find.find_among.Goals as goal

finds : (m : Records) (p : NodePtr) (k : ℕ) (r : Reached ℕ) → Reaches (λ s. s.lines) (λ s. s.lines) m p k r →
    Finds m p k (record { child = r.child; slot = r.slot; lines = r.size; rest = r.rest })
finds m p k r found = let lines = wide-all nothing-adds m (take r.slot (kids m p)) in let place = found.place in
    record { child = found.child; place = omega arith; rest = found.rest; lines = found.size }

pub search-reached-requires-clause-within : goal.search-reached-requires-clause-within
search-reached-requires-clause-within g c =
    let lines = wide-all nothing-adds (records c.args.store.now) (kids (records c.args.store.now) c.args.node) in
    let within = c.requires.within in omega arith

pub search_back-reached-requires-clause-within : goal.search_back-reached-requires-clause-within
search_back-reached-requires-clause-within g c =
    let lines = wide-all nothing-adds (records c.args.store.now) (kids (records c.args.store.now) c.args.node) in
    let within = c.requires.within in let all = c.requires.lines in omega arith

pub returns : goal.returns
returns g c = let m = records c.args.store.now in let p = c.args.node in
    let lines = wide-all nothing-adds m (kids m p) in
    let within = c.requires.within in let all = c.requires.lines in
    elim c.if-k-lines.branch [
      | then-k-lines w ↦
          let t = ap g.C.Ticks.count w.ticks-is in let steps = w.search-reached.ensures.ticks in
          record {
            found = finds m p c.args.k c.if-k-lines.reached (subst (Reaches (λ s. s.lines) (λ s. s.lines) m p c.args.k)
                (sym w.reached-is) w.search-reached.ensures.reaches);
            ticks = omega arith;
          }
      | else-k-lines w ↦
          let t = ap g.C.Ticks.count w.ticks-is in let steps = w.search_back-reached.ensures.ticks in
          let e : (sum_below m p).lines - (c.args.lines - c.args.k) ≡ c.args.k = omega arith in
          let found = subst (λ k. Reaches (λ s. s.lines) (λ s. s.lines) m p k w.search_back-reached.result) e
          w.search_back-reached.ensures.reaches in
          record {
            found = finds m p c.args.k c.if-k-lines.reached (subst (Reaches (λ s. s.lines) (λ s. s.lines) m p c.args.k)
                (sym w.reached-is) found);
            ticks = omega arith;
          }
    ]
