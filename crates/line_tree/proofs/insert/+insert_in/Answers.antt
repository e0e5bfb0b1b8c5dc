use Rattle.line_tree.proofs.Common.{◌≡◌, ℕ, ◌-◌, ◌<◌, ◌≤◌, suc, sym, subst, arith, None, Some, ◌+◌, ap, ◌∙◌, Option}
use Rattle.line_tree.proofs.Common.{length, option_to_list, insert, slice_get_within, Count, plus, NodePtr, Records}
use Rattle.line_tree.proofs.Common.{kids, row, records, sum_all, sum_at, Leads, CanInsert, Inserts, Respreads, Found}
use Rattle.line_tree.proofs.InsertLaws.{can-child, has-node, has-now, low-can_put, low-inserts, low-sum, one-fits}
use Rattle.line_tree.proofs.InsertLaws.{one-inserts, one-sum, two-can_put, two-inserts, two-sum}
use Rattle.line_tree.proofs.RoomLaws.{len-puts, len-resummed}
use Rattle.line_tree.proofs.SpreadLaws.{inserts-yet, sum-yet}
use Rattle.std.specs.FinMap as finite
use Rattle.line_tree.proofs.insert.+insert_in.Goals as goal

-- the height as one more than another
above : (m : Records) (h : ℕ) (p : NodePtr) (k : ℕ) (x : NodePtr) → CanInsert m h p k x → 0 < h →
    CanInsert m (suc (h - 1)) p k x
above m h p k x can some = let e : h ≡ suc (h - 1) = omega arith in subst (λ j. CanInsert m j p k x) e can

back : (m n : Records) (h : ℕ) (p : NodePtr) (k : ℕ) (x : NodePtr) (o : Option NodePtr) → 0 < h →
    Inserts m n (suc (h - 1)) p k x o → Inserts m n h p k x o
back m n h p k x o some ins = let e : suc (h - 1) ≡ h = omega arith in subst (λ j. Inserts m n j p k x o) e ins

few-kids : (m : Records) (h : ℕ) (p : NodePtr) (k : ℕ) (x : NodePtr) → CanInsert m (suc h) p k x → (f : Found) →
    Leads m p k f → f.slot < 12
few-kids m h p k x can f leads = let w = slice_get_within (kids m p) f.slot f.child leads.child in
    let few = (has-node m h p k x can).few in omega arith

pub put-requires-clause-put : goal.put-requires-clause-put
put-requires-clause-put g t c = low-can_put (records c.args.store.now) c.args.node c.args.k c.args.added.now.line
    (subst (λ h. CanInsert (records c.args.store.now) h c.args.node c.args.k c.args.added.now.line) c.if-height-eq1.true
    c.requires.insert)

-- what is counted of the line
more-yet : (m n : Records) (h : ℕ) (p : NodePtr) (k : ℕ) (x : NodePtr) (s : Count) → CanInsert m h p k x →
    Respreads m n h p → s ≡ sum_at m x → s ≡ sum_at n x
more-yet m n h p k x s can keeps is = is ∙ sum-yet m n h p k x can keeps

-- what the line adds
line-sum : (m l : Records) (p x : NodePtr) (s : Count) (all : Count) → s ≡ sum_at m x →
    plus (sum_at l p) (sum_at m x) ≡ all → plus (sum_at l p) s ≡ all
line-sum m l p x s all adds is = ap (plus (sum_at l p)) adds ∙ is

pub put-requires-clause-sum : goal.put-requires-clause-sum
put-requires-clause-sum g t c = let m = records c.args.store.now in
    line-sum m m c.args.node c.args.added.now.line c.args.added.now.more
    (sum_all m (insert (kids m c.args.node) c.args.k c.args.added.now.line))
    c.requires.more
    (low-sum m c.args.node c.args.k c.args.added.now.line
    (subst (λ h. CanInsert m h c.args.node c.args.k c.args.added.now.line) c.if-height-eq1.true c.requires.insert))

at-most-one : {X : Type 0} (o : Option X) → length (option_to_list o) ≤ 1
at-most-one None = omega arith
at-most-one (Some x) = omega arith

pub returns-then-height-eq1 : goal.returns-then-height-eq1
returns-then-height-eq1 g t c = let m = records c.args.store.now in let n = records c.put.new.store in
    let p = c.args.node in let k = c.args.k in let x = c.args.added.now.line in let s = c.put.ensures.spares in
    record {
      inserts = subst (λ h. Inserts m n h p k x c.put.result) (sym c.if-height-eq1.true)
          (low-inserts m p k x (subst (λ h. CanInsert m h p k x) c.if-height-eq1.true c.requires.insert) n c.put.result
          c.put.ensures.puts);
      spares = let few = at-most-one c.put.result in let one = c.if-height-eq1.true in omega arith;
      rooms = let r = c.put.ensures.rooms in omega arith;
      count = let long = len-puts m n p (insert (kids m p) k x) c.put.result c.put.ensures.puts in omega arith;
    }

-- ---- below a child with room, or that shared
pub insert_in-requires : goal.insert_in-requires
insert_in-requires g t c κs inside = let m = records c.lead_to_room-found.new.store in
    let p = c.args.node in let k = c.args.k in let x = c.args.added.now.line in let h = c.args.height in
    let n = h - 1 in let f = c.lead_to_room-found.result in let leads = c.lead_to_room-found.ensures.leads in
    let can = above m h p k x c.lead_to_room-found.ensures.insert c.requires.node in
    let node = c.requires.node in let spares = c.requires.spares in let rooms = c.requires.rooms in
    let not = c.if-height-eq1.false in
    let more = more-yet (records c.args.store.now) m h p k x c.args.added.now.more c.requires.insert
    c.lead_to_room-found.ensures.keeps c.requires.more in (
      omega (arith, c.decreases),
      (inside, (omega arith, (can-child m n p k x can f leads, (more, (omega arith, omega arith))))),
    )

pub overflow_add-extra : goal.overflow_add-extra
overflow_add-extra g t c = let m = records c.lead_to_room-found.new.store in
    let p = c.args.node in let k = c.args.k in let x = c.args.added.now.line in let h = c.args.height in
    let n = h - 1 in let f = c.lead_to_room-found.result in let leads = c.lead_to_room-found.ensures.leads in
    let can = above m h p k x c.lead_to_room-found.ensures.insert c.requires.node in
    let few = few-kids m n p k x can f leads in omega arith

pub put-requires-in-Some-clause-put : goal.put-requires-in-Some-clause-put
put-requires-in-Some-clause-put g t c =
    let m = records c.lead_to_room-found.new.store in let l = records c.insert_in.new.store in
    let p = c.args.node in let k = c.args.k in let x = c.args.added.now.line in let h = c.args.height in
    let n = h - 1 in let f = c.lead_to_room-found.result in let leads = c.lead_to_room-found.ensures.leads in
    let can = above m h p k x c.lead_to_room-found.ensures.insert c.requires.node in
    let ins = subst (λ o. Inserts m l n f.child f.rest x o) c.in-Some.is c.insert_in.ensures.inserts in
    two-can_put m n p k x can f leads l c.in-Some.sibling ins

pub put-requires-in-Some-clause-sum : goal.put-requires-in-Some-clause-sum
put-requires-in-Some-clause-sum g t c =
    let m = records c.lead_to_room-found.new.store in let l = records c.insert_in.new.store in
    let p = c.args.node in let k = c.args.k in let x = c.args.added.now.line in let h = c.args.height in
    let n = h - 1 in let f = c.lead_to_room-found.result in let leads = c.lead_to_room-found.ensures.leads in
    let can = above m h p k x c.lead_to_room-found.ensures.insert c.requires.node in
    let ins = subst (λ o. Inserts m l n f.child f.rest x o) c.in-Some.is c.insert_in.ensures.inserts in
    line-sum m l p x c.args.added.now.more (sum_all l (insert (kids l p) (f.slot + 1) c.in-Some.sibling))
    (more-yet (records c.args.store.now) m h p k x c.args.added.now.more c.requires.insert
    c.lead_to_room-found.ensures.keeps c.requires.more)
    (two-sum m n p k x can f leads l c.in-Some.sibling ins)

pub add-requires : goal.add-requires
add-requires g t c = let m = records c.lead_to_room-found.new.store in let l = records c.insert_in.new.store in
    let p = c.args.node in let k = c.args.k in let x = c.args.added.now.line in let h = c.args.height in
    let n = h - 1 in let f = c.lead_to_room-found.result in let leads = c.lead_to_room-found.ensures.leads in
    let can = above m h p k x c.lead_to_room-found.ensures.insert c.requires.node in
    let ins = subst (λ o. Inserts m l n f.child f.rest x o) c.in-None.is c.insert_in.ensures.inserts in
    let more = more-yet (records c.args.store.now) m h p k x c.args.added.now.more c.requires.insert
    c.lead_to_room-found.ensures.keeps c.requires.more in
    record {
      row = has-now m n p k x can f leads l c.insert_in.result c.insert_in.ensures.inserts;
      sum = ap (λ s. plus (sum_at l p) s) more ∙ one-sum m n p k x can f leads l ins;
      fits = one-fits m n p k x can f leads l ins;
    }

pub returns-in-Some : goal.returns-in-Some
returns-in-Some g t c = let m = records c.lead_to_room-found.new.store in let l = records c.insert_in.new.store in
    let p = c.args.node in let k = c.args.k in let x = c.args.added.now.line in let h = c.args.height in
    let n = h - 1 in let f = c.lead_to_room-found.result in let leads = c.lead_to_room-found.ensures.leads in
    let can = above m h p k x c.lead_to_room-found.ensures.insert c.requires.node in
    let ins = subst (λ o. Inserts m l n f.child f.rest x o) c.in-Some.is c.insert_in.ensures.inserts in
    let u = records c.put-in-Some.new.store in let o = c.put-in-Some.result in let s = c.put-in-Some.ensures.spares in
    record {
      inserts = inserts-yet (records c.args.store.now) m h p k x c.requires.insert c.lead_to_room-found.ensures.keeps u
          o (back m u h p k x o c.requires.node
          (two-inserts m n p k x can f leads l c.in-Some.sibling ins u o c.put-in-Some.ensures.puts));
      spares =
          let before = c.insert_in.ensures.spares in let few = at-most-one o in let some = c.requires.node in
          omega arith;
      rooms = let before = c.insert_in.ensures.rooms in let r = c.put-in-Some.ensures.rooms in omega arith;
      count =
          let long = len-puts l u p (insert (kids l p) (f.slot + 1) c.in-Some.sibling) o c.put-in-Some.ensures.puts in
          let before = c.insert_in.ensures.count in omega arith;
    }

pub returns-in-None : goal.returns-in-None
returns-in-None g t c = let m = records c.lead_to_room-found.new.store in let l = records c.insert_in.new.store in
    let p = c.args.node in let k = c.args.k in let x = c.args.added.now.line in let h = c.args.height in
    let n = h - 1 in let f = c.lead_to_room-found.result in let leads = c.lead_to_room-found.ensures.leads in
    let can = above m h p k x c.lead_to_room-found.ensures.insert c.requires.node in
    let ins = subst (λ o. Inserts m l n f.child f.rest x o) c.in-None.is c.insert_in.ensures.inserts in
    let u = records c.add.new.store in let s = c.add.ensures.spares in
    record {
      inserts = inserts-yet (records c.args.store.now) m h p k x c.requires.insert c.lead_to_room-found.ensures.keeps u
          None (back m u h p k x None c.requires.node
          (one-inserts m n p k x can f leads l ins u c.add.ensures.records));
      spares = let before = c.insert_in.ensures.spares in let some = c.requires.node in omega arith;
      rooms = let before = c.insert_in.ensures.rooms in let r = c.add.ensures.rooms in omega arith;
      count =
          let long = ap finite.len c.add.ensures.records ∙ len-resummed l p (row (kids l p)) in
          let before = c.insert_in.ensures.count in omega arith;
    }
