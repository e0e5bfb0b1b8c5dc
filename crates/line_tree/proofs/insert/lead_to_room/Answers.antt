use Rattle.line_tree.proofs.Common.{◌≡◌, ℕ, ◌-◌, ◌<◌, sym, suc, arith, subst, Bool, NodePtr, Records, records, Found}
use Rattle.line_tree.proofs.Common.{CanInsert, Moves, Respreads}
use Rattle.line_tree.proofs.InsertLaws.{has-node, some-kids, within-kids}
use Rattle.line_tree.proofs.SpreadLaws.{can-spread, can-yet, len-moves, moved, unmoved}
use Rattle.line_tree.proofs.TreeLaws.{whole-below}
use Rattle.line_tree.proofs.insert.lead_to_room.Goals as goal

-- the height as two more than another
above : (m : Records) (h : ℕ) (p : NodePtr) (k : ℕ) (x : NodePtr) → CanInsert m h p k x → 1 < h →
    CanInsert m (suc (suc (h - 2))) p k x
above m h p k x can high = let e : h ≡ suc (suc (h - 2)) = omega arith in subst (λ j. CanInsert m j p k x) e can

back : (m n : Records) (h : ℕ) (p : NodePtr) → 1 < h → Respreads m n (suc (suc (h - 2))) p → Respreads m n h p
back m n h p high r = let e : suc (suc (h - 2)) ≡ h = omega arith in subst (λ j. Respreads m n j p) e r

spread-keeps : (m n : Records) (h : ℕ) (p : NodePtr) (k : ℕ) (x : NodePtr) → CanInsert m h p k x → 1 < h →
    (f : Found) (in_order : Bool) → Moves m n p f in_order → Respreads m n h p
spread-keeps m n h p k x can high f in_order moves = back m n h p high
    (moved m (h - 2) p k x (above m h p k x can high) n f in_order moves)

can-still : (m n : Records) (h : ℕ) (p : NodePtr) (k : ℕ) (x : NodePtr) → CanInsert m h p k x → 1 < h →
    (f : Found) (in_order : Bool) → Moves m n p f in_order → CanInsert n h p k x
can-still m n h p k x can high f in_order moves = can-yet m n h p k x can (spread-keeps m n h p k x can high f in_order moves)

pub lead-found-requires : goal.lead-found-requires
lead-found-requires g c = let m = records c.args.store.now in let p = c.args.node in let k = c.args.k in
    let n = suc (c.args.height - 2) in let x = c.args.added.now.line in
    let can = above m c.args.height p k x c.requires.insert c.requires.high in
    record {
      row = has-node m n p k x can;
      some = some-kids m n p k x can;
      within = within-kids m n p k x can;
      whole = whole-below m n p can.tree;
    }

pub spread-requires-clause-spread : goal.spread-requires-clause-spread
spread-requires-clause-spread g c = can-spread (records c.args.store.now) (c.args.height - 2) c.args.node c.args.k
    c.args.added.now.line (above (records c.args.store.now) c.args.height c.args.node c.args.k c.args.added.now.line
    c.requires.insert c.requires.high)

pub lead-requires : goal.lead-requires
lead-requires g c = let m = records c.spread.new.store in let p = c.args.node in let k = c.args.k in
    let n = suc (c.args.height - 2) in let x = c.args.added.now.line in
    let still = can-still (records c.args.store.now) m c.args.height p k x c.requires.insert c.requires.high
    c.lead-found.result c.is_some.result c.if-spread.ensures.spreads in
    let can = above m c.args.height p k x still c.requires.high in
    record {
      row = has-node m n p k x can;
      some = some-kids m n p k x can;
      within = within-kids m n p k x can;
      whole = whole-below m n p can.tree;
    }

pub returns-then-spread-clause-keeps : goal.returns-then-spread-clause-keeps
returns-then-spread-clause-keeps g c = spread-keeps (records c.args.store.now) (records c.spread.new.store)
    c.args.height c.args.node c.args.k c.args.added.now.line c.requires.insert c.requires.high c.lead-found.result c.is_some.result
    c.if-spread.ensures.spreads

pub returns-then-spread-clause-insert : goal.returns-then-spread-clause-insert
returns-then-spread-clause-insert g c = can-still (records c.args.store.now) (records c.spread.new.store)
    c.args.height c.args.node c.args.k c.args.added.now.line c.requires.insert c.requires.high c.lead-found.result c.is_some.result
    c.if-spread.ensures.spreads

pub returns-then-spread-clause-len : goal.returns-then-spread-clause-len
returns-then-spread-clause-len g c = len-moves (records c.args.store.now) (records c.spread.new.store) c.args.node
    c.lead-found.result c.is_some.result c.if-spread.ensures.spreads

-- nothing was changed
stays-so : (m n : Records) (h : ℕ) (p : NodePtr) (k : ℕ) (x : NodePtr) → CanInsert m h p k x → n ≡ m → Respreads m n h p
stays-so m n h p k x can same = subst (λ z. Respreads m z h p) (sym same) (unmoved m h p k x can)

pub returns-clause-keeps : goal.returns-clause-keeps
returns-clause-keeps g c = stays-so (records c.args.store.now) (records c.spread.new.store) c.args.height c.args.node
    c.args.k c.args.added.now.line c.requires.insert c.if-spread.ensures.spreads.0
