-- `adopt` moves what the parts own into the heap.
use Rattle.raw_nodes.proofs.Common.{length-map, map-append, proved_at, leaves, D, B, word, box_typed, box_out, ats}
use Rattle.raw_nodes.proofs.Common.{nodes_own, NotIn}
use Rattle.raw_nodes.proofs.WalkSteps.{◌≡◌, List, [], ◌∷◌, refl, sym, ap, ◌∙◌, rewrite, ftrue, flft, named, fact, id⊢}
use Rattle.raw_nodes.proofs.WalkSteps.{tables, ‵, raw, ◌⊛◌, ◌$◌, ◌∵◌, !, qed, move, keep, use2, split, join, fsplit}
use Rattle.raw_nodes.proofs.WalkSteps.{fsplit3, fjoin, feq_i, feq_l, suffices, group, enter, of_opd, stop, fld, no_more}
use Rattle.raw_nodes.proofs.WalkSteps.{and_then, returns, alloc_all, pass_all, free_all, look_at, get, sets, yes}
use Rattle.raw_nodes.proofs.WalkSteps.{MutRef, plain, nothing, owned, opens, closes, heard, Stays, walk_of}
use Rattle.raw_nodes.proofs.WalkSteps.{stay_dropped, Goes-dropped, stay_ref, Goes-ref}
use types.ByLocal.{get_in}
use types.Part.{whole, sub, agg}
use types.Kit.{use0, by, fpack}
use contract.Monad.{fact_i}
use base.Logic.{SProp, ent, emp}
use prog.Wp.{WpFn}
use mathlib.Core.List.{◌++◌}
use mathlib.Core.Path.{subst}
use mir.Val.{Val, vptr, vstruct, vcons, vnil}
use lib.ListN.{length}
use denote.RawPtr.{block_ptr, count_of}
use Rattle.std.specs.Ptr.{Ptr}
use denote.Struct.Laws.{makes}
use Rattle.std.specs.Global.{Global}
use Rattle.std.specs.contracts.impls.GlobalAllocator.TheImpl.{ghosts}
use mir.Raw.{raw as bare}
use denote.Memory.{lone}
use Rattle.raw_nodes.specs.contracts.nodes.Node.{the_row as N}
use Rattle.raw_nodes.proofs.AsBox.{E, InParts}
use Rattle.raw_nodes.specs.contracts.heap.Heap.{the_row as R}
use Rattle.raw_nodes.proofs.HeapSteps.{both_longer}
use Rattle.raw_nodes.proofs.HeapApart.{last_in_fresh}
use Rattle.raw_nodes.proofs.heap.Heap.adopt.Statement.{statement}
use Rattle.raw_nodes.specs.contracts.names.NodePtr as P
use Rattle.raw_nodes.proofs.names.NodePtr.TheLaws as P-laws
use Rattle.raw_nodes.specs.contracts.heap.Heap.adopt as f
use Rattle.raw_nodes.proofs.heap.Heap.adopt.Code as code

abbrev stayed : Stays f.ended.signature.params f.ended.kept
stayed = (stay_ref (0 ∷ []) tt (plain (λ _. R)), (stay_dropped InParts yes, tt))

pub adopt_spec : {M : Type 1} → statement M
adopt_spec 𝓤 𝓛 𝓜 𝓡 wired =
    let H = 𝓛.H in let c = f.clauses 𝓛 𝓜.mem 𝓡.returns in let W = walk_of 𝓛 f.ended stayed c in
    let 𝓣 = tables 𝓤 𝓛.H 𝓜 𝓡 𝓡.env in
    proved_at 𝓛 f.ended stayed c 𝓜 𝓡 (
      Goes-ref 𝓛 1 0 tt (plain (λ _. R)),
      (Goes-dropped 𝓛 1 InParts yes (λ κs x w. refl), tt),
    )
    f.Key.name code.function (code.unfolded 𝓤 𝓛.H 𝓜 𝓡 wired) (λ z are.
    let κ = z.0.0.0 in let q = z.0.1.0 in let self = z.0.3.0 in let part = z.0.3.1.0 in let h = self.now in
    let b = self.ref_ptr.0 in let o = self.ref_ptr.1 in
    let v : D E = record { ptr = part.ptr; alloc = part.alloc; value = part.value } in
    let Run : List Val → SProp 𝓤 = λ ws. WpFn 𝓤 H 𝓣.C 𝓣.Λ code.function ws (W.post z) in
    qed 𝓛 (((‵ (flft κ q) ⊛ ‵ ftrue) ⊛ ‵ ((MutRef (named 0) κ R).own_val self z.0.4.0) ⊛ ‵ ((B E).own_val v z.0.4.1.0) ⊛
    ‵ ftrue) ∷ ‵ ftrue ∷ []) ∵
    split ! $ split ! $ move ! (2 ∷ []) $ split ! $ move ! (1 ∷ []) $ split ! $ keep ! (0 ∷ 2 ∷ 3 ∷ []) $
    box_out E ! v z.0.4.1.0 (λ pb po hv ep ws fa.
    move ! (3 ∷ []) $ fsplit3 ! $ feq_l ! (λ em. keep ! (0 ∷ 1 ∷ 5 ∷ 2 ∷ 3 ∷ []) $
    suffices ! (Run (vptr b o ∷ word E hv pb po ∷ []))
    (subst (λ (us : List Val × List Val).
    ent 𝓤 (Run (vptr b o ∷ word E hv pb po ∷ [])) (Run (us.0 ++ (us.1 ++ [])))) (λ j. (sym em j, sym ws j))
    (id⊢ 𝓤 _)) $
    enter ! 𝓣.C 𝓣.Λ code.function (vptr b o ∷ word E hv pb po ∷ []) (W.post z) $ alloc_all ! (λ l.
    pass_all ! refl ((tt, tt), (box_typed E hv pb po fa, tt)) $
    let p = block_ptr pb po in let x = part.value in let paired = h.paired in
    let had = ats h.places in let level : length had
    ≡ length h.values = length-map h.places (λ (q : P.the_row.Denot). q.at) ∙ paired in
    let w : Val = vstruct (vcons (vptr pb po) vnil) in
    opens ! tt R b o (λ us. move ! (1 ∷ []) $ fsplit ! $
    -- [the fields; the nodes; the cell; the open borrow; obs; auth; the node; the token]
    sets ! (of_opd ! (get_in ! (fld ! refl (stop !)) (sub ! 0 refl (whole !)))) refl (tt, tt) $
    sets ! (agg ! (and_then ! (get ! refl) (no_more !))) refl (tt, (tt, tt)) $
    move ! (7 ∷ []) $ fpack ! Global (λ a. ghosts.dealloc_token a (bare (lone N.mir)) p) part.alloc $ move !
    (7 ∷ 0 ∷ []) $ fjoin ! $ move ! (0 ∷ 2 ∷ []) $ use2 𝓛
    (raw (fact 𝓤 (NotIn had p × (count_of p ≡ 0))) ⊛ ‵ (nodes_own (had ++ p ∷ []) (h.values ++ x ∷ [])))
    (last_in_fresh 𝓛 𝓜 had p h.values x level) $ split ! $ heard ! _ (λ new_place.
    let name : P.the_row.Denot = record { at = p; start = ap (block_ptr pb) new_place.1 } in
    let new : R.Denot = record {
      places = h.places ++ name ∷ [];
      values = h.values ++ x ∷ [];
      paired = both_longer h.places h.values name x paired;
    } in
    rewrite ! 0 (λ (ps : List Ptr). ‵ (nodes_own ps new.values))
    (sym (map-append (λ (q : P.the_row.Denot). q.at) h.places (name ∷ []))) refl $
    move ! (1 ∷ 0 ∷ []) $ fjoin ! $ move ! (1 ∷ []) $ closes ! tt R new us b o $ feq_i ! (List Val) z.0.4.0
    (vptr b o ∷ []) em $
    returns ! (look_at ! 0 refl) $ free_all ! refl $ keep ! (0 ∷ 1 ∷ 2 ∷ 3 ∷ []) $
    owned ! P.the_row _ (makes P.the_type P-laws.the_plain 𝓛) name (w ∷ []) (
      (vptr pb po ∷ [], tt),
      (refl, (refl, tt)),
    ) $
    move ! (1 ∷ 2 ∷ 3 ∷ []) $ group ! 3 $ nothing ! $ nothing ! $ fjoin ! $ move ! (1 ∷ 0 ∷ []) $ join ! $ nothing ! $
    move ! (3 ∷ 0 ∷ []) $ join ! $
    use0 𝓛 (raw (fact 𝓤 (NotIn had p))) (fact_i 𝓤 _ (emp 𝓤) new_place.0) $ use0 𝓛
    (raw (fact 𝓤 (new.values ≡ h.values ++ x ∷ []))) (fact_i 𝓤 _ (emp 𝓤) refl) $ join ! $
    use0 𝓛 (raw (fact 𝓤 (new.places ≡ h.places ++ name ∷ []))) (fact_i 𝓤 _ (emp 𝓤) refl) $ join ! $ move !
    (1 ∷ 2 ∷ 3 ∷ 0 ∷ []) $
    by ! (leaves 𝓛 f.ended stayed c z w name (new, (tt, tt)) (tt, (tt, tt)))))))))
