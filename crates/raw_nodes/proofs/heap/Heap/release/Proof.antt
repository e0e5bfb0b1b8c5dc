-- `release` moves what the heap owns of a node into parts.
use Rattle.raw_nodes.proofs.Common.{proved_at, leaves, handle_tells, D, word, box_typed, box_in, IsPlace, ats}
use Rattle.raw_nodes.proofs.Common.{node_right, node_owns, nodes_own, number_in, without}
use Rattle.raw_nodes.proofs.WalkSteps.{◌≡◌, List, [], ◌∷◌, refl, sym, ap, ◌∙◌, ftrue, flft, named, arith, fact, id⊢}
use Rattle.raw_nodes.proofs.WalkSteps.{tables, ‵, raw, ◌⊛◌, ◌$◌, ◌∵◌, !, qed, move, keep, use1, split, join, fsplit}
use Rattle.raw_nodes.proofs.WalkSteps.{fsplit3, fjoin, feq_i, feq_l, suffices, rewrite, group, enter, of_opd, stop, fld}
use Rattle.raw_nodes.proofs.WalkSteps.{no_more, and_then, returns, alloc_all, pass_all, free_all, look_at, get, sets}
use Rattle.raw_nodes.proofs.WalkSteps.{yes, Ptr, MutRef, plain, nothing, opens, closes, heard, Stays, walk_of}
use Rattle.raw_nodes.proofs.WalkSteps.{stay_dropped, Goes-dropped, stay_ref, Goes-ref}
use types.ByLocal.{get_in, is}
use types.Part.{whole, sub, agg}
use types.Kit.{use0, by, fpick}
use contract.Monad.{fact_i}
use types.Logic.{sem}
use base.Logic.{SProp, ent, emp, never, fst∗}
use prog.Wp.{WpFn}
use mathlib.Core.List.{◌++◌}
use mathlib.Core.Path.{subst}
use mir.Val.{Val, vptr}
use denote.Laws.{Typed}
use lib.ListN.{get_or}
use denote.RawPtr.{block_ptr, null_ptr, ptr_val, in_a_block}
use denote.Signature.{type_at}
use denote.Struct.Laws.{vals, tells, lawful}
use Rattle.raw_nodes.proofs.AsBox.{E, Handle}
use Rattle.raw_nodes.specs.contracts.heap.Heap.{the_row as R}
use Rattle.raw_nodes.proofs.HeapSteps.{any_default, both_without, one_out, uncons}
use Rattle.raw_nodes.proofs.PlaceLaws.{ptr_at_number, within_ats}
use Rattle.raw_nodes.proofs.WithoutLaws.{map-without}
use Rattle.raw_nodes.proofs.heap.Heap.release.Statement.{statement}
use Rattle.raw_nodes.specs.contracts.names.NodePtr as P
use Rattle.raw_nodes.proofs.names.NodePtr.TheLaws as P-laws
use Rattle.raw_nodes.specs.contracts.heap.Heap.release as f
use Rattle.raw_nodes.proofs.heap.Heap.release.Code as code

abbrev stayed : Stays f.ended.signature.params f.ended.kept
stayed =
    (stay_ref (0 ∷ []) tt (plain (λ _. R)), (stay_dropped (plain (λ _. P.the_row)) yes, (stay_dropped Handle yes, tt)))

pub release_spec : {M : Type 1} → statement M
release_spec 𝓤 𝓛 𝓜 𝓡 wired =
    let H = 𝓛.H in let c = f.clauses 𝓛 𝓜.mem 𝓡.returns in let W = walk_of 𝓛 f.ended stayed c in
    let 𝓣 = tables 𝓤 𝓛.H 𝓜 𝓡 𝓡.env in
    proved_at 𝓛 f.ended stayed c 𝓜 𝓡 (
      Goes-ref 𝓛 1 0 tt (plain (λ _. R)),
      (
        Goes-dropped 𝓛 1 (plain (λ _. P.the_row)) yes (λ κs x w. refl),
        (Goes-dropped 𝓛 1 Handle yes (λ κs x w. refl), tt),
      ),
    )
    f.Key.name code.function (code.unfolded 𝓤 𝓛.H 𝓜 𝓡 wired) (λ z are.
    let κ = z.0.0.0 in let q = z.0.1.0 in let self = z.0.3.0 in let name = z.0.3.1.0 in let alloc = z.0.3.1.1.0 in
    let h = self.now in let b = self.ref_ptr.0 in let o = self.ref_ptr.1 in
    let Run : List Val → SProp 𝓤 = λ ws. WpFn 𝓤 H 𝓣.C 𝓣.Λ code.function ws (W.post z) in
    let To = type_at f.ended.signature.result z.0.0 in
    let told = tells P.the_type P-laws.the_laws name z.0.4.1.0 are.1.0 in
    let us = vals P.the_type P-laws.the_laws name in
    qed 𝓛 (((‵ (flft κ q) ⊛ ‵ ftrue) ⊛ ‵ ((MutRef (named 0) κ R).own_val self z.0.4.0) ⊛ ‵
    (P.the_row.own_val name z.0.4.1.0) ⊛ ‵ (E.al.row.own_val alloc z.0.4.1.1.0) ⊛ ‵ ftrue)
    ∷ raw (fact 𝓤 (IsPlace h.places name)) ∷ []) ∵
    move ! (1 ∷ []) $ heard ! _ (λ asked. split ! $ split ! $ move ! (2 ∷ []) $ split ! $ move ! (1 ∷ []) $ split ! $
    move ! (1 ∷ []) $ split ! $ keep ! (0 ∷ 3 ∷ 4 ∷ []) $
    handle_tells E.al ! alloc z.0.4.1.1.0 (λ hv eh fa.
    move ! (1 ∷ []) $ fsplit3 ! $ feq_l ! (λ em. keep ! (0 ∷ 1 ∷ 3 ∷ 2 ∷ []) $
    let i = number_in h.places name in let ps = ats h.places in let paired = h.paired in
    let inside = within_ats h.places name asked in
    let d = (uncons h.values (omega arith)).0 in let x = get_or h.values i d in let p = get_or ps i null_ptr in
    let here : name.at ≡ p = sym (ptr_at_number h.places name null_ptr asked) in
    let good = subst (Typed P.the_row.mir) told ((lawful P.the_type P-laws.the_laws 𝓛).typed name z.0.4.1.0 are.1.0) in
    let rest = without ps i in let ys = without h.values i in
    let all : rest ≡ ats (without h.places i) = sym (map-without (λ (r : P.the_row.Denot). r.at) h.places i) in
    let new : R.Denot = record {
      places = without h.places i;
      values = ys;
      paired = both_without h.places h.values i paired;
    } in
    suffices ! (Run (vptr b o ∷ (us ++ hv ∷ [])))
    (subst (λ (vs : List Val × List Val × List Val).
    ent 𝓤 (Run (vptr b o ∷ (us ++ hv ∷ []))) (Run (vs.0 ++ (vs.1 ++ (vs.2 ++ []))))) (λ j.
    (sym em j, sym told j, sym eh j)) (id⊢ 𝓤 _)) $
    enter ! 𝓣.C 𝓣.Λ code.function (vptr b o ∷ (us ++ hv ∷ [])) (W.post z) $ alloc_all ! (λ l.
    pass_all ! refl ((tt, tt), (good.0, (fa, tt))) $
    opens ! tt R b o (λ vs. move ! (1 ∷ []) $ fsplit ! $ move ! (1 ∷ []) $
    use1 𝓛 (‵ (node_owns p x) ⊛ ‵ (nodes_own rest ys)) (one_out 𝓛 ps h.values i d inside (omega (arith, asked))) $ split !
    $ move ! (1 ∷ 0 ∷ []) $ rewrite ! 0 (λ (qs : List Ptr). ‵ (nodes_own qs ys)) all refl $ move ! (1 ∷ 0 ∷ []) $
    in_a_block ! p (λ r. node_owns r x) (fst∗ 𝓤 (never 𝓤) (sem 𝓛 (node_right null_ptr))) (λ pb po e.
    fsplit ! $ move ! (1 ∷ []) $ fpick ! (λ by_handle. move ! (1 ∷ 0 ∷ []) $
    let v : D E = record { ptr = block_ptr pb po; alloc = alloc; value = x } in
    let made : To.Denot = record { ptr = block_ptr pb po; alloc = alloc; value = x } in
    -- [the node; the token; the others; the fields; the cell; the open borrow; obs; auth; the handle]
    sets ! (is ! (of_opd ! (get_in ! (fld ! refl (stop !)) (sub ! 0 refl (whole !)))) (ap ptr_val (here ∙ e))) refl (tt, tt) $
    sets ! (agg ! (and_then ! (get ! refl) (and_then ! (get ! refl) (no_more !)))) refl (box_typed E hv pb po fa) $
    move ! (0 ∷ 1 ∷ 8 ∷ []) $ box_in E ! v pb po x refl refl $ use1 𝓛 (‵ (To.own_val made (word E hv pb po ∷ [])))
    (id⊢ 𝓤 _) $
    move ! (2 ∷ 1 ∷ []) $ fjoin ! $ move ! (2 ∷ 0 ∷ 3 ∷ 4 ∷ 5 ∷ []) $ closes ! tt R new vs b o $ feq_i ! (List Val)
    z.0.4.0 (vptr b o ∷ []) em $
    returns ! (look_at ! 0 refl) $ free_all ! refl $ keep ! (0 ∷ 1 ∷ 2 ∷ 3 ∷ 4 ∷ []) $
    group ! 3 $ nothing ! $ nothing ! $ fjoin ! $ nothing ! $ fjoin ! $ move ! (1 ∷ 0 ∷ []) $ join ! $ nothing ! $ move
    ! (2 ∷ 0 ∷ []) $ join ! $
    use0 𝓛 (raw (fact 𝓤 (x ≡ get_or h.values i x))) (fact_i 𝓤 _ (emp 𝓤) (any_default h.values i d x (omega (
      arith,
      asked,
    )))) $ use0 𝓛 (raw (fact 𝓤 (new.values ≡ without h.values i))) (fact_i 𝓤 _ (emp 𝓤) refl) $ join ! $ use0 𝓛
    (raw (fact 𝓤 (new.places ≡ without h.places i))) (fact_i 𝓤 _ (emp 𝓤) refl) $ join ! $
    move ! (1 ∷ 2 ∷ 3 ∷ 0 ∷ []) $ by ! (leaves 𝓛 f.ended stayed c z (word E hv pb po) made (new, (tt, (tt, tt))) (
      tt,
      (tt, (tt, tt)),
    ))))))))))
