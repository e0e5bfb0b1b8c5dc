-- `node` lends the node that the name leads to.
use Rattle.raw_nodes.proofs.Common.{IsPlace, ats, number_in}
use Rattle.raw_nodes.proofs.WalkSteps.{◌≡◌, List, [], ◌∷◌, refl, sym, ap, ◌∙◌, proved, ftrue, flft, named, arith, fact}
use Rattle.raw_nodes.proofs.WalkSteps.{tables, ‵, raw, ◌⊛◌, at_ret, ◌$◌, ◌∵◌, !, qed, done, move, keep, drop, use1}
use Rattle.raw_nodes.proofs.WalkSteps.{split, join, fsplit, fjoin, feq_i, suffices, enter, of_opd, addr, stop, fld}
use Rattle.raw_nodes.proofs.WalkSteps.{first, blocks, exec, returns, alloc_all, pass_all, free_all, look_at, get}
use Rattle.raw_nodes.proofs.WalkSteps.{through, sets, env, yes, plain, nothing, heard, Stays, walk_of, says}
use Rattle.raw_nodes.proofs.WalkSteps.{stay_dropped, Goes-dropped, ends_at}
use types.ByLocal.{sets_last, get_in, is}
use types.Part.{whole, sub}
use denote.RawPtr.{ptr_val, null_ptr, in_a_block}
use mir.Val.{Val, vptr}
use denote.Builtin.{RefOf}
use denote.Opens.{unhide, hide}
use denote.Ref.{ShrRef, shr_vals, shr_Tells}
use denote.Memory.{shared_of}
use base.Logic.{never, fst∗}
use types.Logic.{sem}
use denote.Struct.Lending.{lent_at}
use denote.Struct.Laws.{vals, tells, lawful}
use lib.ListN.{get_or}
use Rattle.raw_nodes.specs.contracts.nodes.Node.{the_row as N}
use Rattle.raw_nodes.specs.contracts.heap.Heap.{the_row as R}
use Rattle.raw_nodes.proofs.HeapSteps.{uncons, any_default, node_lent}
use Rattle.raw_nodes.proofs.PlaceLaws.{ptr_at_number, within_ats}
use Rattle.raw_nodes.proofs.heap.Heap.node.Statement.{statement}
use Rattle.raw_nodes.specs.contracts.names.NodePtr as P
use Rattle.raw_nodes.proofs.names.NodePtr.TheLaws as P-laws
use Rattle.raw_nodes.specs.contracts.heap.Heap.node as f
use Rattle.raw_nodes.proofs.heap.Heap.node.Code as code

abbrev stayed : Stays f.ended.signature.params f.ended.kept
stayed =
    (stay_dropped (RefOf (0 ∷ []) tt (plain (λ _. R)) (λ _. tt)) yes, (stay_dropped (plain (λ _. P.the_row)) yes, tt))

pub node_spec : {M : Type 1} → statement M
node_spec 𝓤 𝓛 𝓜 𝓡 wired =
    let c = f.clauses 𝓛 𝓜.mem 𝓡.returns in let W = walk_of 𝓛 f.ended stayed c in let 𝓣 = tables 𝓤 𝓛.H 𝓜 𝓡 𝓡.env in
    proved 𝓛 f.ended stayed c 𝓜 𝓡 (
      Goes-dropped 𝓛 1 (RefOf (0 ∷ []) tt (plain (λ _. R)) (λ _. tt)) yes (λ κs x w. refl),
      (Goes-dropped 𝓛 1 (plain (λ _. P.the_row)) yes (λ κs x w. refl), tt),
    )
    f.Key.name code.function (code.unfolded 𝓤 𝓛.H 𝓜 𝓡 wired)
    (λ κs. (shr_vals, (vals P.the_type P-laws.the_laws, tt))) (λ κs.
    (shr_Tells (named 0) κs.0 R, (tells P.the_type P-laws.the_laws, tt))) (λ κs qs bounds a _ are.
    let κ = κs.0 in let h = a.0.now in let name = a.1.0 in let i = number_in h.places name in let ps = ats h.places in
    let b = a.0.ref_ptr.0 in let o = a.0.ref_ptr.1 in
    let vs = shr_vals a.0 in let us = vals P.the_type P-laws.the_laws name in
    let y : W.Ghost = ((κs, qs, bounds, a, (vs, (us, tt))), tt) in
    qed 𝓛 (((‵ (flft κ qs.0) ⊛ ‵ ftrue) ⊛ ‵ ((ShrRef (named 0) κ R).own_val a.0 vs) ⊛ ‵ (P.the_row.own_val name us) ⊛ ‵
    ftrue) ∷ raw (fact 𝓤 (IsPlace h.places name)) ∷ []) ∵
    move ! (1 ∷ []) $ heard ! _ (λ asked. split ! $ split ! $ move ! (2 ∷ []) $ split ! $ keep ! (0 ∷ 2 ∷ []) $ fsplit !
    $ drop ! $
    enter ! _ _ _ _ _ $ alloc_all ! (λ l. pass_all ! refl (
      (tt, tt),
      (((lawful P.the_type P-laws.the_laws 𝓛).typed name us are.1.0).0, tt),
    ) $
    let paired = h.paired in let d = (uncons h.values (omega arith)).0 in let x = get_or h.values i d in
    let p = get_or ps i null_ptr in let inside = within_ats h.places name asked in
    let here : name.at ≡ p = sym (ptr_at_number h.places name null_ptr asked) in
    unhide ! $ fsplit ! $ move ! (1 ∷ []) $ use1 𝓛 (‵ (lent_at N p x κ))
    (node_lent 𝓛 κ ps h.values i d inside (omega arith)) $
    in_a_block ! p (λ r. lent_at N r x κ) (fst∗ 𝓤 (never 𝓤) (sem 𝓛 (shared_of N x 0 0 κ))) (λ b' o' e.
    fsplit ! $ drop ! $ hide ! $
    sets ! (is ! (of_opd ! (get_in ! (fld ! refl (stop !)) (sub ! 0 refl (whole !)))) (ap ptr_val (here ∙ e))) refl (
      tt,
      tt,
    ) $ first ! $ blocks ! $
    sets_last ! (addr ! (through ! refl (stop !))) refl (
      tt,
      tt,
    ) $ exec ! 𝓣.C 𝓣.Λ (env code.Mir.locals l) code.Mir.t-3 (at_ret _ (W.post y)) $ sets ! (of_opd ! (get ! refl))
    refl (tt, tt) $
    feq_i ! (List Val) (vptr b' o' ∷ []) (vptr b' o' ∷ []) refl $ fjoin ! $ returns ! (look_at ! 0 refl) $ free_all !
    refl $
    keep ! (0 ∷ 2 ∷ []) $
    suffices ! _ (ends_at 𝓛 f.ended stayed c y (vptr b' o') (record { ref_ptr = (b', o'); now = x }) (tt, (tt, tt)) (
      tt,
      (tt, tt),
    )) $ says ! (any_default h.values i d x (omega arith)) $
    nothing ! $ nothing ! $ fjoin ! $ nothing ! $ fjoin ! $ join ! $ nothing ! $ move ! (2 ∷ 0 ∷ []) $ join ! $ join ! $
    done !))))
