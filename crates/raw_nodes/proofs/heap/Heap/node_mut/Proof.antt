-- `node_mut` lends the node that the name leads to, and the heap follows it.
use Rattle.raw_nodes.proofs.Common.{IsPlace, ats, number_in, node_right, node_owns, nodes_own, without, NodePtr, Node}
use Rattle.raw_nodes.proofs.WalkSteps.{◌≡◌, ℕ, List, [], ◌∷◌, refl, sym, ap, ◌∙◌, proved, full_share, ftrue, flft}
use Rattle.raw_nodes.proofs.WalkSteps.{named, arith, fact, tables, ‵, raw, ◌⊛◌, some, later, at_ret, ◌$◌, ◌∵◌, !, qed}
use Rattle.raw_nodes.proofs.WalkSteps.{done, move, keep, use1, use2, split, join, fsplit, fsplit3, fjoin, pick, await}
use Rattle.raw_nodes.proofs.WalkSteps.{rewrite, suffices, frame, group, enter, of_opd, addr, stop, fld, first, blocks}
use Rattle.raw_nodes.proofs.WalkSteps.{exec, returns, alloc_all, pass_all, free_all, look_at, get, through, sets, env}
use Rattle.raw_nodes.proofs.WalkSteps.{yes, Ptr, MutRef, mut_vals, mut_Tells, plain, nothing, opens, heard, Stays}
use Rattle.raw_nodes.proofs.WalkSteps.{walk_of, says, stay_dropped, Goes-dropped, ends_at}
use types.ByLocal.{sets_last, get_in, is}
use types.Part.{whole, sub}
use types.Kit.{fpack, split3}
use types.Logic.{Logic, sem}
use base.Fml.{GName, Fml, fsep}
use base.Logic.{ent, sep, never, fst∗}
use mir.Val.{Val, vptr}
use lib.ListN.{get_or}
use seplogic.Ra.Ura.{Ura}
use denote.Exit.{no}
use denote.Follow.{follows, lends_Part}
use denote.Memory.{cell_at, part_at, part_of, mem}
use denote.RawPtr.{null_ptr, block_ptr, ptr_val, in_a_block}
use denote.Signature.{mut_ref_to}
use denote.Struct.Laws.{vals, tells, lawful}
use denote.Struct.Owning.{shape, to}
use denote.Struct.Struct.{Struct}
use denote.Triple.Walked.{Goes-spent_ref}
use Rattle.raw_nodes.specs.Lending.{with_node}
use Rattle.raw_nodes.specs.declared.heap.Heap.{Heap}
use Rattle.raw_nodes.specs.contracts.nodes.Node.{the_row as N}
use Rattle.raw_nodes.specs.contracts.heap.Heap.{the_row as R}
use Rattle.raw_nodes.proofs.HeapSteps.{uncons, any_default, one_out, one_in}
use Rattle.raw_nodes.proofs.PlaceLaws.{ptr_at_number, within_ats}
use Rattle.raw_nodes.proofs.heap.Heap.node_mut.Statement.{statement}
use Rattle.raw_nodes.specs.contracts.names.NodePtr as P
use Rattle.raw_nodes.proofs.names.NodePtr.TheLaws as P-laws
use Rattle.raw_nodes.specs.contracts.heap.Heap as C
use Rattle.raw_nodes.specs.contracts.heap.Heap.node_mut as f
use Rattle.raw_nodes.proofs.heap.Heap.node_mut.Code as code

abbrev stayed : Stays f.ended.signature.params f.ended.kept
stayed = (stay_dropped (mut_ref_to (0 ∷ []) tt (plain (λ _. R))) no, (stay_dropped (plain (λ _. P.the_row)) yes, tt))

module _ {M : Type 1} {𝓤 : Ura M} (𝓛 : Logic 𝓤) (h : Heap) (name : NodePtr) (rb ro b o : ℕ) (us : List Val) where
  abbrev i : ℕ
  i = number_in h.places name

  abbrev ps : List Ptr
  ps = ats h.places

  -- all but the node
  abbrev Rest : Fml
  Rest = fsep (node_right (block_ptr b o)) (fsep (nodes_own (without ps i) (without h.values i))
      (fsep ((Struct (shape C.the_type)).own_val (to C.the_type h) us) (cell_at full_share R.mir us rb ro)))

  back : IsPlace h.places name → get_or ps i null_ptr ≡ block_ptr b o → (w : Node)
      → ent 𝓤 (sep 𝓤 (sem 𝓛 ((mem N).own_at w b o)) (sem 𝓛 Rest)) (sem 𝓛 ((mem R).own_at (with_node h name w) rb ro))
  unfolding part_of
  back place e w =
      let paired = h.paired in let within = within_ats h.places name place in
      qed 𝓛 (‵ (part_at N full_share w b o) ∷ ‵ Rest ∷ []) ∵ move ! (1 ∷ []) $ fsplit3 ! $ move ! (2 ∷ []) $ fsplit ! $
      move ! (4 ∷ 2 ∷ []) $ fjoin ! $
      rewrite ! 0 (λ (p : Ptr). ‵ (node_owns p w)) (sym e) refl $
      move ! (0 ∷ 3 ∷ []) $ use2 𝓛 (‵ (nodes_own ps (with_node h name w).values))
      (one_in 𝓛 ps h.values i w within (omega (arith, place))) $
      move ! (1 ∷ 0 ∷ []) $ fjoin ! $ move ! (1 ∷ 0 ∷ []) $ fjoin ! $
      fpack ! (List Val) (λ vs. fsep (cell_at full_share R.mir vs rb ro) (R.own_val (with_node h name w) vs)) us $ done
      !

pub node_mut_spec : {M : Type 1} → statement M
node_mut_spec 𝓤 𝓛 𝓜 𝓡 wired =
    let c = f.clauses 𝓛 𝓜.mem 𝓡.returns in let W = walk_of 𝓛 f.ended stayed c in let 𝓣 = tables 𝓤 𝓛.H 𝓜 𝓡 𝓡.env in
    proved 𝓛 f.ended stayed c 𝓜 𝓡 (
      Goes-spent_ref 𝓛 1 (0 ∷ []) tt (plain (λ _. R)),
      (Goes-dropped 𝓛 1 (plain (λ _. P.the_row)) yes (λ κs x w. refl), tt),
    )
    f.Key.name code.function (code.unfolded 𝓤 𝓛.H 𝓜 𝓡 wired)
    (λ κs. (mut_vals, (vals P.the_type P-laws.the_laws, tt))) (λ κs.
    (mut_Tells (named 0) κs.0 R, (tells P.the_type P-laws.the_laws, tt))) (λ κs qs bounds a _ are.
    let κ = κs.0 in let q = qs.0 in let h = a.0.now in let γ = a.0.ghost_name in let name = a.1.0 in
    let i = number_in h.places name in let ps = ats h.places in let b = a.0.ref_ptr.0 in let o = a.0.ref_ptr.1 in
    let vs = mut_vals a.0 in let ws = vals P.the_type P-laws.the_laws name in
    let y : W.Ghost = ((κs, qs, bounds, a, (vs, (ws, tt))), tt) in
    qed 𝓛 (((‵ (flft κ q) ⊛ ‵ ftrue) ⊛ ‵ ((MutRef (named 0) κ R).own_val a.0 vs) ⊛ ‵ (P.the_row.own_val name ws) ⊛ ‵
    ftrue) ∷ raw (fact 𝓤 (IsPlace h.places name)) ∷ []) ∵
    move ! (1 ∷ []) $ heard ! _ (λ asked. split ! $ split ! $ move ! (2 ∷ []) $ split ! $ keep ! (0 ∷ 2 ∷ []) $
    enter ! _ _ _ _ _ $ alloc_all ! (λ l. pass_all ! refl (
      (tt, tt),
      (((lawful P.the_type P-laws.the_laws 𝓛).typed name ws are.1.0).0, tt),
    ) $
    let paired = h.paired in let d = (uncons h.values (omega arith)).0 in let x = get_or h.values i d in
    let p = get_or ps i null_ptr in let inside = within_ats h.places name asked in
    let here : name.at ≡ p = sym (ptr_at_number h.places name null_ptr asked) in
    let new = with_node h name in
    fsplit3 ! $ move ! (1 ∷ 2 ∷ 3 ∷ []) $ opens ! tt R b o (λ us. move ! (1 ∷ []) $ fsplit ! $ move ! (1 ∷ []) $
    use1 𝓛 (‵ (node_owns p x) ⊛ ‵ (nodes_own (without ps i) (without h.values i)))
    (one_out 𝓛 ps h.values i d inside (omega arith)) $ split ! $
    in_a_block ! p (λ r. node_owns r x) (fst∗ 𝓤 (never 𝓤) (sem 𝓛 (node_right null_ptr))) (λ b' o' e. fsplit ! $
    -- [the node; the token; the others; the fields; the cell; the open borrow; obs; auth]
    sets ! (is ! (of_opd ! (get_in ! (fld ! refl (stop !)) (sub ! 0 refl (whole !)))) (ap ptr_val (here ∙ e))) refl (
      tt,
      tt,
    ) $ first ! $ blocks ! $
    sets_last ! (addr ! (through ! refl (stop !))) refl (
      tt,
      tt,
    ) $ exec ! 𝓣.C 𝓣.Λ (env code.Mir.locals l) code.Mir.t-3 (at_ret _ (W.post y)) $ sets ! (of_opd ! (get ! refl))
    refl (tt, tt) $
    move ! (3 ∷ 4 ∷ []) $ fjoin ! $ move ! (3 ∷ 0 ∷ []) $ fjoin ! $ move ! (2 ∷ 0 ∷ []) $ fjoin ! $ move !
    (2 ∷ 3 ∷ 4 ∷ 1 ∷ 0 ∷ []) $ group ! 5 $
    use1 𝓛
    (later (some (λ (δ : GName).
    ‵ ((MutRef (named 0) κ N).own_val (record { ref_ptr = (b', o'); ghost_name = δ; now = x }) (vptr b' o' ∷ [])) ⊛
    ‵ (flft κ q) ⊛ ‵ (follows R N γ δ new))))
    (lends_Part 𝓛 R N new (named 0) κ q b o b' o' γ (sem 𝓛 (Rest 𝓛 h name b o b' o' us))
    (back 𝓛 h name b o b' o' us asked e) (R.coded.code h) (R.coded.code h) x) $ await ! tt $ pick ! (λ δ.
    returns ! (look_at ! 0 refl) $ free_all ! refl $ keep ! (0 ∷ []) $ split3 ! $
    suffices ! _ (ends_at 𝓛 f.ended stayed c y (vptr b' o') (record { ref_ptr = (b', o'); ghost_name = δ; now = x })
    (tt, (tt, tt)) (tt, (tt, tt))) $
    nothing ! $ nothing ! $ fjoin ! $ nothing ! $ fjoin ! $ join ! $ nothing ! $ move ! (2 ∷ 0 ∷ []) $ join ! $ join ! $
    frame ! $ says ! (any_default h.values i d x (omega arith)) $ done !))))))
