-- `into_loose` gives the pointer back with what it owns.
use Rattle.handles.proofs.Common.{◌≡◌, Some, List, [], ◌∷◌, ◌++◌, refl, sym, subst, Goes-blank, handle_tells, proved_at}
use Rattle.handles.proofs.Common.{leaves, IsSome}
use mir.Val.{Val, vptr}
use base.Logic.{SProp, ent, emp, id⊢}
use prog.Wp.{WpFn}
use types.Kit.{‵, raw, ◌⊛◌, ◌$◌, ◌∵◌, !, qed, by, move, keep, split, fsplit, fjoin, suffices, use0}
use types.Run.{stop, fld, of_opd, no_more, and_then, returns, enter}
use types.ByLocal.{alloc_all, pass_all, free_all, look_at, get, get_in, sets}
use types.Part.{agg, sub, whole}
use contract.Monad.{fact, fact_i}
use contract.Running.{tables}
use denote.Exit.{yes}
use denote.RattleType.{RattleType, owns}
use denote.Signature.{types_at, plain}
use denote.RawPtr.{Ptr, block_ptr}
use denote.Steps.{nothing, heard}
use denote.Triple.Entry.{alive}
use denote.Triple.Walked.{Stays, stay_dropped, walk_of, Goes-dropped}
use Rattle.std_heap.specs.contracts.GlobalAllocator.TheImpl.{ghosts}
use Rattle.handles.proofs.Values.{both, al, loose_good, loose_in}
use Rattle.handles.proofs.KeptReportSteps.{kept_out}
use Rattle.handles.proofs.KeptSteps.{word, held_some}
use Rattle.handles.specs.contracts.report_handle.KeptReport.into_loose.{ended, clauses}
use Rattle.handles.specs.contracts.report_handle.KeptReport.into_loose.Key.{name as #self}
use Rattle.handles.proofs.report_handle.KeptReport.into_loose.Statement.{statement}
use Rattle.std_heap.specs.contracts.Global as heap
use Rattle.std_heap.proofs.Global.TheLaws as heap_laws
use Rattle.handles.specs.contracts.report.Report as report
use Rattle.handles.specs.contracts.report_handle.KeptReport as kept
use Rattle.handles.proofs.report_handle.KeptReport.into_loose.Code as code

pub into_loose_spec : {M : Type 1} → statement M
into_loose_spec 𝓤 𝓛 𝓜 𝓡 wired =
    let H = 𝓛.H in let 𝓣 = tables 𝓤 H 𝓜 𝓡 𝓡.env in let En = ended in let c = clauses 𝓛 𝓜.mem 𝓡.returns in
    let fn = code.function in
    let R : RattleType = report.the_row in let Z : RattleType = heap.the_row in let LZ = heap_laws.the_row_laws in
    let Kr : RattleType = kept.the_row in
    let hs : Stays En.signature.params En.kept = (
      stay_dropped (plain (λ _. Kr)) yes,
      (stay_dropped (plain (λ _. Z)) yes, tt),
    ) in
    proved_at 𝓛 En hs c 𝓜 𝓡 (
      Goes-blank 𝓛 0 (plain (λ _. Kr)) yes (λ κs x f. tt),
      (Goes-dropped 𝓛 0 (plain (λ _. Z)) yes (λ κs x f. refl), tt),
    ) #self fn (code.unfolded 𝓤 H 𝓜 𝓡 wired) (λ z are.
    let κs = z.0.0 in let qs = z.0.1 in let k = z.0.3.0 in let a = z.0.3.1.0 in let Post : Val →
    SProp 𝓤 = (walk_of 𝓛 En hs c).post z in let Run : List Val → SProp 𝓤 = λ ws. WpFn 𝓤 H 𝓣.C 𝓣.Λ fn ws Post in
    qed 𝓛 ((raw (alive 𝓛 En.signature κs qs) ⊛ ‵ (owns (types_at En.signature.params κs) z.0.3 z.0.4))
    ∷ raw (fact 𝓤 (IsSome k.report)) ∷ []) ∵
    move ! (1 ∷ []) $ heard ! (IsSome k.report) (λ asked.
    split ! $ move ! (1 ∷ []) $ fsplit ! $ kept_out ! k z.0.4.0 (λ ek.
    held_some ! R k.at k.report asked (λ b o x ep ex.
    move ! (1 ∷ []) $ fsplit ! $ handle_tells (al R Z LZ ghosts) ! a z.0.4.1.0 (λ h eh fits.
    keep ! (2 ∷ 0 ∷ 3 ∷ []) $ loose_in R Z LZ ghosts ! b o h a x $
    let w : Val = word (block_ptr b o) in let ew : z.0.4.0
    ≡ w ∷ [] = subst (λ (p : Ptr). z.0.4.0 ≡ word p ∷ []) ep ek in
    suffices ! (Run (w ∷ h ∷ [])) (subst (λ (us : List Val). ent 𝓤 (Run (w ∷ h ∷ [])) (Run us))
    (sym (λ i. ew i ++ (eh i ++ []))) (id⊢ 𝓤 (Run (w ∷ h ∷ [])))) $
    enter ! 𝓣.C 𝓣.Λ fn (w ∷ h ∷ []) Post $ alloc_all ! (λ l. pass_all ! refl ((tt, (tt, tt)), (fits, tt)) $
    sets ! (of_opd ! (get_in ! (fld ! refl (stop !)) (sub ! 0 refl (whole !)))) refl (
      tt,
      tt,
    ) $ sets ! (of_opd ! (get ! refl)) refl (tt, tt) $
    sets ! (agg ! (and_then ! (get ! refl) (and_then ! (get ! refl) (no_more !)))) refl
    (loose_good R Z LZ ghosts b o h fits) $
    use0 𝓛 (raw (fact 𝓤 (k.report ≡ Some x))) (fact_i 𝓤 (k.report ≡ Some x) (emp 𝓤) ex) $ nothing ! $ nothing ! $
    fjoin ! $ nothing ! $ fjoin ! $
    returns ! (look_at ! 0 refl) $ free_all ! refl $ keep ! (3 ∷ 0 ∷ 2 ∷ 1 ∷ []) $ by !
    (leaves 𝓛 En hs c z (both (vptr b o) h) (record { at = block_ptr b o; alloc = a; value = x }) _ (
      tt,
      (tt, tt),
    ))))))))
