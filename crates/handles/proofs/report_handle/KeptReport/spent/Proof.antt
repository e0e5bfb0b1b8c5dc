-- `spent` gives the pointer back with what it owns.
use Rattle.handles.proofs.Common.{List, [], ◌∷◌, ◌++◌, refl, sym, subst, Goes-blank, proved_at, leaves, Ptr-Good}
use Rattle.handles.proofs.Common.{and_tt}
use mir.Val.{Val, vunit}
use base.Logic.{SProp, ent, id⊢}
use prog.Wp.{WpFn}
use types.Kit.{‵, raw, ◌⊛◌, ◌$◌, ◌∵◌, !, qed, by, move, keep, split, fsplit, fjoin, suffices, feq_i}
use types.Run.{of_opd, returns, enter, unit_lit}
use types.ByLocal.{alloc_all, pass_all, free_all, look_at, sets}
use contract.Running.{tables}
use denote.Exit.{yes}
use denote.RattleType.{RattleType, owns}
use denote.Signature.{types_at, plain}
use denote.Steps.{nothing}
use denote.Triple.Entry.{alive}
use denote.Triple.Walked.{Stays, stay_dropped, walk_of}
use Rattle.handles.proofs.KeptReportSteps.{kept_out}
use Rattle.handles.proofs.KeptSteps.{word}
use Rattle.handles.specs.contracts.report_handle.KeptReport.spent.{ended, clauses}
use Rattle.handles.specs.contracts.report_handle.KeptReport.spent.Key.{name as #self}
use Rattle.handles.proofs.report_handle.KeptReport.spent.Statement.{statement}
use Rattle.handles.specs.contracts.report_handle.KeptReport as kept
use Rattle.handles.proofs.report_handle.KeptReport.spent.Code as code

pub spent_spec : {M : Type 1} → statement M
spent_spec 𝓤 𝓛 𝓜 𝓡 wired =
    let H = 𝓛.H in let 𝓣 = tables 𝓤 H 𝓜 𝓡 𝓡.env in let En = ended in let c = clauses 𝓛 𝓜.mem 𝓡.returns in
    let fn = code.function in let Kr : RattleType = kept.the_row in
    let hs : Stays En.signature.params En.kept = (stay_dropped (plain (λ _. Kr)) yes, tt) in
    proved_at 𝓛 En hs c 𝓜 𝓡 (
      Goes-blank 𝓛 0 (plain (λ _. Kr)) yes (λ κs x f. tt),
      tt,
    ) #self fn (code.unfolded 𝓤 H 𝓜 𝓡 wired) (λ z are.
    let κs = z.0.0 in let qs = z.0.1 in let k = z.0.3.0 in let Post : Val → SProp 𝓤 = (walk_of 𝓛 En hs c).post z in
    let Run : List Val → SProp 𝓤 = λ ws. WpFn 𝓤 H 𝓣.C 𝓣.Λ fn ws Post in let w : Val = word k.at in
    qed 𝓛 ((raw (alive 𝓛 En.signature κs qs) ⊛ ‵ (owns (types_at En.signature.params κs) z.0.3 z.0.4))
    ∷ raw ((c κs z.0.3).requires z.1) ∷ []) ∵
    split ! $ move ! (1 ∷ []) $ fsplit ! $ kept_out ! k z.0.4.0 (λ ek. keep ! (2 ∷ []) $
    suffices ! (Run (w ∷ [])) (subst (λ (us : List Val). ent 𝓤 (Run (w ∷ [])) (Run us)) (sym (λ i. ek i ++ []))
    (id⊢ 𝓤 (Run (w ∷ [])))) $
    enter ! 𝓣.C 𝓣.Λ fn (w ∷ []) Post $ alloc_all ! (λ l.
    pass_all ! refl ((and_tt _ (Ptr-Good k.at).0, ((Ptr-Good k.at).1, tt)), tt) $
    sets ! (of_opd ! (unit_lit !)) refl (tt, tt) $ feq_i ! (List Val) (vunit ∷ []) (vunit ∷ []) refl $ nothing ! $
    nothing ! $ nothing ! $ fjoin ! $
    returns ! (look_at ! 0 refl) $ free_all ! refl $ keep ! (3 ∷ 0 ∷ 2 ∷ 1 ∷ []) $ by !
    (leaves 𝓛 En hs c z vunit tt _ (tt, tt)))))
