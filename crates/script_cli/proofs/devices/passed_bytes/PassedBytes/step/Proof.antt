-- `step` sets the ghost bytes.
use Rattle.script_cli.proofs.Common.{◌++◌}
use Rattle.script_cli.proofs.WalkSteps.{[], ◌∷◌, refl, proved, ftrue, flft, named, vunit, tables, ‵, ◌⊛◌, ◌$◌, ◌∵◌, ! }
use Rattle.script_cli.proofs.WalkSteps.{qed, done, move, keep, split, join, fsplit3, feq_i, suffices, frame, group}
use Rattle.script_cli.proofs.WalkSteps.{enter, of_opd, unit_lit, returns, alloc_all, pass_all, free_all, look_at, sets}
use Rattle.script_cli.proofs.WalkSteps.{MutRef, mut_vals, mut_Tells, plain, nothing, opens, closes, Stays, walk_of}
use Rattle.script_cli.proofs.WalkSteps.{says, stay_ref, Goes-ref, stay_dropped, Goes-dropped, ends_at}
use denote.Builtin.{u8, SliceRefOf}
use denote.Slice.{shr_slice_vals, shr_slice_Tells, ShrSlice}
use Rattle.script_cli.proofs.devices.passed_bytes.PassedBytes.step.Statement.{statement}
use Rattle.script_cli.specs.contracts.devices.passed_bytes.PassedBytes.{the_row as R}
use Rattle.script_cli.specs.contracts.devices.passed_bytes.PassedBytes.step as f
use Rattle.script_cli.proofs.devices.passed_bytes.PassedBytes.step.Code as code

abbrev stayed : Stays f.ended.signature.params f.ended.kept
stayed = (
  stay_ref (0 ∷ []) tt (plain (λ _. R)),
  (stay_dropped (SliceRefOf (1 ∷ []) tt (plain (λ _. u8)) (λ _. tt)) f.ended.kept.1.0, tt),
)

pub step_spec : {M : Type 1} → statement M
step_spec 𝓤 𝓛 𝓜 𝓡 wired =
    let c = f.clauses 𝓛 𝓜.mem 𝓡.returns in let W = walk_of 𝓛 f.ended stayed c in let 𝓣 = tables 𝓤 𝓛.H 𝓜 𝓡 𝓡.env in
    proved 𝓛 f.ended stayed c 𝓜 𝓡 (
      Goes-ref 𝓛 2 0 tt (plain (λ _. R)),
      (Goes-dropped 𝓛 2 (SliceRefOf (1 ∷ []) tt (plain (λ _. u8)) (λ _. tt)) f.ended.kept.1.0 (λ κs x g. refl), tt),
    )
    f.Key.name code.function (code.unfolded 𝓤 𝓛.H 𝓜 𝓡 wired)
    (λ κs. (mut_vals, (shr_slice_vals, tt))) (λ κs.
    (mut_Tells (named 0) κs.0 R, (shr_slice_Tells (named 1) κs.1.0 u8, tt))) (λ κs qs bounds a _ are.
    let b = a.0.ref_ptr.0 in let o = a.0.ref_ptr.1 in let h = a.0.now in let vs = mut_vals a.0 in
    let ps = shr_slice_vals a.1.0 in
    let y : W.Ghost = ((κs, qs, bounds, a, (vs, (ps, tt))), tt) in
    qed 𝓛 (((‵ (flft κs.0 qs.0) ⊛ ‵ (flft κs.1.0 qs.1.0) ⊛ ‵ ftrue) ⊛ ‵ ((MutRef (named 0) κs.0 R).own_val a.0 vs) ⊛ ‵
    ((ShrSlice (named 1) κs.1.0 u8).own_val a.1.0 ps) ⊛ ‵ ftrue) ∷ ‵ ftrue ∷ []) ∵
    split ! $ split ! $ move ! (2 ∷ []) $ split ! $ move ! (3 ∷ []) $ split ! $ keep ! (2 ∷ 4 ∷ 0 ∷ []) $
    enter ! _ _ _ _ _ $ alloc_all ! (λ l. pass_all ! refl (
      (tt, tt),
      ((tt, (tt, (record { fits = are.1.0.0.1.0 }, tt))), tt),
    ) $
    fsplit3 ! $ move ! (1 ∷ 2 ∷ 3 ∷ []) $ opens ! tt R b o (λ us.
    sets ! (of_opd ! (unit_lit !)) refl (tt, tt) $
    closes ! tt R (record h { bytes = h.bytes ++ a.1.0.now }) us b o $
    returns ! (look_at ! 0 refl) $ free_all ! refl $ move ! (3 ∷ []) $
    suffices ! _ (ends_at 𝓛 f.ended stayed c y vunit tt (record h { bytes = h.bytes ++ a.1.0.now }, (tt, tt)) (
      tt,
      (tt, tt),
    )) $ says ! refl $
    group ! 3 $ nothing ! $ nothing ! $ join ! $ move ! (1 ∷ 0 ∷ []) $ join ! $
    nothing ! $ move ! (3 ∷ 0 ∷ []) $ join ! $ move ! (2 ∷ 0 ∷ []) $ join ! $ frame ! $ frame ! $
    feq_i ! _ (vunit ∷ []) _ refl $ done !)))
