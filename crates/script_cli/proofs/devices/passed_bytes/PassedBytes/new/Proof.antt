-- `new` begins with no bytes.
use Rattle.script_cli.proofs.WalkSteps.{[], ◌∷◌, refl, proved, ftrue, tables, ‵, ◌⊛◌, ◌$◌, ◌∵◌, !, qed, keep, join}
use Rattle.script_cli.proofs.WalkSteps.{suffices, frame, enter, returns, alloc_all, pass_all, free_all, look_at, sets}
use Rattle.script_cli.proofs.WalkSteps.{nothing, Stays, walk_of, ends_at, no_more}
use types.Part.{agg}
use types.Kit.{use0, by}
use contract.Monad.{fact_i}
use denote.Shadow.{makes_shadow}
use mir.Val.{vstruct, vnil}
use Rattle.script_cli.proofs.devices.passed_bytes.PassedBytes.new.Statement.{statement}
use Rattle.script_cli.specs.contracts.devices.passed_bytes.PassedBytes.{the_row as R}
use Rattle.script_cli.specs.contracts.devices.passed_bytes.PassedBytes.new as f
use Rattle.script_cli.proofs.devices.passed_bytes.PassedBytes.new.Code as code

abbrev stayed : Stays f.ended.signature.params f.ended.kept
stayed = tt

pub new_spec : {M : Type 1} → statement M
new_spec 𝓤 𝓛 𝓜 𝓡 wired =
    let c = f.clauses 𝓛 𝓜.mem 𝓡.returns in let W = walk_of 𝓛 f.ended stayed c in let 𝓣 = tables 𝓤 𝓛.H 𝓜 𝓡 𝓡.env in
    proved 𝓛 f.ended stayed c 𝓜 𝓡 tt
    f.Key.name code.function (code.unfolded 𝓤 𝓛.H 𝓜 𝓡 wired)
    (λ κs. tt) (λ κs. tt) (λ κs qs bounds a _ are.
    let y : W.Ghost = ((κs, qs, bounds, a, tt), tt) in
    qed 𝓛 ((‵ ftrue ⊛ ‵ ftrue) ∷ ‵ ftrue ∷ []) ∵ keep ! [] $
    enter ! _ _ _ _ _ $ alloc_all ! (λ l. pass_all ! refl tt $ sets ! (agg ! (no_more !)) refl (tt, tt) $
    returns ! (look_at ! 0 refl) $ free_all ! refl $
    suffices ! _ (ends_at 𝓛 f.ended stayed c y (vstruct vnil) (record { bytes = [] }) tt tt) $
    use0 𝓛 (‵ (R.own_val (record { bytes = [] }) (vstruct vnil ∷ [])))
    (makes_shadow 𝓛 (R.own_val (record { bytes = [] }) (vstruct vnil ∷ [])) ((λ u. (tt, tt)), tt) (
      (tt, (refl, tt)),
      tt,
    )) $ nothing ! $ join ! $ nothing ! $ join ! $ frame ! $ by ! (fact_i 𝓤 _ _ refl)))
