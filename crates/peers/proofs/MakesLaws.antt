-- What a command makes of a world, where it is refused.
use Rattle.peers.proofs.Common.{◌≡◌, ℕ, refl, sym, ap, subst, Err, Result, Answer, Fault, Memory, refused, Makes}
use Rattle.peers.proofs.Common.{Outcome, changed, refuses, IsWellFormed, World, document_at}
use Rattle.peers.proofs.WorldLaws.{changed-refused}

-- a command is refused with the fault that its definition has
pub makes-refused : (world : World) (fault : Fault) (outcome : Outcome) → IsWellFormed world →
    outcome ≡ refuses world fault → Makes world world (Err fault) outcome
makes-refused world fault outcome formed is =
    subst (Makes world world (Err fault)) (sym is)
    (record { reply = λ _. refl; world = λ _. refl; refused = refl; well_formed = formed })

-- a command that wants memory leaves the world
pub makes-memory : (world : World) (result : Result Answer Fault) (outcome : Outcome) → IsWellFormed world →
    result ≡ Err Memory → Makes world world result outcome
makes-memory world result outcome formed is =
    subst (λ r. Makes world world r outcome) (sym is) (record {
      reply = λ other. absurd (other refl);
      world = λ other. absurd (other refl);
      refused = refl;
      well_formed = formed;
    })

-- a document that refuses a command changes no world
pub changed-refuses : (world : World) (place : ℕ) (fault : Fault) →
    changed world place (refused (document_at world.documents place) fault) ≡ refuses world fault
changed-refuses world place fault =
    ap (λ w. refuses w fault) (changed-refused world.limits world.documents place
    (refused (document_at world.documents place) fault) refl)
