-- Bytes that pass one after another, and bytes that wait.
use Rattle.script_cli.proofs.Common.{◌≡◌, ℕ, ◌+◌, ◌-◌, arith, Bool, true, false, cond, List, [], ◌++◌, length, take}
use Rattle.script_cli.proofs.Common.{drop, Option, None, Some, refl, sym, ap, ◌∙◌, append_assoc, common_steps}
use Rattle.script_cli.proofs.Common.{take-append-drop, append-nil, take_all, ReadLog, WriteLog, Consumes, HandsOut}
use Rattle.script_cli.proofs.Common.{Appends, Takes, Sends, Gathers}
use Rattle.std.proofs.Math.Seq.{take-add}

Appends-nil : (known : Option (List ℕ)) → Appends known known []
Appends-nil None = tt
Appends-nil (Some xs) = ap Some (sym (append-nil xs))

Appends-then : (old mid new : Option (List ℕ)) (a b : List ℕ) → Appends old mid a → Appends mid new b →
    Appends old new (a ++ b)
Appends-then None mid new a b first second = tt
Appends-then (Some xs) mid new a b first second =
    let after = rw first at second in rw (← append_assoc) after

-- nothing was taken
pub Takes-nil : (log : WriteLog) → Takes log log []
Takes-nil log = (sym (append-nil log.bytes), Appends-nil log.held)

pub Takes-then : (old mid new : WriteLog) (a b : List ℕ) → Takes old mid a → Takes mid new b → Takes old new (a ++ b)
Takes-then old mid new a b first second = (
  second.0 ∙ ap (λ xs. xs ++ b) first.0 ∙ append_assoc old.bytes a b,
  Appends-then old.held mid.held new.held a b first.1 second.1,
)

pub Takes-more : (old mid new : WriteLog) (bytes : List ℕ) (n m : ℕ)
    → Takes old mid (take n bytes) → Takes mid new (take m (take (length bytes - n) (drop n bytes))) →
    Takes old new (take (n + m) bytes)
Takes-more old mid new bytes n m first second =
    let rest : take (length bytes - n) (drop n bytes)
    ≡ drop n bytes = take_all (length bytes - n) (drop n bytes) (grind (arith, common_steps)) in
    rw (take-add n m bytes) (Takes-then old mid new (take n bytes) (take m (drop n bytes)) first (rw rest at second))

Consumes-nil : (known : Option (List ℕ)) → Consumes known known []
Consumes-nil None = tt
Consumes-nil (Some xs) = (xs, refl, refl)

Consumes-then : (old mid new : Option (List ℕ)) (a b : List ℕ) → Consumes old mid a → Consumes mid new b →
    Consumes old new (a ++ b)
Consumes-then None mid new a b first second = tt
Consumes-then (Some xs) mid new a b first second =
    let after = rw first.1 at second in
    (after.0, after.1, first.2 ∙ ap (λ rest. a ++ rest) after.2 ∙ sym (append_assoc a b after.0))

-- nothing was handed out
pub HandsOut-nil : (log : ReadLog) → HandsOut log log [] false
HandsOut-nil log = (sym (append-nil log.bytes), omega arith, Consumes-nil log.left, tt)

plus_none : (n : ℕ) → n + 0 ≡ n
plus_none n = omega arith

pub HandsOut-then : (old mid new : ReadLog) (a b : List ℕ) (ended : Bool) → HandsOut old mid a false →
    HandsOut mid new b ended
    → HandsOut old new (a ++ b) ended
HandsOut-then old mid new a b ended first second = (
  second.0 ∙ ap (λ xs. xs ++ b) first.0 ∙ append_assoc old.bytes a b,
  second.1 ∙ ap (λ n. n + cond ended 1 0) (first.1 ∙ plus_none old.ends),
  Consumes-then old.left mid.left new.left a b first.2 second.2,
  second.3,
)

-- what was written is a front
pub Sends-front : (old new : WriteLog) (bytes : List ℕ) (n : ℕ) → Takes old new (take n bytes) →
    Sends old new bytes false
Sends-front old new bytes n sent = (take n bytes, drop n bytes, sym (take-append-drop n bytes), sent)

-- the bytes are put behind those that wait
pub Gathers-held : (log : WriteLog) (waited bytes : List ℕ) → Gathers log waited log (waited ++ bytes) bytes true
Gathers-held log waited bytes = ([], refl, Takes-nil log)

-- those that waited are written first
pub Gathers-flushed : (old new : WriteLog) (waited bytes : List ℕ) → Sends old new waited true →
    Gathers old waited new bytes bytes true
Gathers-flushed old new waited bytes sent = (waited, refl, sent)

-- the writer fails at those that waited
pub Gathers-cut : (old new : WriteLog) (waited waits bytes : List ℕ) → Sends old new waited false →
    Gathers old waited new waits bytes false
Gathers-cut old new waited waits bytes sent =
    (sent.0, sent.1 ++ bytes, ap (λ xs. xs ++ bytes) sent.2 ∙ append_assoc sent.0 sent.1 bytes, sent.3)

-- those that waited are written, and then the bytes
pub Gathers-past : (old mid new : WriteLog) (waited bytes : List ℕ) (done : Bool)
    → Sends old mid waited true → Sends mid new bytes done → Gathers old waited new [] bytes done
Gathers-past old mid new waited bytes true first second =
    (waited ++ bytes, sym (append-nil (waited ++ bytes)), Takes-then old mid new waited bytes first second)
Gathers-past old mid new waited bytes false first second = (
  waited ++ second.0,
  second.1,
  ap (λ xs. waited ++ xs) second.2 ∙ sym (append_assoc waited second.0 second.1),
  Takes-then old mid new waited second.0 first second.3,
)

regroup : (p a s q b t r : List ℕ) → p ++ a ≡ s ++ q → q ++ b ≡ t ++ r → p ++ (a ++ b) ≡ (s ++ t) ++ r
regroup p a s q b t r e f =
    sym (append_assoc p a b) ∙ ap (λ xs. xs ++ b) e ∙ append_assoc s q b ∙ ap (λ xs. s ++ xs) f
    ∙ sym (append_assoc s t r)

-- one after the other
pub Gathers-then : (first_log mid last : WriteLog) (waited between waits a b : List ℕ) (done : Bool)
    → Gathers first_log waited mid between a true → Gathers mid between last waits b done
    → Gathers first_log waited last waits (a ++ b) done
Gathers-then old mid new waited between waits a b true first second = (
  first.0 ++ second.0,
  regroup waited a first.0 between b second.0 waits first.1 second.1,
  Takes-then old mid new first.0 second.0 first.2 second.2,
)
Gathers-then old mid new waited between waits a b false first second = (
  first.0 ++ second.0,
  second.1,
  regroup waited a first.0 between b second.0 second.1 first.1 second.2,
  Takes-then old mid new first.0 second.0 first.2 second.3,
)

-- the writer fails at the first
pub Gathers-stop : (old new : WriteLog) (waited between waits a b : List ℕ)
    → Gathers old waited new between a false → Gathers old waited new waits (a ++ b) false
Gathers-stop old new waited between waits a b first = (
  first.0,
  first.1 ++ b,
  sym (append_assoc waited a b) ∙ ap (λ xs. xs ++ b) first.2
      ∙ append_assoc first.0 first.1 b,
  first.3,
)

pub ruleset writing = Takes-nil

pub ruleset gathering = (Gathers-held, Gathers-flushed, Gathers-cut, Gathers-past)
