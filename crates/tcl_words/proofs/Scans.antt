-- Steps of the loops that scan a command and write its words.
use Rattle.tcl_words.proofs.Common.{◌≡◌, ℕ, zero, suc, ◌+◌, ◌<◌, ◌≤◌, List, [], ◌∷◌, ◌++◌, length, take, drop, get_or}
use Rattle.tcl_words.proofs.Common.{refl, sym, ap, ◌∙◌, arith, subst, drop_more, drop_all, step_of, depth_of, later}
use Rattle.tcl_words.proofs.Common.{scan_next, scanned, written, words_next, pieces_from, Stage, Step, Next, Go, End}
use Rattle.tcl_words.proofs.Common.{Refuse, Scan, EndsAt, Refused, Reaches}
use Rattle.tcl_words.proofs.Verdicts.{IsSound, sound_step, scanned-nil, scanned-cons, pieces-cons}
use Rattle.tcl_words.proofs.Spelling.{later-later, later-zero}

pub scan_on : (bytes : List ℕ) (i : ℕ) (stage : Stage) (next : Next) → i < length bytes →
    next ≡ (step_of stage (get_or bytes i 0)).next
    → scanned (drop i bytes) stage ≡ scan_next next (scanned (drop (i + 1) bytes))
scan_on bytes i stage next h e =
    ap (λ l. scanned l stage) (drop_more bytes i 0 h) ∙ scanned-cons (get_or bytes i 0) (drop (i + 1) bytes) stage
    ∙ ap (λ s. scan_next s (scanned (drop (i + 1) bytes))) (sym e)

-- by what the loop knows of a byte
pub scan_by : (bytes : List ℕ) (i : ℕ) (stage : Stage) (next : Next) (step : Step) (c : ℕ) → i < length bytes →
    step.next ≡ next → step ≡ step_of stage c → c ≡ get_or bytes i 0
    → scanned (drop i bytes) stage ≡ scan_next next (scanned (drop (i + 1) bytes))
scan_by bytes i stage next step c h is does same =
    scan_on bytes i stage next h (sym is ∙ ap (λ (s : Step). s.next) does ∙ ap (λ b. (step_of stage b).next) same)

-- braces that are open behind a byte
pub depth_on : (stage s : Stage) (step : Step) (c : ℕ) → step.next ≡ Go s → step ≡ step_of stage c →
    depth_of s ≤ suc (depth_of stage)
depth_on stage s step c is does =
    subst (IsSound (depth_of stage)) (sym (ap (λ (s : Step). s.next) does) ∙ is) (sound_step stage c)

pub scan_over : (bytes : List ℕ) (i : ℕ) (stage : Stage) → length bytes ≤ i →
    scanned (drop i bytes) stage ≡ Reaches stage
scan_over bytes i stage h = ap (λ l. scanned l stage) (drop_all i bytes h) ∙ scanned-nil stage

later_reaches : (n : ℕ) (scan : Scan) (stage : Stage) → later n scan ≡ Reaches stage → scan ≡ Reaches stage
later_reaches n (EndsAt k) stage h = cc
later_reaches n (Refused fault) stage h = cc
later_reaches n (Reaches last) stage h = h

append_next : (step : Next) (c : ℕ) (front more : List ℕ) (next : Stage) → scan_next step (scanned front) ≡ Reaches next
    → ((s : Stage) → scanned front s ≡ Reaches next → scanned (front ++ more) s
    ≡ later (length front) (scanned more next))
    → scan_next step (scanned (front ++ more)) ≡ later (length (c ∷ front)) (scanned more next)
append_next (Go s) c front more next h rest =
    ap (later 1) (rest s (later_reaches 1 (scanned front s) next h)) ∙ later-later 1 (length front) (scanned more next)
    ∙ ap (λ n. later n (scanned more next)) (let e : 1 + length front ≡ suc (length front) = omega arith in e)
append_next End c front more next h rest = cc
append_next (Refuse fault) c front more next h rest = cc

-- A scan goes on from the stage that its front reaches.
pub scanned-append : (front more : List ℕ) (stage next : Stage) → scanned front stage ≡ Reaches next →
    scanned (front ++ more) stage ≡ later (length front) (scanned more next)
scanned-append [] more stage next h =
    let same : stage ≡ next = let e = sym (scanned-nil stage) ∙ h in cc in
    ap (scanned more) same ∙ sym (later-zero (scanned more next))
scanned-append (c ∷ front) more stage next h =
    scanned-cons c (front ++ more) stage
    ∙ append_next (step_of stage c).next c front more next (sym (scanned-cons c front stage)
    ∙ h) (λ s k. scanned-append front more s next k)

depth_next : (step : Next) (front : List ℕ) (depth : ℕ) (next : Stage) → IsSound depth step →
    scan_next step (scanned front) ≡ Reaches next
    → ((s : Stage) → scanned front s ≡ Reaches next → depth_of next ≤ depth_of s + length front) →
    depth_of next ≤ depth + suc (length front)
depth_next (Go s) front depth next sound h rest = let k = rest s (later_reaches 1 (scanned front s) next h) in
    omega arith
depth_next End front depth next sound h rest = absurd cc
depth_next (Refuse fault) front depth next sound h rest = absurd cc

-- No more braces are open than characters were read.
pub depth_reached : (cs : List ℕ) (stage last : Stage) → scanned cs stage ≡ Reaches last →
    depth_of last ≤ depth_of stage + length cs
depth_reached [] stage last h =
    let same : stage ≡ last = let e = sym (scanned-nil stage) ∙ h in cc in
    let depth = ap depth_of same in omega arith
depth_reached (c ∷ cs) stage last h =
    depth_next (step_of stage c).next cs (depth_of stage) last (sound_step stage c) (sym (scanned-cons c cs stage)
    ∙ h) (λ s k. depth_reached cs s last k)

later_ends : (scan : Scan) (k : ℕ) → later 1 scan ≡ EndsAt (suc k) → scan ≡ EndsAt k
later_ends (EndsAt j) k h =
    let e : 1 + j ≡ suc k = cc in
    let same : j ≡ k = omega arith in ap EndsAt same
later_ends (Refused fault) k h = cc
later_ends (Reaches stage) k h = cc

no_later : (scan : Scan) → later 1 scan ≡ EndsAt 0 → ⊥
no_later (EndsAt j) h = let e : 1 + j ≡ 0 = cc in omega arith
no_later (Refused fault) h = cc
no_later (Reaches stage) h = cc

ends_apart : (n m : ℕ) → EndsAt n ≡ EndsAt m → n ≡ m
ends_apart n m h = cc

no_step : (step : Next) (cs : List ℕ) → scan_next step (scanned cs) ≡ EndsAt 0 → ⊥
no_step (Go stage) cs h = no_later (scanned cs stage) h
no_step End cs h = let e = ends_apart 1 0 h in omega arith
no_step (Refuse fault) cs h = cc

cut_next : (step : Next) (k : ℕ) (cs : List ℕ) → scan_next step (scanned cs) ≡ EndsAt (suc k) →
    ((s : Stage) → scanned cs s ≡ EndsAt k → pieces_from (take k cs) s ≡ pieces_from cs s)
    → words_next step (pieces_from (take k cs)) ≡ words_next step (pieces_from cs)
cut_next (Go stage) k cs h rest = rest stage (later_ends (scanned cs stage) k h)
cut_next End k cs h rest = refl
cut_next (Refuse fault) k cs h rest = refl

-- The words of a command are those of its characters, whatever follows.
pub pieces_cut : (cs : List ℕ) (stage : Stage) (m : ℕ) → scanned cs stage ≡ EndsAt m →
    pieces_from (take m cs) stage ≡ pieces_from cs stage
pieces_cut [] stage m h = absurd (let e = sym (scanned-nil stage) ∙ h in cc)
pieces_cut (c ∷ cs) stage zero h = absurd (no_step (step_of stage c).next cs (sym (scanned-cons c cs stage) ∙ h))
pieces_cut (c ∷ cs) stage (suc k) h =
    pieces-cons c (take k cs) stage
    ∙ ap (λ l. written (step_of stage c).output c l)
    (cut_next (step_of stage c).next k cs (sym (scanned-cons c cs stage) ∙ h) (λ s e. pieces_cut cs s k e))
    ∙ sym (pieces-cons c cs stage)
