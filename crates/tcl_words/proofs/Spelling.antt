-- Characters and their bytes in UTF-8.
use Rattle.tcl_words.proofs.Common.{◌≡◌, ℕ, suc, ◌+◌, ◌<◌, ◌≤◌, ◌⊎◌, inl, inr, ⊎_elim, Bool, true, false, cond, ◌==◌}
use Rattle.tcl_words.proofs.Common.{◌||◌, ◌&&◌, ltb, List, [], ◌∷◌, ◌++◌, length, take, encode_utf8, encode_utf8_all}
use Rattle.tcl_words.proofs.Common.{refl, sym, ap, ◌∙◌, arith, append_assoc, append-nil, add_assoc, true≢false}
use Rattle.tcl_words.proofs.Common.{length-append, one-add, ⊤, is_digit, all_scalars, StartsWithNoChar, nat_tests}
use Rattle.tcl_words.proofs.Common.{leb_tells, encode_ascii, encode_same, length-encode, len_utf8_bounds, is_end}
use Rattle.tcl_words.proofs.Common.{is_blank, begins_name, joins, base_of, limit_of, is_gap, is_letter, escape_step}
use Rattle.tcl_words.proofs.Common.{fault_behind, text_step, inside_step, word_step, braced_step, step_by, step_of}
use Rattle.tcl_words.proofs.Common.{later, scan_next, scanned, BadCharacterCode, Radix, Octal, Hexadecimal, EscapeStage}
use Rattle.tcl_words.proofs.Common.{Backslash, Letter, Digits, Gap, EscapeStep, TextWord, Bare, Quoted, Stage, Next, Go}
use Rattle.tcl_words.proofs.Common.{End, Refuse, Step, Scan, EndsAt, Refused, Reaches}
use lib.Utf8.{scalar, encode}
use Rattle.tcl_words.proofs.Verdicts.{scanned-nil, scanned-cons}
use Rattle.tcl_words.specs.declared.escapes.EscapeStep.TheVariants as escape_steps
use Rattle.tcl_words.specs.declared.stage.Stage.TheVariants as stages

pub both : (x y : Bool) → (x && y) ≡ true → (x ≡ true) × (y ≡ true)
both true y h = (refl, h)
both false y h = absurd (true≢false (sym h))

pub both_true : (x y : Bool) → x ≡ true → y ≡ true → (x && y) ≡ true
both_true true y p q = q
both_true false y p q = absurd (true≢false (sym p))

pub scalars_split : (xs ys : List ℕ) → all_scalars (xs ++ ys) ≡ true → (all_scalars xs ≡ true) × (all_scalars ys ≡ true)
scalars_split [] ys h = (refl, h)
scalars_split (c ∷ xs) ys h =
    let here = both (scalar c) (all_scalars (xs ++ ys)) h in
    let rest = scalars_split xs ys here.1 in
    (both_true (scalar c) (all_scalars xs) here.0 rest.0, rest.1)

-- no character is spelled by nothing
pub encode_some : (c : ℕ) (rest : List ℕ) → 0 < length (encode_utf8 c ++ rest)
encode_some c rest = let bounds = len_utf8_bounds c in
    omega (arith, length-append (encode_utf8 c) rest, length-encode c)

pub encode_not_nil : (c : ℕ) (rest : List ℕ) → encode_utf8 c ++ rest ≡ [] → ⊥
encode_not_nil c rest h = let some = encode_some c rest in let none = ap length h in omega arith

-- Two spellings of the front of the same bytes: one goes on where the other ends.
abbrev pub GoesOn : List ℕ → List ℕ → List ℕ → List ℕ → Type 0
GoesOn cs r ds t = (more : List ℕ) × (ds ≡ cs ++ more) × (r ≡ encode_utf8_all more ++ t)

goes_on_cons : (c d : ℕ) (cs ds r t : List ℕ) → c ≡ d → GoesOn cs r ds t → GoesOn (c ∷ cs) r (d ∷ ds) t
goes_on_cons c d cs ds r t e g = (g.0, ap (λ x. x ∷ ds) (sym e) ∙ ap (λ l. c ∷ l) g.1, g.2)

pub one_goes_on : (cs ds r t : List ℕ) → encode_utf8_all cs ++ r ≡ encode_utf8_all ds ++ t →
    GoesOn cs r ds t ⊎ GoesOn ds t cs r
one_goes_on [] ds r t h = inl (ds, refl, h)
one_goes_on (c ∷ cs) [] r t h = inr (c ∷ cs, refl, sym h)
one_goes_on (c ∷ cs) (d ∷ ds) r t h =
    let same = encode_same c d (encode_utf8_all cs ++ r) (encode_utf8_all ds ++ t)
    (sym (append_assoc (encode_utf8 c) (encode_utf8_all cs) r) ∙ h
    ∙ append_assoc (encode_utf8 d) (encode_utf8_all ds) t) in
    ⊎_elim (λ g. inl (goes_on_cons c d cs ds r t same.0 g)) (λ g. inr (goes_on_cons d c ds cs t r (sym same.0) g))
    (one_goes_on cs ds r t same.1)

-- what begins no character is no character's
pub no_char_nil : (more t : List ℕ) → all_scalars more ≡ true → StartsWithNoChar (encode_utf8_all more ++ t) → more ≡ []
no_char_nil [] t s h = refl
no_char_nil (c ∷ more) t s h =
    absurd (h c (encode_utf8_all more ++ t) (both (scalar c) (all_scalars more) s).0
    (append_assoc (encode_utf8 c) (encode_utf8_all more) t))

-- numbers that are not ASCII
abbrev AllHigh : List ℕ → Type 0
AllHigh [] = ⊤
AllHigh (b ∷ bs) = (128 ≤ b) × AllHigh bs

cond_high : (b : Bool) (xs ys : List ℕ) → AllHigh xs → AllHigh ys → AllHigh (cond b xs ys)
cond_high true xs ys p q = p
cond_high false xs ys p q = q

encode_high : (c : ℕ) → 128 ≤ c → AllHigh (encode c)
unfolding encode
encode_high c h =
    let no : ltb c 128 ≡ false = grind (arith, nat_tests) in
    rw no (cond_high (ltb c 2048) _ _ (omega arith, (omega arith, tt))
    (cond_high (ltb c 65536) _ _ (omega arith, (omega arith, (omega arith, tt))) (
      omega arith,
      (omega arith, (omega arith, (omega arith, tt))),
    )))

pub below_or : (c : ℕ) → (c < 128) ⊎ (128 ≤ c)
below_or c = ⊎_elim (λ h. inr h.1) (λ h. inl h.1) (leb_tells 128 c)

-- The bytes of a character that isn't ASCII are ordinary.

-- where such a byte leads
abbrev settles : Stage → Next
settles stages.Comment = Go stages.Comment
settles stages.CommentBackslash = Go stages.Comment
settles (stages.Text word) = Go (stages.Text word)
settles (stages.AfterDollar word) = Go (stages.Text word)
settles (stages.AfterColon word) = Go (stages.Text word)
settles (stages.Escaped word (Digits radix value more)) =
    cond (scalar value) (Go (stages.Text word)) (Refuse BadCharacterCode)
settles (stages.Escaped word stage) = Go (stages.Text word)
settles stages.AfterOpening = Go (stages.Braced 0)
settles stages.AfterStar = Go (stages.Braced 0)
settles (stages.Braced depth) = Go (stages.Braced depth)
settles (stages.BracedBackslash depth) = Go (stages.Braced depth)
settles (stages.BracedGap depth) = Go (stages.Braced depth)
settles (stages.Behind closing) = Refuse (fault_behind closing)
settles (stages.BehindBackslash closing) = Refuse (fault_behind closing)
settles stage = Go (stages.Text Bare)

-- a test that such a byte doesn't pass
skip_if : (test : Bool) (s t : Step) (next : Next) → test ≡ false → t.next ≡ next → (cond test s t).next ≡ next
skip_if true s t next h k = absurd (true≢false h)
skip_if false s t next h k = k

other : (c d : ℕ) → 128 ≤ c → d < 128 → (c == d) ≡ false
other c d h k = grind (arith, nat_tests)

no_end : (c : ℕ) → 128 ≤ c → is_end c ≡ false
no_end c h = grind (arith, nat_tests)

no_blank : (c : ℕ) → 128 ≤ c → is_blank c ≡ false
no_blank c h = grind (arith, nat_tests)

no_gap : (c : ℕ) → 128 ≤ c → is_gap c ≡ false
no_gap c h = grind (arith, nat_tests)

pub no_digit : (c radix : ℕ) → 128 ≤ c → radix ≤ 16 → is_digit c radix ≡ false
no_digit c radix h k = grind (arith, nat_tests)

high_text : (word : TextWord) (c : ℕ) → 128 ≤ c → (text_step word c).next ≡ Go (stages.Text word)
high_text word c h =
    skip_if (c == 91) _ _ _ (other c 91 h (omega arith))
    (skip_if (c == 36) _ _ _ (other c 36 h (omega arith))
    (skip_if (c == 92) _ _ _ (other c 92 h (omega arith)) refl))

high_inside : (word : TextWord) (c : ℕ) → 128 ≤ c → (inside_step word c).next ≡ Go (stages.Text word)
high_inside Bare c h =
    skip_if (is_end c) _ _ _ (no_end c h) (skip_if (is_blank c) _ _ _ (no_blank c h)
    (skip_if (c == 92) _ _ _ (other c 92 h (omega arith)) (high_text Bare c h)))
high_inside Quoted c h = skip_if (c == 34) _ _ _ (other c 34 h (omega arith)) (high_text Quoted c h)

high_word : (c : ℕ) → 128 ≤ c → (word_step c).next ≡ Go (stages.Text Bare)
high_word c h =
    skip_if (is_end c) _ _ _ (no_end c h) (skip_if (is_blank c) _ _ _ (no_blank c h)
    (skip_if (c == 92) _ _ _ (other c 92 h (omega arith))
    (skip_if (c == 123) _ _ _ (other c 123 h (omega arith))
    (skip_if (c == 34) _ _ _ (other c 34 h (omega arith)) (high_text Bare c h)))))

high_braced : (depth c : ℕ) → 128 ≤ c → (braced_step depth c).next ≡ Go (stages.Braced depth)
high_braced depth c h =
    skip_if (c == 125) _ _ _ (other c 125 h (omega arith))
    (skip_if (c == 123) _ _ _ (other c 123 h (omega arith))
    (skip_if (c == 92) _ _ _ (other c 92 h (omega arith)) refl))

skip_escape : (word : TextWord) (c : ℕ) (test : Bool) (s t : EscapeStep) (next : Next) → test ≡ false →
    (step_by word c t).next ≡ next → (step_by word c (cond test s t)).next ≡ next
skip_escape word c true s t next h k = absurd (true≢false h)
skip_escape word c false s t next h k = k

before_next : (test : Bool) (word : TextWord) (value c : ℕ) → (inside_step word c).next ≡ Go (stages.Text word)
    → (step_by word c (cond test (escape_steps.Before value) escape_steps.NoCharacter)).next
    ≡ cond test (Go (stages.Text word)) (Refuse BadCharacterCode)
before_next true word value c h = h
before_next false word value c h = refl

no_joining : (digit fits : Bool) → digit ≡ false → (digit && fits) ≡ false
no_joining true fits h = absurd (true≢false h)
no_joining false fits h = refl

base_low : (radix : Radix) → base_of radix ≤ 16
base_low Octal = omega arith
base_low Hexadecimal = omega arith

high_escape : (word : TextWord) (stage : EscapeStage) (c : ℕ) → 128 ≤ c →
    (step_by word c (escape_step stage c)).next ≡ settles (stages.Escaped word stage)
high_escape word Backslash c h =
    skip_escape word c (is_digit c 8) _ _ _ (no_digit c 8 h (omega arith))
    (skip_escape word c (c == 120) _ _ _ (other c 120 h (omega arith))
    (skip_escape word c (c == 117) _ _ _ (other c 117 h (omega arith))
    (skip_escape word c (c == 85) _ _ _ (other c 85 h (omega arith))
    (skip_escape word c (c == 10) _ _ _ (other c 10 h (omega arith))
    (skip_escape word c (is_letter c) _ _ _ (grind (arith, nat_tests)) refl)))))
high_escape word (Letter letter more) c h =
    skip_escape word c (is_digit c 16) _ _ _ (no_digit c 16 h (omega arith)) (high_inside word c h)
high_escape word (Digits radix value more) c h =
    skip_escape word c (joins (base_of radix) (limit_of radix) value c) _ _ _
    (no_joining (is_digit c (base_of radix)) _ (no_digit c (base_of radix) h (base_low radix)))
    (before_next (scalar value) word value c (high_inside word c h))
high_escape word Gap c h = skip_escape word c (is_gap c) _ _ _ (no_gap c h) (high_inside word c h)

high_step : (stage : Stage) (c : ℕ) → 128 ≤ c → (step_of stage c).next ≡ settles stage
high_step stages.BeforeCommand c h =
    skip_if (is_end c || is_blank c) _ _ _ (grind (arith, nat_tests))
    (skip_if (c == 92) _ _ _ (other c 92 h (omega arith))
    (skip_if (c == 35) _ _ _ (other c 35 h (omega arith)) (high_word c h)))
high_step stages.CommandBackslash c h =
    skip_if (c == 10) _ _ _ (other c 10 h (omega arith)) (high_escape Bare Backslash c h)
high_step stages.Comment c h =
    skip_if (c == 10) _ _ _ (other c 10 h (omega arith)) (skip_if (c == 92) _ _ _ (other c 92 h (omega arith)) refl)
high_step stages.CommentBackslash c h = refl
high_step stages.BeforeWord c h = high_word c h
high_step stages.WordBackslash c h =
    skip_if (c == 10) _ _ _ (other c 10 h (omega arith)) (high_escape Bare Backslash c h)
high_step stages.BareBackslash c h =
    skip_if (c == 10) _ _ _ (other c 10 h (omega arith)) (high_escape Bare Backslash c h)
high_step (stages.Text word) c h = high_inside word c h
high_step (stages.AfterDollar word) c h = skip_if (begins_name c) _ _ _ (grind (arith, nat_tests))
    (skip_if (c == 58) _ _ _ (other c 58 h (omega arith)) (high_inside word c h))
high_step (stages.AfterColon word) c h = skip_if (c == 58) _ _ _ (other c 58 h (omega arith)) (high_inside word c h)
high_step (stages.Escaped word stage) c h = high_escape word stage c h
high_step stages.AfterOpening c h = skip_if (c == 42) _ _ _ (other c 42 h (omega arith)) (high_braced 0 c h)
high_step stages.AfterStar c h = skip_if (c == 125) _ _ _ (other c 125 h (omega arith)) (high_braced 0 c h)
high_step (stages.Braced depth) c h = high_braced depth c h
high_step (stages.BracedBackslash depth) c h = skip_if (c == 10) _ _ _ (other c 10 h (omega arith)) refl
high_step (stages.BracedGap depth) c h = skip_if (is_gap c) _ _ _ (no_gap c h) (high_braced depth c h)
high_step (stages.Behind closing) c h =
    skip_if (is_end c) _ _ _ (no_end c h) (skip_if (is_blank c) _ _ _ (no_blank c h)
    (skip_if (c == 92) _ _ _ (other c 92 h (omega arith)) refl))
high_step (stages.BehindBackslash closing) c h = skip_if (c == 10) _ _ _ (other c 10 h (omega arith)) refl

-- such a byte leads on to where it leads from
abbrev Stays : Next → Type 0
Stays (Go stage) = settles stage ≡ Go stage
Stays End = ⊥
Stays (Refuse fault) = ⊤

stays_or : (test : Bool) (word : TextWord) → Stays (cond test (Go (stages.Text word)) (Refuse BadCharacterCode))
stays_or true word = refl
stays_or false word = tt

stays : (stage : Stage) → Stays (settles stage)
stays (stages.Escaped word (Digits radix value more)) = stays_or (scalar value) word
stays (stages.Behind closing) = tt
stays (stages.BehindBackslash closing) = tt
stays stage = refl

-- a scan over such bytes

pub later-later : (n m : ℕ) (scan : Scan) → later n (later m scan) ≡ later (n + m) scan
later-later n m (EndsAt k) = ap EndsAt (sym (add_assoc n m k))
later-later n m scan = refl

pub later-zero : (scan : Scan) → later 0 scan ≡ scan
later-zero (EndsAt k) = let e : 0 + k ≡ k = omega arith in ap EndsAt e
later-zero scan = refl

high_more : (bs rest : List ℕ) (stage : Stage) → AllHigh bs → settles stage ≡ Go stage →
    scanned (bs ++ rest) stage ≡ later (length bs) (scanned rest stage)
high_more [] rest stage h k = sym (later-zero (scanned rest stage))
high_more (b ∷ bs) rest stage h k =
    scanned-cons b (bs ++ rest) stage ∙ ap (λ next. scan_next next (scanned (bs ++ rest))) (high_step stage b h.0 ∙ k)
    ∙ ap (later 1) (high_more bs rest stage h.1 k) ∙ later-later 1 (length bs) (scanned rest stage)
    ∙ ap (λ n. later n (scanned rest stage)) (let e : 1 + length bs ≡ suc (length bs) = omega arith in e)

-- the scan from a character on, of so many bytes
abbrev wide_next : ℕ → Next → (Stage → Scan) → Scan
wide_next n (Go stage) after = later n (after stage)
wide_next n End after = EndsAt n
wide_next n (Refuse fault) after = Refused fault

high_by : (next : Next) (b : ℕ) (bs rest : List ℕ) → AllHigh bs → Stays next
    → scan_next next (scanned (bs ++ rest)) ≡ wide_next (length (b ∷ bs)) next (scanned rest)
high_by (Go stage) b bs rest h k =
    ap (later 1) (high_more bs rest stage h k) ∙ later-later 1 (length bs) (scanned rest stage)
    ∙ ap (λ n. later n (scanned rest stage)) (let e : 1 + length bs ≡ suc (length bs) = omega arith in e)
high_by End b bs rest h k = absurd k
high_by (Refuse fault) b bs rest h k = refl

high_some : (bs rest : List ℕ) (stage : Stage) → 0 < length bs → AllHigh bs →
    scanned (bs ++ rest) stage ≡ wide_next (length bs) (settles stage) (scanned rest)
high_some [] rest stage some h = absurd (omega arith)
high_some (b ∷ bs) rest stage some h =
    scanned-cons b (bs ++ rest) stage ∙ ap (λ next. scan_next next (scanned (bs ++ rest))) (high_step stage b h.0)
    ∙ high_by (settles stage) b bs rest h.1 (stays stage)

wide_one : (next : Next) (after : Stage → Scan) → scan_next next after ≡ wide_next 1 next after
wide_one (Go stage) after = refl
wide_one End after = refl
wide_one (Refuse fault) after = refl

-- a scan of a character's bytes
scan_char : (c : ℕ) (rest : List ℕ) (stage : Stage) → scanned (encode_utf8 c ++ rest) stage
    ≡ wide_next (length (encode_utf8 c)) (step_of stage c).next (scanned rest)
scan_char c rest stage = ⊎_elim
    (λ low. let one = encode_ascii c low in
    ap (λ l. scanned (l ++ rest) stage) one ∙ scanned-cons c rest stage ∙ wide_one (step_of stage c).next (scanned rest)
    ∙ ap (λ l. wide_next (length l) (step_of stage c).next (scanned rest)) (sym one))
    (λ high.
    high_some (encode_utf8 c) rest stage (let bounds = len_utf8_bounds c in
    omega (arith, length-encode c)) (encode_high c high)
    ∙ ap (λ next. wide_next (length (encode_utf8 c)) next (scanned rest)) (sym (high_step stage c high)))
    (below_or c)

-- the scan of the characters, as one of their bytes
abbrev pub widened : Scan → List ℕ → Scan
widened (EndsAt n) cs = EndsAt (length (encode_utf8_all (take n cs)))
widened (Refused fault) cs = Refused fault
widened (Reaches stage) cs = Reaches stage

wide_later : (c : ℕ) (cs : List ℕ) (scan : Scan) → later (length (encode_utf8 c)) (widened scan cs)
    ≡ widened (later 1 scan) (c ∷ cs)
wide_later c cs (EndsAt n) =
    rw (one-add n) (ap EndsAt (sym (length-append (encode_utf8 c) (encode_utf8_all (take n cs)))))
wide_later c cs (Refused fault) = refl
wide_later c cs (Reaches stage) = refl

wide_step : (next : Next) (c : ℕ) (cs : List ℕ) →
    ((stage : Stage) → scanned (encode_utf8_all cs) stage ≡ widened (scanned cs stage) cs)
    → wide_next (length (encode_utf8 c)) next (scanned (encode_utf8_all cs))
    ≡ widened (scan_next next (scanned cs)) (c ∷ cs)
wide_step (Go stage) c cs rest = ap (later (length (encode_utf8 c))) (rest stage) ∙ wide_later c cs (scanned cs stage)
wide_step End c cs rest = ap EndsAt (ap length (sym (append-nil (encode_utf8 c))))
wide_step (Refuse fault) c cs rest = refl

-- The scan of bytes is that of their characters.
pub scan_widened : (cs : List ℕ) (stage : Stage) → scanned (encode_utf8_all cs) stage ≡ widened (scanned cs stage) cs
scan_widened [] stage = scanned-nil stage ∙ ap (λ scan. widened scan []) (sym (scanned-nil stage))
scan_widened (c ∷ cs) stage =
    scan_char c (encode_utf8_all cs) stage ∙ wide_step (step_of stage c).next c cs (λ next. scan_widened cs next)
    ∙ ap (λ scan. widened scan (c ∷ cs)) (sym (scanned-cons c cs stage))

-- A byte that begins no character: 128.

abbrev HighHead : List ℕ → Type 0
HighHead [] = ⊤
HighHead (b ∷ bs) = 192 ≤ b

head_if : (test : Bool) (xs ys : List ℕ) → HighHead xs → HighHead ys → HighHead (cond test xs ys)
head_if true xs ys p q = p
head_if false xs ys p q = q

high_head : (c : ℕ) → 128 ≤ c → HighHead (encode c)
unfolding encode
high_head c h =
    let no : ltb c 128 ≡ false = grind (arith, nat_tests) in
    rw no (head_if (ltb c 2048) _ _ (omega arith) (head_if (ltb c 65536) _ _ (omega arith) (omega arith)))

no_high_head : (bs rest : List ℕ) → 0 < length bs → HighHead bs → 128 ∷ [] ≡ bs ++ rest → ⊥
no_high_head [] rest some h e = omega arith
no_high_head (b ∷ bs) rest some h e = let same : 128 ≡ b = cc in omega arith

pub broken_byte : StartsWithNoChar (128 ∷ [])
broken_byte c rest s e = ⊎_elim
    (λ low. let one = e ∙ ap (λ l. l ++ rest) (encode_ascii c low) in let same : 128 ≡ c = cc in omega arith)
    (λ high. no_high_head (encode_utf8 c) rest (let bounds = len_utf8_bounds c in
    omega (arith, length-encode c)) (high_head c high) e)
    (below_or c)
