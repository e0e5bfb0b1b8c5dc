-- The lines of a view, as options give them.
use Rattle.peers.proofs.Common.{◌≡◌, ℕ, ◌+◌, ◌<◌, ◌≤◌, true, false, List, [], ◌∷◌, refl, subst, arith, ℤ, pos, negsuc}
use Rattle.peers.proofs.Common.{ok_or, option_and_then, IfSome, nat_tests, boolean_of, integer_of, Fault, BadBoolean}
use Rattle.peers.proofs.Common.{BadInteger, BadOption, StartLineAfterEndLine, Settings, with_value, end_bound}
use Rattle.peers.proofs.Common.{is_behind, line_numbered, line_of_word, setting_read, settings_checked, settings_read}
use Rattle.peers.proofs.Common.{start_bound, state_of, is_same, literal, AreLines, IsLine, option_map, nat_lt, nat_le}
use Rattle.peers.proofs.Common.{Bool, IfOk, Option, None, Some, Result, Ok, Err, if◌then◌else◌}

-- ---- values that are found

value-found : {A : Type 0} (found : Result A Fault) (P : A → Type 0) (value : A) → IfOk found P → found ≡ Ok value →
    P value
value-found (Ok other) P value holds is = (let same : other ≡ value = cc in subst P same holds)
value-found (Err fault) P value holds is = absurd (cc)

pub through : {A : Type 0} (found : Result A Fault) (next : A → Result Settings Fault) (P : Settings → Type 0) →
    ((value : A) → found ≡ Ok value → IfOk (next value) P) → IfOk (with_value found next) P
through (Ok value) next P holds = holds value refl
through (Err fault) next P holds = tt

pub if-ok : (P : Settings → Type 0) (test : Bool) (one other : Result Settings Fault) → IfOk one P → IfOk other P →
    IfOk (if test then one else other) P
if-ok P true one other first second = first
if-ok P false one other first second = second

-- ---- lines

abbrev IsPositive : ℕ → Type 0
IsPositive line = 0 < line

numbered : (number : ℤ) → IfSome (line_numbered number) IsPositive
numbered (pos number) =
    elim (nat_lt 0 number) as (λ b. nat_lt 0 number ≡ b → IfSome (if b then Some number else None) IsPositive) [
      | true ↦ λ above. grind (arith, nat_tests, above)
      | false ↦ λ _. tt
    ] refl
numbered (negsuc n) = tt

abbrev lines_found : Option ℤ → Option (Option ℕ)
lines_found found = option_and_then (λ number. option_map (λ line. Some line) (line_numbered number)) found

some-line : (line : Option ℕ) → IfSome line IsPositive →
    IfSome (option_map (λ l. Some l) line) (λ l. IfSome l IsPositive)
some-line None positive = tt
some-line (Some line) positive = positive

found-line : (found : Option ℤ) → IfSome (lines_found found) (λ l. IfSome l IsPositive)
found-line None = tt
found-line (Some number) = some-line (line_numbered number) (numbered number)

of-word : (value : List ℕ) → IfSome (line_of_word value) (λ l. IfSome l IsPositive)
of-word [] = tt
of-word (character ∷ characters) = found-line (integer_of (character ∷ characters))

at-word : (found : Option (Option ℕ)) (fault : Fault) (line : Option ℕ) → IfSome found (λ l. IfSome l IsPositive) →
    ok_or found fault ≡ Ok line → IfSome line IsPositive
at-word None fault line holds is = absurd (let h : Err fault ≡ Ok line = is in cc)
at-word (Some other) fault line holds is =
    (let h : Ok other ≡ Ok line = is in let same : other ≡ line = cc in subst (λ l. IfSome l IsPositive) same holds)

starts : (lines : ℕ) (line : Option ℕ) → IfSome line IsPositive → IfSome (start_bound lines line) (IsLine lines)
starts lines None positive = tt
starts lines (Some line) positive = (omega (arith, positive), omega arith)

ends : (lines : ℕ) (line : Option ℕ) → IfSome line IsPositive → IfSome (end_bound lines line) (IsLine lines)
ends lines None positive = tt
ends lines (Some line) positive =
    elim (nat_le line lines) as (λ b. nat_le line lines ≡ b → IfSome (if b then Some line else None) (IsLine lines)) [
      | true ↦ λ within. (positive, (let h : line ≤ lines = grind (arith, nat_tests, within) in omega (arith, h)))
      | false ↦ λ _. tt
    ] refl

-- ---- options

-- an option more
one-lines : (lines position : ℕ) (option value : List ℕ) (settings : Settings) → AreLines lines settings →
    IfOk (setting_read lines position option value settings) (AreLines lines)
one-lines lines position option value settings are =
    let P : Settings → Type 0 = AreLines lines in
    if-ok P (is_same option (literal "-undo")) _ _
    (through (ok_or (boolean_of value) (BadBoolean position)) _ P (λ _ _. record { start = are.start; end = are.end }))
    (if-ok P (is_same option (literal "-maxundo")) _ _
    (through (ok_or (integer_of value) (BadInteger position)) _ P (λ _ _. record { start = are.start; end = are.end }))
    (if-ok P (is_same option (literal "-autoseparators")) _ _
    (through (ok_or (boolean_of value) (BadBoolean position)) _ P (λ _ _. record { start = are.start; end = are.end }))
    (if-ok P (is_same option (literal "-state")) _ _
    (through (ok_or (state_of value) (BadOption position)) _ P (λ _ _. record { start = are.start; end = are.end }))
    (if-ok P (is_same option (literal "-startline")) _ _
    (through (ok_or (line_of_word value) (BadInteger position)) _ P (λ line is. record {
      start = starts lines line (at-word (line_of_word value) (BadInteger position) line (of-word value) is);
      end = are.end;
    }))
    (through (ok_or (line_of_word value) (BadInteger position)) _ P (λ line is. record {
      start = are.start;
      end = ends lines line (at-word (line_of_word value) (BadInteger position) line (of-word value) is);
    }))))))

-- all of them
read-lines : (lines position : ℕ) (words : List (List ℕ)) (settings : Settings) → AreLines lines settings →
    IfOk (settings_read lines position words settings) (AreLines lines)
read-lines lines position [] settings are = are
read-lines lines position (option ∷ []) settings are = tt
read-lines lines position (option ∷ value ∷ words) settings are =
    through (setting_read lines (position + 1) option value settings) (settings_read lines (position + 2) words) (AreLines lines)
    (λ next is. read-lines lines (position + 2) words next
    (value-found (setting_read lines (position + 1) option value settings) (AreLines lines) next
    (one-lines lines (position + 1) option value settings are) is))

checked-so : (P : Settings → Type 0) (settings : Settings) → P settings → IfOk (settings_checked settings) P
checked-so P settings holds = elim (is_behind settings.start settings.end) as (λ b.
    IfOk (if b then Err StartLineAfterEndLine else Ok settings) P) [
      | true ↦ tt
      | false ↦ holds
    ]

pub given-lines : (lines position : ℕ) (words : List (List ℕ)) (settings : Settings) → AreLines lines settings →
    IfOk (with_value (settings_read lines position words settings) settings_checked) (AreLines lines)
given-lines lines position words settings are =
    through (settings_read lines position words settings) settings_checked (AreLines lines)
    (λ made is. checked-so (AreLines lines) made
    (value-found (settings_read lines position words settings) (AreLines lines) made
    (read-lines lines position words settings are) is))
