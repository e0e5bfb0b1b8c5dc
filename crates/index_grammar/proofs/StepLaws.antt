-- The first modifier of a list of tokens.
use Rattle.index_grammar.proofs.Common.{◌≡◌, ℕ, Bool, true, false, List, [], ◌∷◌, ◌++◌, Option, Some, None, refl, sym}
use Rattle.index_grammar.proofs.Common.{ap, ◌∙◌, append_assoc, bytes_eq, codes, option_map, if◌then◌else◌}
use Rattle.index_grammar.proofs.Common.{bytes_eq-Decides, Token, modifiers_of, before, counted, number_of}
use Rattle.index_grammar.proofs.Common.{saturated_modifier, keyword_of, abbreviates, Sign, Digits, Word, digits_first}
use Rattle.index_grammar.proofs.Common.{unit_first, saturated, after, Modifier, length, ◌==◌, arith, tokens_of}
use Rattle.index_grammar.proofs.Common.{Decides-eqb}
use Rattle.index_grammar.proofs.TokenLaws.{piece-none}
use Rattle.index_grammar.specs.declared.indices.Modifier.TheVariants as modifier

abbrev pub any_bytes : List ℕ
any_bytes = 97 ∷ 110 ∷ 121 ∷ []

saturated-before : (first : Option Modifier) (others : Option (List Modifier)) →
    saturated (before first others) ≡ before (option_map saturated_modifier first) (saturated others)
saturated-before None others = refl
saturated-before (Some m) None = refl
saturated-before (Some m) (Some ms) = refl

any-unit : (forward : Bool) (number : Option ℕ) (others : Option (List Modifier)) →
    before (counted forward number any_bytes) others ≡ None
any-unit forward None others = refl
any-unit forward (Some n) others = refl

any-alone : (forward : Bool) (digits word : List ℕ) (others : Option (List Modifier)) → bytes_eq word any_bytes ≡ true →
    before (counted forward (number_of digits) word) others ≡ None
any-alone forward digits word others same = ap (λ w. before (counted forward (number_of digits) w) others)
    ((bytes_eq-Decides word any_bytes).0 same) ∙ any-unit forward (number_of digits) others

-- a count of a unit before other modifiers, by the unit that is found behind the digits
abbrev before_unit : Bool → List ℕ → Option (List ℕ × List Token) → Option (List Modifier)
before_unit forward digits None = None
before_unit forward digits (Some found) = before (counted forward (number_of digits) found.0) (modifiers_of found.1)

abbrev before_counted : Bool → Option (List ℕ × List Token) → Option (List Modifier)
before_counted forward None = None
before_counted forward (Some found) = before_unit forward found.0 (unit_first found.1)

-- a word that no other word follows
lone-word : (forward : Bool) (digits word : List ℕ) (behind : List Token)
    → before (counted forward (number_of digits) word) (modifiers_of behind)
    ≡ before_unit forward digits (if bytes_eq word any_bytes then None else Some (word, behind))
lone-word forward digits word behind =
    elim (bytes_eq word any_bytes) as (λ b. bytes_eq word any_bytes ≡ b
    → before (counted forward (number_of digits) word) (modifiers_of behind)
    ≡ before_unit forward digits (if b then None else Some (word, behind))) [
      | true ↦ λ same. any-alone forward digits word (modifiers_of behind) same
      | false ↦ λ _. refl
    ] refl

two-words : (forward : Bool) (digits word next : List ℕ) (tokens : List Token)
    → modifiers_of (Sign forward ∷ Digits digits ∷ Word word ∷ Word next ∷ tokens)
    ≡ before_unit forward digits (unit_first (Word word ∷ Word next ∷ tokens))
two-words forward digits word next tokens =
    elim (bytes_eq word any_bytes) as (λ b.
    (if b then before (counted forward (number_of digits) next) (modifiers_of tokens)
    else before (counted forward (number_of digits) word) (modifiers_of (Word next ∷ tokens)))
    ≡ before_unit forward digits (if b then Some (next, tokens) else Some (word, Word next ∷ tokens))) [
      | true ↦ refl
      | false ↦ refl
    ]

counted-unit : (forward : Bool) (digits : List ℕ) (tokens : List Token) →
    modifiers_of (Sign forward ∷ Digits digits ∷ tokens) ≡ before_unit forward digits (unit_first tokens)
counted-unit forward digits [] = refl
counted-unit forward digits (Sign f ∷ tokens) = refl
counted-unit forward digits (Digits d ∷ tokens) = refl
counted-unit forward digits (Word word ∷ []) = lone-word forward digits word []
counted-unit forward digits (Word word ∷ Sign f ∷ tokens) = lone-word forward digits word (Sign f ∷ tokens)
counted-unit forward digits (Word word ∷ Digits d ∷ tokens) = lone-word forward digits word (Digits d ∷ tokens)
counted-unit forward digits (Word word ∷ Word next ∷ tokens) = two-words forward digits word next tokens

counted-as : (forward : Bool) (tokens : List Token) → modifiers_of (Sign forward ∷ tokens)
    ≡ before_counted forward (digits_first tokens)
counted-as forward [] = refl
counted-as forward (Sign f ∷ tokens) = refl
counted-as forward (Digits d ∷ tokens) = counted-unit forward d tokens
counted-as forward (Word w ∷ tokens) = refl

-- what follows a sign, by the digits and the unit that are found
pub no-digits : (forward : Bool) (tokens : List Token) → digits_first tokens ≡ None →
    saturated (modifiers_of (Sign forward ∷ tokens)) ≡ None
no-digits forward tokens none =
    ap saturated (counted-as forward tokens) ∙ ap (λ found. saturated (before_counted forward found)) none

pub no-unit : (forward : Bool) (digits : List ℕ) (tokens behind : List Token) →
    digits_first tokens ≡ Some (digits, behind) → unit_first behind ≡ None
    → saturated (modifiers_of (Sign forward ∷ tokens)) ≡ None
no-unit forward digits tokens behind some none =
    ap saturated (counted-as forward tokens) ∙ ap (λ found. saturated (before_counted forward found)) some
    ∙ ap (λ found. saturated (before_unit forward digits found)) none

pub counted-found : (forward : Bool) (digits word : List ℕ) (tokens middle behind : List Token)
    (found : Option Modifier) → digits_first tokens ≡ Some (digits, middle)
    → unit_first middle ≡ Some (word, behind) → found
    ≡ option_map saturated_modifier (counted forward (number_of digits) word)
    → saturated (modifiers_of (Sign forward ∷ tokens)) ≡ before found (saturated (modifiers_of behind))
counted-found forward digits word tokens middle behind found some unit is =
    ap saturated (counted-as forward tokens) ∙ ap (λ first. saturated (before_counted forward first)) some
    ∙ ap (λ first. saturated (before_unit forward digits first)) unit
    ∙ saturated-before (counted forward (number_of digits) word) (modifiers_of behind)
    ∙ ap (λ m. before m (saturated (modifiers_of behind))) (sym is)

pub keyword-step : (word : List ℕ) (tokens : List Token) →
    saturated (modifiers_of (Word word ∷ tokens))
    ≡ before (option_map saturated_modifier (keyword_of word)) (saturated (modifiers_of tokens))
keyword-step word tokens = saturated-before (keyword_of word) (modifiers_of tokens)

pub after-step : (first : List Modifier) (m : Modifier) (others : Option (List Modifier)) →
    after first (before (Some m) others) ≡ after (first ++ m ∷ []) others
after-step first m None = refl
after-step first m (Some ms) = ap Some (sym (append_assoc first (m ∷ []) ms))

keywords : (a b c d : Bool) → option_map saturated_modifier (if a then Some modifier.LineStart
    else (if b then Some modifier.LineEnd else (if c then Some modifier.WordStart
    else (if d then Some modifier.WordEnd else None))))
    ≡ (if a then Some modifier.LineStart else (if b then Some modifier.LineEnd
    else (if c then Some modifier.WordStart else (if d then Some modifier.WordEnd else None))))
keywords true b c d = refl
keywords false true c d = refl
keywords false false true d = refl
keywords false false false true = refl
keywords false false false false = refl

pub keyword-found : (word : List ℕ) (tokens : List Token) (found : Option Modifier) → found ≡ keyword_of word
    → saturated (modifiers_of (Word word ∷ tokens)) ≡ before found (saturated (modifiers_of tokens))
keyword-found word tokens found is =
    keyword-step word tokens
    ∙ ap (λ m. before m (saturated (modifiers_of tokens)))
    (keywords (abbreviates word 5 (codes "linestart")) (abbreviates word 5 (codes "lineend"))
    (abbreviates word 5 (codes "wordstart")) (abbreviates word 5 (codes "wordend")) ∙ sym is)

-- no text is no modifier
pub no-steps : (text : List ℕ) → true ≡ (length text == 0) → saturated (modifiers_of (tokens_of text)) ≡ Some []
no-steps [] none = ap (λ ts. saturated (modifiers_of ts)) (piece-none [] refl)
no-steps (c ∷ cs) none =
    let empty : length (c ∷ cs) ≡ 0 = (Decides-eqb (length (c ∷ cs)) 0).0 (sym none) in absurd (omega (arith, empty))
