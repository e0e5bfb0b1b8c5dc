-- The words after a subcommand, how a run of switches goes on, and when words are too many to begin a subcommand.
use Rattle.command_table.proofs.Common.{◌≡◌, ℕ, ◌+◌, ◌<◌, Bool, true, false, ◌&&◌, List, [], ◌∷◌, ◌++◌, length, take}
use Rattle.command_table.proofs.Common.{drop, get_or, refl, sym, ap, ◌∙◌, arith, append_assoc, add-one, Err, String}
use Rattle.command_table.proofs.Common.{chars, string_bytes, if◌then◌else◌, length-map, drop_more, get_or-map, go_on}
use Rattle.command_table.proofs.Common.{unknown, Word, texts_of, is_same, is_dashed, SwitchRule, begins, ends_switches}
use Rattle.command_table.proofs.Common.{dashed_words, ◌-◌, ap₂, Some, take_rest, drop-map, spelled, entry_rule, behind}
use Rattle.command_table.proofs.Common.{found, Entry}
use Rattle.std.proofs.Math.Seq.{take-suc}
use Rattle.command_table.specs.declared.shapes.ShapeFault.TheVariants.{BadOption, WrongArguments}

and_false : (b : Bool) → (b && false) ≡ false
and_false true = refl
and_false false = refl

-- words that are more than a list has don't begin it
pub begins-longer : (words list : List Word) → length list < length words → begins words list ≡ false
begins-longer [] list more = absurd (omega arith)
begins-longer (w ∷ words) [] more = refl
begins-longer (w ∷ words) (x ∷ list) more =
    ap (λ b. is_same x w && b) (begins-longer words list (omega arith)) ∙ and_false (is_same x w)

-- the text of the string at a place
abbrev text : {Z : Type 0} → String Z → Word
text word = chars (string_bytes word)

pub rest_at : {Z : Type 0} (words : List (String Z)) (i : ℕ) (word : String Z) → i < length words →
    word ≡ get_or words i word
    → texts_of (drop i words) ≡ text word ∷ texts_of (drop (i + 1) words)
rest_at words i word within is =
    ap texts_of (drop_more words i word within) ∙ ap (λ x. text x ∷ texts_of (drop (i + 1) words)) (sym is)

front_at : {Z : Type 0} (words : List (String Z)) (i : ℕ) (word : String Z) → i < length words →
    word ≡ get_or words i word
    → take (i + 1) (texts_of words) ≡ take i (texts_of words) ++ text word ∷ []
front_at words i word within is =
    ap (λ k. take k (texts_of words)) (add-one i)
    ∙ take-suc (texts_of words) i (text word) (rw (length-map words (λ w. text w)) within)
    ∙ ap (λ x. take i (texts_of words) ++ x ∷ []) (get_or-map (λ w. text w) words i word (text word) within
    ∙ ap text (sym is))

one_dashed : (rule : SwitchRule) (word : Word) (rest : List Word) → is_dashed word ≡ true
    → dashed_words rule (word ∷ rest) ≡ word ∷ (if ends_switches rule word then [] else dashed_words rule rest)
one_dashed rule word rest dashed =
    ap (λ b. if b then word ∷ (if ends_switches rule word then [] else dashed_words rule rest) else []) dashed

-- a word that goes on with the run
pub run_goes_on : {Z : Type 0} (rule : SwitchRule) (words : List (String Z)) (i : ℕ) (word : String Z) →
    i < length words → word ≡ get_or words i word
    → is_dashed (text word) ≡ true → ends_switches rule (text word) ≡ false
    → take i (texts_of words) ++ dashed_words rule (texts_of (drop i words))
    ≡ take (i + 1) (texts_of words) ++ dashed_words rule (texts_of (drop (i + 1) words))
run_goes_on rule words i word within is dashed goes =
    let rest = texts_of (drop (i + 1) words) in
    ap (λ ws. take i (texts_of words) ++ dashed_words rule ws) (rest_at words i word within is)
    ∙ ap (λ ws. take i (texts_of words) ++ ws) (one_dashed rule (text word) rest dashed
    ∙ ap (λ b. text word ∷ (if b then [] else dashed_words rule rest)) goes)
    ∙ sym (append_assoc (take i (texts_of words)) (text word ∷ []) (dashed_words rule rest))
    ∙ ap (λ ws. ws ++ dashed_words rule rest) (sym (front_at words i word within is))

-- a word that ends the run is the last of it
pub run_ends : {Z : Type 0} (rule : SwitchRule) (words : List (String Z)) (i : ℕ) (word : String Z) → i < length words →
    word ≡ get_or words i word
    → is_dashed (text word) ≡ true → ends_switches rule (text word) ≡ true
    → take i (texts_of words) ++ dashed_words rule (texts_of (drop i words)) ≡ take (i + 1) (texts_of words)
run_ends rule words i word within is dashed ends =
    let rest = texts_of (drop (i + 1) words) in
    ap (λ ws. take i (texts_of words) ++ dashed_words rule ws) (rest_at words i word within is)
    ∙ ap (λ ws. take i (texts_of words) ++ ws) (one_dashed rule (text word) rest dashed
    ∙ ap (λ b. text word ∷ (if b then [] else dashed_words rule rest)) ends)
    ∙ sym (front_at words i word within is)

pub begins-too_many : {Z : Type 0} (words : List (String Z)) (list : List Word) (count : ℕ) → length list ≡ count →
    count < length words
    → false ≡ begins (texts_of words) list
begins-too_many words list count is more =
    sym (begins-longer (texts_of words) list (rw (is, length-map words (λ w. text w)) more))

-- a word alone that begins no subcommand, and no word
pub unknown-short : (words : List Word) → length words < 2 → go_on words ≡ false → unknown words ≡ Err (BadOption 1)
unknown-short [] short none =
    ap (λ b. if b then Err WrongArguments else (if b then Err (BadOption 2) else Err (BadOption 1))) none
unknown-short (word ∷ []) short none =
    ap (λ b. if b then Err WrongArguments else (if b then Err (BadOption 2) else Err (BadOption 1))) none
unknown-short (word ∷ next ∷ words) short none = absurd (omega (arith, short))

-- the words from one on, as a slice of them has them
pub rest_from : {Z : Type 0} (words : List (String Z)) (i : ℕ) →
    texts_of (take (length words - i) (drop i words)) ≡ drop i (texts_of words)
rest_from words i = ap texts_of (take_rest words i) ∙ sym (drop-map (λ word. text word) i words)

pub first_and_rest : {Z : Type 0} (words : List (String Z)) (first : String Z) (bytes : List ℕ) → 0 < length words →
    first ≡ get_or words 0 first → bytes ≡ string_bytes first
    → chars bytes ∷ texts_of (take (length words - 1) (drop 1 words)) ≡ texts_of words
first_and_rest words first bytes some is same =
    ap₂ (λ b rest. chars b ∷ texts_of rest) same (take_rest words 1) ∙ sym (rest_at words 0 first some is)

-- what the entry that was found says of the words after its subcommand
pub found-behind : {Z : Type 0} (entry : Entry) (words : List (String Z)) (count : ℕ) →
    count ≡ length (spelled entry.spelling)
    → behind (entry_rule entry) (1 + count) (texts_of (take (length words - count) (drop count words)))
    ≡ found (texts_of words) (Some (entry_rule entry))
found-behind entry words count is =
    ap (behind (entry_rule entry) (1 + count)) (rest_from words count)
    ∙ ap (λ n. behind (entry_rule entry) (1 + n) (drop n (texts_of words))) is
