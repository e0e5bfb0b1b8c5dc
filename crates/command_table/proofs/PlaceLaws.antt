-- Which entry of the table begins with words.
use Rattle.command_table.proofs.Common.{◌≡◌, ℕ, ◌<◌, ◌≤◌, ◌+◌, Bool, true, false, ◌&&◌, List, [], ◌∷◌, ◌++◌, length}
use Rattle.command_table.proofs.Common.{drop, get_or, refl, sym, ap, ◌∙◌, subst, arith, cond, Option, Some, None}
use Rattle.command_table.proofs.Common.{IfSome, String, string_bytes, chars, false≢true, length-map, get_or-map, Word}
use Rattle.command_table.proofs.Common.{texts_of, EntryRule, begins, entry_rule, spelled, IsPlaceOf, table, text_entry}
use Rattle.command_table.proofs.Common.{find_in, map, HasBytesAt, text_from_reads, Entry}
use Rattle.command_table.proofs.EntryLaws.{rest_at}

-- a word of which each byte is that of a word of the table
pub by_bytes : (front : List Word) (place : ℕ) (word name : List ℕ) → length word ≡ length name → HasBytesAt word 0 name
    → ((rest : List Word) → IsPlaceOf place (front ++ chars name ∷ rest))
    → (rest : List Word) → IsPlaceOf place (front ++ chars word ∷ rest)
by_bytes front place word name long reads =
    subst (λ w. (rest : List Word) → IsPlaceOf place (front ++ chars w ∷ rest))
    (sym (text_from_reads word name long reads))

-- the first word is that of a family
pub by_family : (found : Option ℕ) (family name word : List ℕ) → length family ≡ length name → HasBytesAt family 0 name
    → IfSome found (λ place. (rest : List Word) → IsPlaceOf place (chars name ∷ chars word ∷ rest))
    → IfSome found (λ place. (rest : List Word) → IsPlaceOf place (chars family ∷ chars word ∷ rest))
by_family found family name word long reads =
    subst (λ w. IfSome found (λ place. (rest : List Word) → IsPlaceOf place (chars w ∷ chars word ∷ rest)))
    (sym (text_from_reads family name long reads))

-- by the first of the words
pub by_first : {Z : Type 0} (found : Option ℕ) (words : List (String Z)) (first : String Z) (word : List ℕ) →
    0 < length words → first ≡ get_or words 0 first → word ≡ string_bytes first
    → IfSome found (λ place. (rest : List Word) → IsPlaceOf place (chars word ∷ rest))
    → IfSome found (λ place. IsPlaceOf place (texts_of words))
by_first None words first word some is same known = known
by_first (Some place) words first word some is same known =
    subst (IsPlaceOf place) (sym (rest_at words 0 first some is
    ∙ ap (λ b. chars b ∷ texts_of (drop (0 + 1) words)) (sym same))) (known (texts_of (drop (0 + 1) words)))

-- by the first two
pub by_second : {Z : Type 0} (found : Option ℕ) (words : List (String Z)) (first second : String Z)
    (one two : List ℕ) → 1 < length words → first ≡ get_or words 0 first → second ≡ get_or words 1 second
    → one ≡ string_bytes first → two ≡ string_bytes second
    → IfSome found (λ place. (rest : List Word) → IsPlaceOf place (chars one ∷ chars two ∷ rest))
    → IfSome found (λ place. IsPlaceOf place (texts_of words))
by_second None words first second one two some is next same other known = known
by_second (Some place) words first second one two some is next same other known =
    let rest = texts_of (drop (1 + 1) words) in
    subst (IsPlaceOf place) (sym (rest_at words 0 first (omega arith) is
    ∙ ap (λ b. chars b ∷ texts_of (drop (0 + 1) words)) (sym same)
    ∙ ap (λ ws. chars one ∷ ws) (rest_at words 1 second some next ∙ ap (λ b. chars b ∷ rest) (sym other)))) (known rest)

-- a place by the first word alone, whatever the second is
pub whatever_next : (found : Option ℕ) (first second : Word) →
    IfSome found (λ place. (rest : List Word) → IsPlaceOf place (first ∷ rest))
    → IfSome found (λ place. (rest : List Word) → IsPlaceOf place (first ∷ second ∷ rest))
whatever_next None first second known = known
whatever_next (Some place) first second known = λ rest. known (second ∷ rest)

-- the entry at the place
pub entry_at : (entries : List Entry) (words : List Word) (place : ℕ) (entry : Entry) → map entry_rule entries ≡ table →
    IsPlaceOf place words → Some (entry_rule (get_or entries place entry)) ≡ find_in table words
entry_at entries words place entry are (within, found) =
    let inside : place < length entries = rw (sym (length-map entries entry_rule), are) within in
    sym (found ∙ ap (λ l. Some (get_or l place text_entry)) (sym are)
    ∙ ap Some (get_or-map entry_rule entries place entry text_entry inside))

and_right : (a b : Bool) → (a && b) ≡ true → b ≡ true
and_right true b is = is
and_right false b is = absurd (false≢true is)

begins-short : (front words : List Word) → begins front words ≡ true → length front ≤ length words
begins-short [] words is = omega arith
begins-short (first ∷ front) [] is = absurd (false≢true is)
begins-short (first ∷ front) (word ∷ words) is =
    let rest = begins-short front words (and_right _ _ is) in omega (arith, rest)

-- a subcommand that begins words has no more of them
found-short : (entries : List EntryRule) (words : List Word) →
    IfSome (find_in entries words) (λ entry. length entry.spelling ≤ length words)
found-short [] words = _
found-short (entry ∷ entries) words =
    elim (begins entry.spelling words) as (λ b. begins entry.spelling words ≡ b →
    IfSome (cond b (Some entry) (find_in entries words)) (λ entry. length entry.spelling ≤ length words)) [
      | true ↦ λ is. begins-short entry.spelling words is
      | false ↦ λ isn't. found-short entries words
    ] refl

pub entry-short : {Z : Type 0} (entry : Entry) (words : List (String Z)) →
    Some (entry_rule entry) ≡ find_in table (texts_of words) → length (spelled entry.spelling) ≤ length words
entry-short entry words is =
    let short : length (spelled entry.spelling) ≤ length (texts_of words) =
    subst (λ found. IfSome found (λ r. length r.spelling ≤ length (texts_of words))) (sym is)
    (found-short table (texts_of words)) in
    rw (← length-map words (λ w. chars (string_bytes w))) short
