-- How long a closed front of a word may be if it is a name, from what stands behind those names that begin it.
use Rattle.index_grammar.proofs.Common.{◌≡◌, ◌≢◌, ℕ, suc, ◌+◌, ◌-◌, ◌<◌, ◌≤◌, true, false, cond, List, [], ◌∷◌, ◌++◌}
use Rattle.index_grammar.proofs.Common.{map, take, drop, length, get_or, refl, sym, ap, ◌∙◌, arith, chars, IsUtf8}
use Rattle.index_grammar.proofs.Common.{bytes_eq, encode_utf8_all, find, slice_get, nat_lt, nat_eq, option_map}
use Rattle.index_grammar.proofs.Common.{if◌then◌else◌, MatchOption, ends_with, nat_tests, Decides-ltb, take-append-drop}
use Rattle.index_grammar.proofs.Common.{length-drop, length-take, length-append, append-nil, bytes_eq-Decides}
use Rattle.index_grammar.proofs.Common.{encodes-chars, IsUtf8-take, IsCharBoundary-before_ascii, Mark, closes, IsBound}
use Rattle.index_grammar.proofs.Common.{marked, tagged, known_marks, known_tags, min, ◌==◌, Option, Some, None}
use Rattle.index_grammar.proofs.Common.{append_assoc, Bor}
use Rattle.std.proofs.Math.Seq.{get_or-append_seam}
use Rattle.tag_table.specs.Tags.{Tag}
use Rattle.index_grammar.proofs.CharLaws.{break-boundary}
use Rattle.index_grammar.proofs.TokenLaws.{drop-front}
use Rattle.index_grammar.proofs.NameLaws.{insert_bytes, current_bytes, known-shared}
use Rattle.index_grammar.proofs.TagLaws.{first_bytes, last_bytes, ends-front, tagged-first, tagged-last, tagged-none}
use Rattle.mark_table.specs.SharedMarks as shared_marks
use Rattle.tag_table.specs.Tags as shared_tags
use Rattle.index_grammar.specs.declared.indices.Base.TheVariants as base

-- how many bytes stand behind a name with its ending, where these are a closed front
abbrev pub IsBehind : List ℕ → List ℕ → ℕ → Type 0
IsBehind word front behind = (rest : List ℕ) → word ≡ front ++ rest → closes rest ≡ true → behind ≡ length rest

-- at least so many bytes stand behind each of these names with an ending, where these are a closed front
abbrev pub AreBehind : List ℕ → List (List ℕ) → List ℕ → ℕ → Type 0
AreBehind word names ending behind = (place : ℕ) (name rest : List ℕ) → slice_get names place ≡ Some name
    → word ≡ encode_utf8_all name ++ ending ++ rest → closes rest ≡ true → behind ≤ length rest

differ : (a b : List ℕ) → (a ≡ b → ⊥) → bytes_eq a b ≡ false
differ a b denied = elim (bytes_eq a b) as (λ t. bytes_eq a b ≡ t → t ≡ false) [
  | true ↦ λ is. absurd (denied ((bytes_eq-Decides a b).0 is))
  | false ↦ λ _. refl
] refl

find-none : {A : Type 0} (name_of : A → List ℕ) (name : List ℕ) (xs : List A)
    → ((place : ℕ) (other : List ℕ) → slice_get (map name_of xs) place ≡ Some other → name ≡ other → ⊥)
    → find (λ x. bytes_eq name (name_of x)) xs ≡ None
find-none name_of name [] denied = refl
find-none name_of name (x ∷ xs) denied =
    ap (λ b. cond b (Some x) (find (λ x. bytes_eq name (name_of x)) xs))
    (differ name (name_of x) (denied 0 (name_of x) refl))
    ∙ find-none name_of name xs (λ place. denied (suc place))

unmarked : (marks : List Mark) (widget : ℕ) (front : List ℕ) → IsUtf8 front → (front ≡ insert_bytes → ⊥)
    → (front ≡ current_bytes → ⊥)
    → ((place : ℕ) (name : List ℕ) → slice_get (shared_marks.names_of marks) place ≡ Some name →
    front ≡ encode_utf8_all name → ⊥)
    → marked (known_marks marks widget) (chars front) ≡ None
unmarked marks widget front text isn't nor denied =
    ap (option_map (λ number. base.Mark (record { 0 = number })))
    (sym (known-shared marks widget front text (differ front insert_bytes isn't) (differ front current_bytes nor))
    ∙ ap (option_map (λ (mark : Mark). mark.number))
    (find-none (λ (mark : Mark). mark.name) (chars front) marks (λ place other there same.
    denied place other there (sym (encodes-chars front text) ∙ ap encode_utf8_all same))))

untagged : (tags : List Tag) (widget : ℕ) (name : List ℕ) → IsUtf8 name
    → ((place : ℕ) (other : List ℕ) → slice_get (shared_tags.names_of tags) place ≡ Some other →
    name ≡ encode_utf8_all other → ⊥)
    → known_tags tags widget (chars name) ≡ None
untagged tags widget name text denied =
    ap (λ found. option_map (λ slot. if slot == 0 then widget else slot) (option_map (λ (tag : Tag). tag.slot) found))
    (find-none (λ (tag : Tag). tag.name) (chars name) tags (λ place other there same.
    denied place other there (sym (encodes-chars name text) ∙ ap encode_utf8_all same)))

-- a closed front with less behind it than a name leaves isn't that name
too-long : (word front rest other : List ℕ) (behind fewest : ℕ) → word ≡ front ++ rest → closes rest ≡ true →
    length rest < fewest → fewest ≤ behind → (word ≡ other ++ rest → behind ≤ length rest) → front ≡ other → ⊥
too-long word front rest other behind fewest whole closed less least found same =
    let left : behind ≤ length rest = found (whole ∙ ap (λ xs. xs ++ rest) same) in
    omega (arith, left, less, least)

pub cancel : (front a b : List ℕ) → front ++ a ≡ front ++ b → a ≡ b
cancel front a b same = sym (drop-front front a) ∙ ap (drop (length front)) same ∙ drop-front front b

-- what is behind a name and its ending, each taken off by itself
pub stripped : (word name ending rest : List ℕ) (found : Option (Bor (List ℕ))) → word ≡ name ++ rest
    → MatchOption found ((behind : List ℕ) → rest ≢ ending ++ behind) (λ behind. rest ≡ ending ++ behind.now)
    → MatchOption found ((behind : List ℕ) → word ≢ name ++ ending ++ behind)
    (λ behind. word ≡ name ++ ending ++ behind.now)
stripped word name ending rest None whole denied = λ behind split. denied behind
    (cancel name rest (ending ++ behind) (sym whole ∙ split ∙ append_assoc name ending behind))
stripped word name ending rest (Some behind) whole is =
    whole ∙ ap (λ xs. name ++ xs) is ∙ sym (append_assoc name ending behind.now)

-- with the name at the next place looked at too
pub next-behind : (names : List (List ℕ)) (word ending this : List ℕ) (place fewest behind next : ℕ)
    → ((at : ℕ) (name rest : List ℕ) → at < place → slice_get names at ≡ Some name
    → word ≡ encode_utf8_all name ++ ending ++ rest → closes rest ≡ true → fewest ≤ length rest)
    → slice_get names place ≡ Some (chars this) → IsUtf8 this → IsBehind word (this ++ ending) behind
    → next ≡ min fewest behind → (at : ℕ) (name rest : List ℕ) → at < place + 1 → slice_get names at ≡ Some name
    → word ≡ encode_utf8_all name ++ ending ++ rest → closes rest ≡ true → next ≤ length rest
next-behind names word ending this place fewest behind next old here text found is at name rest lt there split closed =
    elim (nat_lt at place) as (λ b. nat_lt at place ≡ b → next ≤ length rest) [
      | true ↦ λ below.
          let kept : fewest ≤ length rest = old at name rest ((Decides-ltb at place).0 below) there split closed in
          omega (arith, kept, is)
      | false ↦ λ not_below.
          let same : at ≡ place = grind (arith, nat_tests) in
          let spelled : Some (chars this) ≡ Some name = sym here ∙ ap (slice_get names) (sym same) ∙ there in
          let named : chars this ≡ name = cc in
          let bytes : encode_utf8_all name ≡ this = ap encode_utf8_all (sym named) ∙ encodes-chars this text in
          let left : behind ≡ length rest = found rest (split ∙ ap (λ xs. xs ++ ending ++ rest) bytes) closed in
          omega (arith, left, is)
    ] refl

pub marks-bound : (marks : List Mark) (widget : ℕ) (word : List ℕ) (fewest insert current shared : ℕ) → IsUtf8 word
    → IsBehind word insert_bytes insert → IsBehind word current_bytes current
    → AreBehind word (shared_marks.names_of marks) [] shared
    → fewest ≡ min (min shared insert) current
    → IsBound (marked (known_marks marks widget)) word (length word - fewest)
marks-bound marks widget word fewest insert current shared text own also others is end more within closed =
    let whole : word ≡ take end word ++ drop end word = sym (take-append-drop end word) in
    let less : length (drop end word) < fewest = omega (arith, length-drop end word, more, within) in
    unmarked marks widget (take end word) (IsUtf8-take word end text (break-boundary word end within closed))
    (too-long word (take end word) (drop end word) insert_bytes insert fewest whole closed less
    (omega (arith, is)) (λ split. omega (arith, own (drop end word) split closed)))
    (too-long word (take end word) (drop end word) current_bytes current fewest whole closed less
    (omega (arith, is)) (λ split. omega (arith, also (drop end word) split closed)))
    (λ place name there same. too-long word (take end word) (drop end word) (encode_utf8_all name ++ []) shared fewest
    whole closed less (omega (arith, is)) (λ split. others place name (drop end word) there split closed)
    (same ∙ sym (append-nil (encode_utf8_all name))))

-- what stands before an ending
front-text : (front name : List ℕ) (c at : ℕ) (cs : List ℕ) → front ≡ name ++ c ∷ cs → at ≡ length name →
    nat_lt c 128 ≡ true → IsUtf8 front → IsUtf8 (take at front)
front-text front name c at cs split long low text =
    let here : get_or front at 0 ≡ c = ap (λ xs. get_or xs at 0) split
    ∙ ap (λ k. get_or (name ++ c ∷ cs) k 0) long ∙ get_or-append_seam name c cs 0 in
    let small : c < 128 = (Decides-ltb c 128).0 low in
    IsUtf8-take front at text (IsCharBoundary-before_ascii front at
    (omega (arith, ap length split, length-append name (c ∷ cs), long)) (omega (arith, here, small)))

-- a closed front with less behind it than each tag's name with an ending leaves
no-tag : (tags : List Tag) (widget : ℕ) (word front rest : List ℕ) (c : ℕ) (cs : List ℕ) (behind fewest : ℕ)
    → nat_lt c 128 ≡ true → IsUtf8 front → ends_with nat_eq front (c ∷ cs) ≡ true → word ≡ front ++ rest
    → closes rest ≡ true → length rest < fewest → fewest ≤ behind
    → AreBehind word (shared_tags.names_of tags) (c ∷ cs) behind
    → IsUtf8 (take (length front - length (c ∷ cs)) front)
    × (known_tags tags widget (chars (take (length front - length (c ∷ cs)) front)) ≡ None)
no-tag tags widget word front rest c cs behind fewest low text ends whole closed less least behinds =
    let split : front ≡ take (length front - length (c ∷ cs)) front ++ c ∷ cs = ends-front front (c ∷ cs) ends in
    let utf8 : IsUtf8 (take (length front - length (c ∷ cs)) front) =
    front-text front (take (length front - length (c ∷ cs)) front) c (length front - length (c ∷ cs)) cs split
    (omega (arith, length-take (length front - length (c ∷ cs)) front)) low text in (
      utf8,
      untagged tags widget (take (length front - length (c ∷ cs)) front) utf8 (λ place other there same.
          too-long word front rest (encode_utf8_all other ++ c ∷ cs) behind fewest whole closed less least
          (λ again. behinds place other rest there again closed)
          (split ∙ ap (λ xs. xs ++ c ∷ cs) same)),
    )

pub tags-bound : (tags : List Tag) (widget : ℕ) (word : List ℕ) (fewest first last : ℕ) → IsUtf8 word
    → AreBehind word (shared_tags.names_of tags) first_bytes first
    → AreBehind word (shared_tags.names_of tags) last_bytes last
    → fewest ≡ min first last
    → IsBound (tagged (known_tags tags widget)) word (length word - fewest)
tags-bound tags widget word fewest first last text firsts lasts is end more within closed =
    let whole : word ≡ take end word ++ drop end word = sym (take-append-drop end word) in
    let less : length (drop end word) < fewest = omega (arith, length-drop end word, more, within) in
    let utf8 : IsUtf8 (take end word) = IsUtf8-take word end text (break-boundary word end within closed) in
    elim (ends_with nat_eq (take end word) first_bytes) as (λ b. ends_with nat_eq (take end word) first_bytes ≡ b →
    tagged (known_tags tags widget) (chars (take end word)) ≡ None) [
      | true ↦ λ ends.
          let none = no-tag tags widget word (take end word) (drop end word) 46 (drop 1 first_bytes) first fewest refl
          utf8 ends whole closed less (omega (arith, is)) firsts in
          sym (tagged-first (known_tags tags widget) (take end word)
          (take (length (take end word) - length first_bytes) (take end word)) None refl ends none.0 (sym none.1))
      | false ↦ λ not_first.
          elim (ends_with nat_eq (take end word) last_bytes) as (λ b. ends_with nat_eq (take end word) last_bytes ≡ b →
          tagged (known_tags tags widget) (chars (take end word)) ≡ None) [
            | true ↦ λ ends.
                let none = no-tag tags widget word (take end word) (drop end word) 46 (drop 1 last_bytes) last fewest
                refl utf8 ends whole closed less (omega (arith, is)) lasts in
                sym (tagged-last (known_tags tags widget) (take end word)
                (take (length (take end word) - length last_bytes) (take end word)) None utf8 refl not_first ends none.0
                (sym none.1))
            | false ↦ λ not_last. sym (tagged-none (known_tags tags widget) (take end word) utf8 not_first not_last)
          ] refl
    ] refl
