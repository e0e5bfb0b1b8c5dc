-- Steps of the loops that choose how an element is written, and write it.
use Rattle.tcl_words.proofs.Common.{◌≡◌, ◌≢◌, ℕ, zero, suc, ◌+◌, ◌-◌, ◌<◌, ◌≤◌, ◌==◌, ◌||◌, Bool, true, false, cond}
use Rattle.tcl_words.proofs.Common.{List, [], ◌∷◌, ◌++◌, length, drop, get_or, chars, encode_utf8, encode_utf8_all}
use Rattle.tcl_words.proofs.Common.{refl, sym, ap, ◌∙◌, arith, append_assoc, append-nil, true≢false, length-append}
use Rattle.tcl_words.proofs.Common.{nat_tests, drop_more, drop_all, chars-nil, encodes-append, length-le-encodes}
use Rattle.tcl_words.proofs.Common.{begins_with, pushed, Goes, is_white, is_special, has_special, needs_quotes, less}
use Rattle.tcl_words.proofs.Common.{balances, white_letter, backslashed, with_backslashes, element_text, list_text}
use Rattle.tcl_words.proofs.Common.{space_behind, ne_eqb, cond-true, cond-false}
use lib.Utf8.{encode}

-- the character that a loop is at
here : (cs : List ℕ) (n c : ℕ) → (n < length cs) × (c ≡ get_or cs n c) → drop n cs ≡ c ∷ drop (n + 1) cs
here cs n c t = drop_more cs n c t.0 ∙ ap (λ d. d ∷ drop (n + 1) cs) (sym t.1)

-- characters to be written with backslashes

special_on : (cs : List ℕ) (n c : ℕ) → (n < length cs) × (c ≡ get_or cs n c) →
    has_special (drop n cs) ≡ cond (is_white c || is_special c) true (has_special (drop (n + 1) cs))
special_on cs n c t = ap has_special (here cs n c t)

pub special_found : (cs : List ℕ) (n c : ℕ) (test : Bool) → (n < length cs) × (c ≡ get_or cs n c) →
    has_special (drop n cs) ≡ has_special cs → test ≡ (is_white c || is_special c) → test ≡ true
    → true ≡ has_special cs
special_found cs n c test t before is found =
    sym (special_on cs n c t ∙ cond-true _ _ _ (sym is ∙ found)) ∙ before

pub special_goes : (cs : List ℕ) (n m c : ℕ) (test : Bool) → (n < length cs) × (c ≡ get_or cs n c) →
    has_special (drop n cs) ≡ has_special cs → test ≡ (is_white c || is_special c) → test ≡ false
    → m ≡ n + 1 → has_special (drop m cs) ≡ has_special cs
special_goes cs n m c test t before is none long =
    ap (λ k. has_special (drop k cs)) long ∙ sym (special_on cs n c t ∙ cond-false _ _ _ (sym is ∙ none)) ∙ before

pub special_ends : (cs : List ℕ) (n : ℕ) → length cs ≤ n → has_special (drop n cs) ≡ has_special cs →
    false ≡ has_special cs
special_ends cs n h before = sym (ap has_special (drop_all n cs h)) ∙ before

-- braces

abbrev pub balance_step : ℕ → ℕ → (ℕ → Bool) → Bool
balance_step c depth after =
    cond (c == 92) false (cond (c == 123) (after (suc depth)) (cond (c == 125) (less depth after) (after depth)))

balance_on : (cs : List ℕ) (n c depth : ℕ) → (n < length cs) × (c ≡ get_or cs n c) →
    balances (drop n cs) depth ≡ balance_step c depth (balances (drop (n + 1) cs))
balance_on cs n c depth t = ap (λ l. balances l depth) (here cs n c t)

less_one : (depth : ℕ) (after : ℕ → Bool) → depth ≢ 0 → after (depth - 1) ≡ less depth after
less_one zero after some = absurd (some refl)
less_one (suc depth) after some = let e : suc depth - 1 ≡ depth = omega arith in ap after e

pub pass_all : (x y z : Bool) (p q r s : Bool) → x ≡ false → y ≡ false → z ≡ false →
    cond x p (cond y q (cond z r s)) ≡ s
pass_all true y z p q r s h i j = absurd (true≢false h)
pass_all false true z p q r s h i j = absurd (true≢false i)
pass_all false false true p q r s h i j = absurd (true≢false j)
pass_all false false false p q r s h i j = refl

module _ (cs : List ℕ) (n c depth : ℕ) (t : (n < length cs) × (c ≡ get_or cs n c))
    (before : balances (drop n cs) depth ≡ balances cs 0) where
  step_is : balance_step c depth (balances (drop (n + 1) cs)) ≡ balances cs 0
  step_is = sym (balance_on cs n c depth t) ∙ before

  pub balance_backslash : c ≡ 92 → false ≡ balances cs 0
  balance_backslash is = ap (λ d. balance_step d depth (balances (drop (n + 1) cs))) (sym is) ∙ step_is

  pub balance_opens : {m : ℕ} → c ≡ 123 → m ≡ n + 1 → balances (drop m cs) (depth + 1) ≡ balances cs 0
  balance_opens is long =
      let e : depth + 1 ≡ suc depth = omega arith in
      ap (λ k. balances (drop k cs) (depth + 1)) long ∙ ap (balances (drop (n + 1) cs)) e
      ∙ ap (λ d. balance_step d depth (balances (drop (n + 1) cs))) (sym is) ∙ step_is

  pub balance_low : c ≡ 125 → depth ≡ 0 → false ≡ balances cs 0
  balance_low is none =
      ap (λ d. less d (balances (drop (n + 1) cs))) (sym none)
      ∙ ap (λ d. balance_step d depth (balances (drop (n + 1) cs))) (sym is) ∙ step_is

  pub balance_closes : {m : ℕ} → c ≡ 125 → depth ≢ 0 → m ≡ n + 1 →
      balances (drop m cs) (depth - 1) ≡ balances cs 0
  balance_closes is some long =
      ap (λ k. balances (drop k cs) (depth - 1)) long ∙ less_one depth (balances (drop (n + 1) cs)) some
      ∙ ap (λ d. balance_step d depth (balances (drop (n + 1) cs))) (sym is) ∙ step_is

  pub balance_passes : {m : ℕ} → c ≢ 92 → c ≢ 123 → c ≢ 125 → m ≡ n + 1 →
      balances (drop m cs) depth ≡ balances cs 0
  balance_passes p q r long =
      ap (λ k. balances (drop k cs) depth) long
      ∙ sym (pass_all (c == 92) (c == 123) (c == 125) false (balances (drop (n + 1) cs) (suc depth))
      (less depth (balances (drop (n + 1) cs))) (balances (drop (n + 1) cs) depth)
      (ne_eqb c 92 p) (ne_eqb c 123 q) (ne_eqb c 125 r))
      ∙ step_is

pub balance_ends : (cs : List ℕ) (n depth : ℕ) → length cs ≤ n → balances (drop n cs) depth ≡ balances cs 0 →
    (depth == 0) ≡ balances cs 0
balance_ends cs n depth h before = sym (ap (λ l. balances l depth) (drop_all n cs h)) ∙ before

-- the front of an element

pub hash_none : (bytes : List ℕ) → length bytes ≡ 0 → false ≡ begins_with 35 (chars bytes)
hash_none [] h = ap (begins_with 35) (sym chars-nil)
hash_none (b ∷ bytes) h = absurd (omega arith)

pub quotes_none : (bytes : List ℕ) → length bytes ≡ 0 → true ≡ needs_quotes (chars bytes)
quotes_none [] h = ap needs_quotes (sym chars-nil)
quotes_none (b ∷ bytes) h = absurd (omega arith)

pub quotes_hash : (cs : List ℕ) → begins_with 35 cs ≡ true → true ≡ needs_quotes cs
quotes_hash [] h = refl
quotes_hash (c ∷ cs) h = sym (cond-true _ _ _ h)

pub quotes_other : (cs : List ℕ) → 0 < length cs → begins_with 35 cs ≡ false → has_special cs ≡ needs_quotes cs
quotes_other [] some h = absurd (omega arith)
quotes_other (c ∷ cs) some h = sym (cond-false _ _ _ h)

pub some_chars : (cs bytes : List ℕ) → encode_utf8_all cs ≡ bytes → (length bytes == 0) ≡ false → 0 < length cs
some_chars [] bytes e h = let none : (length bytes == 0) ≡ true = ap (λ l. length l == 0) (sym e) in
    absurd (true≢false (sym none ∙ h))
some_chars (c ∷ cs) bytes e h = omega arith

-- backslashes

back_on : (cs : List ℕ) (n c : ℕ) → (n < length cs) × (c ≡ get_or cs n c)
    → backslashed (drop n cs) ≡ cond (is_white c || is_special c) (92 ∷ white_letter c ∷ backslashed (drop (n + 1) cs))
    (c ∷ backslashed (drop (n + 1) cs))
back_on cs n c t = ap backslashed (here cs n c t)

abbrev pub IsBacked : List ℕ → ℕ → List ℕ → Type 0
IsBacked cs n text = text ++ encode_utf8_all (backslashed (drop n cs)) ≡ encode_utf8_all (with_backslashes cs)

pub back_special : (cs : List ℕ) (n m c : ℕ) (test : Bool) (text half more : List ℕ) →
    (n < length cs) × (c ≡ get_or cs n c) → IsBacked cs n text → test ≡ (is_white c || is_special c) → test ≡ true →
    m ≡ n + 1
    → half ≡ text ++ encode_utf8 92 → more ≡ half ++ encode_utf8 (white_letter c) → IsBacked cs m more
back_special cs n m c test text half more t before is found long e f =
    let rest = encode_utf8_all (backslashed (drop (n + 1) cs)) in
    ap (λ k. more ++ encode_utf8_all (backslashed (drop k cs))) long
    ∙ ap (λ l. l ++ rest) (f ∙ ap (λ l. l ++ encode_utf8 (white_letter c)) e)
    ∙ append_assoc (text ++ encode_utf8 92) (encode_utf8 (white_letter c)) rest
    ∙ append_assoc text (encode_utf8 92) (encode_utf8 (white_letter c) ++ rest)
    ∙ sym (ap (λ l. text ++ encode_utf8_all l) (back_on cs n c t ∙ cond-true _ _ _ (sym is ∙ found)))
    ∙ before

pub back_other : (cs : List ℕ) (n m c : ℕ) (test : Bool) (text more : List ℕ) → (n < length cs) × (c ≡ get_or cs n c) →
    IsBacked cs n text → test ≡ (is_white c || is_special c) → test ≡ false → m ≡ n + 1
    → more ≡ text ++ encode_utf8 c → IsBacked cs m more
back_other cs n m c test text more t before is none long e =
    let rest = encode_utf8_all (backslashed (drop (n + 1) cs)) in
    ap (λ k. more ++ encode_utf8_all (backslashed (drop k cs))) long
    ∙ ap (λ l. l ++ rest) e ∙ append_assoc text (encode_utf8 c) rest
    ∙ sym (ap (λ l. text ++ encode_utf8_all l) (back_on cs n c t ∙ cond-false _ _ _ (sym is ∙ none)))
    ∙ before

pub back_ends : (cs : List ℕ) (n : ℕ) (text : List ℕ) → length cs ≤ n → IsBacked cs n text →
    text ≡ encode_utf8_all (with_backslashes cs)
back_ends cs n text h before =
    sym (append-nil text) ∙ ap (λ l. text ++ encode_utf8_all (backslashed l)) (sym (drop_all n cs h)) ∙ before

-- one element more

abbrev joined : List ℕ → List ℕ → List ℕ
joined [] text = text
joined (c ∷ cs) text = (c ∷ cs) ++ 32 ∷ text

joined_some : (front text : List ℕ) → 0 < length front → joined front text ≡ front ++ 32 ∷ text
joined_some [] text h = absurd (omega arith)
joined_some (c ∷ front) text h = refl

backslashed_some : (c : ℕ) (cs : List ℕ) (test : Bool) →
    0 < length (cond test (92 ∷ white_letter c ∷ backslashed cs) (c ∷ backslashed cs))
backslashed_some c cs true = omega arith
backslashed_some c cs false = omega arith

some_cond : (test : Bool) (x y : List ℕ) → 0 < length x → 0 < length y → 0 < length (cond test x y)
some_cond true x y p q = p
some_cond false x y p q = q

escaped_some : (c : ℕ) (cs : List ℕ) → 0 < length (with_backslashes (c ∷ cs))
escaped_some c cs = some_cond (c == 35) _ _ (omega arith) (backslashed_some c cs (is_white c || is_special c))

element_some : (cs : List ℕ) → 0 < length (element_text cs)
element_some [] = omega arith
element_some (c ∷ cs) = some_cond (needs_quotes (c ∷ cs)) _ _
    (some_cond (balances (c ∷ cs) 0) _ _ (omega arith) (escaped_some c cs)) (omega arith)

list_some : (x : List ℕ) (xs : List (List ℕ)) → 0 < length (list_text (x ∷ xs))
list_some x [] = element_some x
list_some x (y ∷ xs) = let some = element_some x in
    omega (arith, length-append (element_text x) (32 ∷ list_text (y ∷ xs)))

list_more : (x : List ℕ) (xs : List (List ℕ)) (y : List ℕ) →
    list_text ((x ∷ xs) ++ y ∷ []) ≡ list_text (x ∷ xs) ++ 32 ∷ element_text y
list_more x [] y = refl
list_more x (z ∷ xs) y =
    ap (λ l. element_text x ++ 32 ∷ l) (list_more z xs y)
    ∙ sym (append_assoc (element_text x) (32 ∷ list_text (z ∷ xs)) (32 ∷ element_text y))

some_bytes : (cs bytes : List ℕ) → encode_utf8_all cs ≡ bytes → 0 < length cs → (length bytes == 0) ≡ false
some_bytes cs bytes e h = let long = ap length e in let more = length-le-encodes cs in grind (arith, nat_tests)

space_after : (bytes : List ℕ) (test : Bool) → (length bytes == 0) ≡ test → space_behind bytes ≡ cond test [] (32 ∷ [])
space_after bytes test h = ap (λ b. cond b [] (32 ∷ [])) h

-- the bytes of one element more
pub goes_on : (old new cs : List ℕ) → new ≡ pushed old cs → Goes old new (cs ∷ [])
unfolding encode
goes_on old new cs e [] g = e ∙ ap (λ l. pushed l cs) g
goes_on old new cs e (x ∷ xs) g =
    let some : (length old == 0) ≡ false = some_bytes (list_text (x ∷ xs)) old (sym g) (list_some x xs) in
    let body = encode_utf8_all (element_text cs) in
    e ∙ ap (λ l. (old ++ l) ++ body) (space_after old false some)
    ∙ append_assoc old (32 ∷ []) body ∙ ap (λ l. l ++ encode_utf8_all (32 ∷ element_text cs)) g
    ∙ sym (encodes-append (list_text (x ∷ xs)) (32 ∷ element_text cs))
    ∙ ap encode_utf8_all (sym (list_more x xs cs))

-- the three forms

form_bare : (quoted balanced : Bool) (braced escaped bare : List ℕ) → quoted ≡ false →
    bare ≡ cond quoted (cond balanced braced escaped) bare
form_bare true balanced braced escaped bare h = absurd (true≢false h)
form_bare false balanced braced escaped bare h = refl

form_braced : (quoted balanced : Bool) (braced escaped bare : List ℕ) → quoted ≡ true → balanced ≡ true →
    braced ≡ cond quoted (cond balanced braced escaped) bare
form_braced true true braced escaped bare h k = refl
form_braced true false braced escaped bare h k = absurd (true≢false (sym k))
form_braced false balanced braced escaped bare h k = absurd (true≢false (sym h))

form_escaped : (quoted balanced : Bool) (braced escaped bare : List ℕ) → quoted ≡ true → balanced ≡ false →
    escaped ≡ cond quoted (cond balanced braced escaped) bare
form_escaped true true braced escaped bare h k = absurd (true≢false k)
form_escaped true false braced escaped bare h k = refl
form_escaped false balanced braced escaped bare h k = absurd (true≢false (sym h))

braced_parts : (front body : List ℕ) → ((front ++ 123 ∷ []) ++ body) ++ 125 ∷ [] ≡ front ++ 123 ∷ (body ++ 125 ∷ [])
braced_parts front body =
    ap (λ l. l ++ 125 ∷ []) (append_assoc front (123 ∷ []) body) ∙ append_assoc front (123 ∷ body) (125 ∷ [])

pub push_bare : (old new element cs : List ℕ) → encode_utf8_all cs ≡ element → needs_quotes cs ≡ false →
    new ≡ (old ++ space_behind old) ++ element → new ≡ pushed old cs
push_bare old new element cs u h e =
    e ∙ ap (λ l. (old ++ space_behind old) ++ l)
    (sym u ∙ ap encode_utf8_all (form_bare (needs_quotes cs) (balances cs 0) (123 ∷ (cs ++ 125 ∷ []))
    (with_backslashes cs) cs h))

pub push_braced : (old new element cs : List ℕ) → encode_utf8_all cs ≡ element → needs_quotes cs ≡ true →
    balances cs 0 ≡ true
    → new ≡ (((old ++ space_behind old) ++ 123 ∷ []) ++ element) ++ 125 ∷ [] → new ≡ pushed old cs
unfolding encode
push_braced old new element cs u h k e =
    e ∙ braced_parts (old ++ space_behind old) element
    ∙ ap (λ l. (old ++ space_behind old) ++ l)
    (ap (λ l. 123 ∷ (l ++ 125 ∷ [])) (sym u) ∙ ap (λ l. 123 ∷ l) (sym (encodes-append cs (125 ∷ [])))
    ∙ ap encode_utf8_all (form_braced (needs_quotes cs) (balances cs 0) (123 ∷ (cs ++ 125 ∷ [])) (with_backslashes cs)
    cs h k))

pub push_escaped : (old new text cs : List ℕ) → text ≡ encode_utf8_all (with_backslashes cs) → needs_quotes cs ≡ true →
    balances cs 0 ≡ false → new ≡ (old ++ space_behind old) ++ text → new ≡ pushed old cs
push_escaped old new text cs u h k e =
    e ∙ ap (λ l. (old ++ space_behind old) ++ l)
    (u ∙ ap encode_utf8_all (form_escaped (needs_quotes cs) (balances cs 0) (123 ∷ (cs ++ 125 ∷ []))
    (with_backslashes cs) cs h k))
