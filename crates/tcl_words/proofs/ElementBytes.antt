-- The bytes of an element, which stand for its characters where it is looked at for how it can be written.
use Rattle.tcl_words.proofs.Common.{◌≡◌, ◌≢◌, ℕ, zero, suc, ◌+◌, ◌<◌, ◌≤◌, ◌==◌, ◌||◌, Bool, true, false, cond, ⊎_elim}
use Rattle.tcl_words.proofs.Common.{List, [], ◌∷◌, ◌++◌, length, drop, get_or, chars, encode_utf8, encode_utf8_all}
use Rattle.tcl_words.proofs.Common.{refl, sym, ap, ◌∙◌, arith, append-nil, true≢false, nat_tests, drop-drop, inside_one}
use Rattle.tcl_words.proofs.Common.{length-drop, ◌-◌, take, take_rest, get_or-drop, get_or_default, encode_ascii}
use Rattle.tcl_words.proofs.Common.{encodes-chars, IsUtf8, ne_eqb, cond-false, is_white, is_special, has_special, less}
use Rattle.tcl_words.proofs.Common.{balances, is_braced}
use Rattle.tcl_words.proofs.ListForms.{balance_step, pass_all}
use Rattle.tcl_words.proofs.Spelling.{below_or}

high_byte : (c : ℕ) → 128 ≤ c → (k : ℕ) → k < length (encode_utf8 c) → 128 ≤ get_or (encode_utf8 c) k 0
high_byte c high k within = ⊎_elim
    (λ low. let same : c ≡ get_or (encode_utf8 c) k 0 =
    inside_one c [] (encode_utf8 c) k (sym (append-nil (encode_utf8 c))) within low in absurd (omega arith))
    (λ is. is)
    (below_or (get_or (encode_utf8 c) k 0))

-- what means something in a list

special_high : (b : ℕ) → 128 ≤ b → (is_white b || is_special b) ≡ false
special_high b high = grind (arith, nat_tests)

special_passes : (bs rest : List ℕ) → ((k : ℕ) → k < length bs → 128 ≤ get_or bs k 0) →
    has_special (bs ++ rest) ≡ has_special rest
special_passes [] rest high = refl
special_passes (b ∷ bs) rest high =
    cond-false _ _ _ (special_high b (high 0 (omega arith)))
    ∙ special_passes bs rest (λ k within. high (suc k) (omega arith))

special_bytes : (cs : List ℕ) → has_special (encode_utf8_all cs) ≡ has_special cs
special_bytes [] = refl
special_bytes (c ∷ cs) = ⊎_elim
    (λ low. ap (λ l. has_special (l ++ encode_utf8_all cs)) (encode_ascii c low)
    ∙ ap (cond (is_white c || is_special c) true) (special_bytes cs))
    (λ high. special_passes (encode_utf8 c) (encode_utf8_all cs) (high_byte c high) ∙ special_bytes cs
    ∙ sym (cond-false _ _ _ (special_high c high)))
    (below_or c)

pub special_of : (bytes : List ℕ) → IsUtf8 bytes → has_special bytes ≡ has_special (chars bytes)
special_of bytes u = ap has_special (sym (encodes-chars bytes u)) ∙ special_bytes (chars bytes)

-- braces

step_high : (c depth : ℕ) (after : ℕ → Bool) → 128 ≤ c → balance_step c depth after ≡ after depth
step_high c depth after high =
    pass_all (c == 92) (c == 123) (c == 125) false (after (suc depth)) (less depth after) (after depth)
    (ne_eqb c 92 (λ is. absurd (omega arith))) (ne_eqb c 123 (λ is. absurd (omega arith)))
    (ne_eqb c 125 (λ is. absurd (omega arith)))

balances_passes : (bs rest : List ℕ) (depth : ℕ) → ((k : ℕ) → k < length bs → 128 ≤ get_or bs k 0) →
    balances (bs ++ rest) depth ≡ balances rest depth
balances_passes [] rest depth high = refl
balances_passes (b ∷ bs) rest depth high =
    step_high b depth (balances (bs ++ rest)) (high 0 (omega arith))
    ∙ balances_passes bs rest depth (λ k within. high (suc k) (omega arith))

balances_bytes : (cs : List ℕ) (depth : ℕ) → balances (encode_utf8_all cs) depth ≡ balances cs depth
balances_bytes [] depth = refl
balances_bytes (c ∷ cs) depth = ⊎_elim
    (λ low. ap (λ l. balances (l ++ encode_utf8_all cs) depth) (encode_ascii c low)
    ∙ ap (balance_step c depth) (λ i d. balances_bytes cs d i))
    (λ high. balances_passes (encode_utf8 c) (encode_utf8_all cs) depth (high_byte c high) ∙ balances_bytes cs depth
    ∙ sym (step_high c depth (balances cs) high))
    (below_or c)

pub balances_of : (bytes : List ℕ) (depth : ℕ) → IsUtf8 bytes → balances bytes depth ≡ balances (chars bytes) depth
balances_of bytes depth u =
    ap (λ l. balances l depth) (sym (encodes-chars bytes u)) ∙ balances_bytes (chars bytes) depth

-- a run of bytes other than braces and backslashes

step_braced : (x y z : Bool) (q r s : Bool) → cond z false (cond y false (cond x false true)) ≡ true →
    cond x false (cond y q (cond z r s)) ≡ s
step_braced x y true q r s h = absurd (true≢false (sym h))
step_braced x true false q r s h = absurd (true≢false (sym h))
step_braced true false false q r s h = absurd (true≢false (sym h))
step_braced false false false q r s h = refl

run_passes : (m : ℕ) (xs : List ℕ) (depth : ℕ) → m ≤ length xs →
    ((k : ℕ) → k < m → is_braced (get_or xs k 0) ≡ true) → balances (drop m xs) depth ≡ balances xs depth
run_passes zero xs depth long plain = refl
run_passes (suc m) [] depth long plain = absurd (omega arith)
run_passes (suc m) (x ∷ xs) depth long plain =
    run_passes m xs depth (omega arith) (λ k within. plain (suc k) (omega arith))
    ∙ sym (step_braced (x == 92) (x == 123) (x == 125) (balances xs (suc depth)) (less depth (balances xs))
    (balances xs depth) (plain 0 (omega arith)))

closing : (c : ℕ) → is_braced c ≡ false → c ≢ 92 → c ≢ 123 → c ≡ 125
closing c stops backslash opens = grind (arith, nat_tests)

abbrev from_on : List ℕ → ℕ → List ℕ
from_on bytes n = take (length bytes - n) (drop n bytes)

-- such a run of so many bytes, from a place on
module _ (bytes : List ℕ) (n m depth : ℕ) (long : m ≤ length (from_on bytes n))
    (plain : (k : ℕ) → k < m → is_braced (get_or (from_on bytes n) k 0) ≡ true)
    (before : balances (drop n bytes) depth ≡ balances bytes 0) where
  rest : from_on bytes n ≡ drop n bytes
  rest = take_rest bytes n

  pub run_balances : balances (drop (n + m) bytes) depth ≡ balances bytes 0
  run_balances =
      ap (λ l. balances l depth) (sym (drop-drop m n bytes) ∙ ap (drop m) (sym rest))
      ∙ run_passes m (from_on bytes n) depth long plain ∙ ap (λ l. balances l depth) rest ∙ before

  -- the byte behind it
  pub behind_run : n ≤ length bytes → n + m ≢ length bytes
      → (m < length (from_on bytes n) → is_braced (get_or (from_on bytes n) m 0) ≡ false)
      → record {
        within : n + m < length bytes;
        here : (n + m < length bytes) × (get_or bytes (n + m) 0 ≡ get_or bytes (n + m) (get_or bytes (n + m) 0));
        balanced : balances (drop (n + m) bytes) depth ≡ balances bytes 0;
        closes : get_or bytes (n + m) 0 ≢ 92 → get_or bytes (n + m) 0 ≢ 123 → get_or bytes (n + m) 0 ≡ 125;
      }
  behind_run inside other longest =
      let within : n + m < length bytes = omega (arith, ap length rest, length-drop n bytes) in
      let stops = longest (omega (arith, ap length rest, length-drop n bytes)) in
      record {
        within = within;
        here = (within, get_or_default bytes (n + m) 0 (get_or bytes (n + m) 0) within);
        balanced = run_balances;
        closes = closing (get_or bytes (n + m) 0)
            (ap is_braced (sym (get_or-drop n bytes m 0) ∙ ap (λ l. get_or l m 0) (sym rest)) ∙ stops);
      }
