-- The names of widgets, by their bytes.
use Rattle.peers.proofs.Common.{◌≡◌, ℕ, ◌<◌, ◌≤◌, Bool, true, false, List, [], ◌∷◌, ◌++◌, length, get_or, refl, sym, ap}
use Rattle.peers.proofs.Common.{◌∙◌, arith, map, true≢false, chars, encode_utf8, ◌==◌, ◌||◌, AllByRecursion, false≢true}
use Rattle.peers.proofs.Common.{Decides-eqb, chars-nil, chars_past_char, encodes-chars, encode_ascii, IsUtf8-past_char}
use Rattle.peers.proofs.Common.{bytes_eq-Decides, is_among, is_same, Document, Widget, is_window_name, IsPlaced, IsUtf8}
use Rattle.peers.proofs.Common.{encode_utf8_all}

-- a character, and more
abbrev begins : Bool → List ℕ → Bool
begins dot [] = false
begins dot (c ∷ cs) = dot

is_window_name-cons : (c : ℕ) (text : List ℕ) → is_window_name (c ∷ text) ≡ begins (c == 46) text
is_window_name-cons c [] = refl
is_window_name-cons c (d ∷ text) = refl

begins-chars : (dot : Bool) (bytes : List ℕ) → IsUtf8 bytes → begins dot (chars bytes) ≡ begins dot bytes
begins-chars dot [] text = ap (begins dot) chars-nil
begins-chars dot (b ∷ bytes) text =
    elim (chars (b ∷ bytes)) as (λ cs. encode_utf8_all cs ≡ b ∷ bytes → begins dot cs ≡ dot) [
      | [] ↦ λ none. absurd (let h : [] ≡ b ∷ bytes = none in cc)
      | c ∷ cs ↦ λ _. refl
    ] (encodes-chars (b ∷ bytes) text)

begins-false : (text : List ℕ) → begins false text ≡ false
begins-false [] = refl
begins-false (c ∷ text) = refl

-- no text that begins with another byte begins with a dot
no_dot : (b : ℕ) (bytes cs : List ℕ) → encode_utf8_all cs ≡ b ∷ bytes → (b == 46) ≡ false → is_window_name cs ≡ false
no_dot b bytes [] is other = refl
no_dot b bytes (c ∷ cs) is other =
    elim (c == 46) as (λ dot. (c == 46) ≡ dot → is_window_name (c ∷ cs) ≡ false) [
      | false ↦ λ not_dot. is_window_name-cons c cs ∙ ap (λ dot. begins dot cs) not_dot ∙ begins-false cs
      | true ↦ λ dot.
          let same : c ≡ 46 = (Decides-eqb c 46).0 dot in
          let spelled : encode_utf8 c ≡ 46 ∷ [] = ap encode_utf8 same ∙ encode_ascii 46 (omega arith) in
          let front : 46 ∷ encode_utf8_all cs ≡ b ∷ bytes = ap (λ x. x ++ encode_utf8_all cs) (sym spelled) ∙ is in
          let first : b ≡ 46 = cc in
          absurd (false≢true (sym other ∙ (Decides-eqb b 46).1 first))
    ] refl

pub is_window_name-chars : (bytes : List ℕ) → IsUtf8 bytes → is_window_name (chars bytes) ≡ is_window_name bytes
is_window_name-chars [] text = ap is_window_name chars-nil
is_window_name-chars (b ∷ bytes) text =
    elim (b == 46) as (λ dot. (b == 46) ≡ dot → is_window_name (chars (b ∷ bytes)) ≡ is_window_name (b ∷ bytes)) [
      | false ↦ λ other. no_dot b bytes (chars (b ∷ bytes)) (encodes-chars (b ∷ bytes) text) other
          ∙ sym (is_window_name-cons b bytes ∙ ap (λ dot. begins dot bytes) other ∙ begins-false bytes)
      | true ↦ λ dot.
          let same : b ≡ 46 = (Decides-eqb b 46).0 dot in
          let front : b ∷ bytes ≡ encode_utf8 46 ++ bytes = ap (λ x. x ∷ bytes) same
          ∙ ap (λ x. x ++ bytes) (sym (encode_ascii 46 (omega arith))) in
          ap is_window_name (chars_past_char (b ∷ bytes) bytes 46 text front)
          ∙ is_window_name-cons 46 (chars bytes)
          ∙ begins-chars true bytes (IsUtf8-past_char (b ∷ bytes) bytes 46 text front)
          ∙ sym (is_window_name-cons b bytes ∙ ap (λ d. begins d bytes) dot)
    ] refl

pub is_window_name-short : (bytes : List ℕ) → length bytes < 2 → is_window_name bytes ≡ false
is_window_name-short [] short = refl
is_window_name-short (b ∷ []) short = refl
is_window_name-short (b ∷ c ∷ bytes) short = absurd (omega arith)

pub is_window_name-long : (bytes : List ℕ) → 2 ≤ length bytes → is_window_name bytes ≡ (get_or bytes 0 0 == 46)
is_window_name-long [] long = absurd (omega arith)
is_window_name-long (b ∷ []) long = absurd (omega arith)
is_window_name-long (b ∷ c ∷ bytes) long = refl

-- the name of a widget is that of a window
pub placed-window : (document : Document) (name : List ℕ) (widgets : List Widget) →
    AllByRecursion (IsPlaced document) widgets
    → is_among name (map (λ (w : Widget). w.name) widgets) ≡ true → is_window_name name ≡ true
placed-window document name [] placed there = absurd (true≢false (sym there))
placed-window document name (widget ∷ widgets) placed there =
    elim (is_same name widget.name) as (λ b. is_same name widget.name ≡ b →
    (b || is_among name (map (λ (w : Widget). w.name) widgets)) ≡ true
    → is_window_name name ≡ true) [
      | true ↦ λ same _. ap is_window_name ((bytes_eq-Decides name widget.name).0 same) ∙ placed.0.name
      | false ↦ λ _ later. placed-window document name widgets placed.1 later
    ] refl there
