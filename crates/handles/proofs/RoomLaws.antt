-- Texts that are copied one behind the other.
use Rattle.handles.proofs.Common.{◌≡◌, ℕ, suc, zero, ◌+◌, ◌≤◌, min, arith, List, [], ◌∷◌, ◌++◌, length, take, drop}
use Rattle.handles.proofs.Common.{refl, sym, ap, subst, ◌∙◌, append_assoc, length-append, over, Copied, encode_utf8_all}
use Rattle.handles.proofs.Common.{encodes-append, encode_ascii}

pub over-none : (room : List ℕ) → room ≡ over [] room
over-none [] = refl
over-none (x ∷ room) = refl

drop-nil : (n : ℕ) → drop {A = ℕ} n [] ≡ []
drop-nil zero = refl
drop-nil (suc n) = refl

-- a text that is copied behind another one
pub over-then : (text more room : List ℕ) (k : ℕ) → k ≡ min (length text) (length room) →
    take k (over text room) ++ over more (drop k (over text room)) ≡ over (text ++ more) room
over-then [] more room zero is = ap (over more) (sym (over-none room))
over-then [] more room (suc k) is = absurd (omega (arith, is))
over-then (c ∷ text) more [] zero is = drop-nil (length more)
over-then (c ∷ text) more [] (suc k) is = absurd (omega (arith, is))
over-then (c ∷ text) more (x ∷ room) zero is = absurd (omega (arith, is))
over-then (c ∷ text) more (x ∷ room) (suc k) is = ap (λ xs. c ∷ xs) (over-then text more room k (omega (arith, is)))

pub copied-none : (room : List ℕ) → Copied [] room 0 room
copied-none room = record { count = refl; bytes = over-none room; long = refl }

-- a text more is copied
pub copied-more : (text more start room new : List ℕ) (total at later : ℕ) → Copied text start total room →
    length room ≤ 18446744073709551615
    → at ≡ min total (length room) → new ≡ take at room ++ over more (drop at room) → length new ≡ length room
    → later ≡ min (total + length more) 18446744073709551615 → Copied (text ++ more) start later new
copied-more text more start room new total at later before most place copied same added =
    let count = length-append text more in
    let here : at ≡ min (length text) (length start) = omega (arith, before.count, before.long, most, place) in
    record {
      count = omega (arith, count, before.count, added);
      bytes = copied ∙ ap (λ r. take at r ++ over more (drop at r)) before.bytes ∙ over-then text more start at here;
      long = same ∙ before.long;
    }

pub grouped : (a b c d e : List ℕ) → (((([] ++ a) ++ b) ++ c) ++ d) ++ e ≡ (a ++ b) ++ ((c ++ d) ++ e)
grouped a b c d e = append_assoc ((a ++ b) ++ c) d e ∙ append_assoc (a ++ b) c (d ++ e)
    ∙ ap (λ xs. (a ++ b) ++ xs) (sym (append_assoc c d e))

-- the same of a text that is written otherwise
pub copied-text : (text other start : List ℕ) (total : ℕ) (room : List ℕ) → text ≡ other →
    Copied text start total room → Copied other start total room
copied-text text other start total room same is = rw same at is

-- no text is copied
pub copied-nothing : (text room : List ℕ) → text ≡ [] →
    (0 ≡ min (length text) 18446744073709551615) × (room ≡ over text room)
copied-nothing text room none =
    let count : length text ≡ 0 = ap length none in
    (omega (arith, count), subst (λ (t : List ℕ). room ≡ over t room) (sym none) (over-none room))

-- a text is copied that stands for another
pub copied-as : (text wanted start room : List ℕ) (total : ℕ) → text ≡ wanted
    → total ≡ min (length text) 18446744073709551615 → room ≡ over text start →
    (total ≡ min (length wanted) 18446744073709551615) × (room ≡ over wanted start)
copied-as text wanted start room total same count copied = (
  subst (λ (t : List ℕ). total ≡ min (length t) 18446744073709551615) same count,
  subst (λ (t : List ℕ). room ≡ over t start) same copied,
)

-- the bytes of a text and a newline
pub text-line : (bytes text : List ℕ) → bytes ≡ encode_utf8_all text
    → bytes ++ 10 ∷ [] ≡ encode_utf8_all (text ++ 10 ∷ [])
text-line bytes text is =
    let newline : encode_utf8_all (10 ∷ []) ≡ 10 ∷ [] = ap (λ b. b ++ []) (encode_ascii 10 (omega arith)) in
    ap (λ b. b ++ 10 ∷ []) is ∙ ap (λ b. encode_utf8_all text ++ b) (sym newline) ∙ sym (encodes-append text (10 ∷ []))
