-- The words of a command that are found one behind the other.
use Rattle.tcl_words.proofs.Common.{◌≡◌, ℕ, ◌+◌, ◌<◌, ◌≤◌, Bool, true, false, IsUtf8, List, [], ◌∷◌, ◌++◌, map, length}
use Rattle.tcl_words.proofs.Common.{take, drop, sym, ap, ◌∙◌, arith, subst, append-nil, append_assoc, slice_set}
use Rattle.tcl_words.proofs.Common.{slice_range, length-drop, drop-drop, map-append, All, take_more_set, later, scanned}
use Rattle.tcl_words.proofs.Common.{scan_behind, words_behind, spelled_from, spelled_by, IsWordText, IsFoundWord}
use Rattle.tcl_words.proofs.Common.{IsPlainCommand, Stage, BeforeCommand, BeforeWord, PlainWord}
use Rattle.std.proofs.lemmas.List.Elements.{All-push}
use Rattle.tcl_words.proofs.Spelling.{later-later}
use Rattle.tcl_words.proofs.Writing.{spelled}

module _ {T : Type 0} (flag : T → Bool) (text : T → List ℕ) (bytes rest : List ℕ) (index count : ℕ) (stage : Stage)
    (words : List T) (w : T) (word : PlainWord) (same : rest ≡ drop index bytes)
    (found : IsFoundWord stage rest word word.has_escapes) (flag_is : flag w ≡ word.has_escapes)
    (text_is : text w ≡ slice_range rest word.from word.to) (room : count < length words)
    (u : IsUtf8 (drop index bytes)) (within : index ≤ length bytes)
    (texts : All (λ w. IsWordText (flag w) (text w)) (take count words))
    (scans : scanned bytes BeforeCommand ≡ later index (scanned (drop index bytes) stage))
    (pieces : spelled_from bytes BeforeCommand ≡ map (λ w. spelled_by (flag w) (text w)) (take count words)
    ++ spelled_from (drop index bytes) stage) where
  abbrev spells : T → List ℕ
  spells w = spelled_by (flag w) (text w)

  abbrev more : List T
  more = take (count + 1) (slice_set words count w)

  behind_is : drop word.len rest ≡ drop (index + word.len) bytes
  behind_is = ap (drop word.len) same ∙ drop-drop word.len index bytes

  found_texts : All (λ w. IsWordText (flag w) (text w)) more
  found_texts =
      subst (All (λ w. IsWordText (flag w) (text w))) (sym (take_more_set words count w room))
      (All-push (λ w. IsWordText (flag w) (text w)) (take count words) w texts
      (subst (λ e. IsWordText e (text w)) (sym flag_is)
      (subst (IsWordText word.has_escapes) (sym text_is) found.escapes)))

  found_within : index + word.len ≤ length bytes
  found_within = let inside = found.within in omega (arith, ap length same, length-drop index bytes)

  found_utf8 : IsUtf8 (drop (index + word.len) bytes)
  found_utf8 = subst IsUtf8 behind_is (found.rest (subst IsUtf8 (sym same) u))

  scans_to : scanned bytes BeforeCommand
      ≡ later index (scan_behind word.is_last word.len (drop (index + word.len) bytes))
  scans_to =
      scans ∙ ap (λ l. later index (scanned l stage)) (sym same) ∙ ap (later index) (found.scans
      ∙ ap (scan_behind word.is_last word.len) behind_is)

  spelled_to : spelled_from bytes BeforeCommand
      ≡ map spells more ++ spelled (words_behind word.is_last (drop (index + word.len) bytes))
  spelled_to =
      let here : slice_range rest word.from word.to ≡ text w = sym text_is in
      pieces
      ∙ ap (λ l. map spells (take count words) ++ spelled_from l stage) (sym same)
      ∙ ap (λ l. map spells (take count words) ++ l) (found.pieces (subst IsUtf8 (sym same) u)
      ∙ ap (λ l. spelled_by word.has_escapes l ∷ spelled (words_behind word.is_last (drop word.len rest))) here
      ∙ ap (λ e. spelled_by e (text w) ∷ spelled (words_behind word.is_last (drop word.len rest))) (sym flag_is)
      ∙ ap (λ l. spells w ∷ spelled (words_behind word.is_last l)) behind_is)
      ∙ sym (append_assoc (map spells (take count words)) (spells w ∷ [])
      (spelled (words_behind word.is_last (drop (index + word.len) bytes))))
      ∙ ap (λ l. l ++ spelled (words_behind word.is_last (drop (index + word.len) bytes)))
      (sym (map-append spells (take count words) (w ∷ [])) ∙ ap (map spells) (sym (take_more_set words count w room)))

  -- the last of them
  found_last : word.is_last ≡ true → IsPlainCommand bytes (map spells more) (index + word.len)
  found_last last = record {
    scans = scans_to ∙ ap (λ b. later index (scan_behind b word.len (drop (index + word.len) bytes))) last;
    pieces = sym (spelled_to ∙ ap (λ b. map spells more
        ++ spelled (words_behind b (drop (index + word.len) bytes))) last ∙ append-nil (map spells more));
  }

  -- another one follows
  found_scans : word.is_last ≡ false → scanned bytes BeforeCommand
      ≡ later (index + word.len) (scanned (drop (index + word.len) bytes) BeforeWord)
  found_scans last =
      scans_to ∙ ap (λ b. later index (scan_behind b word.len (drop (index + word.len) bytes))) last
      ∙ later-later index word.len (scanned (drop (index + word.len) bytes) BeforeWord)

  found_pieces : word.is_last ≡ false → spelled_from bytes BeforeCommand
      ≡ map spells more ++ spelled_from (drop (index + word.len) bytes) BeforeWord
  found_pieces last =
      spelled_to ∙ ap (λ b. map spells more ++ spelled (words_behind b (drop (index + word.len) bytes))) last

  -- all of it
  pub found_more : record {
    texts : All (λ w. IsWordText (flag w) (text w)) more;
    within : index + word.len ≤ length bytes;
    utf8 : IsUtf8 (drop (index + word.len) bytes);
    last : word.is_last ≡ true → IsPlainCommand bytes (map spells more) (index + word.len);
    scans : word.is_last ≡ false → scanned bytes BeforeCommand
        ≡ later (index + word.len) (scanned (drop (index + word.len) bytes) BeforeWord);
    pieces : word.is_last ≡ false → spelled_from bytes BeforeCommand
        ≡ map spells more ++ spelled_from (drop (index + word.len) bytes) BeforeWord;
  }
  found_more = record {
    texts = found_texts;
    within = found_within;
    utf8 = found_utf8;
    last = found_last;
    scans = found_scans;
    pieces = found_pieces;
  }

pub command_of : (bytes text : List ℕ) (words : List (List ℕ)) (len : ℕ) → bytes ≡ text →
    IsPlainCommand bytes words len → IsPlainCommand text words len
command_of bytes text words len same is = subst (λ l. IsPlainCommand l words len) same is
