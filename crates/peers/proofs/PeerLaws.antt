-- What `peer create` makes, as its words are read one after the other.
use Rattle.peers.proofs.Common.{◌≡◌, ℕ, ◌+◌, Bool, true, false, List, ap, ◌∙◌, Ok, Err, Result, if◌then◌else◌}
use Rattle.peers.proofs.Common.{LimitTable, one_or_more_of, Fault, InvalidCommandName, Settings, Document, Widget}
use Rattle.peers.proofs.Common.{is_window_name, Change, change_with, refused, settings_given, peer_create}
use Rattle.peers.proofs.Common.{peer_settings, peer_with, peer_words}

-- ---- the words of `peer create`

pub no-peer : (limits : LimitTable) (windows : List (List ℕ)) (document : Document) (widget : Widget) (position : ℕ)
    (words : List (List ℕ)) (fault : Fault) → one_or_more_of words ≡ Err fault
    → peer_create limits windows document widget position words ≡ refused document fault
no-peer limits windows document widget position words fault none =
    ap (λ parts. change_with document parts (peer_words limits windows document widget position)) none

module _ (limits : LimitTable) (windows : List (List ℕ)) (document : Document) (widget : Widget) (position : ℕ)
    (words : List (List ℕ)) (name : List ℕ) (options : List (List ℕ)) (first : one_or_more_of words
    ≡ Ok (name, options)) where
  abbrev with_options : Result Settings Fault → Change
  with_options found = change_with document found (peer_with limits windows document position name)

  abbrev given : Result Settings Fault
  given = settings_given document (position + 1) options (peer_settings document widget)

  abbrev worded : Bool → Change
  worded named = if named then with_options given else refused document (InvalidCommandName position)

  read : peer_create limits windows document widget position words ≡ worded (is_window_name name)
  read = ap (λ parts. change_with document parts (peer_words limits windows document widget position)) first

  pub unnamed-peer : is_window_name name ≡ false
      → peer_create limits windows document widget position words ≡ refused document (InvalidCommandName position)
  unnamed-peer unnamed = read ∙ ap worded unnamed

  pub bad-peer : (fault : Fault) → is_window_name name ≡ true →
      settings_given document (position + 1) options (peer_settings document widget) ≡ Err fault
      → peer_create limits windows document widget position words ≡ refused document fault
  bad-peer fault named bad = read ∙ ap worded named ∙ ap with_options bad

  pub good-peer : (settings : Settings) → is_window_name name ≡ true →
      settings_given document (position + 1) options (peer_settings document widget) ≡ Ok settings
      → peer_create limits windows document widget position words ≡ peer_with limits windows document position name settings
  good-peer settings named good = read ∙ ap worded named ∙ ap with_options good
