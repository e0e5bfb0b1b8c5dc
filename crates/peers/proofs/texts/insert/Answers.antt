use Rattle.peers.proofs.Common.{◌≡◌, Ok, subst, sym, chars, texts_of, widget_of, words_of, widget_at, Does, Empty}
use Rattle.peers.proofs.Common.{Document, insert_at, insertion_at, reply_of, List, Pair, Change, insert, pairs_at, []}
use Rattle.peers.proofs.Common.{◌∷◌, ◌+◌, None, ap, IsTold, inserted_at}
use Rattle.peers.proofs.InsertLaws.{insert-is, inserted, inserted-nothing, no-pairs, no-place, one-text}
use Rattle.peers.proofs.PromiseLaws.{fault-defined, faulted, value-defined}
use Rattle.peers.proofs.texts.insert.Given.{Over}
use Rattle.peers.proofs.texts.insert.Goals.{After-insert_word, In_ok-at}
use Rattle.peers.proofs.texts.insert.Goals as goal

pub returns-in_err-at-clause-does : goal.returns-in_err-at-clause-does
returns-in_err-at-clause-does g c =
    let document = c.args.document.now in let request = c.args.request.now in
    let widget = widget_of document request in
    let index = chars c.in_ok-index.index.now in
    let fault = c.in_err-at.field-0.0 in
    rw (faulted c.from_residual-in_err-at.result fault c.from_residual-in_err-at.ensures, c.insertion_at.ensures.same)
    (no-place request.caller.limits.now document widget request.position (words_of request) index
    (texts_of c.in_ok-index.words.now) c.in_ok-index.ensures.ok fault (fault-defined c.insertion_at.result
    (insertion_at document widget request.position index) fault c.insertion_at.ensures.value c.in_err-at.was))

-- where the index is found
there : (g : Over) (c : In_ok-at g)
    → insertion_at c.args.document.now (widget_of c.args.document.now c.args.request.now) c.args.request.now.position
    (chars c.in_ok-index.index.now) ≡ Ok c.in_ok-at.at
there g c =
    value-defined c.insertion_at.result (insertion_at c.args.document.now
    (widget_of c.args.document.now c.args.request.now) c.args.request.now.position (chars c.in_ok-index.index.now))
    c.in_ok-at.at c.insertion_at.ensures.value c.in_ok-at.was

pub returns-in_err-pairs-clause-does : goal.returns-in_err-pairs-clause-does
returns-in_err-pairs-clause-does g c =
    let document = c.args.document.now in let request = c.args.request.now in
    let widget = widget_of document request in
    let fault = c.in_err-pairs.field-0.0 in
    rw (
      faulted c.from_residual-in_err-pairs.result fault c.from_residual-in_err-pairs.ensures,
      c.insertion_at.ensures.same,
    )
    (no-pairs request.caller.limits.now document widget request.position (words_of request)
    (chars c.in_ok-index.index.now) (texts_of c.in_ok-index.words.now) c.in_ok-index.ensures.ok c.in_ok-at.at
    (there g (goal.at.returns-in_err-pairs-clause-does g c).In_ok-at) fault c.in_err-pairs.ensures.err)

pub returns-in-Some-clause-does : goal.returns-in-Some-clause-does
returns-in-Some-clause-does g c =
    let document = c.args.document.now in let request = c.args.request.now in
    let widget = widget_of document request in
    let limits = request.caller.limits.now in
    let does = subst (λ (document : Document). Does limits document c.insert_at.new.self (reply_of c.insert_at.result)
    (insert_at limits document (widget_at document request.caller.seat) c.in-Some.offset c.in_ok-pairs.pairs.items))
    c.insertion_at.ensures.same c.insert_at.ensures.does in
    inserted limits document widget request.position (words_of request)
    (chars c.in_ok-index.index.now) (texts_of c.in_ok-index.words.now) c.in_ok-index.ensures.ok c.in_ok-at.at
    (there g (goal.at.returns-in-Some-clause-does g c).In_ok-at) c.in_ok-pairs.pairs.items c.in_ok-pairs.ensures.ok
    (subst (λ at. Does limits document c.insert_at.new.self (reply_of c.insert_at.result)
    (inserted_at limits document widget at c.in_ok-pairs.pairs.items)) (sym c.in-Some.is) does)

pub returns-in-None-clause-does : goal.returns-in-None-clause-does
returns-in-None-clause-does g c =
    let document = c.args.document.now in let request = c.args.request.now in
    let widget = widget_of document request in
    let limits = request.caller.limits.now in
    rw c.insertion_at.ensures.same
    (inserted limits document widget request.position (words_of request)
    (chars c.in_ok-index.index.now) (texts_of c.in_ok-index.words.now) c.in_ok-index.ensures.ok c.in_ok-at.at
    (there g (goal.at.returns-in-None-clause-does g c).In_ok-at) c.in_ok-pairs.pairs.items c.in_ok-pairs.ensures.ok
    (subst (λ at. Does limits document document (Ok Empty) (inserted_at limits document widget at
    c.in_ok-pairs.pairs.items)) (sym c.in-None.is) (inserted-nothing limits document)))

-- a single word is inserted as a text without a tag list
whole : (g : Over) (c : After-insert_word g)
    → insert c.args.request.now.caller.limits.now c.args.document.now
    (widget_of c.args.document.now c.args.request.now) c.args.request.now.position (words_of c.args.request.now)
    ≡ inserted_at c.args.request.now.caller.limits.now c.args.document.now
    (widget_of c.args.document.now c.args.request.now) c.in_ok-at.at
    (record { text = chars c.as_str.result.now; names = None } ∷ [])
whole g c =
    let document = c.args.document.now in let request = c.args.request.now in
    insert-is request.caller.limits.now document (widget_of document request) request.position (words_of request)
    (chars c.in_ok-index.index.now) (texts_of c.in_ok-index.words.now) c.in_ok-index.ensures.ok c.in_ok-at.at
    (there g (goal.at.returns-in-len1-clause-does g c).In_ok-at) (record {
      text = chars c.as_str.result.now;
      names = None;
    } ∷ [])
    (ap (pairs_at (request.position + 1)) (one-text c.in_ok-index.words.now c.word-item.result c.as_str.result.now
    c.in-len1.len_at_least c.in-len1.len_below c.word-item.is c.as_str.ensures.value))

pub returns-in-len1-clause-does : goal.returns-in-len1-clause-does
returns-in-len1-clause-does g c =
    let request = c.args.request.now in
    let limits = request.caller.limits.now in
    let pairs : List Pair = record { text = chars c.as_str.result.now; names = None } ∷ [] in
    let does = subst (λ (document : Document). Does limits document c.insert_word.new.document
    (reply_of c.insert_word.result) (inserted_at limits document (widget_of document request) c.in_ok-at.at pairs))
    c.insertion_at.ensures.same c.insert_word.ensures.does in
    subst (λ (change : Change). Does limits c.args.document.now c.insert_word.new.document
    (reply_of c.insert_word.result) change)
    (sym (whole g (goal.at.returns-in-len1-clause-does g c).After-insert_word)) does

pub returns-in-len1-clause-told : goal.returns-in-len1-clause-told
returns-in-len1-clause-told g c =
    let request = c.args.request.now in
    let limits = request.caller.limits.now in
    let pairs : List Pair = record { text = chars c.as_str.result.now; names = None } ∷ [] in
    let told = subst (λ (document : Document). IsTold request.caller.follows
    (inserted_at limits document (widget_of document request) c.in_ok-at.at pairs) document c.insert_word.new.document
    c.insert_word.result) c.insertion_at.ensures.same c.insert_word.ensures.told in
    subst (λ (change : Change). IsTold request.caller.follows change c.args.document.now c.insert_word.new.document
    c.insert_word.result) (sym (whole g (goal.at.returns-in-len1-clause-told g c).After-insert_word)) told
