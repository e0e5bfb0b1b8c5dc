use Rattle.peers.proofs.Common.{[], ◌≡◌, true, false, sym, ap, ◌∙◌, subst, true≢false, IfOk, chars, string_bytes}
use Rattle.peers.proofs.Common.{texts_of, is_same, literal, reading, Makes, step, create_shaped, destroy_shaped}
use Rattle.peers.proofs.Common.{on_widget, TellsOf, MarksTellOf, TellsAt, MarksTellAt, answer_of, IsWellFormed, home}
use Rattle.peers.proofs.Common.{IfOk-weaker, is_frugal_reading, are_frugal, Outcome}
use Rattle.peers.specs.Told.{answered}
use Rattle.peers.proofs.ToldLaws.{answer-answered, answered-unmarked}
use Rattle.peers.proofs.ToldStepLaws.{destroy-step as destroys, destroyed, destroyed-marks, named, named-marks}
use Rattle.peers.proofs.ToldStepLaws.{text-none, text-other, text-step, unnamed, widget-step}
use Rattle.peers.proofs.world.World.carry_out.Goals.{After-create_shaped, After-destroy_shaped, After-on_widget}
use Rattle.peers.proofs.world.World.carry_out.Goals as goal

-- which word the first one is
create-word : (g : _) (c : After-create_shaped g) → is_same (chars (string_bytes c.name-item.result)) (literal "text") ≡ true
create-word g c =
    subst (λ bytes. is_same (chars bytes) (literal "text") ≡ true) c.as_str-name.ensures.value
    (sym c.is_word.ensures ∙ c.if-is_word.true)

-- what the command is
create-step : (g : _) (c : After-create_shaped g)
    → (step c.args.self.now (texts_of c.args.words.now)
    ≡ create_shaped c.args.self.now (texts_of c.args.words.now) (reading (texts_of c.args.words.now)))
    × (are_frugal (texts_of c.args.words.now) ≡ false)
create-step g c =
    let word = create-word g c in
    text-step c.args.self.now c.args.words.now c.name-item.result c.in-len1-up.len_at_least c.name-item.is word

pub returns-then-is_word-clause-makes : goal.returns-then-is_word-clause-makes
returns-then-is_word-clause-makes g c =
    let world = c.args.self.now in let words = texts_of c.args.words.now in
    subst (λ reply. Makes world c.create_shaped.new.self reply (step world words))
    (sym (ap answer_of c.answered.ensures ∙ answer-answered c.create_shaped.result))
    (subst (Makes world c.create_shaped.new.self c.create_shaped.result)
    (sym (create-step g (goal.at.returns-then-is_word-clause-makes g c).After-create_shaped).0) c.create_shaped.ensures)

-- what it tells
create-tells : (g : _) (c : After-create_shaped g) → IfOk (answered c.create_shaped.result) (λ told.
    TellsOf c.args.self.now c.create_shaped.new.self (texts_of c.args.words.now) told.edit
    × MarksTellOf c.args.self.now c.create_shaped.new.self (texts_of c.args.words.now) told.edit.changes
    told.marks)
create-tells g c =
    unnamed c.args.self.now c.create_shaped.new.self c.args.words.now c.name-item.result c.create_shaped.result
    (subst IsWellFormed c.self.view_is c.self.invariant) c.in-len1-up.len_at_least c.name-item.is
    (text-none (chars (string_bytes c.name-item.result)) (create-word g c))
    (text-other (chars (string_bytes c.name-item.result)) (create-word g c))

pub returns-then-is_word-clause-tells : goal.returns-then-is_word-clause-tells
returns-then-is_word-clause-tells g c = λ _.
    subst (λ told. IfOk told (λ told. TellsOf c.args.self.now c.create_shaped.new.self (texts_of c.args.words.now) told.edit))
    (sym c.answered.ensures) (IfOk-weaker (answered c.create_shaped.result) _ _ (λ told tells. tells.0)
    (create-tells g (goal.at.returns-then-is_word-clause-tells g c).After-create_shaped))

pub returns-then-is_word-clause-marks : goal.returns-then-is_word-clause-marks
returns-then-is_word-clause-marks g c = λ _.
    subst (λ told. IfOk told (λ told.
    MarksTellOf c.args.self.now c.create_shaped.new.self (texts_of c.args.words.now) told.edit.changes
    told.marks)) (sym c.answered.ensures)
    (IfOk-weaker (answered c.create_shaped.result) _ _ (λ told tells. tells.1)
    (create-tells g (goal.at.returns-then-is_word-clause-marks g c).After-create_shaped))

pub returns-then-is_word-clause-unasked : goal.returns-then-is_word-clause-unasked
returns-then-is_word-clause-unasked g c = λ _.
    subst (λ told. IfOk told (λ told. told.marks ≡ [])) (sym c.answered.ensures)
    (answered-unmarked c.create_shaped.result)

pub returns-then-is_word-clause-frugal : goal.returns-then-is_word-clause-frugal
returns-then-is_word-clause-frugal g c = λ frugal.
    let none = (create-step g (goal.at.returns-then-is_word-clause-frugal g c).After-create_shaped).1 in
    absurd (true≢false (sym frugal ∙ none))

-- which word the first one is
destroy-word : (g : _) (c : After-destroy_shaped g) → (is_same (chars (string_bytes c.name-item.result)) (literal "text") ≡ false)
    × (is_same (chars (string_bytes c.name-item.result)) (literal "destroy") ≡ true)
destroy-word g c = (
  subst (λ bytes. is_same (chars bytes) (literal "text") ≡ false) c.as_str-name.ensures.value
      (sym c.is_word.ensures ∙ c.if-is_word.false),
  subst (λ bytes. is_same (chars bytes) (literal "destroy") ≡ true) c.as_str-name.ensures.value
      (sym c.is_word-else-is_word.ensures ∙ c.if-is_word-2.true),
)

-- what the command is
destroy-step : (g : _) (c : After-destroy_shaped g)
    → (step c.args.self.now (texts_of c.args.words.now)
    ≡ destroy_shaped c.args.self.now (texts_of c.args.words.now) (reading (texts_of c.args.words.now)))
    × (are_frugal (texts_of c.args.words.now) ≡ false)
destroy-step g c =
    let word = destroy-word g c in
    destroys c.args.self.now c.args.words.now c.name-item.result c.in-len1-up.len_at_least c.name-item.is word.0 word.1

pub returns-then-is_word-2-clause-makes : goal.returns-then-is_word-2-clause-makes
returns-then-is_word-2-clause-makes g c =
    subst (Makes c.args.self.now c.destroy_shaped.new.self (answer_of c.destroy_shaped.result))
    (sym (destroy-step g (goal.at.returns-then-is_word-2-clause-makes g c).After-destroy_shaped).0)
    c.destroy_shaped.ensures.makes

pub returns-then-is_word-2-clause-tells : goal.returns-then-is_word-2-clause-tells
returns-then-is_word-2-clause-tells g c = λ _.
    destroyed c.args.self.now c.destroy_shaped.new.self c.args.words.now c.name-item.result c.in-len1-up.len_at_least
    c.name-item.is (destroy-word g (goal.at.returns-then-is_word-2-clause-tells g c).After-destroy_shaped).1
    (subst IsWellFormed c.self.view_is c.self.invariant) c.destroy_shaped.result c.destroy_shaped.ensures.edit

pub returns-then-is_word-2-clause-marks : goal.returns-then-is_word-2-clause-marks
returns-then-is_word-2-clause-marks g c = λ follows.
    destroyed-marks c.args.self.now c.destroy_shaped.new.self c.args.words.now c.name-item.result
    c.in-len1-up.len_at_least c.name-item.is
    (destroy-word g (goal.at.returns-then-is_word-2-clause-marks g c).After-destroy_shaped).1
    c.destroy_shaped.result (c.destroy_shaped.ensures.told follows)

pub returns-then-is_word-2-clause-unasked : goal.returns-then-is_word-2-clause-unasked
returns-then-is_word-2-clause-unasked g c = c.destroy_shaped.ensures.unasked

pub returns-then-is_word-2-clause-frugal : goal.returns-then-is_word-2-clause-frugal
returns-then-is_word-2-clause-frugal g c = λ frugal.
    let none = (destroy-step g (goal.at.returns-then-is_word-2-clause-frugal g c).After-destroy_shaped).1 in
    absurd (true≢false (sym frugal ∙ none))

-- what a command of a widget is
widget : (g : _) (c : After-on_widget g) → (step c.args.self.now (texts_of c.args.words.now)
    ≡ on_widget c.args.self.now (chars (string_bytes c.name-item.result)) (texts_of c.args.words.now))
    × (are_frugal (texts_of c.args.words.now) ≡ is_frugal_reading (reading (texts_of c.args.words.now)))
widget g c =
    widget-step c.args.self.now c.args.words.now c.name-item.result c.in-len1-up.len_at_least c.name-item.is
    (subst (λ bytes. is_same (chars bytes) (literal "text") ≡ false) c.as_str-name.ensures.value
    (sym c.is_word.ensures ∙ c.if-is_word.false))
    (subst (λ bytes. is_same (chars bytes) (literal "destroy") ≡ false) c.as_str-name.ensures.value
    (sym c.is_word-else-is_word.ensures ∙ c.if-is_word-2.false))

pub returns-else-is_word-2-clause-makes : goal.returns-else-is_word-2-clause-makes
returns-else-is_word-2-clause-makes g c =
    let world = c.args.self.now in let new = c.on_widget.new.self in let words = texts_of c.args.words.now in
    subst (Makes world new (answer_of c.on_widget.result))
    (sym (widget g (goal.at.returns-else-is_word-2-clause-makes g c).After-on_widget).0)
    (subst (λ bytes. Makes world new (answer_of c.on_widget.result) (on_widget world (chars bytes) words))
    c.as_str-name.ensures.value c.on_widget.ensures.makes)

pub returns-else-is_word-2-clause-tells : goal.returns-else-is_word-2-clause-tells
returns-else-is_word-2-clause-tells g c = λ follows.
    let world = c.args.self.now in let new = c.on_widget.new.self in let words = texts_of c.args.words.now in
    let name = chars (string_bytes c.name-item.result) in
    named world new c.args.words.now c.name-item.result c.in-len1-up.len_at_least c.name-item.is c.on_widget.result
    (subst (λ (o : Outcome). IfOk c.on_widget.result (λ told.
    TellsAt world new (home name world.documents) o.edits told.edit))
    (sym (widget g (goal.at.returns-else-is_word-2-clause-tells g c).After-on_widget).0)
    (subst (λ bytes. IfOk c.on_widget.result (λ told. TellsAt world new (home (chars bytes) world.documents)
    (on_widget world (chars bytes) words).edits told.edit))
    c.as_str-name.ensures.value (c.on_widget.ensures.tells follows)))

pub returns-else-is_word-2-clause-marks : goal.returns-else-is_word-2-clause-marks
returns-else-is_word-2-clause-marks g c = λ follows.
    let world = c.args.self.now in let new = c.on_widget.new.self in
    named-marks world new c.args.words.now c.name-item.result c.in-len1-up.len_at_least c.name-item.is
    (subst (λ bytes. is_same (chars bytes) (literal "destroy") ≡ false) c.as_str-name.ensures.value
    (sym c.is_word-else-is_word.ensures ∙ c.if-is_word-2.false))
    c.on_widget.result (subst (λ bytes. IfOk c.on_widget.result (λ told.
    MarksTellAt world new (home (chars bytes) world.documents) told.edit.changes told.marks))
    c.as_str-name.ensures.value (c.on_widget.ensures.marks follows))

pub returns-else-is_word-2-clause-frugal : goal.returns-else-is_word-2-clause-frugal
returns-else-is_word-2-clause-frugal g c = λ frugal.
    c.on_widget.ensures.frugal
    (sym (widget g (goal.at.returns-else-is_word-2-clause-frugal g c).After-on_widget).1 ∙ frugal)
