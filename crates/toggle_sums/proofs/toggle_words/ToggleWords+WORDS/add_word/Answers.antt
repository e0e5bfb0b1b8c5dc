use Rattle.toggle_sums.proofs.Common.{◌≡◌, ◌<◌, ◌∙◌, ap, sym, bit_or, bit_xor, length, length-set, slice_index}
use Rattle.toggle_sums.proofs.Common.{slice_set, alone, slots_in, AreWords-alone, differing, WORDS, differing-empty}
use Rattle.toggle_sums.proofs.Common.{union-empty, slots_of}
use Rattle.text_model.proofs.OneWordSteps.{turned-word}
use Rattle.toggle_sums.proofs.UsedLaws.{last_used-set, some_of}
use Rattle.toggle_sums.proofs.WordSteps.{AreWords-differing, AreWords-joined, joined-word, slots_in-none}
use Rattle.toggle_sums.proofs.WordSteps.{slots_of-differing, slots_of-joined}
use Rattle.std.specs.FinSet as set
use Rattle.toggle_sums.proofs.toggle_words.ToggleWords+WORDS.add_word.Goals as goal

pub invariant_of-self : goal.invariant_of-self
invariant_of-self c =
    let odd = c.self.inside.parity in
    let any = c.self.inside.presence in
    let index = c.index-index.result in
    let bits = c.bits-bits.result in
    let within : index < WORDS = rw c.index-index.ensures.index c.index-index.ensures.word.within in
    let each = (AreWords-alone index bits within c.bits-bits.type_inv).each in
    let long : index < length odd = rw c.self.invariant.parity.long within in
    let long_too : index < length any = rw c.self.invariant.presence.long within in
    record {
      parity = AreWords-differing WORDS odd (alone index bits)
          (slice_set odd index (bit_xor (slice_index odd index) bits)) c.self.invariant.parity each
          (length-set odd index _ ∙ c.self.invariant.parity.long) (λ i _. turned-word odd index bits long within i);
      presence = AreWords-joined WORDS any (alone index bits)
          (slice_set any index (bit_or (slice_index any index) bits)) c.self.invariant.presence each
          (length-set any index _ ∙ c.self.invariant.presence.long) (λ i _. joined-word any index bits long_too within i);
      used = c.max-self-inside.ensures
          ∙ last_used-set WORDS c.self.inside.used index (bit_xor (slice_index odd index) bits)
          (bit_or (slice_index any index) bits) odd any c.self.invariant within
          (some_of (slice_index any index) bits c.if-bits-eq0.false);
    }

pub returns-then-bits-eq0 : goal.returns-then-bits-eq0
returns-then-bits-eq0 c =
    let none : c.args.slots.now ≡ set.empty =
    sym c.bits-bits.ensures ∙ ap (slots_in _) c.if-bits-eq0.true ∙ slots_in-none _ c.index-index.ensures.word.within in
    let now = c.args.self.now in
    rw none (λ i. record {
      parity = sym (differing-empty now.parity) i;
      presence = sym (union-empty now.presence) i;
    })

pub returns : goal.returns
returns c =
    let now = c.self.inside in
    let index = c.index-index.result in
    let bits = c.bits-bits.result in
    let within : index < WORDS = rw c.index-index.ensures.index c.index-index.ensures.word.within in
    let long : index < length now.parity = rw c.self.invariant.parity.long within in
    let long_too : index < length now.presence = rw c.self.invariant.presence.long within in
    let word : slots_in index bits ≡ c.args.slots.now = ap (λ n. slots_in n bits) c.index-index.ensures.index
    ∙ c.bits-bits.ensures in
    rw (← c.self.view_is) (λ i. record {
      parity = (slots_of-differing WORDS now.parity (alone index bits)
          (slice_set now.parity index (bit_xor (slice_index now.parity index) bits)) (λ i _.
          turned-word now.parity index bits long within i)
          ∙ ap (differing (slots_of WORDS now.parity)) word) i;
      presence = (slots_of-joined WORDS now.presence (alone index bits)
          (slice_set now.presence index (bit_or (slice_index now.presence index) bits)) (λ i _.
          joined-word now.presence index bits long_too within i)
          ∙ ap (set.union (slots_of WORDS now.presence)) word) i;
    })
