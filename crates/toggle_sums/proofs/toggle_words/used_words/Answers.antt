use Rattle.toggle_sums.proofs.Common.{◌≡◌, suc, ◌-◌, sym, ap, ◌∙◌, arith, last_used}
use Rattle.toggle_sums.proofs.UsedLaws.{last_used-below, last_used-first, last_used-none, last_used-second}
use Rattle.toggle_sums.proofs.UsedLaws.{last_used-zero}
use Rattle.toggle_sums.proofs.toggle_words.used_words.Goals as goal

pub loop-used-init : goal.loop-used-init
loop-used-init g c = record {
  small = c.requires.most;
  same = last_used-below g.row.K c.args.most c.args.parity.now c.args.presence.now c.requires.most c.requires.parity
      c.requires.presence;
}

pub loop-used-preserved : goal.loop-used-preserved
loop-used-preserved g c =
    let now = c.loop-used.used - 1 in
    let parity = c.args.parity.now in
    let presence = c.args.presence.now in
    record {
      small = omega (arith, c.loop-used.invariant.small);
      same =
          c.loop-used.invariant.same
          ∙ ap (λ n. last_used n parity presence) (omega (arith, c.loop-used-test.true))
          ∙ last_used-none now parity presence c.if-parity-used-eq0.true c.if-presence-used-eq0.true;
    }

pub returns-else-presence-used-eq0 : goal.returns-else-presence-used-eq0
returns-else-presence-used-eq0 g c =
    let now = c.loop-used.used - 1 in
    let parity = c.args.parity.now in
    let presence = c.args.presence.now in
    let last : suc now ≡ c.loop-used.used = omega (arith, c.loop-used-test.true) in
    sym (c.loop-used.invariant.same ∙ ap (λ n. last_used n parity presence) (sym last)
    ∙ last_used-second now parity presence c.if-presence-used-eq0.false ∙ last)

pub returns-else-parity-used-eq0 : goal.returns-else-parity-used-eq0
returns-else-parity-used-eq0 g c =
    let now = c.loop-used.used - 1 in
    let parity = c.args.parity.now in
    let presence = c.args.presence.now in
    let last : suc now ≡ c.loop-used.used = omega (arith, c.loop-used-test.true) in
    sym (c.loop-used.invariant.same ∙ ap (λ n. last_used n parity presence) (sym last)
    ∙ last_used-first now parity presence c.if-parity-used-eq0.false ∙ last)

pub returns-after-loop-used : goal.returns-after-loop-used
returns-after-loop-used g c =
    let parity = c.args.parity.now in
    let presence = c.args.presence.now in
    let none : c.loop-used.used ≡ 0 = omega (arith, c.loop-used-test.false) in
    none ∙ sym (c.loop-used.invariant.same ∙ ap (λ n. last_used n parity presence) none
    ∙ last_used-zero parity presence)
