use Rattle.reports.proofs.Common.{subst, take, take_all, texts_of, AreGone}
use Rattle.reports.proofs.GoneLaws.{gone-none, names-more}
use Rattle.reports.proofs.tags_gone.tell_gone.Goals as goal

pub loop-name-init : goal.loop-name-init
loop-name-init g c = λ seats seated.
    gone-none seats c.args.tags.now seated c.requires (g.S.TextStore.content c.args.store.now).cells c.new-told.result
    c.new-told.ensures c.empty-seen.result c.empty-seen.ensures

pub loop-name-preserved : goal.loop-name-preserved
loop-name-preserved g c = λ seats seated.
    let words = c.args.names.now in
    let at = c.loop-name.name-index in
    let before = texts_of (take at words) in
    subst (λ names. AreGone seats c.args.tags.now (g.S.TextStore.content c.args.store.now).cells names
    c.push_gone.new.seen c.push_gone.new.told)
    (names-more words at c.name-item.result c.as_str.result.now c.in_ok-key.key c.loop-name-test.true c.name-item.is
    c.as_str.ensures.value c.in_ok-key.ensures)
    (c.in_ok-push_gone.ensures seats before seated (c.loop-name.invariant seats seated))

pub returns : goal.returns
returns g c = λ seats seated.
    let gone = subst (λ words. AreGone seats c.args.tags.now (g.S.TextStore.content c.args.store.now).cells
    (texts_of words) c.loop-name.seen c.loop-name.told)
    (take_all c.loop-name.name-index c.args.names.now c.loop-name-test.false) (c.loop-name.invariant seats seated) in
    (gone.tells, gone.gapped)
