use Rattle.documents.proofs.Common.{ℕ, Bool, [], take, subst, sym, ap, is_at, list_any, contains, nat_cmp, take_all}
use Rattle.documents.proofs.Common.{texts_of, AreListed, texts-more}
use Rattle.documents.proofs.ListedMarksLaws.{listed-none, listed-watched-all, unset-others}
use Rattle.documents.proofs.PartsLaws.{stand}
use Rattle.documents.proofs.documents.Document.list_shared_marks.Goals as goal

pub loop-name-init : goal.loop-name-init
loop-name-init g c =
    let seen : ℕ → Bool = contains nat_cmp c.new-seen.result in
    subst (AreListed c.args.self.now [] seen) (sym c.new-marks.ensures)
    (listed-none c.args.self.now seen (λ number. ap (list_any (is_at (nat_cmp number))) c.new-seen.ensures.empty))

pub loop-name-preserved : goal.loop-name-preserved
loop-name-preserved g c =
    let names = c.args.names.now in let at = c.loop-name.name-index in
    let seen : ℕ → Bool = contains nat_cmp c.push_shared.new.seen in
    subst (λ words. AreListed c.args.self.now words seen c.push_shared.new.marks)
    (texts-more names at c.name-item.result c.as_str.result.now c.loop-name-test.true c.name-item.is
    c.as_str.ensures.value)
    (c.in_ok-push_shared.ensures (texts_of (take at names)) c.loop-name.invariant)

pub returns-clause-watched : goal.returns-clause-watched
returns-clause-watched g c =
    let names = c.args.names.now in
    let seen : ℕ → Bool = contains nat_cmp c.loop-name.seen in
    listed-watched-all c.args.self.now (texts_of (take c.loop-name.name-index names)) seen c.loop-name.marks
    c.loop-name.invariant

pub returns-clause-all : goal.returns-clause-all
returns-clause-all g c =
    let names = c.args.names.now in
    let seen : ℕ → Bool = contains nat_cmp c.loop-name.seen in
    unset-others (texts_of names) seen c.loop-name.marks (stand c.self.invariant c.self.view_is)
    (subst (λ words. AreListed c.args.self.now (texts_of words) seen c.loop-name.marks)
    (take_all c.loop-name.name-index names c.loop-name-test.false) c.loop-name.invariant)
