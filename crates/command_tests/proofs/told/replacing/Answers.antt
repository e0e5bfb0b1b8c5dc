use Rattle.std.proofs.Common.{◌++◌, ap, sym, subst, ◌∙◌}
use Rattle.edit_ops.specs.Told.{replacing, AreHunks}
use Rattle.edit_ops.proofs.HunkLaws.{replacing-stand}
use Rattle.command_tests.proofs.told.replacing.Goals as goal

pub returns : goal.returns
returns c = λ len within.
    let hunk = replacing c.args.from c.args.to c.new-text.result in
    subst (AreHunks 0 len)
    (sym (c.in_ok-push_replacement.ensures ∙ ap (λ hs. hs ++ hunk) c.new-hunks.ensures.items))
    (replacing-stand c.args.from c.args.to len c.new-text.result c.requires within)
