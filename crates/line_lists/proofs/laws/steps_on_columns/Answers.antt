use Rattle.line_lists.proofs.StepLaws.{cells-bare, cells-cleared_all, cells-inserted, cells-removed, cells-tagged}
use Rattle.line_lists.proofs.laws.steps_on_columns.Goals as goal

pub returns-clause-removed : goal.returns-clause-removed
returns-clause-removed c = cells-removed

pub returns-clause-inserted : goal.returns-clause-inserted
returns-clause-inserted c = cells-inserted

pub returns-clause-tagged : goal.returns-clause-tagged
returns-clause-tagged c = cells-tagged

pub returns-clause-bare : goal.returns-clause-bare
returns-clause-bare c = cells-bare

pub returns-clause-cleared : goal.returns-clause-cleared
returns-clause-cleared c = cells-cleared_all
