use Rattle.documents.proofs.documents.Document.new.Goals as goal

pub returns-clause-well_formed : goal.returns-clause-well_formed
returns-clause-well_formed g c =
    λ limits are. c.add_widget.ensures.well_formed limits (c.in_ok-document.ensures.well_formed limits are)
