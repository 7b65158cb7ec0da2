use Rattle.journal_file.proofs.One.{as_before_stands, stood_before, damaged_before}
use Rattle.journal_file.proofs.laws.as_before.Goals as goal

pub returns-clause-stands : goal.returns-clause-stands
returns-clause-stands c = as_before_stands

pub returns-clause-stood : goal.returns-clause-stood
returns-clause-stood c = stood_before

pub returns-clause-damaged : goal.returns-clause-damaged
returns-clause-damaged c = damaged_before
