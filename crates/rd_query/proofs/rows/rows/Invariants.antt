use Rattle.rd_query.proofs.rows.rows.Given as goal

abbrev pub ghosts-rows_by : goal.ghosts-rows_by
ghosts-rows_by a = record { name = a.blank.name; parts = a.blank.parts }
