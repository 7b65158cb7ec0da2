use Rattle.desk_model.proofs.clock.moment_of_word.Goals as goal

pub returns-clause-of_word : goal.returns-clause-of_word
returns-clause-of_word c = record { word = c.args.word; moment_is = c.capped.ensures }
