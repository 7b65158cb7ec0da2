use Rattle.wr_types.proofs.delete_type.delete_type.Goals as goal

pub returns-clause-written : goal.returns-clause-written
returns-clause-written c = (c.in_ok-types.ensures.0, c.in_ok-made.ensures c.args.moment)
