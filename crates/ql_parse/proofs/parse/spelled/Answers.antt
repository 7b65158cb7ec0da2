use Rattle.ql_parse.proofs.Saying.{stopped_refuses, stopped_meets, long_refuses, long_meets, short_says, short_meets}
use Rattle.ql_parse.proofs.parse.spelled.Goals as goal

pub returns-then-is_long-clause-refused : goal.returns-then-is_long-clause-refused
returns-then-is_long-clause-refused c = long_refuses c.args.text.now c.args.tokens.now c.requires c.in-Ok.query c.in-Ok.ensures (c.is_long.ensures.long c.if-is_long.true) _ c.too_long.ensures

pub returns-then-is_long-clause-alone : goal.returns-then-is_long-clause-alone
returns-then-is_long-clause-alone c = long_meets c.args.text.now c.args.tokens.now c.requires c.in-Ok.query c.in-Ok.ensures (c.is_long.ensures.long c.if-is_long.true) _ c.too_long.ensures

pub returns-else-is_long-clause-found : goal.returns-else-is_long-clause-found
returns-else-is_long-clause-found c = short_says c.args.text.now c.args.tokens.now c.requires c.in-Ok.query c.in-Ok.ensures (c.is_long.ensures.short c.if-is_long.false)

pub returns-else-is_long-clause-alone : goal.returns-else-is_long-clause-alone
returns-else-is_long-clause-alone c = short_meets c.args.text.now c.args.tokens.now c.requires c.in-Ok.query c.in-Ok.ensures (c.is_long.ensures.short c.if-is_long.false)

pub returns-in-Err-clause-refused : goal.returns-in-Err-clause-refused
returns-in-Err-clause-refused c = stopped_refuses c.args.text.now c.args.tokens.now c.requires c.in-Err.stop _ c.in-Err.ensures c.refusal.ensures

pub returns-in-Err-clause-alone : goal.returns-in-Err-clause-alone
returns-in-Err-clause-alone c = stopped_meets c.args.text.now c.args.tokens.now c.requires c.in-Err.stop _ c.in-Err.ensures c.refusal.ensures
