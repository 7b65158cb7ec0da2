use Rattle.std.proofs.Common.{◌∙◌, sym, ap}
use Rattle.std.specs.Option.{option_copied}
use Rattle.ql_bind.specs.declared.bound.Piece.TheVariants.{Run}
use Rattle.ql_eval.proofs.Leading.{run_leads, character_leads, byte_leads}
use Rattle.ql_eval.proofs.like.+upto_run.Goals as goal

pub returns-in-Run : goal.returns-in-Run
returns-in-Run t c = run_leads c.args.pieces.now Run c.args.text.now c.in-len1-up.len_at_least c.in-Run.is

pub returns-in-Some : goal.returns-in-Some
returns-in-Some t c = character_leads c.args.pieces.now _ c.args.text.now c.in-Some.left.now c.upto_run.result c.in-len1-up.len_at_least c.in-Character.is (sym c.past_character.ensures ∙ ap option_copied c.in-Some.is) c.upto_run.ensures

pub returns-in-Some-past_byte : goal.returns-in-Some-past_byte
returns-in-Some-past_byte t c = byte_leads c.in-Byte.byte c.args.pieces.now _ c.args.text.now c.in-Some-past_byte.left.now c.upto_run-in-Some-past_byte.result c.in-len1-up.len_at_least c.in-Byte.is (sym c.past_byte.ensures ∙ ap option_copied c.in-Some-past_byte.is) c.upto_run-in-Some-past_byte.ensures
