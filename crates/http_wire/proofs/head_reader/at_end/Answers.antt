use Rattle.std.proofs.Common.{◌≡◌, ◌∙◌, [], ℕ, length, false, ap, sym}
use Rattle.std.proofs.lemmas.Bool.{false≢true}
use Rattle.std.specs.Prelude.{⊤, ◌==◌}
use Rattle.http_wire.proofs.HeadReading.{bad_answer, cut_answer}
use Rattle.http_wire.proofs.head_reader.at_end.Goals as goal

pub returns-in-Ok-Open-2 : goal.returns-in-Ok-Open-2
returns-in-Ok-Open-2 c =
    let some : c.args.bytes.now ≡ [] → ⊥ = λ e. (let n : length c.args.bytes.now ≡ 0 = ap length e in let t : (length c.args.bytes.now == 0) ≡ false = sym c.if-is_empty.ensures in false≢true (sym t ∙ ap (λ (k : ℕ). k == 0) n)) in
    cut_answer c.args.bytes.now c.examine_head.new.spans.items (rw c.in-Ok-Open.field-0-is at c.in-Ok-Open.ensures) some

pub returns-in-Ok-Bad : goal.returns-in-Ok-Bad
returns-in-Ok-Bad c = bad_answer ⊤ c.args.bytes.now c.in-Ok-Bad.fault (rw c.in-Ok-Bad.field-0-is at c.in-Ok-Bad.ensures)
