use Rattle.std.proofs.Common.{sym}
use Rattle.http_grammar.specs.Request.{head_of}
use Rattle.http_wire.proofs.SeenHeads.{faulty_head}
use Rattle.http_wire.proofs.heads.judge.Goals as goal

pub returns-in-Ok : goal.returns-in-Ok
returns-in-Ok c =
    let w = c.requires in
    let framing = sym (c.in-Ok.ensures (head_of w.text) (sym w.at.minor) (sym w.at.fields)) in
    record {
      whole = w;
      framing_is = framing;
      expects_is = c.expects_continue-expects.ensures (head_of w.text) (sym w.at.minor) (sym w.at.fields) framing;
    }

pub returns-in-Err : goal.returns-in-Err
returns-in-Err c =
    let w = c.requires in
    faulty_head c.args.bytes.now c.args.spans.now c.args.head c.in-Err.fault w (c.in-Err.ensures (head_of w.text) (sym w.at.minor) (sym w.at.fields))
