use Rattle.std.proofs.Common.{◌≡◌, ◌+◌, ◌-◌, ◌∙◌, List, ℕ, Bool, true, false, length, ap, sym, arith}
use Rattle.std.specs.Prelude.{◌&&◌, nat_le}
use Rattle.http_grammar.specs.Limits.{chunked_limit, body_limit}
use Rattle.http_wire.proofs.ChunkReading.{chunked_limit_is, line_stop, last_done, last_stop, long_chunk, chunk_done, data_stop}
use Rattle.http_wire.proofs.chunks.read_chunk.Goals as goal

fits_at : (body : List ℕ) (form len size n : ℕ) (t : Bool) → n ≡ length body → t ≡ (nat_le (n + size) body_limit && nat_le (form + (len + size + 2)) 134217728)
    → (nat_le (length body + size) body_limit && nat_le (form + (len + size + 2)) 134217728) ≡ t
fits_at body form len size n t e f = ap (λ (m : ℕ). nat_le (m + size) body_limit && nat_le (form + (len + size + 2)) 134217728) (sym e) ∙ sym f

pub returns-in-Err-clause-reads : goal.returns-in-Err-clause-reads
returns-in-Err-clause-reads g c =
    let b : c.args.form + (134217728 - c.args.form) ≡ chunked_limit = omega (arith, chunked_limit_is, c.requires.within) in
    line_stop _ _ _ c.args.form (134217728 - c.args.form) _ _ c.in-Err.stop b c.in-Err.ensures.reads

pub returns-in-Ok-read_piece-clause-reads : goal.returns-in-Ok-read_piece-clause-reads
returns-in-Ok-read_piece-clause-reads g c =
    let b : c.args.form + (134217728 - c.args.form) ≡ chunked_limit = omega (arith, chunked_limit_is, c.requires.within) in
    last_done _ _ _ _ c.args.form (134217728 - c.args.form) _ _ _ c.in-Ok.line c.in-Ok-read_piece.field-0 b c.in-Ok.ensures.reads c.if-line-eq0.true c.in-Ok-read_piece.ensures.reads

pub returns-in-Err-read_piece-clause-reads : goal.returns-in-Err-read_piece-clause-reads
returns-in-Err-read_piece-clause-reads g c =
    let b : c.args.form + (134217728 - c.args.form) ≡ chunked_limit = omega (arith, chunked_limit_is, c.requires.within) in
    last_stop _ _ _ _ c.args.form (134217728 - c.args.form) _ _ _ c.in-Ok.line c.in-Err-read_piece.stop b c.in-Ok.ensures.reads c.if-line-eq0.true c.in-Err-read_piece.ensures.reads

pub returns-then-not-fits-clause-reads : goal.returns-then-not-fits-clause-reads
returns-then-not-fits-clause-reads g c =
    let b : c.args.form + (134217728 - c.args.form) ≡ chunked_limit = omega (arith, chunked_limit_is, c.requires.within) in
    long_chunk _ _ _ c.args.form (134217728 - c.args.form) _ _ c.in-Ok.line b c.in-Ok.ensures.reads c.if-line-eq0.false (fits_at c.args.body.now.items c.args.form c.in-Ok.line.len c.in-Ok.line.size c.len_of.result false c.len_of.ensures c.if-not-fits.ensures)

pub returns-in-Ok-read_data-clause-reads : goal.returns-in-Ok-read_data-clause-reads
returns-in-Ok-read_data-clause-reads g c =
    let b : c.args.form + (134217728 - c.args.form) ≡ chunked_limit = omega (arith, chunked_limit_is, c.requires.within) in
    chunk_done _ _ _ _ _ c.args.form (134217728 - c.args.form) _ _ _ c.in-Ok.line b c.in-Ok.ensures.reads c.if-line-eq0.false (fits_at c.args.body.now.items c.args.form c.in-Ok.line.len c.in-Ok.line.size c.len_of.result true c.len_of.ensures c.if-not-fits.ensures) c.in-Ok-read_data.ensures.reads

pub returns-in-Err-read_data-clause-reads : goal.returns-in-Err-read_data-clause-reads
returns-in-Err-read_data-clause-reads g c =
    let b : c.args.form + (134217728 - c.args.form) ≡ chunked_limit = omega (arith, chunked_limit_is, c.requires.within) in
    data_stop _ _ _ _ _ c.args.form (134217728 - c.args.form) _ _ _ c.in-Ok.line c.in-Err-read_data.stop b c.in-Ok.ensures.reads c.if-line-eq0.false (fits_at c.args.body.now.items c.args.form c.in-Ok.line.len c.in-Ok.line.size c.len_of.result true c.len_of.ensures c.if-not-fits.ensures) c.in-Err-read_data.ensures.reads
