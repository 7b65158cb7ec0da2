use Rattle.std.proofs.Common.{◌++◌, ◌∙◌, List, ℕ, ap, sym, subst, arith}
use Rattle.std.proofs.lemmas.List.{append-nil}
use Rattle.journal_file.specs.Records.{StandsFor}
use Rattle.journal_file.proofs.Steps.{none_in_frame}
use Rattle.journal_file.proofs.journal.Journal.put_all.Goals as goal

pub returns-then-len-lt2-clause-stands : goal.returns-then-len-lt2-clause-stands
returns-then-len-lt2-clause-stands g c t before stands =
    let none = none_in_frame c.args.payloads.now c.in-Ok.frame.items c.in-Ok.ensures (omega (arith, c.if-len-lt2.true, c.len.ensures)) in
    subst (λ (ps : List (List ℕ)). StandsFor ps (g.K.Disk.told c.args.self.disk).file.seen) (sym (ap (λ (ps : List (List ℕ)). before ++ ps) none ∙ append-nil before)) stands
