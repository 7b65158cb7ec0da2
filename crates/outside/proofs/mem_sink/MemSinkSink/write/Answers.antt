use Rattle.std.proofs.Common.{◌∙◌, inl, sym, ap, Some, length, List, ℕ, arith}
use Rattle.std.proofs.lemmas.List.{take_all}
use Rattle.outside.specs.Memory.{is_listed}
use Rattle.outside.proofs.mem_sink.MemSinkSink.write.Goals as goal

pub returns-then-contains-clause-wants : goal.returns-then-contains-clause-wants
returns-then-contains-clause-wants c =
    inl (rw (← c.self.view_is) (sym (ap (λ (xs : List ℕ). is_listed xs c.self.inside.calls) c.as_slice.ensures.value) ∙ sym c.contains.ensures.value ∙ c.if-contains.true))

pub returns-in-Ok-clause-bytes : goal.returns-in-Ok-clause-bytes
returns-in-Ok-clause-bytes c =
    let piece : List ℕ = c.args.piece.now in
    (c.requires, omega arith, ap Some (rw (take_all (length piece) piece (omega arith), ← c.self.view_is) c.in-Ok.ensures.items))
