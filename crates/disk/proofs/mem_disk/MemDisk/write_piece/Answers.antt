use Rattle.std.proofs.Common.{◌∙◌, sym, ap, ℕ, List}
use Rattle.disk.specs.Calls.{at_first, replayed}
use Rattle.disk.specs.Disks.{overwritten}
use Rattle.disk.proofs.Replay.{seen_more, wrote_more}
use Rattle.disk.specs.declared.mem_disk.Call.{Call}
use Rattle.disk.specs.declared.mem_disk.Call.TheVariants as calls_of
use Rattle.disk.proofs.mem_disk.MemDisk.write_piece.Goals as goal

pub invariant_of-self : goal.invariant_of-self
invariant_of-self c =
    let same = c.in_err-write_and_keep.ensures.err in
    same.0 ∙ c.self.invariant ∙ ap (λ (l : List Call). (replayed (at_first c.self.inside.first.items) l).seen) (sym same.1)

pub invariant_of-self-2 : goal.invariant_of-self-2
invariant_of-self-2 c =
    let call = c.in_ok-write_and_keep.ensures.call in
    c.in_ok-write_and_keep.ensures.file
    ∙ ap (λ (l : List ℕ). overwritten l c.args.at c.args.piece.now) c.self.invariant
    ∙ ap (λ (l : List ℕ). overwritten (replayed (at_first c.self.inside.first.items) c.self.inside.calls.items).seen c.args.at l) (sym call.1)
    ∙ sym (seen_more (at_first c.self.inside.first.items) c.self.inside.calls.items c.write_and_keep.new.calls.items c.self.inside.faults (calls_of.Wrote c.args.at call.0) call.2)

pub returns-clause-ok : goal.returns-clause-ok
returns-clause-ok c =
    let call = c.in_ok-write_and_keep.ensures.call in
    rw (← c.self.view_is) (wrote_more (at_first c.self.inside.first.items) c.self.inside.calls.items c.write_and_keep.new.calls.items c.self.inside.faults c.args.at call.0 c.args.piece.now call.1 call.2)
