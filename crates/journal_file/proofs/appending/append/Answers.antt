use Rattle.std.proofs.Common.{◌+◌, ℕ, List, subst}
use Rattle.disk.specs.Disks.{Writes}
use Rattle.journal_file.proofs.Steps.{write_fails, sync_fails, opening_fails, last_sync_fails, all_done, rests_again}
use Rattle.journal_file.proofs.appending.append.Goals as goal

pub returns-in_err-write_at-clause-any_moment : goal.returns-in_err-write_at-clause-any_moment
returns-in_err-write_at-clause-any_moment g c t before new rests is =
    let told = g.K.Disk.told in
    let d0 = told c.args.disk.now in
    let frame = c.args.frame.now in
    let gate = c.args.gate in
    write_fails before new gate frame d0 rests is c.requires.frame (told c.write_at.new.self) _ (c.in_err-write_at.ensures.err t)

pub returns-in_err-sync-clause-any_moment : goal.returns-in_err-sync-clause-any_moment
returns-in_err-sync-clause-any_moment g c t before new rests is =
    let told = g.K.Disk.told in
    let d0 = told c.args.disk.now in
    let frame = c.args.frame.now in
    let gate = c.args.gate in
    let wrote = subst (λ (piece : List ℕ). Writes (gate + 1) piece d0 (told c.write_at.new.self)) c.behind_gate.ensures (c.in_ok-write_at.ensures.ok t) in
    sync_fails before new gate frame d0 rests is c.requires.frame (told c.write_at.new.self) wrote (told c.sync.new.self) (c.in_err-sync.ensures.err t)

pub returns-in_err-write_at-2-clause-any_moment : goal.returns-in_err-write_at-2-clause-any_moment
returns-in_err-write_at-2-clause-any_moment g c t before new rests is =
    let told = g.K.Disk.told in
    let d0 = told c.args.disk.now in
    let frame = c.args.frame.now in
    let gate = c.args.gate in
    let wrote = subst (λ (piece : List ℕ). Writes (gate + 1) piece d0 (told c.write_at.new.self)) c.behind_gate.ensures (c.in_ok-write_at.ensures.ok t) in
    opening_fails before new gate frame d0 rests is c.requires.frame (told c.write_at.new.self) wrote (told c.sync.new.self) (c.in_ok-sync.ensures.ok t) (told c.write_at-2.new.self) (c.in_err-write_at-2.ensures.err t)

pub returns-in_err-sync-2-clause-any_moment : goal.returns-in_err-sync-2-clause-any_moment
returns-in_err-sync-2-clause-any_moment g c t before new rests is =
    let told = g.K.Disk.told in
    let d0 = told c.args.disk.now in
    let frame = c.args.frame.now in
    let gate = c.args.gate in
    let wrote = subst (λ (piece : List ℕ). Writes (gate + 1) piece d0 (told c.write_at.new.self)) c.behind_gate.ensures (c.in_ok-write_at.ensures.ok t) in
    last_sync_fails before new gate frame d0 rests is c.requires.frame (told c.write_at.new.self) wrote (told c.sync.new.self) (c.in_ok-sync.ensures.ok t)
    (told c.write_at-2.new.self) (c.in_ok-write_at-2.ensures.ok t) (told c.sync-2.new.self) (c.in_err-sync-2.ensures.err t)

pub returns-clause-any_moment : goal.returns-clause-any_moment
returns-clause-any_moment g c t before new rests is =
    let told = g.K.Disk.told in
    let d0 = told c.args.disk.now in
    let frame = c.args.frame.now in
    let gate = c.args.gate in
    let wrote = subst (λ (piece : List ℕ). Writes (gate + 1) piece d0 (told c.write_at.new.self)) c.behind_gate.ensures (c.in_ok-write_at.ensures.ok t) in
    all_done before new gate frame d0 rests is c.requires.frame (told c.write_at.new.self) wrote (told c.sync.new.self) (c.in_ok-sync.ensures.ok t)
    (told c.write_at-2.new.self) (c.in_ok-write_at-2.ensures.ok t) (told c.sync-2.new.self) (c.in_ok-sync-2.ensures.ok t)

pub returns-clause-rests : goal.returns-clause-rests
returns-clause-rests g c t before new rests is =
    let told = g.K.Disk.told in
    let d0 = told c.args.disk.now in
    let frame = c.args.frame.now in
    let gate = c.args.gate in
    let wrote = subst (λ (piece : List ℕ). Writes (gate + 1) piece d0 (told c.write_at.new.self)) c.behind_gate.ensures (c.in_ok-write_at.ensures.ok t) in
    rests_again before new gate frame d0 rests is c.requires.frame (told c.write_at.new.self) wrote (told c.sync.new.self) (c.in_ok-sync.ensures.ok t)
    (told c.write_at-2.new.self) (c.in_ok-write_at-2.ensures.ok t) (told c.sync-2.new.self) (c.in_ok-sync-2.ensures.ok t)
