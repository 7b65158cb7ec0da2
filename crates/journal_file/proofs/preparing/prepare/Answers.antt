use Rattle.std.proofs.Common.{◌≡◌, ◌∙◌, ◌≤◌, subst, [], ◌∷◌, ℕ, List, length, sym, ap, arith}
use Rattle.disk.specs.Disks.{FileTold, overwritten}
use Rattle.disk.specs.Crashes.{IsSynced}
use Rattle.journal_file.specs.Records.{IsAsBefore}
use Rattle.disk.specs.Joining.{started, goes_on, goes_on_same}
use Rattle.journal_file.proofs.Beginning.{is_synced, sync_leaves, gate_leaves, gate_alone, gate_stays, torn_on}
use Rattle.journal_file.proofs.preparing.prepare.Goals as goal

pub returns-in_err-len-clause-any_moment : goal.returns-in_err-len-clause-any_moment
returns-in_err-len-clause-any_moment g c t =
    let told = g.K.Disk.told in
    let P = IsAsBefore (told c.args.disk.now).file.seen in
    let s = c.in_ok-sync.ensures.ok t in
    let one = goes_on P (told c.args.disk.now) (told c.args.disk.now) (told c.sync.new.self) (started P (told c.args.disk.now)) s.past (sync_leaves (told c.args.disk.now) (told c.sync.new.self) s) in
    goes_on_same P (told c.args.disk.now) (told c.sync.new.self) (told c.len.new.self) one (c.len.ensures.file t)

pub returns-then-len-gt1-clause-any_moment : goal.returns-then-len-gt1-clause-any_moment
returns-then-len-gt1-clause-any_moment g c t =
    let told = g.K.Disk.told in
    let P = IsAsBefore (told c.args.disk.now).file.seen in
    let s = c.in_ok-sync.ensures.ok t in
    let one = goes_on P (told c.args.disk.now) (told c.args.disk.now) (told c.sync.new.self) (started P (told c.args.disk.now)) s.past (sync_leaves (told c.args.disk.now) (told c.sync.new.self) s) in
    goes_on_same P (told c.args.disk.now) (told c.sync.new.self) (told c.len.new.self) one (c.len.ensures.file t)

pub returns-in_err-write_at-clause-any_moment : goal.returns-in_err-write_at-clause-any_moment
returns-in_err-write_at-clause-any_moment g c t =
    let told = g.K.Disk.told in
    let old = told c.args.disk.now in
    let P = IsAsBefore old.file.seen in
    let s = c.in_ok-sync.ensures.ok t in
    let f = c.len.ensures.file t in
    let one = goes_on P old old (told c.sync.new.self) (started P old) s.past (sync_leaves old (told c.sync.new.self) s) in
    let two = goes_on_same P old (told c.sync.new.self) (told c.len.new.self) one f in
    let same : (told c.len.new.self).file.seen ≡ old.file.seen = ap (λ (l : FileTold). l.seen) f.file ∙ s.seen in
    let synced : IsSynced (told c.len.new.self).file = subst IsSynced (sym f.file) (is_synced old (told c.sync.new.self) s) in
    let short : length old.file.seen ≤ 1 = omega (arith, ap length s.seen, c.in_ok-len.ensures.len t, c.if-len-gt1.false) in
    torn_on P old (told c.len.new.self) (told c.write_at.new.self) 0 1 two (c.in_err-write_at.ensures.err t)
    (λ kept written. gate_leaves old (told c.len.new.self) (told c.write_at.new.self) short same synced kept written)

pub returns-in_err-sync-2-clause-any_moment : goal.returns-in_err-sync-2-clause-any_moment
returns-in_err-sync-2-clause-any_moment g c t =
    let told = g.K.Disk.told in
    let old = told c.args.disk.now in
    let P = IsAsBefore old.file.seen in
    let s = c.in_ok-sync.ensures.ok t in
    let f = c.len.ensures.file t in
    let one = goes_on P old old (told c.sync.new.self) (started P old) s.past (sync_leaves old (told c.sync.new.self) s) in
    let two = goes_on_same P old (told c.sync.new.self) (told c.len.new.self) one f in
    let same : (told c.len.new.self).file.seen ≡ old.file.seen = ap (λ (l : FileTold). l.seen) f.file ∙ s.seen in
    let synced : IsSynced (told c.len.new.self).file = subst IsSynced (sym f.file) (is_synced old (told c.sync.new.self) s) in
    let short : length old.file.seen ≤ 1 = omega (arith, ap length s.seen, c.in_ok-len.ensures.len t, c.if-len-gt1.false) in
    let w = c.in_ok-write_at.ensures.ok t in
    let three = goes_on P old (told c.len.new.self) (told c.write_at.new.self) two w.past (gate_leaves old (told c.len.new.self) (told c.write_at.new.self) short same synced w.synced w.written) in
    goes_on_same P old (told c.write_at.new.self) (told c.sync-2.new.self) three (c.in_err-sync-2.ensures.err t)

pub returns-clause-any_moment : goal.returns-clause-any_moment
returns-clause-any_moment g c t =
    let told = g.K.Disk.told in
    let old = told c.args.disk.now in
    let P = IsAsBefore old.file.seen in
    let s = c.in_ok-sync.ensures.ok t in
    let f = c.len.ensures.file t in
    let one = goes_on P old old (told c.sync.new.self) (started P old) s.past (sync_leaves old (told c.sync.new.self) s) in
    let two = goes_on_same P old (told c.sync.new.self) (told c.len.new.self) one f in
    let same : (told c.len.new.self).file.seen ≡ old.file.seen = ap (λ (l : FileTold). l.seen) f.file ∙ s.seen in
    let synced : IsSynced (told c.len.new.self).file = subst IsSynced (sym f.file) (is_synced old (told c.sync.new.self) s) in
    let short : length old.file.seen ≤ 1 = omega (arith, ap length s.seen, c.in_ok-len.ensures.len t, c.if-len-gt1.false) in
    let w = c.in_ok-write_at.ensures.ok t in
    let three = goes_on P old (told c.len.new.self) (told c.write_at.new.self) two w.past (gate_leaves old (told c.len.new.self) (told c.write_at.new.self) short same synced w.synced w.written) in
    let alone : (told c.write_at.new.self).file.seen ≡ 0 ∷ [] = w.seen ∙ ap (λ (l : List ℕ). overwritten l 0 (0 ∷ [])) same ∙ gate_alone old.file.seen short in
    let last = c.in_ok-sync-2.ensures.ok t in
    goes_on P old (told c.write_at.new.self) (told c.sync-2.new.self) three last.past (gate_stays old (told c.write_at.new.self) (told c.sync-2.new.self) short alone last)
