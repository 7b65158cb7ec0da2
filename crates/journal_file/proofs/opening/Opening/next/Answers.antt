use Rattle.std.proofs.Common.{◌∙◌, ◌+◌, ◌++◌, ◌∷◌, [], take, drop, ap, sym, subst}
use Rattle.disk.specs.Disks.{FileTold}
use Rattle.journal_file.specs.declared.reading.Head.{Head}
use Rattle.journal_file.specs.Records.{BeginsWith, IsDamagedAfter}
use Rattle.journal_file.specs.Heads.{IsHead, EndsWithin}
use Rattle.journal_file.specs.Told.{OpeningTold}
use Rattle.journal_file.proofs.OneMore.{goes_behind, counted, damages, one_more, short_file}
use Rattle.journal_file.proofs.opening.Opening.next.Goals as goal

pub invariant_of-rest : goal.invariant_of-rest
invariant_of-rest g c =
    let told = g.K.Disk.told in
    let o = c.self.inside in
    let n = c.in-Payload.len in
    goes_behind g.K.Disk.tells (told o.disk).file o.place o.left o.count c.self.invariant (told c.bytes_at.new.disk).file n c.in-Ok-bytes_at.bytes.items
    (λ t. (c.in-Ok-bytes_at.ensures.file t).file ∙ (c.in-Ok.ensures.file t).file)
    (subst (λ (h : Head). EndsWithin h o.left) c.in-Payload.is c.in-Ok.ensures.ends)
    (λ t. subst (λ (h : Head). IsHead h (drop o.place (told o.disk).file.seen)) c.in-Payload.is (c.in-Ok.ensures.head t))
    (λ t. c.in-Ok-bytes_at.ensures.bytes t ∙ ap (λ (f : FileTold). take n (drop (o.place + 9) f.seen)) (c.in-Ok.ensures.file t).file)

pub returns-in-Broken-clause-damaged : goal.returns-in-Broken-clause-damaged
returns-in-Broken-clause-damaged g c t before begins =
    let told = g.K.Disk.told in
    let o = c.self.inside in
    let here = subst (λ (x : OpeningTold g.row.K.Denot). BeginsWith before x.place (told x.disk).file.seen) (sym c.self.view_is) begins in
    let head = subst (λ (h : Head). IsHead h (drop o.place (told o.disk).file.seen)) c.in-Broken.is (c.in-Ok.ensures.head t) in (
      counted g.K.Disk.tells (told o.disk).file o.place o.left o.count c.self.invariant before t here,
      subst (λ (x : OpeningTold g.row.K.Denot). IsDamagedAfter before (told x.disk).file.seen) c.self.view_is
          (damages before o.place (told o.disk).file.seen here head (c.self.invariant.one_byte t)),
    )

pub returns-in-Ok-bytes_at-clause-next : goal.returns-in-Ok-bytes_at-clause-next
returns-in-Ok-bytes_at-clause-next g c t before begins =
    let told = g.K.Disk.told in
    let o = c.self.inside in
    let n = c.in-Payload.len in
    let bytes = c.in-Ok-bytes_at.bytes.items in
    let here = subst (λ (x : OpeningTold g.row.K.Denot). BeginsWith before x.place (told x.disk).file.seen) (sym c.self.view_is) begins in
    let head = subst (λ (h : Head). IsHead h (drop o.place (told o.disk).file.seen)) c.in-Payload.is (c.in-Ok.ensures.head t) in
    let got = c.in-Ok-bytes_at.ensures.bytes t ∙ ap (λ (f : FileTold). take n (drop (o.place + 9) f.seen)) (c.in-Ok.ensures.file t).file in
    subst (λ (x : OpeningTold g.row.K.Denot). BeginsWith (before ++ bytes ∷ []) (o.place + 9 + n) (told x.disk).file.seen) c.self.view_is
    (one_more before o.place (told o.disk).file.seen here n bytes head got (short_file g.K.Disk.tells (told o.disk).file o.place o.left o.count c.self.invariant t))
