use Rattle.std.proofs.Common.{◌≡◌, ◌+◌, ◌∙◌, ◌≤◌, length, take, drop, ap, List, ℕ, ◌++◌, arith, length-drop}
use Rattle.std.proofs.lemmas.List.{length-take}
use Rattle.outside.proofs.Known.{Gave-none}
use Rattle.http_wire.proofs.Ranges.{longer_range, same_range, some_gave}
use Rattle.http_wire.proofs.window.Window.read_more.Goals as goal

pub returns-in-Ok-read_at-clause-more : goal.returns-in-Ok-read_at-clause-more
returns-in-Ok-read_at-clause-more g c =
    let w = c.make_room.new.self in
    let got : List ℕ = take c.in-Ok-read_at.count (drop w.end c.read_at.new.bytes.items) in
    let some : c.in-Ok-read_at.count ≡ 0 → ⊥ = c.in-Ok-read_at.count-test.1 in
    let fits : w.end + c.in-Ok-read_at.count ≤ length c.read_at.new.bytes.items = c.in-Ok-read_at.ensures.bound in (
      got,
      longer_range w.bytes.items c.read_at.new.bytes.items w.start w.end c.in-Ok-read_at.count w.in_range.0 c.read_at.ensures.front ∙ ap (λ (t : List ℕ). t ++ got) c.make_room.ensures.held,
      omega (arith, length-take c.in-Ok-read_at.count (drop w.end c.read_at.new.bytes.items), length-drop w.end c.read_at.new.bytes.items),
      some_gave _ _ got c.in-Ok-read_at.count c.in-Ok-read_at.ensures.bytes c.in-Ok-read_at.ensures.cause.later,
    )

pub returns-in-Err-clause-more : goal.returns-in-Err-clause-more
returns-in-Err-clause-more g c =
    let w = c.make_room.new.self in (
      same_range w.bytes.items c.read_at.new.bytes.items w.start w.end w.in_range.0 c.read_at.ensures.front ∙ c.make_room.ensures.held,
      c.in-Err.ensures.cause.failed,
      Gave-none _ _ c.in-Err.ensures.bytes.0 c.in-Err.ensures.bytes.1 c.in-Err.ensures.cause.later,
    )
