use Rattle.std.proofs.Common.{◌≡◌, ◌≤◌, ◌-◌, length}
use Rattle.http_wire.specs.Windows.{held}
use Rattle.http_wire.proofs.ChunkReading.{InChunks}
use Rattle.http_grammar.specs.Limits.{field_room, body_limit}
use Rattle.http_wire.proofs.chunks.read_chunks.Given as goal

abbrev pub invariant-chunks : goal.invariant-chunks
invariant-chunks g l =
    InChunks (held l.fn.window) (held l.window) l.body.items l.form (g.S.Source.told l.fn.source) (g.S.Source.told l.source)
    × (g.S.Source.aside l.source ≡ g.S.Source.aside l.fn.source)
    × (length l.spans ≡ field_room)
    × (length l.body.items ≤ body_limit) × (l.form ≤ 134217728)

abbrev pub decreases-chunks : goal.decreases-chunks
decreases-chunks g l = 134217728 - l.form
