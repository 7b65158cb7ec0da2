-- The bytes of a body, wherever they are.
use Rattle.std.specs.Prelude.{ℕ, List}
use Rattle.cm_base.specs.declared.body.BodyParts.{BodyParts}
use Rattle.cm_base.specs.declared.body.BodyParts.TheVariants.{Whole, Stream}

abbrev pub body_bytes : BodyParts → List ℕ
body_bytes (Whole bytes) = bytes
body_bytes (Stream pieces) = pieces
