-- The data of a chunk and the line end behind it.
use Rattle.std.proofs.Common.{◌≡◌, ◌++◌, ◌∙◌, ◌≤◌, ℕ, List, [], ◌∷◌, length, take, drop, true, false, Ok, Err, refl, sym, ap, append_assoc, length-append, arith}
use Rattle.std.proofs.lemmas.Bool.{false≢true}
use Rattle.std.proofs.lemmas.List.{take-append-le, drop-append-le}
use Rattle.outside.specs.Outside.{SourceTold, Gave}
use Rattle.outside.proofs.Known.{Gave-then}
use Rattle.http_grammar.specs.Chunks.{begins_line_end, may_begin_line_end}
use Rattle.http_grammar.specs.declared.fault.HttpFault.TheVariants.{BadHead, LongHead, LongBody, BadLength, Coding, Cut}
use Rattle.http_wire.specs.Bodies.{Fills, ReadsData}
use Rattle.http_wire.specs.Pieces.{ReadsPiece}
use Rattle.http_wire.specs.declared.fault.WireStop.{WireStop}
use Rattle.http_wire.specs.declared.fault.WireStop.TheVariants.{Bad, ReadFault, Memory}
use Rattle.http_wire.specs.declared.piece.Piece.TheVariants as piece
use Rattle.http_wire.specs.declared.piece.PieceEnd.{PieceEnd}

begins_two : (t : List ℕ) → begins_line_end (take 2 t) ≡ begins_line_end t
begins_two [] = refl
begins_two (b ∷ []) = refl
begins_two (b ∷ c ∷ t) = refl

may_two : (t : List ℕ) → may_begin_line_end (take 2 t) ≡ may_begin_line_end t
may_two [] = refl
may_two (b ∷ []) = refl
may_two (b ∷ c ∷ t) = refl

-- two bytes aren't open
full_end : (t : List ℕ) → 2 ≤ length t → begins_line_end (take 2 t) ≡ false → may_begin_line_end (take 2 t) ≡ true → ⊥
full_end [] long e f = omega arith
full_end (b ∷ []) long e f = omega arith
full_end (b ∷ c ∷ t) long e f = false≢true (sym e ∙ f)

-- what the data and the bytes behind it are, of all that came
pub record Data (before mid : List ℕ) (body body' : List ℕ) (size : ℕ) (old middle new : SourceTold) (got2 : List ℕ) : Type 0 where
  pub got : List ℕ
  pub gave : Gave old new got
  pub rose : old.faults ≤ middle.faults
  pub enough : size ≤ length (before ++ got)
  pub behind : drop size (before ++ got) ≡ mid ++ got2
  pub body_is : body' ≡ body ++ take size (before ++ got)

pub data_of : (before mid body body' : List ℕ) (size : ℕ) (old middle new : SourceTold) (got2 : List ℕ) → Fills before mid body body' size old middle (Ok tt) → Gave middle new got2
    → Data before mid body body' size old middle new got2
data_of before mid body body' size old middle new got2 r gave =
    let some : size ≤ length (before ++ r.got) = r.answer.0 in
    let e : before ++ (r.got ++ got2) ≡ before ++ r.got ++ got2 = sym (append_assoc before r.got got2) in
    record {
      got = r.got ++ got2;
      gave = Gave-then old middle new r.got got2 r.gave gave;
      rose = r.gave.later;
      enough = omega (arith, ap length e, length-append (before ++ r.got) got2);
      behind = ap (drop size) e ∙ drop-append-le size (before ++ r.got) got2 some ∙ ap (λ (t : List ℕ). t ++ got2) (sym r.answer.1);
      body_is = r.answer.2 ∙ ap (λ (t : List ℕ). body ++ t) (sym (ap (take size) e ∙ take-append-le size (before ++ r.got) got2 some));
    }

pub data_done : (before mid after body body' : List ℕ) (size : ℕ) (old middle new : SourceTold) (e : PieceEnd) → Fills before mid body body' size old middle (Ok tt)
    → ReadsPiece mid after piece.End 2 middle new (Ok e) → ReadsData before after body body' size old new (Ok tt)
data_done before mid after body body' size old middle new e r q =
    let d = data_of before mid body body' size old middle new q.got r q.gave in
    record {
      got = d.got;
      gave = d.gave;
      answer = (
        d.enough,
        ap begins_line_end d.behind ∙ sym (begins_two (mid ++ q.got)) ∙ q.answer.0.0,
        q.answer.1 ∙ ap (λ (n : ℕ). drop n (mid ++ q.got)) q.answer.0.1 ∙ ap (drop 2) (sym d.behind),
        d.body_is,
      );
    }

pub data_stopped : (before mid after body body' : List ℕ) (size : ℕ) (old middle new : SourceTold) (stop : WireStop) → Fills before mid body body' size old middle (Ok tt)
    → ReadsPiece mid after piece.End 2 middle new (Err stop) → ReadsData before after body body' size old new (Err stop)
data_stopped before mid after body body' size old middle new (Bad Cut) r q =
    let d = data_of before mid body body' size old middle new q.got r q.gave in
    record {
      got = d.got;
      gave = d.gave;
      answer = (
        ap begins_line_end d.behind ∙ sym (begins_two (mid ++ q.got)) ∙ q.answer.0.0.0,
        ap may_begin_line_end d.behind ∙ sym (may_two (mid ++ q.got)) ∙ q.answer.0.0.1,
        q.answer.1,
      );
    }
data_stopped before mid after body body' size old middle new (Bad BadLength) r q =
    let d = data_of before mid body body' size old middle new q.got r q.gave in
    record {
      got = d.got;
      gave = d.gave;
      answer = (
        ap begins_line_end d.behind ∙ sym (begins_two (mid ++ q.got)) ∙ q.answer.0,
        ap may_begin_line_end d.behind ∙ sym (may_two (mid ++ q.got)) ∙ q.answer.1,
      );
    }
data_stopped before mid after body body' size old middle new (Bad LongBody) r q = absurd (full_end (mid ++ q.got) q.answer.1 q.answer.0.0 q.answer.0.1)
data_stopped before mid after body body' size old middle new (Bad BadHead) r q = absurd q.answer
data_stopped before mid after body body' size old middle new (Bad LongHead) r q = absurd q.answer
data_stopped before mid after body body' size old middle new (Bad Coding) r q = absurd q.answer
data_stopped before mid after body body' size old middle new ReadFault r q =
    let d = data_of before mid body body' size old middle new q.got r q.gave in
    record {
      got = d.got;
      gave = d.gave;
      answer = (
        ap begins_line_end d.behind ∙ sym (begins_two (mid ++ q.got)) ∙ q.answer.0.0.0,
        ap may_begin_line_end d.behind ∙ sym (may_two (mid ++ q.got)) ∙ q.answer.0.0.1,
        (let f : old.faults ≤ middle.faults = d.rose in omega (arith, q.answer.1)),
      );
    }
data_stopped before mid after body body' size old middle new Memory r q =
    let d = data_of before mid body body' size old middle new q.got r q.gave in
    record { got = d.got; gave = d.gave; answer = tt }
