-- A session that ended by itself leads to the state at the end of its history.
use Rattle.std.specs.Prelude.{◌≡◌, ℕ, List, Option, Some, IfSome}
use Rattle.std.specs.List.{flat_map}
use Rattle.std.proofs.Common.{ap}
use Rattle.cm_base.specs.declared.user.User.{User}
use Rattle.outside.specs.Clocks.{Words, words_of}
use Rattle.outside.specs.Outside.{SourceTold, SinkTold}
use Rattle.desk_model.specs.Histories.{History, replay, state_of}
use Rattle.load_requests.specs.Requests.{request}
use Rattle.talk.specs.declared.end.End.{End}
use Rattle.talk.specs.Served.{Kind}
use Rattle.talk.specs.Alone.{Alone, IsFinal}
use Rattle.talk.specs.Ran.{RunAlone}
use Rattle.load_sessions.specs.Sessions.{Leads}

some_of : {A : Type 0} (P : A → Type 0) (o : Option A) (x : A) → o ≡ Some x → IfSome o P → P x
some_of P o x e h = rw e at h

pub leading : {S C Q : Type 0} (kind : Kind S C Q) (opening : S) (users : List User) (numbers : List ℕ) (words : Option Words) (source source' : SourceTold) (sink sink' : SinkTold) (end : End) (last : History S C) (after : Option Words)
    → RunAlone kind opening users words source sink source' sink' end last.journal after
    → words ≡ Some (words_of numbers) → source.left ≡ Some (flat_map request numbers) → IsFinal end → last.opening ≡ opening
    → Leads kind users numbers opening (state_of kind.next last)
leading kind opening users numbers words source source' sink sink' end last after ran told left final opens = record {
  output = ran.output;
  end = end;
  journal = last.journal;
  alone = some_of (λ bytes. Alone kind opening users (words_of numbers) bytes ran.output end last.journal) source.left (flat_map request numbers) left
      (some_of (λ w. IfSome source.left (λ bytes. Alone kind opening users w bytes ran.output end last.journal)) words (words_of numbers) told (ran.on_all final));
  after_is = ap (λ s. replay kind.next s last.journal) opens;
}
