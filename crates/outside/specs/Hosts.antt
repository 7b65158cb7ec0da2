-- Hosts: what they tell, and the links that they give.
use Rattle.std.specs.Prelude.{◌≡◌, ◌⊎◌, ℕ, ◌+◌, ◌-◌, ◌^◌, ◌<◌, false, List, [], ◌∷◌, Option, Some, None, IfSome, unwrap_or, Result, Ok, Err}
use Rattle.outside.specs.Outside.{SourceTold, SinkTold}
use Rattle.outside.specs.Memory.{MemLinkTold, source_told, sink_told}

-- a host: its port, how many links it has given since it began, how many it gives at most, and its count of faults
pub record HostTold : Type 0 where
  pub port : ℕ
  pub given : ℕ
  pub bound : ℕ
  pub faults : ℕ

-- a link that nobody has used: it hasn't ended, has given nothing and holds nothing, where it tells that, and neither side has counted a fault
pub record IsNew (source : SourceTold) (sink : SinkTold) : Type 0 where
  pub goes_on : source.ended ≡ false
  pub given : IfSome source.given (λ bytes. bytes ≡ [])
  pub held : IfSome sink.held (λ bytes. bytes ≡ [])
  pub reads : source.faults ≡ 0
  pub writes : sink.faults ≡ 0

-- a host begins, or fails to: it has this port, has given no link, and gives so many at most; without a number, as many as can be counted
pub record Begins (host : HostTold) (port : ℕ) (links : Option ℕ) : Type 0 where
  pub port_is : host.port ≡ port
  pub none_given : host.given ≡ 0
  pub bound_is : host.bound ≡ unwrap_or links (2 ^ 64 - 1)

module _ {L : Type 0} where
  -- the link is the first of those left, where they are told, and then those after it are left
  abbrev pub Gives : Option (List L) → L → Option (List L) → Type 0
  Gives None link after = after ≡ None
  Gives (Some left) link after = (rest : List L) × (left ≡ link ∷ rest) × (after ≡ Some rest)

  -- the links are told, and none is left
  abbrev pub NoneLeft : Option (List L) → Type 0
  NoneLeft None = ⊥
  NoneLeft (Some left) = left ≡ []

  -- Of an accept that answers this: a link that is new, and one more is given; none, exactly where as many were given as may be or none is left;
  -- an accept that fails changes nothing here.
  abbrev pub Accepts : {E : Type 0} → (L → Type 0) → HostTold → Option (List L) → Result (Option L) E → HostTold → Option (List L) → Type 0
  Accepts new host left (Ok (Some link)) host' left' = (host.given < host.bound) × (host'.given ≡ host.given + 1) × new link × Gives left link left'
  Accepts new host left (Ok None) host' left' = ((host.given ≡ host.bound) ⊎ NoneLeft left) × (host'.given ≡ host.given) × (left' ≡ left)
  Accepts new host left (Err x) host' left' = (host'.given ≡ host.given) × (left' ≡ left)

-- a host in memory: what it tells, the links that are left, the numbers of the begins and of the accepts that are to fail, and how many of each there were
pub record MemHostTold : Type 0 where
  pub host : HostTold
  pub left : List MemLinkTold
  pub begins : List ℕ
  pub accepts : List ℕ
  pub begun : ℕ
  pub asked : ℕ

-- a link in memory that nobody has used
abbrev pub is_new : MemLinkTold → Type 0
is_new link = IsNew (source_told link.source) (sink_told link.sink)
