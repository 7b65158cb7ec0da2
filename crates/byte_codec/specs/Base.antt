-- The encodings of moments and media types.
use Rattle.std.proofs.Common.{◌≡◌, ℕ, ◌≤◌, Bool, leb, List, length, Option, refl, sym, ap, subst}
use Rattle.std.proofs.lemmas.Bool.{leb-true, le-leb}
use Rattle.cm_base.specs.declared.number.Moment.{Moment}
use Rattle.byte_codec.specs.Codecs.{Codec}
use Rattle.byte_codec.specs.Parts.{via, Narrows, narrow}
use Rattle.byte_codec.specs.Numbers.{where_true, where_some, signed, text}

abbrev pub moment : Codec Moment
moment = via (λ m. m.0) (λ z. record { 0 = z }) (λ m. refl) (λ z. refl) signed

-- A media type: a text of at most 255 bytes.
abbrev pub media_of : List ℕ → Option (List ℕ)
media_of t = where_true (leb (length t) 255) t

abbrev pub IsShort : List ℕ → Type 0
IsShort t = length t ≤ 255

pub medias : Narrows text (λ t. t) media_of IsShort
medias = record {
  forth = λ t h. ap (λ (b : Bool). where_true b t) (le-leb _ _ h);
  back = λ y x fits e. let w = where_some (leb (length y) 255) y x e in (sym w.1, subst (λ (z : List ℕ). length z ≤ 255) w.1 (leb-true _ _ w.0));
}

abbrev pub media : Codec (List ℕ)
media = narrow (λ t. t) media_of IsShort text medias
