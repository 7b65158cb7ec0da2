-- The people of a journal, and its root.
use Rattle.std.proofs.Common.{◌≡◌, ℕ, Bool, true, false, if◌then◌else◌, List, [], ◌∷◌, Option, Some, None, refl, sym, subst}
use Rattle.std.specs.Prelude.{codes}
use Rattle.cm_base.specs.declared.user.Group.{Group}
use Rattle.cmis_spec.specs.Well.{HasGroups}
use Rattle.journal_people.specs.Told.{PeopleTold}
use Rattle.journal_people.specs.Tests.{has_groups, people_of}
use Rattle.journal_people.proofs.Tested.{groups_decided}
use Rattle.journal_replay.specs.declared.record.Root.{Root}
use Rattle.byte_codec.specs.Codecs.{Codec}
use Rattle.byte_codec.specs.Parts.{some_is, both, via, Narrows, narrow}
use Rattle.byte_codec.specs.Numbers.{text}
use Rattle.byte_codec.specs.Marks.{marked}
use Rattle.byte_codec.specs.Runs.{list}
use Rattle.byte_codec.specs.Base.{moment}

-- A group: its name, and the names of its members.
abbrev pub group_codec : Codec Group
group_codec = via (λ g. (g.name, g.members)) (λ t. record { name = t.0; members = t.1 }) (λ g. refl) (λ t. refl) (both text (list text))

-- Names and groups, whatever these are.
abbrev pub pair_codec : Codec (List (List ℕ) × List Group)
pair_codec = both (list text) (list group_codec)

abbrev pub pair_of : PeopleTold → List (List ℕ) × List Group
pair_of p = (p.names, p.groups)

abbrev pub people_in : List (List ℕ) × List Group → Option PeopleTold
people_in t = people_of t.0 t.1

-- the groups are such as these users may have
abbrev pub AreGrouped : PeopleTold → Type 0
AreGrouped p = HasGroups p.names p.groups

some_where : {A : Type 0} (b : Bool) (x : A) → b ≡ true → (if b then Some x else None) ≡ Some x
some_where true x e = refl
some_where false x e = absurd cc

where_some : {A : Type 0} (b : Bool) (x y : A) → (if b then Some x else None) ≡ Some y → (b ≡ true) × (x ≡ y)
where_some true x y e = (refl, some_is x y e)
where_some false x y e = absurd cc

pub peoples : Narrows pair_codec pair_of people_in AreGrouped
peoples = record {
  forth = λ p h. some_where (has_groups p.names p.groups) p ((groups_decided p.names p.groups).1 h);
  back = λ t p fits e. let w = where_some (has_groups t.0 t.1) (record { names = t.0; groups = t.1 }) p e in
      subst (λ (q : PeopleTold). (pair_of q ≡ t) × AreGrouped q) w.1 (refl, (groups_decided t.0 t.1).0 w.0);
}

-- The people: the names of the users, and the groups, which are such as these users may have.
abbrev pub people_codec : Codec PeopleTold
people_codec = narrow pair_of people_in AreGrouped pair_codec peoples

-- Behind the mark of journals: the moment of the root, and the people.
abbrev pub root_parts : Codec (Root PeopleTold)
root_parts = via (λ r. (r.moment, r.people)) (λ t. record { moment = t.0; people = t.1 }) (λ r. refl) (λ t. refl) (both moment people_codec)

abbrev pub journal_mark : List ℕ
journal_mark = codes "CMISJRN1"

-- The first payload.
abbrev pub root_codec : Codec (Root PeopleTold)
root_codec = marked 8 journal_mark refl root_parts

abbrev pub people_mark : List ℕ
people_mark = codes "P"

-- The payload of other people.
abbrev pub new_people_codec : Codec PeopleTold
new_people_codec = marked 1 people_mark refl people_codec
