-- The properties that the repository sets, or that are kept beside an object's other values, and their ids.
use Rattle.std.specs.Prelude.{ℕ, List, [], ◌∷◌, find, Option, bytes_eq, codes}
use Rattle.cm_see.specs.declared.system.SystemProperty.{SystemProperty}
use Rattle.cm_see.specs.declared.system.SystemProperty.TheVariants as properties

abbrev pub system_word : SystemProperty → List ℕ
system_word properties.Name = codes "cmis:name"
system_word properties.ObjectId = codes "cmis:objectId"
system_word properties.BaseTypeId = codes "cmis:baseTypeId"
system_word properties.ObjectTypeId = codes "cmis:objectTypeId"
system_word properties.SecondaryObjectTypeIds = codes "cmis:secondaryObjectTypeIds"
system_word properties.CreatedBy = codes "cmis:createdBy"
system_word properties.CreationDate = codes "cmis:creationDate"
system_word properties.LastModifiedBy = codes "cmis:lastModifiedBy"
system_word properties.LastModificationDate = codes "cmis:lastModificationDate"
system_word properties.ChangeToken = codes "cmis:changeToken"
system_word properties.ParentId = codes "cmis:parentId"
system_word properties.Path = codes "cmis:path"
system_word properties.IsImmutable = codes "cmis:isImmutable"
system_word properties.IsLatestVersion = codes "cmis:isLatestVersion"
system_word properties.IsMajorVersion = codes "cmis:isMajorVersion"
system_word properties.IsLatestMajorVersion = codes "cmis:isLatestMajorVersion"
system_word properties.IsPrivateWorkingCopy = codes "cmis:isPrivateWorkingCopy"
system_word properties.VersionLabel = codes "cmis:versionLabel"
system_word properties.VersionSeriesId = codes "cmis:versionSeriesId"
system_word properties.IsVersionSeriesCheckedOut = codes "cmis:isVersionSeriesCheckedOut"
system_word properties.VersionSeriesCheckedOutBy = codes "cmis:versionSeriesCheckedOutBy"
system_word properties.VersionSeriesCheckedOutId = codes "cmis:versionSeriesCheckedOutId"
system_word properties.ContentStreamLength = codes "cmis:contentStreamLength"
system_word properties.ContentStreamMimeType = codes "cmis:contentStreamMimeType"
system_word properties.ContentStreamFileName = codes "cmis:contentStreamFileName"
system_word properties.ContentStreamId = codes "cmis:contentStreamId"

abbrev pub system_properties : List SystemProperty
system_properties = properties.Name ∷ properties.ObjectId ∷ properties.BaseTypeId ∷ properties.ObjectTypeId ∷ properties.SecondaryObjectTypeIds ∷ properties.CreatedBy ∷ properties.CreationDate ∷ properties.LastModifiedBy ∷ properties.LastModificationDate ∷ properties.ChangeToken ∷ properties.ParentId ∷ properties.Path ∷ properties.IsImmutable ∷ properties.IsLatestVersion ∷ properties.IsMajorVersion ∷ properties.IsLatestMajorVersion ∷ properties.IsPrivateWorkingCopy ∷ properties.VersionLabel ∷ properties.VersionSeriesId ∷ properties.IsVersionSeriesCheckedOut ∷ properties.VersionSeriesCheckedOutBy ∷ properties.VersionSeriesCheckedOutId ∷ properties.ContentStreamLength ∷ properties.ContentStreamMimeType ∷ properties.ContentStreamFileName ∷ properties.ContentStreamId ∷ []

abbrev pub system_named : List ℕ → Option SystemProperty
system_named id = find (λ p. bytes_eq (system_word p) id) system_properties
