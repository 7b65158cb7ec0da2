-- The requests of a load: each tenth makes a folder in the root, and the nine after it make documents in that folder (CMIS 1.1, sections 5.4.3.1 and 5.4.3.3).
use Rattle.std.specs.Prelude.{ℕ, ◌*◌, ◌/◌, ◌%◌, ◌==◌, List, ◌++◌, length, codes, decimal, if◌then◌else◌}

abbrev pub folder_name : ℕ → List ℕ
folder_name i = codes "f" ++ decimal i

abbrev pub document_name : ℕ → List ℕ
document_name i = codes "d" ++ decimal i

-- the address of a document's folder, which is the last one before it
abbrev pub folder_path : ℕ → List ℕ
folder_path i = codes "/cmis/main/root/" ++ folder_name (i / 10 * 10)

-- the name of a control of a list (CMIS 1.1, section 5.4.1)
unfoldable pub indexed : List ℕ → ℕ → List ℕ
indexed name i = name ++ (codes "[" ++ (decimal i ++ codes "]"))

unfoldable pub control : List ℕ → ℕ → List ℕ → List ℕ
control name i value = codes "&" ++ (indexed name i ++ (codes "=" ++ value))

-- the two controls of a property
unfoldable pub property : ℕ → List ℕ → List ℕ → List ℕ
property i id value = control (codes "propertyId") i id ++ control (codes "propertyValue") i value

unfoldable pub action_control : List ℕ → List ℕ
action_control action = codes "cmisaction=" ++ action

unfoldable pub properties : List ℕ → List ℕ → List ℕ
properties kind name = property 0 (codes "cmis:name") name ++ property 1 (codes "cmis:objectTypeId") kind

-- the form that makes an object with this name and type
unfoldable pub form : List ℕ → List ℕ → List ℕ → List ℕ
form action kind name = action_control action ++ (properties kind name ++ codes "&succinct=true")

-- a host, the user admin with the secret pw (RFC 7617), and the kind of form
unfoldable pub fields : List ℕ
fields = codes "Host: x\r\nAuthorization: Basic YWRtaW46cHc=\r\nContent-Type: application/x-www-form-urlencoded\r\n"

unfoldable pub request_line : List ℕ → List ℕ
request_line path = codes "POST " ++ (path ++ codes " HTTP/1.1\r\n")

unfoldable pub length_line : ℕ → List ℕ
length_line n = codes "Content-Length: " ++ (decimal n ++ codes "\r\n")

-- the head of a request to this address whose body is so long
unfoldable pub head : List ℕ → ℕ → List ℕ
head path length = request_line path ++ (fields ++ length_line length)

-- a form that is posted to this address
unfoldable pub posted : List ℕ → List ℕ → List ℕ
posted path form = head path (length form) ++ (codes "\r\n" ++ form)

abbrev pub creates : List ℕ → List ℕ → List ℕ → List ℕ → List ℕ
creates path action kind name = posted path (form action kind name)

abbrev pub makes_folder : ℕ → List ℕ
makes_folder i = creates (codes "/cmis/main/root") (codes "createFolder") (codes "cmis:folder") (folder_name i)

abbrev pub makes_document : ℕ → List ℕ
makes_document i = creates (folder_path i) (codes "createDocument") (codes "cmis:document") (document_name i)

-- the request with this number, counted from 0
abbrev pub request : ℕ → List ℕ
request i = if i % 10 == 0 then makes_folder i else makes_document i
