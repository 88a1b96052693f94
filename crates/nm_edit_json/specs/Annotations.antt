-- What the annotations of an edit say (RFC 6241 section 7.2; RFC 7952 section 5.2).
use Rattle.std.specs.Prelude.{ℕ, List, [], ◌∷◌, codes, Option, Some, None, option_and_then}
use Rattle.std.specs.List.{find}
use Rattle.std.specs.Str.{bytes_eq}
use Rattle.serde_json.specs.Data.{Data, string, object, Members, no_members, member}
use Rattle.serde_json.specs.Find.{get_member, as_object}
use Rattle.nm_edit.specs.declared.operation.Operation.{Operation}
use Rattle.nm_edit.specs.declared.operation.Operation.TheVariants.{Merge, Replace, Create, Delete, Remove}
use Rattle.nm_edit_json.specs.declared.said.Said.{Said}
use Rattle.nm_edit_json.specs.declared.said.Said.TheVariants.{Unsaid, Says, Misread}

-- ---- one annotation

-- the word of an operation (RFC 6241 section 7.2)
abbrev pub operation_word : Operation → List ℕ
operation_word Merge = codes "merge"
operation_word Replace = codes "replace"
operation_word Create = codes "create"
operation_word Delete = codes "delete"
operation_word Remove = codes "remove"

-- the name of the one annotation of edits: the attribute `operation` of NETCONF, with the module that defines it
abbrev pub operation_name : List ℕ
operation_name = codes "ietf-netconf:operation"

-- the JSON value that says an operation of a node: an object with that annotation alone (RFC 7952 section 5.2.1)
abbrev pub annotation : Operation → Data
annotation operation = object (member operation_name (string (operation_word operation)) no_members)

-- the operation of a word
unfoldable pub operation_of : List ℕ → Option Operation
operation_of word = find (λ operation. bytes_eq word (operation_word operation)) (Merge ∷ Replace ∷ Create ∷ Delete ∷ Remove ∷ [])

-- the operation that the value of that annotation is
abbrev pub operation_at : Option Data → Option Operation
operation_at (Some (string word)) = operation_of word
operation_at _ = None

-- the operation that members of an object say: that of the only one, which has the annotation's name
abbrev pub operation_among : Members → Option Operation
operation_among (member name d no_members) = operation_at (get_member operation_name (member name d no_members))
operation_among _ = None

-- the operation that a JSON value says
abbrev pub operation_in : Data → Option Operation
operation_in d = option_and_then operation_among (as_object d)

-- an annotation says an operation, or isn't one of an edit
abbrev pub said_by : Option Operation → Said
said_by None = Misread
said_by (Some operation) = Says operation

-- what is said where there may be an annotation
abbrev pub said_in : Option Data → Said
said_in None = Unsaid
said_in (Some d) = said_by (operation_in d)

-- what is said where there may be one with and one without the module's name: not both (this project's own)
abbrev pub said_in_one : Option Data → Option Data → Said
said_in_one None None = Unsaid
said_in_one (Some d) None = said_in (Some d)
said_in_one None (Some d) = said_in (Some d)
said_in_one (Some d) (Some e) = Misread
