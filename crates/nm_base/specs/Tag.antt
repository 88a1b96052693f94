-- The error tags (RFC 6241 appendix A), their numbers in a journal and their texts.
use Rattle.std.specs.Prelude.{ℕ, ◌==◌, List, Option, Some, None, codes, if◌then◌else◌}
use Rattle.nm_base.specs.declared.tag.Tag.{Tag}
use Rattle.nm_base.specs.declared.tag.Tag.TheVariants.{InUse, InvalidValue, LockDenied, AccessDenied, DataExists, DataMissing, OperationFailed, ResourceDenied, UnknownElement, BadAttribute, MissingElement}

-- the number of a tag (this project's own)
abbrev pub tag_number : Tag → ℕ
tag_number InUse = 1
tag_number InvalidValue = 2
tag_number LockDenied = 3
tag_number AccessDenied = 4
tag_number DataExists = 5
tag_number DataMissing = 6
tag_number OperationFailed = 7
tag_number ResourceDenied = 8
tag_number UnknownElement = 9
tag_number BadAttribute = 10
tag_number MissingElement = 11

-- the tag of a number, where there is one
abbrev pub tag_of : ℕ → Option Tag
tag_of number =
    if number == 1 then Some InUse
    else (if number == 2 then Some InvalidValue
    else (if number == 3 then Some LockDenied
    else (if number == 4 then Some AccessDenied
    else (if number == 5 then Some DataExists
    else (if number == 6 then Some DataMissing
    else (if number == 7 then Some OperationFailed
    else (if number == 8 then Some ResourceDenied
    else (if number == 9 then Some UnknownElement
    else (if number == 10 then Some BadAttribute
    else (if number == 11 then Some MissingElement
    else None))))))))))

-- the text of a tag (RFC 6241 appendix A)
abbrev pub tag_text : Tag → List ℕ
tag_text InUse = codes "in-use"
tag_text InvalidValue = codes "invalid-value"
tag_text LockDenied = codes "lock-denied"
tag_text AccessDenied = codes "access-denied"
tag_text DataExists = codes "data-exists"
tag_text DataMissing = codes "data-missing"
tag_text OperationFailed = codes "operation-failed"
tag_text ResourceDenied = codes "resource-denied"
tag_text UnknownElement = codes "unknown-element"
tag_text BadAttribute = codes "bad-attribute"
tag_text MissingElement = codes "missing-element"
