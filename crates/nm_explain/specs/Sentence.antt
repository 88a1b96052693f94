-- What the words of lower readers mean (this project's own).
use Rattle.std.specs.Prelude.{ℕ, List, Bool, true, false, Option, Some, None, codes, if◌then◌else◌}
use Rattle.std.specs.Str.{bytes_eq}

-- of a statement of a module (RFC 7950)
unfoldable pub of_statement : List ℕ → List ℕ
of_statement word =
    if bytes_eq word (codes "unsupported") then codes "netm doesn't take this" else (
    if bytes_eq word (codes "unknown") then codes "nothing of this name is known here" else (
    if bytes_eq word (codes "duplicate") then codes "a second one where one may stand" else (
    if bytes_eq word (codes "bad-reference") then codes "it leads to nothing that may stand here" else (
    if bytes_eq word (codes "bad-argument") then codes "this is missing, or its argument is missing or hasn't its form" else (
    if bytes_eq word (codes "cycle") then codes "it leads back to itself" else (
    if bytes_eq word (codes "too-large") then codes "the modules up to this one have too many nodes, or one with more than 64 above it" else word))))))

-- of the text of a module (RFC 7950 section 6)
unfoldable pub of_whole_text : List ℕ → List ℕ
of_whole_text word =
    if bytes_eq word (codes "not-module") then codes "the outermost statement is no module" else (
    if bytes_eq word (codes "trailing") then codes "something stands behind the module" else (
    if bytes_eq word (codes "not-utf8") then codes "bytes that aren't UTF-8" else (
    if bytes_eq word (codes "too-long") then codes "the text has more than 262,144 bytes" else (
    if bytes_eq word (codes "too-deep") then codes "more than 64 braces are open" else of_statement word))))

-- a fault of a module's text, in a sentence
unfoldable pub of_module : List ℕ → List ℕ
of_module word =
    if bytes_eq word (codes "unclosed-quote") then codes "a quote that is never closed" else (
    if bytes_eq word (codes "unclosed-comment") then codes "a comment that is never closed" else (
    if bytes_eq word (codes "unclosed-brace") then codes "a brace that is never closed" else (
    if bytes_eq word (codes "bad-escape") then codes "a backslash that begins no escape" else (
    if bytes_eq word (codes "bad-keyword") then codes "a character that can't stand in a keyword" else (
    if bytes_eq word (codes "bad-token") then codes "something that can't stand here" else of_whole_text word)))))

-- of an error tag (RFC 6241 appendix A)
unfoldable pub of_tag : List ℕ → List ℕ
of_tag word =
    if bytes_eq word (codes "unknown-element") then codes "the modules have no such node" else (
    if bytes_eq word (codes "missing-element") then codes "something that has to be there is missing" else (
    if bytes_eq word (codes "bad-attribute") then codes "an annotation that says no operation or may not stand there" else (
    if bytes_eq word (codes "invalid-value") then codes "a value that the node doesn't take" else (
    if bytes_eq word (codes "data-missing") then codes "something that has to be there is missing, or a leafref names nothing" else (
    if bytes_eq word (codes "operation-failed") then codes "a rule of the modules forbids what stands there" else word)))))

-- of a part of a configuration or an edit (RFC 7951)
unfoldable pub of_data : List ℕ → List ℕ
of_data word =
    if bytes_eq word (codes "unknown") then codes "the modules have no such node" else (
    if bytes_eq word (codes "bad-form") then codes "a JSON value of another kind than the node wants" else (
    if bytes_eq word (codes "bad-value") then codes "the type of the node has no such value" else (
    if bytes_eq word (codes "missing-key") then codes "a list entry without one of its keys" else (
    if bytes_eq word (codes "repeated") then codes "it stands there twice" else of_tag word))))

-- whether a word is about a value that stands there, and if so whether its form may be what is wrong. An edit's word for both is one
unfoldable pub asks_form : List ℕ → Option Bool
asks_form word =
    if bytes_eq word (codes "bad-value") then Some false else (
    if bytes_eq word (codes "bad-form") then Some true else (
    if bytes_eq word (codes "invalid-value") then Some true else None))
