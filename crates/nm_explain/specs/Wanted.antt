-- What was wanted where a part of a scenario is wrong by itself (this project's own).
use Rattle.std.specs.Prelude.{ℕ, List, [], ◌∷◌, Option, Some, None, codes, if◌then◌else◌}
use Rattle.std.specs.Str.{bytes_eq}
use Rattle.nm_proto.specs.declared.kind.ScenarioKind.{ScenarioKind}
use Rattle.nm_proto.specs.declared.kind.ScenarioKind.TheVariants.{TooLong, NotJson, NotBuilt, Missing, Unknown, BadValue, TooMany, Yang, Schema, Content, Invalid}
use Rattle.nm_scenario_form.specs.declared.fault.Step.{Step}
use Rattle.nm_scenario_form.specs.declared.fault.Step.TheVariants.{Name, Item}

-- what a kind of fault means, in a sentence
abbrev pub of_kind : ScenarioKind → List ℕ
of_kind TooLong = codes "the input has more than 16,777,216 bytes"
of_kind NotJson = codes "the input is not one JSON value"
of_kind NotBuilt = codes "this is planned, and not there yet"
of_kind Missing = codes "the member is missing"
of_kind Unknown = codes "no member has this name"
of_kind BadValue = codes "the value is none of those that may stand here"
of_kind TooMany = codes "there are more than the limit"
of_kind Yang = codes "the text is no module"
of_kind Schema = codes "the module says what isn't taken"
of_kind Content = codes "the configuration or the edit can't be read"
of_kind Invalid = codes "the configuration isn't valid, or holds marks"

-- where to look for what no line here tells
abbrev pub elsewhere : List ℕ
elsewhere = codes "docs/FORMATS.md has what may stand here"

-- members of the whole, of devices, of change sets and of operators
unfoldable pub of_outer_member : List ℕ → List ℕ
of_outer_member name =
    if bytes_eq name (codes "script") then codes "wanted: an empty list" else (
    if bytes_eq name (codes "faults") then codes "wanted: an empty list" else (
    if bytes_eq name (codes "events") then codes "wanted: a list of events, each a word with its arguments" else (
    if bytes_eq name (codes "drain") then codes "wanted: true or false" else (
    if bytes_eq name (codes "trace") then codes "wanted: true or false" else (
    if bytes_eq name (codes "notices") then codes "wanted: true or false" else elsewhere)))))

-- what is wanted of members of change sets, of edits and of operators
unfoldable pub of_inner_member : List ℕ → List ℕ
of_inner_member name =
    if bytes_eq name (codes "edits") then codes "wanted: a list of one edit or more, by ascending devices" else (
    if bytes_eq name (codes "device") then codes "wanted: the number of a device, above that of the edit before" else (
    if bytes_eq name (codes "default") then codes "wanted: \"merge\", \"replace\" or \"none\"" else (
    if bytes_eq name (codes "edit") then codes "wanted: an object of cells with numbers or null, or an edit of data of the modules" else (
    if bytes_eq name (codes "operators") then codes "wanted: a list of at most 16 operators" else (
    if bytes_eq name (codes "user") then codes "wanted: a name of 1 to 64 bytes other than \"netm\"" else of_outer_member name)))))

-- what is wanted of a member of this name
unfoldable pub of_member : List ℕ → List ℕ
of_member name =
    if bytes_eq name (codes "netm") then codes "wanted: the number 1" else (
    if bytes_eq name (codes "contents") then codes "wanted: \"flat\" or \"yang\"" else (
    if bytes_eq name (codes "modules") then codes "wanted: a list of at most 16 texts of modules" else (
    if bytes_eq name (codes "devices") then codes "wanted: a list of 1 to 32 devices, each an object with its running configuration" else (
    if bytes_eq name (codes "running") then codes "wanted: an object of cells, or data of the modules" else (
    if bytes_eq name (codes "changes") then codes "wanted: a list of at most 64 change sets" else (
    if bytes_eq name (codes "timeout") then codes "wanted: seconds from 1 to 4294967295" else of_inner_member name))))))

-- the innermost name of a place, behind the one found so far
abbrev pub innermost : Option (List ℕ) → List Step → Option (List ℕ)
innermost found [] = found
innermost found (Name name ∷ place) = innermost (Some name) place
innermost found (Item n ∷ place) = innermost found place

-- what is wanted of a member, where the fault is in one
abbrev pub of_name : Option (List ℕ) → List ℕ
of_name None = elsewhere
of_name (Some name) = of_member name

-- what the innermost name of a place wants
abbrev pub at_place : List Step → List ℕ
at_place place = of_name (innermost None place)
