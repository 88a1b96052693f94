-- The made scenario of a number, as one line of compact JSON (this project's own; RFC 8259 for JSON, RFC 7951 for the data in it). Members,
-- entries and leafs stand in path order, and members at their default are left out.
use Rattle.std.specs.Prelude.{ℕ, zero, suc, ◌+◌, ◌*◌, List, [], ◌∷◌, ◌++◌, nat_le, ◌==◌, ◌||◌, Option, Some, None, codes, decimal, if◌then◌else◌}
use Rattle.std.specs.List.{flat_map}
use Rattle.nm_make.specs.declared.draw.MadeEdit.{MadeEdit}
use Rattle.nm_make.specs.declared.draw.MadeChange.{MadeChange}
use Rattle.nm_make.specs.Drawn.{seeded, changes_drawn}

-- the module of the data, in one line
abbrev pub module_text : List ℕ
module_text =
    codes "module ex { yang-version 1.1; namespace \"urn:ex\"; prefix ex; container sys { "
    ++ (codes "leaf uplink { type leafref { path \"../iface/name\"; } } list iface { key name; unique address; "
    ++ (codes "leaf name { type string { length \"1..32\"; } } "
    ++ (codes "leaf mtu { type uint16 { range \"68..9192\"; } default 1500; } leaf address { type string; } } } }")))

-- a character in a JSON string: a quote and a backslash have a backslash before them (RFC 8259 section 7)
abbrev pub escaped : ℕ → List ℕ
escaped byte = if (byte == 34) || (byte == 92) then 92 ∷ byte ∷ [] else byte ∷ []

-- what comes before an item of a list, by its number: nothing before the first, and else a comma
unfoldable pub comma : ℕ → List ℕ
comma number = if number == 1 then [] else codes ","

-- the texts of so many numbers from a number on
unfoldable pub numbered : (ℕ → List ℕ) → ℕ → ℕ → List ℕ
numbered text number zero = []
numbered text number (suc more) = text number ++ numbered text (number + 1) more

-- ---- the running configuration of a device: 400 interfaces, in the order of their names as text

-- the address of an interface, which no other one of the device has
abbrev pub address_text : ℕ → ℕ → List ℕ
address_text device number = codes "\"address\":\"10." ++ decimal device ++ codes "." ++ decimal number ++ codes "\""

-- an interface of a device
unfoldable pub interface_text : ℕ → ℕ → List ℕ
interface_text device number =
    comma number ++ codes "{" ++ address_text device number ++ codes ",\"mtu\":1500,\"name\":\"eth" ++ decimal number ++ codes "\"}"

-- the same where there is one of that number
unfoldable pub interface_if : ℕ → ℕ → List ℕ
interface_if device number = if nat_le number 400 then interface_text device number else []

-- the interface whose number is another one with a digit behind it
abbrev pub interface_behind : ℕ → ℕ → ℕ → List ℕ
interface_behind device number digit = interface_if device (10 * number + digit)

-- the interface of a number, before those whose number has one digit more
unfoldable pub interfaces_at : ℕ → ℕ → List ℕ
interfaces_at device number = interface_if device number ++ numbered (interface_behind device number) 0 10

-- those of the numbers that are another one with a digit behind it
abbrev pub interfaces_behind : ℕ → ℕ → ℕ → List ℕ
interfaces_behind device number digit = interfaces_at device (10 * number + digit)

-- the interface of a number of one digit, before those whose number begins with it
unfoldable pub interfaces_of : ℕ → ℕ → List ℕ
interfaces_of device number = interface_if device number ++ numbered (interfaces_behind device number) 0 10

-- all interfaces of a device
unfoldable pub interfaces : ℕ → List ℕ
interfaces device = numbered (interfaces_of device) 1 9

-- what comes before the interfaces of a device
unfoldable pub opening : List ℕ
opening = codes "{\"running\":{\"ex:sys\":{\"iface\":["

-- the running configuration of a device
unfoldable pub running_text : ℕ → List ℕ
running_text device = opening ++ interfaces device ++ codes "]}}}"

-- the same among others
unfoldable pub device_text : ℕ → List ℕ
device_text device = comma device ++ running_text device

-- ---- change sets and events

-- an edit of a device: an interface gets another MTU
abbrev pub edit_text : MadeEdit → List ℕ
edit_text edit =
    codes "{\"device\":" ++ decimal edit.device ++ codes ",\"edit\":{\"ex:sys\":{\"iface\":[{\"mtu\":" ++ decimal edit.mtu
    ++ codes ",\"name\":\"eth" ++ decimal edit.interface ++ codes "\"}]}}}"

-- an edit behind another one, where there is one
abbrev pub second_text : Option MadeEdit → List ℕ
second_text None = []
second_text (Some edit) = codes "," ++ edit_text edit

-- a change set
abbrev pub change_text : MadeChange → List ℕ
change_text change = codes "{\"edits\":[" ++ edit_text change.first ++ second_text change.second ++ codes "]}"

-- the change set of a number among others
abbrev pub numbered_change : ℕ → MadeChange → List ℕ
numbered_change number change = comma number ++ change_text change

-- change sets from a number on
abbrev pub change_texts : ℕ → List MadeChange → List ℕ
change_texts number [] = []
change_texts number (change ∷ changes) = numbered_change number change ++ change_texts (number + 1) changes

-- the event that submits a change set
unfoldable pub submit_text : ℕ → List ℕ
submit_text change = comma change ++ codes "[\"submit\"," ++ decimal change ++ codes "]"

-- ---- the whole

-- all before the devices
unfoldable pub head_text : List ℕ
head_text = codes "{\"netm\":1,\"contents\":\"yang\",\"modules\":[\"" ++ flat_map escaped module_text ++ codes "\"],\"devices\":["

-- the scenario with these change sets, 64 of them, each of which is submitted, over 32 devices
unfoldable pub scenario_text : List MadeChange → List ℕ
scenario_text changes =
    head_text ++ numbered device_text 1 32 ++ codes "],\"changes\":[" ++ change_texts 1 changes ++ codes "],\"events\":["
    ++ numbered submit_text 1 64 ++ codes "],\"drain\":true}\n"

-- the made scenario of a number
abbrev pub made_text : ℕ → List ℕ
made_text number = scenario_text (changes_drawn 64 (seeded number))
