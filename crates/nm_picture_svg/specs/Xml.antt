-- The parts of XML that a drawing's text is made of (W3C, Extensible Markup Language 1.0, fifth edition).
use Rattle.std.specs.Prelude.{ℕ, List, [], ◌∷◌, ◌++◌, codes, Bool, not, ◌==◌, ◌&&◌, ◌||◌, nat_lt, if◌then◌else◌}
use Rattle.std.specs.List.{flat_map}

-- a byte that has a meaning in XML: less, greater, ampersand and the two quotes
abbrev pub is_markup : ℕ → Bool
is_markup byte = byte == 60 || byte == 62 || byte == 38 || byte == 34 || byte == 39

-- a character that may not stand in XML (section 2.2): a control character other than tab, line feed and carriage return
abbrev pub is_forbidden : ℕ → Bool
is_forbidden byte = nat_lt byte 32 && not (byte == 9) && not (byte == 10) && not (byte == 13)

-- what stands for such a byte: the entities of section 4.6, and a question mark for what may not stand
abbrev pub entity_of : ℕ → List ℕ
entity_of byte =
    if byte == 60 then codes "&lt;" else (
    if byte == 62 then codes "&gt;" else (
    if byte == 38 then codes "&amp;" else (
    if byte == 34 then codes "&quot;" else (
    if byte == 39 then codes "&apos;" else codes "?"))))

-- a byte of a text as it is written
abbrev pub escaped_byte : ℕ → List ℕ
escaped_byte byte = if is_markup byte || is_forbidden byte then entity_of byte else byte ∷ []

-- a text as it is written
abbrev pub escaped : List ℕ → List ℕ
escaped text = flat_map escaped_byte text

-- the begin of an element's tag
abbrev pub opened : List ℕ → List ℕ
opened name = codes "<" ++ name

-- the end of an element that holds something
abbrev pub closed : List ℕ → List ℕ
closed name = codes "</" ++ name ++ codes ">\n"

-- the begin of an attribute
abbrev pub named : List ℕ → List ℕ
named name = codes " " ++ name ++ codes "=\""

-- an attribute
abbrev pub attribute : List ℕ → List ℕ → List ℕ
attribute name value = named name ++ value ++ codes "\""

-- an element that holds nothing, on a line of its own
abbrev pub leaf : List ℕ → List ℕ → List ℕ
leaf name attributes = opened name ++ attributes ++ codes "/>\n"

-- an element that holds something
abbrev pub element : List ℕ → List ℕ → List ℕ → List ℕ
element name attributes content = opened name ++ attributes ++ codes ">" ++ content ++ closed name
