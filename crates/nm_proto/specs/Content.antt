-- What a content means: configurations and edits as values, and the laws that every content keeps.
use Rattle.std.specs.Prelude.{◌≡◌, ◌↔◌, ℕ, ◌≤◌, ◌-◌, ◌^◌, min, Bool, true, false, ◌&&◌, ◌==◌, nat_lt, List, Option, Some, None, Result, Ok, Err}
use Rattle.nm_base.specs.declared.tag.Tag.{Tag}
use Rattle.nm_base.specs.Tag.{tag_number}
use Rattle.nm_base.specs.Mask.{mask_contains}
use Rattle.nm_proto.specs.declared.message.DefaultOperation.{DefaultOperation}
use Rattle.nm_proto.specs.declared.message.DefaultOperation.TheVariants.{Merge, Replace, Nothing}
use Rattle.nm_proto.specs.declared.message.Marks.{Marks}
use Rattle.nm_proto.specs.declared.content.ApplyFault.{ApplyFault}
use Rattle.nm_proto.specs.declared.content.ApplyFault.TheVariants as apply
use Rattle.nm_proto.specs.declared.content.CheckFault.{CheckFault}
use Rattle.nm_proto.specs.declared.content.CheckFault.TheVariants as check
use Rattle.nm_proto.specs.declared.content.FindFault.{FindFault}
use Rattle.nm_proto.specs.declared.content.FindFault.TheVariants as find

-- a refusal: its error tag, and the text of the path at fault (RFC 6241 section 4.3)
pub record Refusal : Type 0 where
  pub tag : Tag
  pub path : List ℕ

-- what a content means (this project's own). The code works on its own representations; these are the values
pub record Meaning (Config Edit Node : Type 0) : Type 1 where
  -- the configurations and the edits that the content takes
  pub belongs : Config → Type 0
  pub edit_belongs : Edit → Type 0
  -- the edit names no mark of a change set
  pub is_plain : Edit → Type 0
  -- the configuration that an edit makes, or its refusal (RFC 6241 section 7.2)
  pub edited : Config → Edit → DefaultOperation → Option Marks → Result Config Refusal
  -- the first rule that a configuration violates, None where it is valid (RFC 7950 section 8)
  pub violation : Config → Option Refusal
  -- the node that a text names, where it names one
  pub found : List ℕ → Option Node
  -- a node exists in a configuration
  pub exists : Config → Node → Bool
  -- one of two nodes is the other, or lies below it
  pub overlaps : Node → Node → Bool
  -- what a configuration has at and below a node, as a configuration of its own
  pub part : Config → Node → Config
  -- two configurations have the same there
  pub same_at : Config → Config → Node → Bool
  -- two configurations have the same marks
  pub same_marks : Config → Config → Bool
  -- the numbers whose marks are in the configuration
  pub has_mark : Config → ℕ → Bool
  -- how many rows are outside the marks
  pub rows : Config → ℕ

-- a count of rows as it is told: the greatest number stands for all that are above it
abbrev pub counted_rows : ℕ → ℕ
counted_rows rows = min rows (2 ^ 32 - 1)

-- the number is one of the change sets whose marks go
abbrev pub is_taken : Marks → ℕ → Bool
is_taken marks n = nat_lt 0 n && mask_contains marks.remove.0 n

-- an edit with these marks adds that of the number
abbrev pub adds_mark : Option Marks → ℕ → Bool
adds_mark None n = false
adds_mark (Some marks) n = n == marks.add

-- an edit with these marks takes that of the number
abbrev pub takes_mark : Option Marks → ℕ → Bool
takes_mark None n = false
takes_mark (Some marks) n = is_taken marks n

-- the operation takes all that is there before an edit puts anything (RFC 6241 section 7.2)
abbrev pub is_replace : DefaultOperation → Bool
is_replace Merge = false
is_replace Replace = true
is_replace Nothing = false

-- a refusal that a device may answer: its tag has a number from 1 to 8
abbrev pub IsAnswerable : Refusal → Type 0
IsAnswerable refusal = tag_number refusal.tag ≤ 8

-- the laws of every content
pub record Laws {Config Edit Node : Type 0} (m : Meaning Config Edit Node) : Type 0 where
  -- what an edit makes is a configuration that the content takes
  pub edited_belongs : (config : Config) (edit : Edit) (operation : DefaultOperation) (marks : Option Marks) (after : Config)
      → m.belongs config → m.edit_belongs edit → m.edited config edit operation marks ≡ Ok after → m.belongs after
  -- the mark that comes is there after
  pub added : (config : Config) (edit : Edit) (operation : DefaultOperation) (marks : Option Marks) (after : Config)
      → m.belongs config → m.edit_belongs edit → m.edited config edit operation marks ≡ Ok after
      → (n : ℕ) → adds_mark marks n ≡ true → m.has_mark after n ≡ true
  -- any other mark was there before and isn't one that goes, where the edit itself names none
  pub only_old : (config : Config) (edit : Edit) (operation : DefaultOperation) (marks : Option Marks) (after : Config)
      → m.belongs config → m.edit_belongs edit → m.is_plain edit → m.edited config edit operation marks ≡ Ok after
      → (n : ℕ) → adds_mark marks n ≡ false → m.has_mark after n ≡ true → (m.has_mark config n ≡ true) × (takes_mark marks n ≡ false)
  -- and but for a replace, old ones that don't go stay
  pub kept : (config : Config) (edit : Edit) (operation : DefaultOperation) (marks : Option Marks) (after : Config)
      → m.belongs config → m.edit_belongs edit → m.is_plain edit → m.edited config edit operation marks ≡ Ok after → is_replace operation ≡ false
      → (n : ℕ) → m.has_mark config n ≡ true → takes_mark marks n ≡ false → m.has_mark after n ≡ true
  -- two nodes overlap either way round
  pub overlaps_both_ways : (one other : Node) → m.overlaps one other ≡ m.overlaps other one
  -- to have the same at a node is to have equal parts there
  pub same_parts : (one other : Config) (node : Node) → (m.same_at one other node ≡ true) ↔ (m.part one node ≡ m.part other node)
  -- to have the same marks is to have each mark or to lack it alike
  pub same_numbers : (one other : Config) → (m.same_marks one other ≡ true) ↔ ((n : ℕ) → m.has_mark one n ≡ m.has_mark other n)
  pub refusals : (config : Config) (edit : Edit) (operation : DefaultOperation) (marks : Option Marks) (refusal : Refusal)
      → m.belongs config → m.edit_belongs edit → m.edited config edit operation marks ≡ Err refusal → IsAnswerable refusal
  pub violations : (config : Config) (refusal : Refusal) → m.belongs config → m.violation config ≡ Some refusal → IsAnswerable refusal

-- the answer of `apply`: the edited configuration or its refusal, unless memory ran out
abbrev pub Applies : {Config : Type 0} → Result Config ApplyFault → Result Config Refusal → Type 0
Applies (Ok config) given = given ≡ Ok config
Applies (Err (apply.Refused tag path)) given = given ≡ Err (record { tag = tag; path = path })
Applies (Err apply.NoMemory) given = Unit {0}

-- the answer of `find`: the node, unless memory ran out
abbrev pub Finds : {Node : Type 0} → Result Node FindFault → Option Node → Type 0
Finds (Ok node) given = given ≡ Some node
Finds (Err find.BadPath) given = given ≡ None
Finds (Err find.NoMemory) given = Unit {0}

-- the answer of `check`: Ok where nothing is violated, or the violation, unless memory ran out
abbrev pub Checks : {A : Type 0} → Result A CheckFault → Option Refusal → Type 0
Checks (Ok _) given = given ≡ None
Checks (Err (check.Violation tag path)) given = given ≡ Some (record { tag = tag; path = path })
Checks (Err check.NoMemory) given = Unit {0}

-- what requests name by number: edits, and lists of texts that select nodes
pub record TablesState (Edit : Type 0) : Type 0 where
  pub edits : List Edit
  pub selects : List (List (List ℕ))
