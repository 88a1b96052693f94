-- The text that is read, the faults, and readers that answer the first fault from the left.
use Rattle.std.specs.Prelude.{◌≡◌, ℕ, ◌+◌, ◌-◌, ◌++◌, List, [], ◌∷◌, length, take, Bool, Option, Result, Ok, Err, ◌==◌, ◌&&◌, nat_lt, nat_le, if◌then◌else◌}
use Rattle.std.specs.Option.{unwrap_or}
use Rattle.nm_yang.specs.declared.fault.Fault.{Fault}
use Rattle.nm_yang.specs.declared.fault.YangKind.{YangKind}
use Rattle.nm_yang.specs.declared.fault.YangFault.{YangFault}
use Rattle.nm_yang.specs.declared.fault.YangFault.TheVariants as errors

-- the text, the fault that stands where it is cut off, and whether each backslash must begin an escape
pub record Page : Type 0 where
  pub text : List ℕ
  pub stop : Option Fault
  pub strict : Bool

-- a fault of a kind at a place
abbrev pub bad : ℕ → YangKind → Fault
bad place kind = record { place = place; kind = kind }

-- how many bytes stand before the rest of a text
abbrev pub place_of : Page → List ℕ → ℕ
place_of page rest = length page.text - length rest

-- the fault at the end of the text: what cuts it off, and else the one given
abbrev pub at_end : Page → Fault → Fault
at_end page fault = unwrap_or page.stop fault

-- the bytes before the rest
abbrev pub front : List ℕ → List ℕ → List ℕ
front bytes rest = take (length bytes - length rest) bytes

-- the column after a byte: a line break begins a line, a tab counts as 8 columns, and the bytes of one character take one (RFC 7950 section 6.1.3)
abbrev pub next_column : ℕ → ℕ → ℕ
next_column column byte =
    if byte == 10 then 0 else (
    if byte == 9 then column + 8 else (
    if nat_le 128 byte && nat_lt byte 192 then column else column + 1))

-- the column after some bytes, from one
abbrev pub column_from : ℕ → List ℕ → ℕ
column_from column [] = column
column_from column (byte ∷ bytes) = column_from (next_column column byte) bytes

-- the column of the first byte of the rest, from 0
unfoldable pub column_of : Page → List ℕ → ℕ
column_of page rest = column_from 0 (take (place_of page rest) page.text)

-- one reader after another
infixl 10 ◌>>=◌
abbrev pub ◌>>=◌ : {A B : Type 0} → Result A Fault → (A → Result B Fault) → Result B Fault
(Ok x) >>= f = f x
(Err e) >>= f = Err e

-- bytes in front of those that were read
abbrev pub with_front : List ℕ → Result (List ℕ × List ℕ) Fault → Result (List ℕ × List ℕ) Fault
with_front bytes read = read >>= λ x. Ok (bytes ++ x.0, x.1)

-- what a function returned, seen by view, is what reading gives, unless memory ran out
abbrev pub Fails : {Y : Type 0} → YangFault → Result Y Fault → Type 0
Fails errors.NoMemory read = Unit {0}
Fails (errors.Bad place kind) read = read ≡ Err (bad place kind)

-- what a function returned, seen by view, is the value or the fault that reading gives, unless memory ran out
abbrev pub Gives : {X Y : Type 0} → (X → Y) → Result X YangFault → Result Y Fault → Type 0
Gives view (Ok x) read = read ≡ Ok (view x)
Gives view (Err e) read = Fails e read
