-- Statements within statements, and a whole module (RFC 7950 sections 6.3 and 7.1).
use Rattle.std.specs.Prelude.{◌≡◌, ◌++◌, ◌-◌, slice_index, ℕ, zero, suc, List, [], ◌∷◌, length, drop, take, codes, Bool, true, false, ◌==◌, ◌&&◌, ◌||◌, nat_lt, Option, Some, None, Result, Ok, Err, if◌then◌else◌}
use Rattle.std.specs.Str.{bytes_eq}
use Rattle.std.specs.Str.Lossy.{utf8_valid_len}
use Rattle.nm_yang.specs.declared.fault.Fault.{Fault}
use Rattle.nm_yang.specs.declared.fault.YangFault.{YangFault}
use Rattle.nm_yang.specs.declared.fault.YangFault.TheVariants as errors
use Rattle.nm_yang.specs.declared.fault.YangKind.TheVariants.{BadToken, UnclosedBrace, NotModule, Trailing, NotUtf8, TooLong, TooDeep}
use Rattle.nm_yang.specs.declared.module.Heading.{Heading as Written}
use Rattle.nm_yang.specs.Tree.{Tree, statement, trees_of}
use Rattle.nm_yang.specs.Page.{Page, bad, place_of, at_end, ◌>>=◌}
use Rattle.nm_yang.specs.Byte.{begins}
use Rattle.nm_yang.specs.Blank.{skip, plain}
use Rattle.nm_yang.specs.Word.{keyword_at, text_at}
use Rattle.nm_yang.specs.Argument.{argument_at}

-- the statements that were read, and the rest or the fault at which reading ended
abbrev pub Run : Type 0
Run = List Tree × Result (List ℕ) Fault

-- a run that read no statement and ended at a fault
abbrev pub failed : Fault → Run
failed fault = ([], Err fault)

-- statements were appended as a run says, and it ended so, unless memory ran out
abbrev pub Stops : YangFault → List Tree → List Tree → Run → Type 0
Stops errors.NoMemory old new run = Unit {0}
Stops (errors.Bad place kind) old new run = (run.1 ≡ Err (bad place kind)) × (new ≡ old ++ run.0)

-- a function appended the statements of a run and ended as the run did: with the rest, or with its fault
abbrev pub Runs : {X : Type 0} → (X → List ℕ) → Result X YangFault → List Tree → List Tree → Run → Type 0
Runs view (Ok x) old new run = (run.1 ≡ Ok (view x)) × (new ≡ old ++ run.0)
Runs view (Err e) old new run = Stops e old new run

-- a run that begins with the rest of a reader
abbrev pub then_run : Result (List ℕ) Fault → (List ℕ → Run) → Run
then_run (Ok rest) go = go rest
then_run (Err fault) go = failed fault

-- a run whose first statement is read before
abbrev pub cons_run : Result (Tree × List ℕ) Fault → (List ℕ → Run) → Run
cons_run (Ok x) go = (x.0 ∷ (go x.1).0, (go x.1).1)
cons_run (Err fault) go = failed fault

-- a keyword, an argument and where they stand
pub record Heading : Type 0 where
  pub keyword : List ℕ
  pub argument : Option (List ℕ)
  pub place : ℕ
  pub rest : List ℕ

-- a heading of the code, and the rest after it
abbrev pub heading : Written → List ℕ → Heading
heading h rest = record { keyword = h.keyword; argument = h.argument; place = h.place; rest = rest }

-- a keyword as a text, and the rest after it
unfoldable pub label_at : Page → Fault → List ℕ → Result (List ℕ × List ℕ) Fault
label_at page ending bytes = do
  k ← keyword_at page ending bytes
  text ← text_at (bad (place_of page bytes) NotUtf8) k.0
  Ok (text, k.1)

-- the argument after a keyword, and the rest after it
unfoldable pub after_keyword : Page → Fault → List ℕ → Result (Option (List ℕ) × List ℕ) Fault
after_keyword page ending bytes = do
  rest ← skip page plain bytes
  argument_at page ending rest

-- a `;`, or what braces hold, which `inside` reads
unfoldable pub end_at : (List ℕ → Run) → Page → Fault → List ℕ → Run
end_at inside page ending [] = failed ending
end_at inside page ending (b ∷ rest) =
    if b == 59 then ([], Ok rest) else (
    if b == 123 then inside (b ∷ rest) else failed (bad (place_of page (b ∷ rest)) BadToken))

-- a statement, and the rest after it
unfoldable pub statement_at : (List ℕ → Run) → Page → Fault → List ℕ → Result (Tree × List ℕ) Fault
statement_at inside page ending bytes = do
  k ← label_at page ending bytes
  a ← after_keyword page ending k.1
  rest ← (end_at inside page ending a.1).1
  Ok (statement k.0 a.0 (place_of page bytes) (trees_of (end_at inside page ending a.1).0), rest)

-- statements up to a `}`, at most so many
unfoldable pub each_at : (List ℕ → Result (Tree × List ℕ) Fault) → Page → Fault → ℕ → List ℕ → Run
each_at read page ending zero bytes = failed ending
each_at read page ending (suc n) bytes =
    if begins bytes 125 then ([], Ok (drop 1 bytes)) else
    cons_run (read bytes) (λ after. then_run (skip page plain after) (λ rest. each_at read page ending n rest))

-- what is wrong where the text ends within braces that open here
abbrev pub open_brace : Page → List ℕ → Fault
open_brace page bytes = at_end page (bad (place_of page bytes) UnclosedBrace)

-- the statements within braces, which open here, where so many more braces may be open
unfoldable pub inside : ℕ → Page → List ℕ → Run
inside zero page bytes = failed (bad (place_of page bytes) TooDeep)
inside (suc depth) page bytes =
    then_run (skip page plain (drop 1 bytes))
    (λ start. each_at (statement_at (inside depth page) page (open_brace page bytes)) page (open_brace page bytes) (length start) start)

-- the fault of a text that isn't one `module` statement; a text that is cut off has the fault of its cut
abbrev pub not_module : Page → Fault
not_module page = at_end page (bad 0 NotModule)

-- the keyword and the argument of the module
unfoldable pub heading_at : Page → List ℕ → Result Heading Fault
heading_at page start = do
  k ← label_at page (not_module page) start
  if bytes_eq k.0 (codes "module") then (do
    a ← after_keyword page (not_module page) k.1
    Ok (record { keyword = k.0; argument = a.0; place = place_of page start; rest = a.1 })) else Err (bad 0 NotModule)

-- nothing but blanks after the module, and nothing that cuts the text off
unfoldable pub done_at : Page → Option Fault → List ℕ → Result (List ℕ) Fault
done_at page None [] = Ok []
done_at page (Some stop) [] = Err stop
done_at page stop (b ∷ rest) = Err (bad (place_of page (b ∷ rest)) Trailing)

-- how many braces may be open within the module's own: a limit of this project
abbrev pub most_deep : ℕ
most_deep = 64

-- the statements of the module that were read, and the rest or the fault at which reading ended
unfoldable pub body_at : Page → Heading → Run
body_at page h = end_at (inside most_deep page) page (not_module page) h.rest

-- what follows the module: blanks
unfoldable pub finish_at : Page → List ℕ → Result (List ℕ) Fault
finish_at page rest = do
  after ← skip page plain rest
  done_at page page.stop after

-- the module with these statements
unfoldable pub closed_at : Page → Heading → Run → Result Tree Fault
closed_at page h body = do
  rest ← body.1
  end ← finish_at page rest
  Ok (statement h.keyword h.argument h.place (trees_of body.0))

-- statements that were read, and the module or the fault at which reading ended
abbrev pub Found : Type 0
Found = List Tree × Result Tree Fault

-- what is found goes on from the heading; where that has a fault, no statement was read
abbrev pub with_heading : Result Heading Fault → (Heading → Found) → Found
with_heading (Ok h) go = go h
with_heading (Err fault) go = ([], Err fault)

-- what stands before the statements of the module
unfoldable pub begin_at : Page → Result Heading Fault
begin_at page = do
  start ← skip page plain page.text
  heading_at page start

-- the module that a heading and these statements make, or the fault
abbrev pub outcome : Result Written Fault → List Tree → Result Tree Fault
outcome (Ok h) below = Ok (statement h.keyword h.argument h.place (trees_of below))
outcome (Err fault) below = Err fault

-- reading came so far, and ended so
abbrev pub Ends : Result Written Fault → List Tree → Found → Type 0
Ends end below found = (found.0 ≡ below) × (found.1 ≡ outcome end below)

-- the statements of the module that were read, and the module or the first fault
unfoldable pub module_at : Page → Found
module_at page = with_heading (begin_at page) (λ h. ((body_at page h).0, closed_at page h (body_at page h)))

-- ---- which backslashes are faults, and where the text is cut off

-- a statement has this argument; one without an argument has none
abbrev pub argument_is : Option (List ℕ) → List ℕ → Bool
argument_is None bytes = false
argument_is (Some a) bytes = bytes_eq a bytes

-- a statement that says that the module is of version 1.1 (RFC 7950 section 7.1.2)
abbrev pub says_1_1 : Tree → Bool
says_1_1 (statement keyword argument place below) = bytes_eq keyword (codes "yang-version") && argument_is argument (codes "1.1")

-- one of the statements says that the module is of version 1.1 (RFC 7950 section 7.1.2)
abbrev pub any_says_1_1 : List Tree → Bool
any_says_1_1 [] = false
any_says_1_1 (t ∷ ts) = says_1_1 t || any_says_1_1 ts

-- how many bytes a text may have: a limit of this project
abbrev pub most_long : ℕ
most_long = 262144

-- how many bytes are read: those that are UTF-8 and within the limit, of whole characters. A `/` that stands last
-- there may open a comment with the byte beyond the limit, so it isn't read.
abbrev pub front_len : ℕ → List ℕ → ℕ
front_len limit text = if nat_lt (utf8_valid_len text) limit then utf8_valid_len text else (
    if nat_lt limit (length text) && slice_index text (limit - 1) == 47 then limit - 1 else utf8_valid_len (take limit text))

-- what is wrong where reading is cut off: nothing where the text ends there
abbrev pub stop_of : ℕ → List ℕ → Option Fault
stop_of limit text =
    if nat_lt (utf8_valid_len text) limit
    then (if utf8_valid_len text == length text then None else Some (bad (utf8_valid_len text) NotUtf8))
    else (if limit == length text then None else Some (bad limit TooLong))

-- a text as it is read: no further than a limit or its first byte that isn't UTF-8
abbrev pub page_of : ℕ → Bool → List ℕ → Page
page_of limit strict text = record { text = take (front_len limit text) text; stop = stop_of limit text; strict = strict }

-- The module or the first fault. A backslash that begins no escape stands for itself, unless the module's
-- yang-version statement, wherever it stands before another fault, says 1.1 (RFC 7950 sections 6.1.3 and 12).
abbrev pub reading_within : ℕ → List ℕ → Result Tree Fault
reading_within limit text =
    if any_says_1_1 (module_at (page_of limit false text)).0
    then (module_at (page_of limit true text)).1
    else (module_at (page_of limit false text)).1

-- the module that a text is, or its first fault, within this project's limit on its length
unfoldable pub reading : List ℕ → Result Tree Fault
reading text = reading_within most_long text
