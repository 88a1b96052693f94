-- What is said without the bytes of the input, and what is said where there were too many.
use Rattle.std.proofs.Common.{◌≡◌, ◌⊎◌, inl, inr, ℕ, ◌<◌, ◌+◌, List, [], length, true, Option, Some, None, Err, IfSome, unwrap_or, replicate, refl, sym, ◌∙◌, subst, arith}
use Rattle.std.proofs.lemmas.List.{length-replicate}
use Rattle.std.specs.Io.KnownBytes.{IsAtEnd}
use Rattle.nm_io.specs.Bytes.{ReadsUpTo}
use Rattle.nm_proto.specs.declared.kind.ScenarioKind.TheVariants.{TooLong}
use Rattle.nm_scenario.specs.Scenario.{byte_limit}
use Rattle.nm_scenario.proofs.Whole.{one_of_bytes, long_reads}
use Rattle.nm_console.specs.declared.status.Status.{Status}
use Rattle.nm_console.specs.declared.command.Command.{Command}
use Rattle.nm_console.specs.declared.command.Command.TheVariants.{Check, Replay, Journal}
use Rattle.nm_console.specs.Refusal.{of_whole}
use Rattle.nm_journal.specs.Entries.{entries_of}
use Rattle.nm_journal.specs.Fits.{OfImage}
use Rattle.nm_console.specs.Words.{reads_input}
use Rattle.nm_console.specs.Console.{Answer, AsSaid, HasOneAnswer, IsAstrayOf, Says, Streams, Tells, TellsJournal, TellsOver, checked, faulted, journalled, replayed, usage_told}

held : (left : Option (List ℕ)) (other : List ℕ) → IfSome left (λ told. told ≡ unwrap_or left other)
held None other = tt
held (Some told) other = refl

tells_one : (given : Answer) (status other : Status) (text words : List ℕ) → Tells given status text → Tells given other words → (other ≡ status) × (words ≡ text)
tells_one given status other text words a b = (sym b.status_is ∙ a.status_is, sym b.text_is ∙ a.text_is)

-- what bytes read as is one, and so is what is told of it
pub one_answer : (command : Option Command) (bytes image : List ℕ) → HasOneAnswer command bytes image
one_answer None bytes image stored after others later status other text words a b = tells_one usage_told status other text words a.tells b.tells
one_answer (Some Check) bytes image stored after others later status other text words a b =
    tells_one (checked a.outcome) status other text words a.is_so.tells
    (subst (λ outcome. Tells (checked outcome) other words) (one_of_bytes bytes b.outcome a.outcome b.reads a.reads) b.is_so.tells)
one_answer (Some Replay) bytes image stored after others later status other text words a b =
    tells_one (replayed image a.outcome) status other text words a.is_so.tells
    (subst (λ outcome. Tells (replayed image outcome) other words) (one_of_bytes bytes b.outcome a.outcome b.reads a.reads) b.is_so.tells)
one_answer (Some Journal) bytes image stored after others later status other text words a b =
    tells_one (journalled (entries_of image)) status other text words a.tells b.tells

-- what the program says to bytes
says : (streams : Streams) (command : Option Command) (bytes image : List ℕ) (status : Status) (text : List ℕ)
    → IfSome streams.left (λ told. told ≡ bytes) → IfSome streams.stored (λ told. told ≡ image)
    → AsSaid command bytes image streams.stored streams.after status text ⊎ IsAstrayOf command bytes streams.stored status text → Says streams command status text
says streams command bytes image status text h k goes = record {
  bytes = bytes;
  held = h;
  image = image;
  kept = k;
  goes = goes;
}

-- an answer to the bytes of the input, over a journal
pub bytes_say : (streams : Streams) (command : Command) (bytes : List ℕ) (status : Status) (text : List ℕ)
    → IfSome streams.left (λ told. told ≡ bytes) → TellsOver (Some command) bytes streams.stored streams.after status text → Says streams (Some command) status text
bytes_say streams command bytes status text h over = says streams (Some command) bytes over.image status text h over.kept over.goes

pub usage_says : (left stored : Option (List ℕ)) (status : Status) (text : List ℕ) → Tells usage_told status text → Says (record { left = left; stored = stored; after = stored }) None status text
usage_says left stored status text tells =
    says (record { left = left; stored = stored; after = stored }) None (unwrap_or left []) (unwrap_or stored []) status text (held left []) (held stored []) (inl (record { tells = tells; stores = refl }))

-- what a journal tells is said whatever the input is
pub journal_says : (left stored after : Option (List ℕ)) (status : Status) (text : List ℕ) → after ≡ stored → OfImage stored (λ image. TellsJournal image status text)
    → Says (record { left = left; stored = stored; after = after }) (Some Journal) status text
journal_says left stored after status text same of =
    says (record { left = left; stored = stored; after = after }) (Some Journal) (unwrap_or left []) of.image status text (held left []) of.stored (inl (record { tells = of.holds; stores = same }))

-- too many bytes are told of by every command that reads them in the same way, and the journal stays
long_said : (command : Command) (bytes image : List ℕ) (stored : Option (List ℕ)) (status : Status) (text : List ℕ) → reads_input (Some command) ≡ true → byte_limit < length bytes
    → Tells (faulted (of_whole TooLong)) status text → AsSaid (Some command) bytes image stored stored status text
long_said Check bytes image stored status text reads long tells = record { outcome = Err (of_whole TooLong); reads = long_reads bytes long; is_so = record { tells = tells; stores = refl }; safe = tt }
long_said Replay bytes image stored status text reads long tells = record { outcome = Err (of_whole TooLong); reads = long_reads bytes long; is_so = record { tells = tells; stores = refl }; safe = tt }
long_said Journal bytes image stored status text reads long tells = absurd cc

-- so many bytes
many : ℕ → List ℕ
many n = replicate n 0

length-many : (n : ℕ) → length (many n) ≡ n
unfolding many
length-many n = length-replicate n 0

more : List ℕ
more = many (byte_limit + 1)

length-more : byte_limit < length more
unfolding more
length-more = omega (arith, length-many (byte_limit + 1))

too_long : (left : Option (List ℕ)) → IfSome left (λ told. byte_limit < length told) → byte_limit < length (unwrap_or left more)
too_long None h = length-more
too_long (Some told) h = h

pub too_long_says : (left stored : Option (List ℕ)) (command : Command) (status : Status) (text : List ℕ) → reads_input (Some command) ≡ true
    → IfSome left (λ told. byte_limit < length told) → Tells (faulted (of_whole TooLong)) status text → Says (record { left = left; stored = stored; after = stored }) (Some command) status text
too_long_says left stored command status text reads h tells =
    let bytes = unwrap_or left more in
    let image = unwrap_or stored [] in
    let long = too_long left h in
    says (record { left = left; stored = stored; after = stored }) (Some command) bytes image status text (held left more) (held stored [])
    (inl (long_said command bytes image stored status text reads long tells))

-- an input that was read to its end, and one of which too many bytes were read
pub at_end : (before after : Option (List ℕ)) → IsAtEnd after → ReadsUpTo byte_limit before after
at_end before after h = inl h

pub past_limit : (before after : Option (List ℕ)) → IfSome before (λ told. byte_limit < length told) → ReadsUpTo byte_limit before after
past_limit before after h = inr h

pub ruleset saying = (usage_says, too_long_says, journal_says, at_end, past_limit)
