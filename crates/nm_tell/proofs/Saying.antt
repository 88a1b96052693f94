-- What is said to the bytes of an input, and what is said where there were too many.
use Rattle.std.proofs.Common.{◌≡◌, ◌⊎◌, inl, inr, ℕ, ◌<◌, ◌+◌, List, [], length, Option, Some, None, Err, IfSome, unwrap_or, replicate, refl, arith}
use Rattle.std.proofs.lemmas.List.{length-replicate}
use Rattle.std.specs.Io.KnownBytes.{IsAtEnd}
use Rattle.nm_io.specs.Bytes.{ReadsUpTo}
use Rattle.nm_scenario.specs.Scenario.{byte_limit}
use Rattle.nm_scenario.proofs.Whole.{long_reads}
use Rattle.nm_explain.specs.declared.status.Status.{Status}
use Rattle.nm_explain.specs.Explained.{Tells, Explains, too_long, too_long_told}
use Rattle.nm_tell.specs.declared.command.Command.TheVariants.{Explain}
use Rattle.nm_tell.specs.Told.{Says, usage_told}

pub bytes_say : (left : Option (List ℕ)) (bytes : List ℕ) (status : Status) (text : List ℕ) → IfSome left (λ told. told ≡ bytes) → Explains bytes status text → Says (Some Explain) left status text
bytes_say left bytes status text held explains = record { bytes = bytes; held = held; tells = explains }

-- so many bytes
many : ℕ → List ℕ
many n = replicate n 0

length-many : (n : ℕ) → length (many n) ≡ n
unfolding many
length-many n = length-replicate n 0

more : List ℕ
more = many (byte_limit + 1)

length-more : byte_limit < length more
unfolding more
length-more = omega (arith, length-many (byte_limit + 1))

above : (left : Option (List ℕ)) → IfSome left (λ told. byte_limit < length told) → byte_limit < length (unwrap_or left more)
above None h = length-more
above (Some told) h = h

held : (left : Option (List ℕ)) (other : List ℕ) → IfSome left (λ told. told ≡ unwrap_or left other)
held None other = tt
held (Some told) other = refl

pub too_long_says : (left : Option (List ℕ)) (status : Status) (text : List ℕ) → IfSome left (λ told. byte_limit < length told) → Tells too_long_told status text → Says (Some Explain) left status text
too_long_says left status text h tells =
    let bytes = unwrap_or left more in
    record { bytes = bytes; held = held left more; tells = record { outcome = Err too_long; reads = long_reads bytes (above left h); tells = tells } }

-- an input that was read to its end, and one of which too many bytes were there
pub at_end : (before after : Option (List ℕ)) → IsAtEnd after → ReadsUpTo byte_limit before after
at_end before after h = inl h

pub past_limit : (before after : Option (List ℕ)) → IfSome before (λ told. byte_limit < length told) → ReadsUpTo byte_limit before after
past_limit before after h = inr h

-- words are refused, whatever the input is
pub usage_says : (left : Option (List ℕ)) (status : Status) (text : List ℕ) → Tells usage_told status text → Says None left status text
usage_says left status text tells = record { bytes = unwrap_or left []; held = held left []; tells = tells }
