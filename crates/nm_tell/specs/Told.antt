-- What the program tells to its command and its input (this project's own).
use Rattle.std.specs.Prelude.{◌≡◌, ℕ, List, Option, Some, None, IfSome, codes}
use Rattle.std.specs.Io.KnownBytes.{append_known}
use Rattle.nm_io.specs.Bytes.{Begins}
use Rattle.nm_explain.specs.declared.status.Status.{Status}
use Rattle.nm_explain.specs.declared.status.Status.TheVariants.{Usage}
use Rattle.nm_explain.specs.Explained.{Told, Tells, Explains}
use Rattle.nm_tell.specs.declared.command.Command.{Command}
use Rattle.nm_tell.specs.declared.command.Command.TheVariants.{Explain}

-- what is told where the words are none of the program's
abbrev pub usage_told : Told
usage_told = record { status = Usage; text = codes "usage: netm_tell explain\n" }

-- what is told to a command and the bytes of the input
abbrev pub IsTold : Option Command → List ℕ → Status → List ℕ → Type 0
IsTold (Some Explain) bytes status text = Explains bytes status text
IsTold None bytes status text = Tells usage_told status text

-- a status and a text that are told to a command and some bytes: those of the input, where it tells them
pub record Says (command : Option Command) (left : Option (List ℕ)) (status : Status) (text : List ℕ) : Type 0 where
  pub bytes : List ℕ
  pub held : IfSome left (λ all. all ≡ bytes)
  pub tells : IsTold command bytes status text

-- the whole text was written, and nothing else
pub record Answers (command : Option Command) (left before after : Option (List ℕ)) (status : Status) : Type 0 where
  pub text : List ℕ
  pub says : Says command left status text
  pub written : after ≡ append_known before text

-- a front of the text was written, and not all of it
pub record CutOff (command : Option Command) (left before after : Option (List ℕ)) : Type 0 where
  pub status : Status
  pub text : List ℕ
  pub says : Says command left status text
  pub begun : Begins before text after
