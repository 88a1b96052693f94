-- A disk goes on telling its bytes.
use Rattle.std.proofs.Common.{◌≡◌, ℕ, List, Option, Some, None, refl, sym, subst, ◌∙◌}
use Rattle.std.specs.Option.{IsSome, IfSome, is_some}
use Rattle.std.proofs.lemmas.Bool.{false≢true}
use Rattle.nm_disk.specs.Image.{contents_with_piece}
use Rattle.nm_journal.specs.Fits.{OfImage}

pub told_still : (before after : Option (List ℕ)) (at : ℕ) (piece : List ℕ) → after ≡ contents_with_piece before at piece → IsSome before → IsSome after
told_still None after at piece same some = absurd (false≢true some)
told_still (Some bytes) after at piece same some = subst IsSome (sym same) refl

pub told_is_some : (before after : Option (List ℕ)) → is_some after ≡ is_some before → IsSome before → IsSome after
told_is_some before after same some = same ∙ some

pub some_told : (told : Option (List ℕ)) (bytes : List ℕ) → told ≡ Some bytes → IsSome told
some_told told bytes same = subst IsSome (sym same) refl

-- the bytes that are told, and what holds of them
pub record TellsBytes (told : Option (List ℕ)) (P : List ℕ → Type 0) : Type 0 where
  pub bytes : List ℕ
  pub tells : told ≡ Some bytes
  pub holds : P bytes

pub told_bytes : (told : Option (List ℕ)) (P : List ℕ → Type 0) → IfSome told P → IsSome told → TellsBytes told P
told_bytes None P if_some some = absurd (false≢true some)
told_bytes (Some bytes) P if_some some = record { bytes = bytes; tells = refl; holds = if_some }

pub if_told : (told : Option (List ℕ)) (P : List ℕ → Type 0) → (IsSome told → IfSome told P) → IfSome told P
if_told None P f = tt
if_told (Some bytes) P f = f refl

pub if_told_is : (told : Option (List ℕ)) (P : List ℕ → Type 0) (bytes : List ℕ) → told ≡ Some bytes → P bytes → IfSome told P
if_told_is told P bytes tells holds = subst (λ o. IfSome o P) (sym tells) holds

pub holds_if_told : (told : Option (List ℕ)) (P : List ℕ → Type 0) (bytes : List ℕ) → told ≡ Some bytes → IfSome told P → P bytes
holds_if_told told P bytes tells if_some = subst (λ o. IfSome o P) tells if_some

-- what follows of the bytes that are told
pub if_told_weaker : (told : Option (List ℕ)) (P Q : List ℕ → Type 0) → ((bytes : List ℕ) → told ≡ Some bytes → P bytes → Q bytes) → IfSome told P → IfSome told Q
if_told_weaker None P Q f if_some = tt
if_told_weaker (Some bytes) P Q f if_some = f bytes refl if_some

-- what holds of the bytes that were read, and of those that are told
pub of_image : (told : Option (List ℕ)) (P : List ℕ → Type 0) (read : List ℕ) → P read → IfSome told P → OfImage told P
of_image None P read holds if_some = record { image = read; stored = tt; holds = holds }
of_image (Some bytes) P read holds if_some = record { image = bytes; stored = refl; holds = if_some }
