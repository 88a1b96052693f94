-- What follows from the words on images, for the layers above.
use Rattle.std.specs.Prelude.{◌≡◌, ◌+◌, ◌≤◌, ℕ, List, ◌++◌, length, take, drop, refl}
use Rattle.std.proofs.Common.{◌∙◌, ap, arith, append_assoc, length-append, length-drop}
use Rattle.std.proofs.lemmas.List.{take_at, drop_at, length-take-le}
use Rattle.nm_disk.specs.Image.{with_piece, IsTorn}

-- a write that did nothing is one that tore
pub torn_same : (at n : ℕ) (bytes : List ℕ) → IsTorn at n bytes bytes
torn_same at n bytes = record { front = refl; back = refl; no_shorter = omega arith; no_longer = omega arith }

-- a write that was done is one that tore
pub torn_whole : (bytes : List ℕ) (at : ℕ) (piece : List ℕ) → at ≤ length bytes → IsTorn at (length piece) bytes (with_piece bytes at piece)
torn_whole bytes at piece le =
    let front = take at bytes in
    let rest = drop (at + length piece) bytes in
    let front_size : length front ≡ at = length-take-le at bytes le in
    let both_size : length (front ++ piece) ≡ at + length piece = omega (arith, length-append front piece) in
    let rest_size = length-drop (at + length piece) bytes in
    let size : length (with_piece bytes at piece) ≡ length (front ++ piece) + length rest = length-append (front ++ piece) rest in
    record {
      front = ap (take at) (append_assoc front piece rest) ∙ take_at front (piece ++ rest) at front_size;
      back = drop_at (front ++ piece) rest (at + length piece) both_size;
      no_shorter = omega arith;
      no_longer = omega arith;
    }
