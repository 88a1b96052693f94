-- Two reads or two writes, one after the other.
use Rattle.std.proofs.Common.{◌≡◌, ℕ, ◌+◌, ◌-◌, List, ◌++◌, length, take, drop, Option, None, Some, refl, sym, ap, ◌∙◌, append_assoc, arith, length-drop, take_all}
use Rattle.std.proofs.Math.Seq.{take-add}
use Rattle.std.specs.Io.KnownBytes.{prepend_known, append_known}
use Rattle.nm_io.specs.Bytes.{ReadsFront}

pub prepend_known-twice : (xs ys : List ℕ) (o : Option (List ℕ)) → prepend_known xs (prepend_known ys o) ≡ prepend_known (xs ++ ys) o
prepend_known-twice xs ys None = refl
prepend_known-twice xs ys (Some zs) = ap Some (sym (append_assoc xs ys zs))

pub append_known-twice : (o : Option (List ℕ)) (xs ys : List ℕ) → append_known (append_known o xs) ys ≡ append_known o (xs ++ ys)
append_known-twice None xs ys = refl
append_known-twice (Some zs) xs ys = ap Some (append_assoc zs xs ys)

-- a run of reads and one read more
pub ReadsFront-more : (a b c : Option (List ℕ)) (xs ys : List ℕ) → a ≡ prepend_known xs b → b ≡ prepend_known ys c → ReadsFront a c
ReadsFront-more a b c xs ys first second =
    record { front = xs ++ ys; read = first ∙ ap (prepend_known xs) second ∙ prepend_known-twice xs ys c }

-- a front was written, and then some of what is left of the bytes
pub append_known-front : (a b c : Option (List ℕ)) (bytes : List ℕ) (done count : ℕ) → b ≡ append_known a (take done bytes)
    → c ≡ append_known b (take count (take (length bytes - done) (drop done bytes))) → c ≡ append_known a (take (done + count) bytes)
append_known-front a b c bytes done count first second =
    let rest : take (length bytes - done) (drop done bytes) ≡ drop done bytes = take_all _ (drop done bytes) (omega (arith, length-drop done bytes)) in
    second ∙ ap (λ l. append_known b (take count l)) rest ∙ ap (λ o. append_known o (take count (drop done bytes))) first
    ∙ append_known-twice a _ _ ∙ ap (append_known a) (sym (take-add done count bytes))
