use Rattle.std.proofs.Common.{◌∙◌, ◌++◌, List, ℕ, take, get_or, sym, ap}
use Rattle.std.specs.List.{flat_map}
use Rattle.std.proofs.lemmas.List.{take_all, take_more, flat_map_more}
use Rattle.nm_yang.specs.Written.{escape_of}
use Rattle.nm_yang.proofs.writing.put_bytes.Goals as goal

pub loop-byte-preserved : goal.loop-byte-preserved
loop-byte-preserved c =
    let bytes = c.args.bytes.now in
    let out = c.args.out.now.items in
    let byte = get_or bytes c.loop-byte.byte-index 0 in
    c.in_ok-put_byte.ensures
    ∙ ap (λ (l : List ℕ). l ++ escape_of byte) c.loop-byte.invariant
    ∙ flat_map_more escape_of out (take c.loop-byte.byte-index bytes) byte
    ∙ ap (λ (l : List ℕ). out ++ flat_map escape_of l) (sym (take_more bytes c.loop-byte.byte-index 0 c.loop-byte-test.true))

pub returns : goal.returns
returns c =
    c.loop-byte.invariant
    ∙ ap (λ (bytes : List ℕ). c.args.out.now.items ++ flat_map escape_of bytes) (take_all c.loop-byte.byte-index c.args.bytes.now c.loop-byte-test.false)
