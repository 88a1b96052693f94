-- The disk at each step of an appending.
use Rattle.std.proofs.Common.{◌≡◌, ℕ, ◌+◌, ◌*◌, ◌≤◌, Option, Some, None, Result, Ok, Err, List, [], ◌∷◌, ◌++◌, length, take, drop, refl, sym, ◌∙◌, ap, subst, arith, append_assoc, length-append, length-drop, length-take}
use Rattle.std.proofs.lemmas.List.{take-append-le, drop_at}
use Rattle.std.specs.Option.{IsSome, IfSome}
use Rattle.std.specs.Result.{OnOk}
use Rattle.std.proofs.lemmas.Bool.{false≢true}
use Rattle.nm_disk.specs.Image.{DiskState, with_piece, contents_with_piece, LeavesOnly, IsTorn}
use Rattle.nm_proto.specs.declared.journal.Entry.{Entry}
use Rattle.nm_journal.specs.Record.{record_of, entry_of, open_record}
use Rattle.nm_journal.specs.Entries.{MayFollow}
use Rattle.nm_journal.specs.Fits.{EndsAtGate, HasLength, ReadsWithOrWithout, MayTear}
use Rattle.nm_journal.proofs.Gate.{IsStaged, stage_torn, stage_done, gate_torn, gate_done, block_size}
use Rattle.nm_journal.proofs.Reach.{take_less}

pub on_ok_two : {T E P Q R : Type 0} (r : Result T E) → (P → Q → R) → OnOk r P → OnOk r Q → OnOk r R
on_ok_two (Ok x) f p q = f p q
on_ok_two (Err e) f p q = tt

-- there is room for the record behind the gate
pub within : (told : Option (List ℕ)) (entries : List Entry) → ((bytes : List ℕ) → told ≡ Some bytes → EndsAtGate entries bytes) → IfSome told (λ bytes. 16 * length entries + 1 ≤ length bytes)
within None entries holds = tt
within (Some bytes) entries holds = omega (arith, (holds bytes refl).there)

-- the first write, torn
pub first_torn : (disk : DiskState) (entries : List Entry) (n : ℕ) → ((image : List ℕ) → disk.crash_images image → EndsAtGate entries image)
    → (image : List ℕ) → MayTear disk (16 * length entries + 1) n image → EndsAtGate entries image
first_torn disk entries n holds image torn = stage_torn entries n torn.0 image (holds torn.0 torn.1) torn.2

-- the record is on the disk behind the closed gate
pub record Staging (entries : List Entry) (entry : Entry) (disk : DiskState) : Type 0 where
  pub bytes : List ℕ
  pub tells : disk.contents ≡ Some bytes
  pub staged : IsStaged entries entry bytes
  pub only : LeavesOnly bytes disk

pub first_done : (before : Option (List ℕ)) (disk : DiskState) (entries : List Entry) (entry : Entry) (block : List ℕ) → ((bytes : List ℕ) → before ≡ Some bytes → EndsAtGate entries bytes)
    → block ≡ record_of entry ++ 0 ∷ [] → disk.contents ≡ contents_with_piece before (16 * length entries + 1) block → IfSome disk.contents (λ bytes. LeavesOnly bytes disk) → IsSome before → Staging entries entry disk
first_done None disk entries entry block holds is_block same only some = absurd (false≢true some)
first_done (Some old) disk entries entry block holds is_block same only some =
    let bytes = with_piece old (16 * length entries + 1) (record_of entry ++ 0 ∷ []) in
    let tells : disk.contents ≡ Some bytes = same ∙ ap (λ b. Some (with_piece old (16 * length entries + 1) b)) is_block in
    record {
      bytes = bytes;
      tells = tells;
      staged = stage_done entries entry old (holds old refl);
      only = subst (λ o. IfSome o (λ b. LeavesOnly b disk)) tells only;
    }

-- the second write, torn
pub second_torn : (entries : List Entry) (entry : Entry) (disk : DiskState) → MayFollow entries entry → entry_of (record_of entry) ≡ Some entry → Staging entries entry disk
    → (image : List ℕ) → MayTear disk (16 * length entries) 1 image → ReadsWithOrWithout entries entry image
second_torn entries entry disk follows reads staging image torn =
    gate_torn entries entry follows reads staging.bytes image staging.staged (subst (λ old. IsTorn (16 * length entries) 1 old image) (staging.only torn.0 torn.1) torn.2)

-- the second write, done
pub second_done : (entries : List Entry) (entry : Entry) (disk now : DiskState) → MayFollow entries entry → entry_of (record_of entry) ≡ Some entry → Staging entries entry disk
    → now.contents ≡ contents_with_piece disk.contents (16 * length entries) (1 ∷ []) → IfSome now.contents (λ bytes. LeavesOnly bytes now) → (image : List ℕ) → now.crash_images image → EndsAtGate (entries ++ entry ∷ []) image
second_done entries entry disk now follows reads staging same only image left =
    let bytes = with_piece staging.bytes (16 * length entries) (1 ∷ []) in
    let tells : now.contents ≡ Some bytes = same ∙ ap (λ o. contents_with_piece o (16 * length entries) (1 ∷ [])) staging.tells in
    let is : image ≡ bytes = subst (λ o. IfSome o (λ b. LeavesOnly b now)) tells only image left in
    subst (EndsAtGate (entries ++ entry ∷ [])) (sym is) (gate_done entries entry follows reads staging.bytes staging.staged)

-- both writes together: an open gate, the record and a closed gate
both_pieces : (d block : List ℕ) (p : ℕ) → p + 1 ≤ length d → with_piece (with_piece d (p + 1) block) p (1 ∷ []) ≡ with_piece d p (1 ∷ block)
both_pieces d block p le =
    let staged = with_piece d (p + 1) block in
    let rest = drop (p + 1 + length block) d in
    let front_size : length (take (p + 1) d) ≡ p + 1 = omega (arith, length-take (p + 1) d) in
    let whole : staged ≡ take (p + 1) d ++ (block ++ rest) = append_assoc (take (p + 1) d) block rest in
    let front : take p staged ≡ take p d = ap (take p) whole ∙ take-append-le p (take (p + 1) d) (block ++ rest) (omega arith) ∙ take_less p (p + 1) d (omega arith) in
    let back : drop (p + 1) staged ≡ block ++ rest = ap (drop (p + 1)) whole ∙ drop_at (take (p + 1) d) (block ++ rest) (p + 1) front_size in
    let place : p + 1 + length block ≡ p + length (1 ∷ block) = omega arith in
    ap (λ l. (l ++ 1 ∷ []) ++ drop (p + 1) staged) front ∙ ap (λ l. (take p d ++ 1 ∷ []) ++ l) back ∙ append_assoc (take p d) (1 ∷ []) (block ++ rest)
    ∙ sym (append_assoc (take p d) (1 ∷ block) rest) ∙ ap (λ n. (take p d ++ 1 ∷ block) ++ drop n d) place

pub written_both : (told mid now : Option (List ℕ)) (entries : List Entry) (entry : Entry) (block : List ℕ) → block ≡ record_of entry ++ 0 ∷ [] → IfSome told (λ bytes. 16 * length entries + 1 ≤ length bytes)
    → mid ≡ contents_with_piece told (16 * length entries + 1) block → now ≡ contents_with_piece mid (16 * length entries) (1 ∷ []) → now ≡ contents_with_piece told (16 * length entries) (open_record entry)
written_both None mid now entries entry block is_block fits first second = second ∙ ap (λ o. contents_with_piece o (16 * length entries) (1 ∷ [])) first
written_both (Some bytes) mid now entries entry block is_block fits first second =
    second ∙ ap (λ o. contents_with_piece o (16 * length entries) (1 ∷ [])) first
    ∙ ap (λ l. Some l) (both_pieces bytes block (16 * length entries) fits ∙ ap (λ b. with_piece bytes (16 * length entries) (1 ∷ b)) is_block)

-- a record more
pub has_length_push : (told now : Option (List ℕ)) (entries : List Entry) (entry : Entry) → now ≡ contents_with_piece told (16 * length entries) (open_record entry) → HasLength told entries → HasLength now (entries ++ entry ∷ [])
has_length_push None now entries entry same has = subst (λ o. HasLength o (entries ++ entry ∷ [])) (sym same) tt
has_length_push (Some bytes) now entries entry same has = subst (λ o. HasLength o (entries ++ entry ∷ [])) (sym same) size
  where
    piece_size : length (open_record entry) ≡ 17
    piece_size = omega (arith, block_size entry)

    size : length (with_piece bytes (16 * length entries) (open_record entry)) ≡ 16 * length (entries ++ entry ∷ []) + 1
    size =
        let place = 16 * length entries in
        let rest = drop (place + length (open_record entry)) bytes in
        omega (arith, has, piece_size, length-append (take place bytes ++ open_record entry) rest, length-append (take place bytes) (open_record entry), length-take place bytes, length-drop (place + length (open_record entry)) bytes, length-append entries (entry ∷ []))
