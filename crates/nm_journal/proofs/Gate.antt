-- What stands on a disk at each step of an appending.
use Rattle.std.proofs.Common.{◌≡◌, ◌≢◌, inl, inr, ℕ, zero, suc, ◌+◌, ◌*◌, ◌<◌, ◌≤◌, true, Some, Ok, List, [], ◌∷◌, ◌++◌, length, take, drop, get_or, refl, sym, ◌∙◌, ap, arith, length-append, length-drop, length-take, add-zero, append_assoc}
use Rattle.std.proofs.Math.Seq.{get_or-append_seam}
use Rattle.std.proofs.lemmas.List.{drop-drop, get_or-take, get_or-drop, take_at, drop_at}
use Rattle.std.proofs.lemmas.Bool.{cases_eq}
use Rattle.nm_disk.specs.Image.{with_piece, IsTorn}
use Rattle.nm_disk.specs.ImageLaws.{torn_whole}
use Rattle.nm_proto.specs.declared.journal.Entry.{Entry}
use Rattle.nm_journal.specs.Record.{record_of, entry_of}
use Rattle.nm_journal.specs.Entries.{entries_from, entries_of, ends_here, next_entry, if_follows, MayFollow}
use Rattle.nm_journal.specs.Fits.{EndsAtGate, ReadsWithOrWithout}
use Rattle.nm_journal.proofs.OneRecord.{ends_step, next_step}
use Rattle.nm_journal.proofs.Reach.{GoesOnFrom, reach, front_of, take_less, is_open, is_closed}
use Rattle.nm_journal.proofs.Records.{length-record_of}

-- where the list ends, no record is read
pub ends_now : (left : ℕ) (entries : List Entry) (bytes : List ℕ) → ends_here bytes ≡ true → entries_from left entries bytes ≡ Ok entries
ends_now zero entries bytes here = refl
ends_now (suc left) entries bytes here = ends_step left entries bytes here

-- bytes whose records are those of bytes that read as these entries, and where the list ends
pub read_alike : (entries : List Entry) (d c : List ℕ) → entries_of d ≡ Ok entries → take (16 * length entries) c ≡ take (16 * length entries) d → (0 < length entries → 16 * length entries < length c)
    → ends_here (drop (16 * length entries) c) ≡ true → entries_of c ≡ Ok entries
read_alike entries d c reads same long ends =
    let there = reach (length d) (length c) (length entries) [] entries d c (omega arith) reads (omega arith) same long in
    there.reads ∙ ends_now there.left entries (drop (16 * length entries) c) ends

-- a closed gate stays closed where the front up to it stays
pub gate_stays : (entries : List Entry) (d c : List ℕ) → EndsAtGate entries d → take (16 * length entries + 1) c ≡ take (16 * length entries + 1) d → EndsAtGate entries c
gate_stays entries d c old same =
    let place = 16 * length entries in
    let sizes = ap length same in
    let there : place < length c = omega (arith, length-take (place + 1) c, length-take (place + 1) d, old.there) in
    let gate : get_or c place 0 ≡ 0 = sym (get_or-take (place + 1) c place 0 (omega arith)) ∙ ap (λ l. get_or l place 0) same ∙ get_or-take (place + 1) d place 0 (omega arith) ∙ old.closed in
    let shut = is_closed (drop place c) (get_or-drop place c 0 0 ∙ ap (λ n. get_or c n 0) (add-zero place) ∙ gate) in
    record {
      reads = read_alike entries d c old.reads (front_of place (place + 1) c d (omega arith) same) (λ some. there) shut;
      there = there;
      closed = gate;
    }

-- the bytes after the first write of an appending: a closed gate, and behind it the record and a closed gate
pub record IsStaged (entries : List Entry) (entry : Entry) (bytes : List ℕ) : Type 0 where
  pub old : EndsAtGate entries bytes
  pub behind : take 16 (drop (16 * length entries + 1) bytes) ≡ record_of entry ++ 0 ∷ []

-- the first write, torn
pub stage_torn : (entries : List Entry) (n : ℕ) (d c : List ℕ) → EndsAtGate entries d → IsTorn (16 * length entries + 1) n d c → EndsAtGate entries c
stage_torn entries n d c old torn = gate_stays entries d c old torn.front

pub block_size : (entry : Entry) → length (record_of entry ++ 0 ∷ []) ≡ 16
block_size entry = omega (arith, length-append (record_of entry) (0 ∷ []), length-record_of entry)

-- the first write, done
pub stage_done : (entries : List Entry) (entry : Entry) (d : List ℕ) → EndsAtGate entries d → IsStaged entries entry (with_piece d (16 * length entries + 1) (record_of entry ++ 0 ∷ []))
stage_done entries entry d old =
    let place = 16 * length entries + 1 in
    let block = record_of entry ++ 0 ∷ [] in
    let new = with_piece d place block in
    let torn = torn_whole d place block (omega (arith, old.there)) in
    let front_size : length (take place d) ≡ place = omega (arith, length-take place d, old.there) in
    let behind : drop place new ≡ block ++ drop (place + length block) d = ap (drop place) (append_assoc (take place d) block (drop (place + length block) d)) ∙ drop_at (take place d) (block ++ drop (place + length block) d) place front_size in
    record {
      old = gate_stays entries d new old torn.front;
      behind = ap (take 16) behind ∙ take_at block (drop (place + length block) d) 16 (block_size entry);
    }

-- what is behind the gate once it is opened, or torn
module _ (entries : List Entry) (entry : Entry) (follows : MayFollow entries entry) (reads : entry_of (record_of entry) ≡ Some entry) (w c : List ℕ) (staged : IsStaged entries entry w) (torn : IsTorn (16 * length entries) 1 w c) where
  abbrev place : ℕ
  place = 16 * length entries

  size : length c ≡ length w
  size = omega (arith, torn.no_shorter, torn.no_longer, staged.old.there)

  long : place + 17 ≤ length w
  long = omega (arith, ap length staged.behind, block_size entry, length-take 16 (drop (place + 1) w), length-drop (place + 1) w)

  abbrev rest : List ℕ
  rest = drop place c

  rest_size : 17 ≤ length rest
  rest_size = omega (arith, length-drop place c, size, long)

  behind : take 16 (drop 1 rest) ≡ record_of entry ++ 0 ∷ []
  behind = ap (take 16) (drop-drop 1 place c ∙ torn.back) ∙ staged.behind

  gate : get_or rest 0 0 ≡ get_or c place 0
  gate = get_or-drop place c 0 0 ∙ ap (λ n. get_or c n 0) (add-zero place)

  next_gate : get_or rest 16 0 ≡ 0
  next_gate =
      let here : get_or (drop 1 rest) 15 0 ≡ get_or (record_of entry ++ 0 ∷ []) 15 0 = sym (get_or-take 16 (drop 1 rest) 15 0 (omega arith)) ∙ ap (λ l. get_or l 15 0) behind in
      let zero_there : get_or (record_of entry ++ 0 ∷ []) 15 0 ≡ 0 = ap (λ n. get_or (record_of entry ++ 0 ∷ []) n 0) (sym (length-record_of entry)) ∙ get_or-append_seam (record_of entry) 0 [] 0 in
      sym (get_or-drop 1 rest 15 0) ∙ here ∙ zero_there

  next : next_entry entries rest ≡ Some entry
  next =
      let here : take 15 (drop 1 rest) ≡ record_of entry = sym (take_less 15 16 (drop 1 rest) (omega arith)) ∙ ap (take 15) behind ∙ take_at (record_of entry) (0 ∷ []) 15 (length-record_of entry) in
      let read : next_entry entries rest ≡ if_follows entries (Some entry) = ap (λ l. if_follows entries (entry_of l)) here ∙ ap (if_follows entries) reads in
      read ∙ rw follows refl

  reached : GoesOnFrom (length c) [] entries c rest
  reached = reach (length w) (length c) (length entries) [] entries w c (omega arith) staged.old.reads (omega arith) torn.front (λ some. omega (arith, size, long))

  -- the record is read where its gate is open
  reads_next : (left : ℕ) → length rest ≤ left → get_or rest 0 0 ≢ 0 → entries_from left entries rest ≡ Ok (entries ++ entry ∷ [])
  reads_next zero enough opened = absurd (omega (arith, rest_size))
  reads_next (suc left) enough opened =
      next_step left entries rest entry (is_open rest (omega (arith, rest_size)) opened) next
      ∙ ends_now left (entries ++ entry ∷ []) (drop 16 rest) (is_closed (drop 16 rest) (get_or-drop 16 rest 0 0 ∙ next_gate))

  pub gate_opened : get_or c place 0 ≢ 0 → EndsAtGate (entries ++ entry ∷ []) c
  gate_opened opened =
      let more : 16 * length (entries ++ entry ∷ []) ≡ place + 16 = omega (arith, length-append entries (entry ∷ [])) in
      record {
        reads = reached.reads ∙ reads_next reached.left reached.enough (λ shut. opened (sym gate ∙ shut));
        there = omega (arith, size, long);
        closed = ap (λ n. get_or c n 0) more ∙ sym (get_or-drop place c 16 0) ∙ next_gate;
      }

  -- the second write, torn
  pub gate_torn : ReadsWithOrWithout entries entry c
  gate_torn = elim (cases_eq (get_or c place 0) 0) [
    | inl shut ↦ inl (reached.reads ∙ ends_now reached.left entries rest (is_closed rest (gate ∙ shut)))
    | inr opened ↦ inr (gate_opened opened).reads
  ]

-- the second write, done
pub gate_done : (entries : List Entry) (entry : Entry) → MayFollow entries entry → entry_of (record_of entry) ≡ Some entry → (w : List ℕ) → IsStaged entries entry w
    → EndsAtGate (entries ++ entry ∷ []) (with_piece w (16 * length entries) (1 ∷ []))
gate_done entries entry follows reads w staged =
    let place = 16 * length entries in
    let torn = torn_whole w place (1 ∷ []) (omega (arith, staged.old.there)) in
    let front_size : length (take place w) ≡ place = omega (arith, length-take place w, staged.old.there) in
    let opened : get_or (with_piece w place (1 ∷ [])) place 0 ≡ 1 =
    ap (λ l. get_or l place 0) (append_assoc (take place w) (1 ∷ []) (drop (place + 1) w)) ∙ ap (λ n. get_or (take place w ++ 1 ∷ drop (place + 1) w) n 0) (sym front_size) ∙ get_or-append_seam (take place w) 1 (drop (place + 1) w) 0 in
    gate_opened entries entry follows reads w (with_piece w place (1 ∷ [])) staged torn (λ shut. absurd (omega (arith, opened, shut)))
