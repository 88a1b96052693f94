-- The disk at each step of a reopening.
use Rattle.std.proofs.Common.{◌≡◌, inl, inr, ⊎_elim, ℕ, zero, suc, Option, Some, ◌+◌, ◌*◌, ◌<◌, ◌≤◌, List, [], ◌∷◌, ◌++◌, length, take, drop, get_or, refl, sym, ◌∙◌, ap, subst, arith, append_assoc, length-append, length-drop, length-take}
use Rattle.std.proofs.Math.Seq.{get_or-append_seam}
use Rattle.std.proofs.lemmas.Bool.{cases_eq}
use Rattle.std.proofs.lemmas.List.{drop_all}
use Rattle.nm_disk.specs.Image.{DiskState, with_piece, contents_with_piece, IsTorn, IsPerhapsCut, LeavesOnly}
use Rattle.nm_disk.specs.ImageLaws.{torn_whole}
use Rattle.nm_proto.specs.declared.journal.Entry.{Entry}
use Rattle.nm_journal.specs.Fits.{EndsAtGate, ReadsAs, MayTear, closed_behind}
use Rattle.nm_journal.proofs.Reach.{is_short, take_less, long_enough}
use Rattle.nm_journal.proofs.Gate.{read_alike}

-- where there is an entry, a byte stands behind the records
behind_some : (count : ℕ) (entries : List Entry) (bytes : List ℕ) → length entries ≡ count → ReadsAs entries bytes → 0 < count → 16 * count < length bytes
behind_some zero entries bytes size reads some = absurd (omega arith)
behind_some (suc count) entries bytes size reads some = long_enough (length bytes) count [] entries bytes reads (omega arith)

module _ (entries : List Entry) (bytes : List ℕ) (reads : ReadsAs entries bytes) where
  abbrev end : ℕ
  end = 16 * length entries

  abbrev cut_off : List ℕ
  cut_off = take (end + 1) bytes

  behind : 0 < length entries → end < length bytes
  behind some = behind_some (length entries) entries bytes refl reads some

  behind_cut : 0 < length entries → end < length cut_off
  behind_cut some = omega (arith, length-take (end + 1) bytes, behind some)

  pub end_within : end ≤ length cut_off
  end_within = elim (cases_eq (length entries) 0) [
    | inl none ↦ omega (arith, none)
    | inr some ↦ let long = behind_cut (omega arith) in omega arith
  ]

  -- as much as is left behind the records is no record
  short_reads : (image : List ℕ) → take end image ≡ take end bytes → (0 < length entries → end < length image) → length image ≤ end + 1 → ReadsAs entries image
  short_reads image same long short = read_alike entries bytes image reads same long (is_short (drop end image) (omega (arith, length-drop end image)))

  cut_reads : ReadsAs entries cut_off
  cut_reads = short_reads cut_off (take_less end (end + 1) bytes (omega arith)) behind_cut (omega (arith, length-take (end + 1) bytes))

  -- the cut, done or not done
  pub cut_image : (image : List ℕ) → IsPerhapsCut (end + 1) bytes image → ReadsAs entries image
  cut_image image cut = ⊎_elim (λ same. subst (ReadsAs entries) (sym same) reads) (λ same. subst (ReadsAs entries) (sym same) cut_reads) cut

  torn_reads : (image : List ℕ) → IsTorn end 1 cut_off image → ReadsAs entries image
  torn_reads image torn =
      short_reads image (torn.front ∙ take_less end (end + 1) bytes (omega arith)) (λ some. omega (arith, behind_cut some, torn.no_shorter)) (omega (arith, torn.no_longer, length-take (end + 1) bytes))

  -- the write of the closed gate, torn
  pub gate_image : (disk : DiskState) → LeavesOnly cut_off disk → (image : List ℕ) → MayTear disk end 1 image → ReadsAs entries image
  gate_image disk only image torn = torn_reads image (subst (λ old. IsTorn end 1 old image) (only torn.0 torn.1) torn.2)

  -- the write of the closed gate, done
  pub gate_closed : EndsAtGate entries (with_piece cut_off end (0 ∷ []))
  gate_closed =
      let new = with_piece cut_off end (0 ∷ []) in
      let front_size : length (take end cut_off) ≡ end = omega (arith, length-take end cut_off, end_within) in
      let whole : new ≡ take end cut_off ++ 0 ∷ drop (end + 1) cut_off = append_assoc (take end cut_off) (0 ∷ []) (drop (end + 1) cut_off) in
      record {
        reads = torn_reads new (torn_whole cut_off end (0 ∷ []) end_within);
        there = omega (arith, ap length whole, length-append (take end cut_off) (0 ∷ drop (end + 1) cut_off), front_size);
        closed = ap (λ l. get_or l end 0) whole ∙ ap (λ n. get_or (take end cut_off ++ 0 ∷ drop (end + 1) cut_off) n 0) (sym front_size) ∙ get_or-append_seam (take end cut_off) 0 (drop (end + 1) cut_off) 0;
      }

  -- what stands then: the records, and a closed gate
  pub closed_bytes : with_piece cut_off end (0 ∷ []) ≡ closed_behind entries bytes
  closed_bytes =
      append_assoc (take end cut_off) (0 ∷ []) (drop (end + 1) cut_off) ∙ ap (λ l. l ++ 0 ∷ drop (end + 1) cut_off) (take_less end (end + 1) bytes (omega arith))
      ∙ ap (λ l. take end bytes ++ 0 ∷ l) (drop_all (end + 1) cut_off (omega (arith, length-take (end + 1) bytes)))

  pub closed_size : length (closed_behind entries bytes) ≡ end + 1
  closed_size = omega (arith, length-append (take end bytes) (0 ∷ []), length-take end bytes, length-take (end + 1) bytes, end_within)

  pub told_closed : (mid new : Option (List ℕ)) → mid ≡ Some cut_off → new ≡ contents_with_piece mid end (0 ∷ []) → new ≡ Some (closed_behind entries bytes)
  told_closed mid new cut written = written ∙ ap (λ o. contents_with_piece o end (0 ∷ [])) cut ∙ ap (λ l. Some l) closed_bytes
