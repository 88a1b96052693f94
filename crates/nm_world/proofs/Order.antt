-- What bytes read as, and that an entry at the end of a list that was read may follow those before it.
use Rattle.std.proofs.Common.{◌≡◌, ◌*◌, ℕ, zero, suc, List, [], ◌∷◌, ◌++◌, length, take, drop, Bool, true, false, ◌&&◌, Option, Some, None, Result, Ok, Err, refl, sym, ap, ◌∙◌, subst, append_assoc, append-nil, if◌then◌else◌}
use Rattle.nm_proto.specs.declared.journal.Entry.{Entry}
use Rattle.nm_journal.specs.Entries.{entries_of, entries_from, ends_here, next_entry, or_damaged, may_follow, follow_on, IsInOrder}
use Rattle.nm_journal.specs.Fits.{IsImageOf, ReadsAs}
use Rattle.nm_journal.specs.Record.{entry_of}
use Rattle.nm_journal.proofs.Bound.{order_push}
use Rattle.nm_journal.proofs.Loop.{found_follows}

all_of : (a b : Bool) → (a && b) ≡ true → (a ≡ true) × (b ≡ true)
all_of true b h = (refl, h)
all_of false b h = absurd (let no : false ≡ true = h in cc)

last_follows : (before later : List Entry) (entry : Entry) → follow_on before (later ++ entry ∷ []) ≡ true → may_follow (before ++ later) entry ≡ true
last_follows before [] entry h = ap (λ l. may_follow l entry) (append-nil before) ∙ (all_of (may_follow before entry) true h).0
last_follows before (first ∷ later) entry h =
    ap (λ l. may_follow l entry) (sym (append_assoc before (first ∷ []) later))
    ∙ last_follows (before ++ first ∷ []) later entry (all_of (may_follow before first) (follow_on (before ++ first ∷ []) (later ++ entry ∷ [])) h).1

-- what an image of a journal that hasn't stopped reads as
pub reads_whole : (failed : Option Entry) (entries : List Entry) (image : List ℕ) → failed ≡ None → IsImageOf failed entries image → ReadsAs entries image
reads_whole None entries image h is = is.reads
reads_whole (Some entry) entries image h is = absurd (let e : Some entry ≡ None = h in cc)

abbrev pub Read : List Entry → Result (List Entry) ℕ
Read entries = Ok entries

abbrev pub Bad : ℕ → Result (List Entry) ℕ
Bad offset = Err offset

pub same_list : (a b : List Entry) → Read a ≡ Read b → a ≡ b
same_list a b h = let e : Read a ≡ Read b = h in cc

on_entry : (before : List Entry) (found : Option Entry) (go_on : Entry → Result (List Entry) ℕ) (entries : List Entry) → IsInOrder before
    → ((entry : Entry) → found ≡ Some entry → may_follow before entry ≡ true)
    → ((entry : Entry) → IsInOrder (before ++ entry ∷ []) → go_on entry ≡ Read entries → IsInOrder entries) → or_damaged before found go_on ≡ Read entries → IsInOrder entries
on_entry before None go_on entries order may rest h = absurd (let no : Bad (16 * length before) ≡ Read entries = h in cc)
on_entry before (Some entry) go_on entries order may rest h = rest entry (order_push before entry order (may entry refl)) h

on_test : (ends : Bool) (before : List Entry) (others : Result (List Entry) ℕ) (entries : List Entry) → IsInOrder before → (others ≡ Read entries → IsInOrder entries)
    → (if ends then Ok before else others) ≡ Read entries → IsInOrder entries
on_test true before others entries order rest h = subst IsInOrder (same_list before entries h) order
on_test false before others entries order rest h = rest h

reads_from : (fuel : ℕ) (before : List Entry) (bytes : List ℕ) (entries : List Entry) → IsInOrder before → entries_from fuel before bytes ≡ Read entries → IsInOrder entries
reads_from zero before bytes entries order h = subst IsInOrder (same_list before entries h) order
reads_from (suc more) before bytes entries order h =
    on_test (ends_here bytes) before (or_damaged before (next_entry before bytes) (λ entry. entries_from more (before ++ entry ∷ []) (drop 16 bytes))) entries order
    (on_entry before (next_entry before bytes) (λ entry. entries_from more (before ++ entry ∷ []) (drop 16 bytes)) entries order
    (λ entry is. found_follows before (entry_of (take 15 (drop 1 bytes))) entry is)
    (λ entry ordered reads. reads_from more (before ++ entry ∷ []) (drop 16 bytes) entries ordered reads)) h

pub reads_follow : (entries : List Entry) (entry : Entry) (bytes : List ℕ) → entries_of bytes ≡ Ok (entries ++ entry ∷ []) → may_follow entries entry ≡ true
reads_follow entries entry bytes h = last_follows [] entries entry (reads_from (length bytes) [] bytes (entries ++ entry ∷ []) refl h)
