-- The bytes of a record.
use Rattle.std.proofs.Common.{◌≡◌, ℕ, ◌<◌, ◌^◌, ◌==◌, true, false, Option, Some, None, length, refl, arith, nat_lt}
use Rattle.nm_proto.specs.declared.journal.AbortCause.TheVariants.{Refused, Broken, Forgotten, Lapsed}
use Rattle.nm_proto.specs.declared.journal.Verdict.{Verdict}
use Rattle.nm_proto.specs.declared.journal.Verdict.TheVariants.{Commit, Abort}
use Rattle.nm_proto.specs.declared.journal.Entry.{Entry}
use Rattle.nm_proto.specs.declared.journal.Entry.TheVariants.{Started, Decided, Ended}
use Rattle.std.proofs.lemmas.Nat.{from_be_bytes-to_be_bytes_4}
use Rattle.std.proofs.lemmas.Bool.Decides.{nat_tests}
use Rattle.std.proofs.lemmas.Bool.{false≢true}
use borrow.Author.Tests.{ltb-true}
use Rattle.nm_base.specs.Tag.{tag_number, tag_of}
use Rattle.nm_base.specs.declared.tag.Tag.{Tag}
use Rattle.nm_base.specs.declared.tag.Tag.TheVariants.{InUse, InvalidValue, LockDenied, AccessDenied, DataExists, DataMissing, OperationFailed, ResourceDenied, UnknownElement, BadAttribute, MissingElement}
use Rattle.nm_journal.specs.Record.{record_of, entry_of, is_change, is_device, seconds_of}
use Rattle.nm_journal.specs.Entries.{has_record, is_timed}

pub length-record_of : (entry : Entry) → length (record_of entry) ≡ 15
length-record_of (Started change devices timeout) = refl
length-record_of (Decided change Commit) = refl
length-record_of (Decided change (Abort (Refused device tag))) = refl
length-record_of (Decided change (Abort (Broken device))) = refl
length-record_of (Decided change (Abort Forgotten)) = refl
length-record_of (Decided change (Abort (Lapsed device))) = refl
length-record_of (Ended change kept) = refl

-- a tag is that of its number
tag_back : (tag : Tag) → tag_of (tag_number tag) ≡ Some tag
tag_back InUse = refl
tag_back InvalidValue = refl
tag_back LockDenied = refl
tag_back AccessDenied = refl
tag_back DataExists = refl
tag_back DataMissing = refl
tag_back OperationFailed = refl
tag_back ResourceDenied = refl
tag_back UnknownElement = refl
tag_back BadAttribute = refl
tag_back MissingElement = refl

change_fits : (change : ℕ) → is_change change ≡ true → change < 2 ^ 32
change_fits change fits = let below : nat_lt change 65 ≡ true = grind (arith, nat_tests) in omega (arith, ltb-true)

-- what is written of a decision is read back
pub decided_back : (change : ℕ) (verdict : Verdict) → has_record (Decided change verdict) ≡ true → entry_of (record_of (Decided change verdict)) ≡ Some (Decided change verdict)
decided_back change Commit has =
    let fits : is_change change ≡ true = grind (arith, nat_tests) in
    let back = from_be_bytes-to_be_bytes_4 change (change_fits change fits) in
    rw (back, fits) refl
decided_back change (Abort Forgotten) has =
    let fits : is_change change ≡ true = grind (arith, nat_tests) in
    let back = from_be_bytes-to_be_bytes_4 change (change_fits change fits) in
    rw (back, fits) refl
decided_back change (Abort (Broken device)) has =
    let fits : is_change change ≡ true = grind (arith, nat_tests) in
    let one : is_device device ≡ true = grind (arith, nat_tests) in
    let back = from_be_bytes-to_be_bytes_4 change (change_fits change fits) in
    rw (back, fits, one) refl
decided_back change (Abort (Lapsed device)) has =
    let fits : is_change change ≡ true = grind (arith, nat_tests) in
    let one : is_device device ≡ true = grind (arith, nat_tests) in
    let back = from_be_bytes-to_be_bytes_4 change (change_fits change fits) in
    rw (back, fits, one) refl
decided_back change (Abort (Refused device tag)) has =
    let fits : is_change change ≡ true = grind (arith, nat_tests) in
    let one : is_device device ≡ true = grind (arith, nat_tests) in
    let low : nat_lt (tag_number tag) 9 ≡ true = grind (arith, nat_tests) in
    let back = from_be_bytes-to_be_bytes_4 change (change_fits change fits) in
    rw (back, fits, one, low, tag_back tag) refl

-- so is what is written of a change set that starts
started_back : (change devices seconds : ℕ) → devices < 2 ^ 32 → seconds < 2 ^ 32 → has_record (Started change (record { 0 = devices }) (Some seconds)) ≡ true → nat_lt 0 seconds ≡ true
    → entry_of (record_of (Started change (record { 0 = devices }) (Some seconds))) ≡ Some (Started change (record { 0 = devices }) (Some seconds))
started_back change devices seconds devices_fit seconds_fit has some =
    let fits : is_change change ≡ true = grind (arith, nat_tests) in
    let any : (devices == 0) ≡ false = grind (arith, nat_tests) in
    let long : (seconds == 0) ≡ false = grind (arith, nat_tests) in
    let back = from_be_bytes-to_be_bytes_4 change (change_fits change fits) in
    let devices_back = from_be_bytes-to_be_bytes_4 devices devices_fit in
    let seconds_back = from_be_bytes-to_be_bytes_4 seconds seconds_fit in
    rw (back, fits, devices_back, any, seconds_back, long) refl

pub timed_back : (change devices : ℕ) (timeout : Option ℕ) → devices < 2 ^ 32 → seconds_of timeout < 2 ^ 32 → has_record (Started change (record { 0 = devices }) timeout) ≡ true → is_timed (Started change (record { 0 = devices }) timeout) ≡ true
    → entry_of (record_of (Started change (record { 0 = devices }) timeout)) ≡ Some (Started change (record { 0 = devices }) timeout)
timed_back change devices None devices_fit seconds_fit has timed = absurd (false≢true timed)
timed_back change devices (Some seconds) devices_fit seconds_fit has timed = started_back change devices seconds devices_fit seconds_fit has timed
