use Rattle.std.proofs.Common.{◌≡◌, ◌+◌, ◌≤◌, inl, Some, List, ◌∙◌, length, vec_len, vec_capacity, sym, ap, subst, arith, rules}
use Rattle.std.specs.Option.{IfSome}
use Rattle.nm_proto.specs.declared.journal.Entry.{Entry}
use Rattle.nm_journal.specs.Fits.{ReadsAs, IsRead, closed_behind}
use Rattle.nm_journal.specs.declared.fault.JournalFault.TheVariants.{NoMemory}
use Rattle.nm_journal.proofs.Bound.{at_most}
use Rattle.nm_journal.proofs.Reopen.{while_read, while_closed, not_memory}
use Rattle.nm_journal.proofs.Told.{if_told_weaker}
use Rattle.nm_journal.proofs.journal.Journal.reopen.Goals as goal

pub returns-in-Err-clause-no_memory : goal.returns-in-Err-clause-no_memory
returns-in-Err-clause-no_memory g c = λ is. let memory : c.in-Err.fault ≡ NoMemory = cc in absurd (not_memory c.in-Err.fault c.in-Err.ensures.no_other memory)

pub returns-in-Err-clause-no_other : goal.returns-in-Err-clause-no_other
returns-in-Err-clause-no_other g c = inl c.in-Err.ensures.no_other

pub returns-in-Err-clause-any_moment : goal.returns-in-Err-clause-any_moment
returns-in-Err-clause-any_moment g c = while_read (g.D.Disk.state c.args.disk.now) (g.D.Disk.state c.read_back.new.disk) c.read_back.ensures.any_moment

pub close-requires-clause-few : goal.close-requires-clause-few
close-requires-clause-few g c = omega (arith, at_most c.read_back.new.entries.items c.read_back.ensures.in_order, ap length c.deref.ensures.value)

pub unwrap-requires : goal.unwrap-requires
unwrap-requires g c =
    let few = at_most c.read_back.new.entries.items c.read_back.ensures.in_order in
    let room : vec_len c.in_ok-copied.copied + length c.deref-in-Ok-close.result.now ≤ vec_capacity c.in_ok-copied.copied =
    omega (arith, few, ap length c.deref-in-Ok-close.ensures.value, c.in_ok-copied.ensures.len, c.in_ok-copied.ensures.capacity) in
    c.extend_from_slice.ensures.succeeds room

pub returns-in-Ok-close-clause-entries : goal.returns-in-Ok-close-clause-entries
returns-in-Ok-close-clause-entries g c =
    let same : c.extend_from_slice.new.self.items ≡ c.read_back.new.entries.items = search rules in
    if_told_weaker (g.D.Disk.state c.args.disk.now).contents _ (ReadsAs c.extend_from_slice.new.self.items) (λ bytes tells read. subst (λ entries. ReadsAs entries bytes) (sym same) read.reads) c.in-Ok.ensures.read

pub returns-in-Ok-close-clause-any_moment : goal.returns-in-Ok-close-clause-any_moment
returns-in-Ok-close-clause-any_moment g c =
    let read = subst (λ (entries : List Entry). IfSome (g.D.Disk.state c.args.disk.now).contents (IsRead entries c.in-Ok.size (g.D.Disk.state c.read_back.new.disk))) (sym c.deref.ensures.value) c.in-Ok.ensures.read in
    while_closed (g.D.Disk.state c.args.disk.now) (g.D.Disk.state c.read_back.new.disk) (g.D.Disk.state c.close.new.disk) c.deref.result.now c.in-Ok.size read c.read_back.ensures.any_moment c.read_back.ensures.same c.close.ensures.any_moment

pub returns-in-Err-close-clause-any_moment : goal.returns-in-Err-close-clause-any_moment
returns-in-Err-close-clause-any_moment g c =
    let read = subst (λ (entries : List Entry). IfSome (g.D.Disk.state c.args.disk.now).contents (IsRead entries c.in-Ok.size (g.D.Disk.state c.read_back.new.disk))) (sym c.deref.ensures.value) c.in-Ok.ensures.read in
    while_closed (g.D.Disk.state c.args.disk.now) (g.D.Disk.state c.read_back.new.disk) (g.D.Disk.state c.close.new.disk) c.deref.result.now c.in-Ok.size read c.read_back.ensures.any_moment c.read_back.ensures.same c.close.ensures.any_moment

pub returns-in-Ok-close-clause-written : goal.returns-in-Ok-close-clause-written
returns-in-Ok-close-clause-written g c =
    let old = (g.D.Disk.state c.args.disk.now).contents in
    let new = (g.D.Disk.state c.close.new.disk).contents in
    let same : c.extend_from_slice.new.self.items ≡ c.read_back.new.entries.items = search rules in
    subst (λ (entries : List Entry). IfSome old (λ bytes. new ≡ Some (closed_behind entries bytes))) (c.deref.ensures.value ∙ sym same)
    (subst (λ o. IfSome o (λ bytes. new ≡ Some (closed_behind c.deref.result.now bytes))) c.read_back.ensures.same c.in-Ok-close.ensures.written)
