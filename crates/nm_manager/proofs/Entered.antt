-- What is true of every journal_queues is true of one whose journal took an entry.
use Rattle.std.proofs.Common.{◌≡◌, Bool, false, List, [], ◌∷◌, ◌++◌, Option, None, sym, ap, ◌∙◌, subst}
use Rattle.nm_proto.specs.declared.journal.Entry.{Entry}
use Rattle.nm_journal.specs.Fits.{JournalState}
use Rattle.nm_order.specs.Queue.{OrderState}
use Rattle.nm_manager.specs.Queues.{IsOrderOf}

pub entered_sound : {has_failed : Bool} (journal : JournalState) (entries : List Entry) (failed : Option Entry) (entry : Entry) (order : OrderState)
    → journal ≡ record { entries = entries ++ entry ∷ []; failed = failed } → (has_failed ≡ false → failed ≡ None)
    → IsOrderOf (entries ++ entry ∷ []) order → IsOrderOf journal.entries order × (has_failed ≡ false → journal.failed ≡ None)
entered_sound journal entries failed entry order added whole is = (
  subst (λ (l : List Entry). IsOrderOf l order) (sym (ap (λ (j : JournalState). j.entries) added)) is,
  λ going. ap (λ (j : JournalState). j.failed) added ∙ whole going,
)
