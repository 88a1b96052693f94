-- An event that doesn't touch the journal.
use Rattle.std.proofs.Common.{◌≡◌, List, length, true, false, None, refl, sym, ap, ◌∙◌, subst}
use Rattle.nm_proto.specs.Content.{Meaning}
use Rattle.nm_proto.specs.declared.journal.Entry.{Entry}
use Rattle.nm_proto.specs.declared.plan.Event.{Event}
use Rattle.nm_proto.specs.declared.plan.Event.TheVariants.{Submit, Turn, Deliver, Answer, Break, Lose, Advance, Restart, Forget, Crash, Renew, Foreign, Leave, Round}
use Rattle.nm_world.specs.declared.happened.Happened.{Happened}
use Rattle.nm_world.specs.World.{Setting, CoreState, CoreValue, IsCome, elementary, entry_of, touches_journal, core_journal}
use Rattle.nm_world.proofs.Growing.{Enters, event_enters, event_diverges, event_as_many}

abbrev IsAside : Event → Type 0
IsAside event = touches_journal event ≡ false

-- it writes no entry
no_entry : {Config TheEdit Node : Type 0} (setting : Setting TheEdit) (w : CoreState Config Node) (event : Event) → IsAside event → entry_of setting w event ≡ None
no_entry setting w (Submit change) alone = absurd (let no : true ≡ false = alone in cc)
no_entry setting w (Turn change) alone = absurd (let no : true ≡ false = alone in cc)
no_entry setting w (Deliver change device link) alone = refl
no_entry setting w (Answer change device link number) alone = refl
no_entry setting w (Break change device) alone = refl
no_entry setting w (Lose change device link) alone = refl
no_entry setting w (Advance device seconds) alone = refl
no_entry setting w (Restart device) alone = refl
no_entry setting w (Forget change) alone = refl
no_entry setting w Crash alone = refl
no_entry setting w (Renew change device) alone = refl
no_entry setting w (Foreign operator device request) alone = refl
no_entry setting w (Leave operator device) alone = refl
no_entry setting w (Round change turns) alone = refl

module _ {TheContent Config TheEdit Node : Type 0} (m : Meaning Config TheEdit Node) (old new : CoreValue TheContent Config TheEdit Node) (event : Event) (what : Happened)
    (came : IsCome what old new (elementary m old.setting old.state event)) where
  pub others_stay : new ≡ record old { state = new.state }
  others_stay = came.1 ∙ ap (λ s. record old { state = s }) (sym (ap (λ (w : CoreValue TheContent Config TheEdit Node). w.state) came.1))

  pub diverges_not : new.state.has_diverged ≡ old.state.has_diverged
  diverges_not = ap (λ (w : CoreValue TheContent Config TheEdit Node). w.state.has_diverged) came.1 ∙ event_diverges m old.setting old.state event

  pub operators_stay : length new.state.operators ≡ length old.state.operators
  operators_stay = ap (λ (w : CoreValue TheContent Config TheEdit Node). length w.state.operators) came.1 ∙ event_as_many m old.setting old.state event

  -- its journal stays
  pub journal_stays : touches_journal event ≡ false → core_journal new ≡ core_journal old
  journal_stays alone =
      let after = (elementary m old.setting old.state event).after.entries in
      let stays : after ≡ old.state.entries = subst (λ entry. Enters old.state.entries entry after) (no_entry old.setting old.state event alone) (event_enters m old.setting old.state event) in
      ap core_journal came.1 ∙ ap (λ (entries : List Entry). record { entries = entries; failed = old.failed }) stays
