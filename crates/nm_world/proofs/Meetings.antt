-- What a device does of a request, and of the loss of a link.
use Rattle.std.proofs.Common.{◌≡◌, ℕ, Bool, true, cond, Option, Some, None, sym, ap, ◌∙◌, subst}
use Rattle.std.proofs.lemmas.Option.{same_Some, none-some}
use Rattle.nm_proto.specs.Content.{Meaning, TablesState}
use Rattle.nm_proto.specs.declared.message.Request.{Request}
use Rattle.nm_wire.specs.Wire.{WireState, session_at, outstanding_at}
use Rattle.nm_history.specs.declared.recorded.Told.{Told}
use Rattle.nm_history.specs.History.{RecordedState, Served, told_of, served, Serves}
use Rattle.nm_manager.specs.Manager.{Managing, with_state, told_on}
use Rattle.nm_world.specs.declared.happened.Happened.TheVariants as happened
use Rattle.nm_world.specs.World.{is_session_open, undelivered, told_by, does, delivered_to, IsMet}

module _ {Config TheEdit Node : Type 0} (m : Meaning Config TheEdit Node) (tables : TablesState TheEdit) where
  tells_so : (r new : RecordedState Config Node) (before after : Managing) (change device link : ℕ) (told : Told) (s : Option (Served Config Node))
      → Serves (Some told) r new s → after ≡ with_state before (told_on before.state change device link told.reply)
      → IsMet (happened.Replied told.again told.undone) r new before after (told_by before.state change device link s)
  tells_so r new before after change device link told None serves is = absurd (none-some told (sym serves.0))
  tells_so r new before after change device link told (Some s) serves is =
      let same : told ≡ told_of s = same_Some told (told_of s) serves.0 in (
        ap (λ (t : Told). happened.Replied t.again t.undone) same,
        serves.1,
        is ∙ ap (λ (t : Told). with_state before (told_on before.state change device link t.reply)) same,
      )

  -- what a link had outstanding is done on its session, where that is open
  pub delivers_so : (r new : RecordedState Config Node) (before after : Managing) (change device link : ℕ) (links : WireState) (first session : Option ℕ)
      (open_there : Bool) (found : Option Request) (request : Request) (answer : Option Told) (told : Told)
      → first ≡ session_at links link → open_there ≡ is_session_open r first → open_there ≡ true → session ≡ session_at links link
      → found ≡ outstanding_at links link → found ≡ Some request
      → Serves answer r new (served m tables r session request) → answer ≡ Some told
      → after ≡ with_state before (told_on before.state change device link told.reply)
      → IsMet (happened.Replied told.again told.undone) r new before after (delivered_to m tables r before.state change device link links)
  delivers_so r new before after change device link links first session open_there found request answer told first_is open_is is_open session_is found_is some serves answer_is is =
      let o : is_session_open r (session_at links link) ≡ true = ap (is_session_open r) (sym first_is) ∙ sym open_is ∙ is_open in
      let f : outstanding_at links link ≡ Some request = sym found_is ∙ some in
      let u : undelivered r links link ≡ Some request = ap (λ b. cond b (outstanding_at links link) None) o ∙ f in
      let s : Serves (Some told) r new (served m tables r (session_at links link) request) =
      subst (λ (t : Option Told). Serves t r new (served m tables r (session_at links link) request)) answer_is
      (subst (λ (x : Option ℕ). Serves answer r new (served m tables r x request)) session_is serves) in
      subst (λ (x : Option Request). IsMet (happened.Replied told.again told.undone) r new before after (does m tables r before.state change device link (session_at links link) x)) (sym u)
      (tells_so r new before after change device link told (served m tables r (session_at links link) request) s is)
