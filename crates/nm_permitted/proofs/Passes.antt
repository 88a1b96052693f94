-- One event that is judged.
use Rattle.std.proofs.Common.{◌≡◌, ◌∙◌, true, false, Option, Some, None, is_some, refl, sym, ap, if◌then◌else◌}
use Rattle.nm_proto.specs.Content.{Meaning}
use Rattle.nm_proto.specs.declared.plan.Event.{Event}
use Rattle.nm_world.specs.World.{Setting, CoreState, WorldState, core_of, event_step}
use Rattle.nm_world.specs.Runs.{LeadsTo}
use Rattle.nm_permitted.specs.declared.judge.Denial.{Denial}
use Rattle.nm_permitted.specs.Permitted.{JudgedTo, judged_step}

module _ {Config TheEdit Node : Type 0} (m : Meaning Config TheEdit Node) (setting : Setting TheEdit) (judge : CoreState Config Node → Event → Option Denial) (w : WorldState Config Node) (event : Event) where
  abbrev by : Option Denial → WorldState Config Node
  by denial = if is_some denial then w else event_step m setting w event

  -- it is permitted
  pub permitted_same : judge (core_of w) event ≡ None → event_step m setting w event ≡ judged_step m setting judge w event
  permitted_same none = sym (ap by none)

  pub permitted_leads : judge (core_of w) event ≡ None → (now : WorldState Config Node) → LeadsTo m setting event w now → JudgedTo m setting judge event w now
  permitted_leads none now leads = record {
    stays = λ is. absurd (let no : false ≡ true = sym (ap is_some none) ∙ is in cc);
    leads = λ is. leads;
  }

  -- it is denied
  pub denied_same : (denial : Denial) → judge (core_of w) event ≡ Some denial → judged_step m setting judge w event ≡ w
  denied_same denial some = ap by some

  pub denied_leads : (denial : Denial) → judge (core_of w) event ≡ Some denial → JudgedTo m setting judge event w w
  denied_leads denial some = record {
    stays = λ is. refl;
    leads = λ is. absurd (let no : true ≡ false = sym (ap is_some some) ∙ is in cc);
  }
