-- What the judge by access rules permits, the rules permit to the operator's own user.
use Rattle.std.proofs.Common.{◌≡◌, ◌∙◌, ◌-◌, ◌≤◌, ◌==◌, ℕ, List, Option, None, Some, true, false, slice_get, refl, sym, ap, arith, if◌then◌else◌}
use Rattle.std.proofs.lemmas.Bool.Decides.{nat_tests}
use Rattle.nm_proto.specs.Content.{TablesState}
use Rattle.nm_proto.specs.declared.message.Request.{Request}
use Rattle.nm_proto.specs.declared.plan.Event.TheVariants.{Foreign}
use Rattle.nm_schema_tree.specs.Nodes.{SchemaTree}
use Rattle.nm_edit.specs.declared.edit.EditNode.{EditNode}
use Rattle.nm_overlay.specs.Differences.{Overlaid}
use Rattle.nm_content_place.specs.declared.place.YangNode.{YangNode}
use Rattle.nm_sessions.specs.Sessions.{is_open}
use Rattle.nm_stores.specs.Stores.{candidate_of}
use Rattle.nm_access.specs.declared.rule.AccessRules.{AccessRules}
use Rattle.nm_access.specs.declared.access.Judgement.{Judgement}
use Rattle.nm_access.specs.declared.access.Judgement.TheVariants.{Permit, Deny}
use Rattle.nm_access_judge.specs.Judging.{asked_judged, denial_of, event_denied, request_judged, session_judged, user_at}
use Rattle.nm_world.specs.World.{Setting, CoreState, device_at, given_on, has_on, open_on, operator_at, operator_session, session_by}
use Rattle.nm_safety.specs.Cases.{IsOperating}
use Rattle.nm_access_laws.specs.Allowed.{Permits}
use Rattle.nm_access_laws.specs.Rows.{MayAsk}

counted_from : (n : ℕ) → 1 ≤ n → (n == 0) ≡ false
counted_from n above = grind (arith, nat_tests)

-- what isn't denied is permitted
not_denied : (t : SchemaTree) (judgement : Judgement) → denial_of t judgement ≡ None → judgement ≡ Permit
not_denied t Permit e = refl
not_denied t (Deny by path) e = absurd cc

module _ (access : AccessRules) (t : SchemaTree) (setting : Setting (List EditNode)) (w : CoreState Overlaid YangNode) where
  judged_so : (number device : ℕ) (a : IsOperating w number device) (request : Request) (session : ℕ) (user : List ℕ) → 1 ≤ number → given_on a.operator (device - 1) ≡ Some session
      → is_open a.r.device.sessions session ≡ true → slice_get setting.users (number - 1) ≡ Some user
      → asked_judged access t setting w number device request ≡ request_judged access t setting.tables user (candidate_of a.r.device.stores).rows request
  judged_so number device a request session user counted given opened named =
      let has : has_on a.operator a.r (device - 1) ≡ Some session = ap (open_on a.r) given ∙ ap (λ b. if b then Some session else None) opened in
      let some : (number == 0) ≡ false = counted_from number counted in
      let operator_is : operator_at w.operators number ≡ Some a.operator = ap (λ b. if b then None else slice_get w.operators (number - 1)) some ∙ a.there in
      let user_is : user_at setting.users number ≡ Some user = ap (λ b. if b then None else slice_get setting.users (number - 1)) some ∙ named in
      let session_is : operator_session w number device ≡ Some session =
      ap (λ o. session_by (device - 1) o (device_at w device)) operator_is ∙ ap (session_by (device - 1) (Some a.operator)) a.here ∙ has in
      ap (λ o. session_judged access t setting.tables request o (user_at setting.users number) (device_at w device)) session_is
      ∙ ap (λ u. session_judged access t setting.tables request (Some session) u (device_at w device)) user_is
      ∙ ap (session_judged access t setting.tables request (Some session) (Some user)) a.here

pub permits : (access : AccessRules) (t : SchemaTree) (setting : Setting (List EditNode))
    → Permits (MayAsk access t setting.tables setting.users) setting (event_denied access t setting)
permits access t setting = record {
  asks = λ w number device a request session user counted given opened named free. record {
    place = number - 1;
    named = named;
    permitted = sym (judged_so access t setting w number device a request session user counted given opened named)
        ∙ not_denied t (asked_judged access t setting w number device request) free;
  };
}
