-- Where passes and histories agree, each change set commits at most once at a device.
use Rattle.std.proofs.Common.{◌≡◌, ◌≤◌, inl, inr, ℕ, zero, suc, ◌+◌, ◌-◌, ◌==◌, ◌&&◌, Bool, true, false, cond, List, [], ◌∷◌, take, slice_get, Some, None, refl, sym, ap, subst, ◌∙◌, arith}
use Rattle.std.specs.List.{list_any, count_by}
use Rattle.std.proofs.lemmas.Bool.{cases_eq, cases_Bool, or_cases, and_parts, eqb-true}
use Rattle.std.proofs.lemmas.Bool.Decides.{nat_tests}
use Rattle.std.proofs.lemmas.List.Sums.{sum_by-cons}
use Rattle.std.proofs.lemmas.Option.{same_Some, none-some}
use Rattle.nm_base.specs.Token.{token_of, is_reserved}
use Rattle.nm_proto.specs.declared.message.Request.{Request}
use Rattle.nm_proto.specs.Content.{Meaning, TablesState}
use Rattle.nm_history.specs.declared.event.DeviceEvent.{DeviceEvent}
use Rattle.nm_history.specs.declared.event.DeviceEvent.TheVariants.{Entered, Asked, Lost, Advanced, Restarted}
use Rattle.nm_history.specs.declared.event.Noted.{Noted}
use Rattle.nm_history.specs.Effect.{is_done_reply}
use Rattle.nm_device_laws.specs.Token.{gives_token, is_commit_done, commits_in, commits_done}
use Rattle.nm_device_laws.proofs.Openers.{managers_commit}
use Rattle.nm_cells.specs.declared.pass.PassEntry.{PassEntry}
use Rattle.nm_cells.specs.Pass.{PassState}
use Rattle.nm_cells.specs.State.{CellView}
use Rattle.nm_cells.specs.Ended.{is_opening_of, opened_in}
use Rattle.nm_cells.specs.Kept.{opens, enters_as_manager}
use Rattle.nm_audit.specs.declared.slot.SlotRecord.{SlotRecord}
use Rattle.nm_audit.specs.Audited.{Audited, history_of, noted_at, noted_in, number_of}
use Rattle.nm_audit.specs.Held.{is_advance, is_own, is_kept_at, keeps_at, slot_keeps_at}
use Rattle.nm_audit.specs.Agree.{Agree, AllStand, Each}
use Rattle.nm_audit.specs.Commits.{CommitsOnce, OpensOwn, LegalCell}
use Rattle.nm_audit.proofs.Openings.{opens_is, opened_once}

-- ---- lists

-- one of a list passes a test
record Some_of {A : Type 0} (test : A → Bool) (xs : List A) : Type 0 where
  place : ℕ
  it : A
  stands : slice_get xs place ≡ Some it
  passes : test it ≡ true

some_of : {A : Type 0} (test : A → Bool) (xs : List A) → list_any test xs ≡ true → Some_of test xs
some_of test [] e = absurd (let g : false ≡ true = e in cc)
some_of test (x ∷ xs) e = elim (or_cases (test x) (list_any test xs) e) [
  | inl here ↦ record { place = 0; it = x; stands = refl; passes = here }
  | inr later ↦ (let rest = some_of test xs later in record { place = suc rest.place; it = rest.it; stands = rest.stands; passes = rest.passes })
]

-- where no two places pass a test, one at most does
plus_none : (n : ℕ) → n ≡ 0 → 0 + n ≡ 0
plus_none n e = omega (arith, e)

none_pass : {A : Type 0} (test : A → Bool) (xs : List A) → ((p : ℕ) (x : A) → slice_get xs p ≡ Some x → test x ≡ false) → count_by test xs ≡ 0
none_pass test [] none = refl
none_pass test (x ∷ xs) none =
    sum_by-cons (λ y. cond (test y) 1 0) x xs ∙ (ap (λ b. cond b 1 0 + count_by test xs) (none 0 x refl) ∙ plus_none (count_by test xs) (none_pass test xs (λ p y at. none (suc p) y at)))

one_passes : {A : Type 0} (test : A → Bool) (xs : List A) → ((p q : ℕ) (x y : A) → slice_get xs p ≡ Some x → slice_get xs q ≡ Some y → test x ≡ true → test y ≡ true → p ≡ q) → count_by test xs ≤ 1
one_passes test [] once = omega arith
one_passes test (x ∷ xs) once = subst (λ n. n ≤ 1) (sym (sum_by-cons (λ y. cond (test y) 1 0) x xs)) (by_test (test x) refl (one_passes test xs (λ p q y z at there passes its. let same = once (suc p) (suc q) y z at there passes its in omega (arith, same))))
  where
    by_test : (b : Bool) → test x ≡ b → count_by test xs ≤ 1 → cond b 1 0 + count_by test xs ≤ 1
    by_test true e rest =
        let none : count_by test xs ≡ 0 = none_pass test xs (λ p y at. elim (cases_Bool (test y)) [
          | inl passes ↦ (let same = once 0 (suc p) x y refl at e passes in absurd (omega (arith, same)))
          | inr fails ↦ fails
        ]) in
        omega (arith, none)
    by_test false e rest = omega (arith, rest)

-- ---- entries of commits

-- a commit that was done is a request of a session
record IsCommit (token : List ℕ) (entry : Noted) : Type 0 where
  session : ℕ
  request : Request
  event_is : entry.event ≡ Asked session request
  gives : gives_token token request ≡ true
  done : is_done_reply entry.reply ≡ true

is_commit : (token : List ℕ) (entry : Noted) → is_commit_done token entry ≡ true → IsCommit token entry
is_commit token entry e = by_event entry.event refl (and_parts (commits_in token entry.event) (is_done_reply entry.reply) e).0 (and_parts (commits_in token entry.event) (is_done_reply entry.reply) e).1
  where
    by_event : (event : DeviceEvent) → entry.event ≡ event → commits_in token event ≡ true → is_done_reply entry.reply ≡ true → IsCommit token entry
    by_event (Asked session request) is gives done = record { session = session; request = request; event_is = is; gives = gives; done = done }
    by_event (Entered user) is gives done = absurd (let g : false ≡ true = gives in cc)
    by_event (Lost session) is gives done = absurd (let g : false ≡ true = gives in cc)
    by_event (Advanced seconds) is gives done = absurd (let g : false ≡ true = gives in cc)
    by_event Restarted is gives done = absurd (let g : false ≡ true = gives in cc)

-- ---- who holds it

module _ {Config Node : Type 0} (cells : List (CellView Config Node)) (n : ℕ) (cell : CellView Config Node) (here : slice_get cells n ≡ Some cell) (numbered : number_of cell ≡ n + 1) where
  -- what stands at a place of this device
  found_there : (entry : PassEntry) (place : ℕ) (noted : Noted) → entry.device ≡ number_of cell → entry.position ≡ place + 1 → slice_get (history_of cell) place ≡ Some noted
      → noted_at cells entry.device entry.position ≡ Some entry.noted → entry.noted ≡ noted
  found_there entry place noted its at stands told =
      let index : entry.device - 1 ≡ n = omega (arith, its, numbered) in
      let before : entry.position - 1 ≡ place = omega (arith, at) in
      let some : (entry.position == 0) ≡ false = grind (arith, nat_tests, at) in
      let looked : noted_at cells entry.device entry.position ≡ noted_in (slice_get cells (entry.device - 1)) entry.position = ap (λ b. cond b None (noted_in (slice_get cells (entry.device - 1)) entry.position)) some in
      let found : noted_in (slice_get cells (entry.device - 1)) entry.position ≡ slice_get (history_of cell) (entry.position - 1) =
      ap (λ k. noted_in (slice_get cells k) entry.position) index ∙ ap (λ o. noted_in o entry.position) here in
      same_Some entry.noted noted (sym told ∙ (looked ∙ (found ∙ (ap (slice_get (history_of cell)) before ∙ stands))))

  -- an entry that a pass holds at a place of this device, as the history has it
  record Holds (entries : List PassEntry) (place : ℕ) (noted : Noted) : Type 0 where
    index : ℕ
    entry : PassEntry
    at : slice_get entries index ≡ Some entry
    device_is : entry.device ≡ number_of cell
    position_is : entry.position ≡ place + 1
    noted_is : entry.noted ≡ noted
    own : is_own (number_of cell) entries noted.event ≡ true

  holds : (pass : PassState) (place : ℕ) (noted : Noted) → AllStand cells pass.entries → slice_get (history_of cell) place ≡ Some noted → keeps_at (number_of cell) (place + 1) pass ≡ true → Holds pass.entries place noted
  holds pass place noted stand stands keeps =
      let some = some_of (is_kept_at (number_of cell) (place + 1) pass.entries) pass.entries keeps in
      let parts = and_parts (some.it.device == number_of cell) (some.it.position == place + 1 && is_own (number_of cell) pass.entries some.it.noted.event) some.passes in
      let rest = and_parts (some.it.position == place + 1) (is_own (number_of cell) pass.entries some.it.noted.event) parts.1 in
      let its : some.it.device ≡ number_of cell = eqb-true some.it.device (number_of cell) parts.0 in
      let at : some.it.position ≡ place + 1 = eqb-true some.it.position (place + 1) rest.0 in
      let same : some.it.noted ≡ noted = found_there some.it place noted its at stands (stand some.place some.it some.stands).there in
      record {
        index = some.place;
        entry = some.it;
        at = some.stands;
        device_is = its;
        position_is = at;
        noted_is = same;
        own = subst (λ (x : Noted). is_own (number_of cell) pass.entries x.event ≡ true) same rest.1;
      }

  -- an entry that stands is at some place of this device
  record IsAt (entry : PassEntry) : Type 0 where
    place : ℕ
    there : slice_get (history_of cell) place ≡ Some entry.noted

  is_at : (entry : PassEntry) → entry.device ≡ number_of cell → noted_at cells entry.device entry.position ≡ Some entry.noted → IsAt entry
  is_at entry its told = by_zero (entry.position == 0) refl
    where
      by_zero : (b : Bool) → (entry.position == 0) ≡ b → IsAt entry
      by_zero true e = absurd (none-some entry.noted (sym (ap (λ c. cond c None (noted_in (slice_get cells (entry.device - 1)) entry.position)) e) ∙ told))
      by_zero false e =
          let index : entry.device - 1 ≡ n = omega (arith, its, numbered) in
          let looked : noted_at cells entry.device entry.position ≡ noted_in (slice_get cells (entry.device - 1)) entry.position = ap (λ c. cond c None (noted_in (slice_get cells (entry.device - 1)) entry.position)) e in
          let found : noted_in (slice_get cells (entry.device - 1)) entry.position ≡ slice_get (history_of cell) (entry.position - 1) =
          ap (λ k. noted_in (slice_get cells k) entry.position) index ∙ ap (λ o. noted_in o entry.position) here in
          record { place = entry.position - 1; there = sym found ∙ (sym looked ∙ told) }

-- ---- no operator does

module _ {Config TheEdit Node : Type 0} (m : Meaning Config TheEdit Node) (tables : TablesState TheEdit) (cells : List (CellView Config Node)) (n : ℕ) (cell : CellView Config Node) (here : slice_get cells n ≡ Some cell)
    (numbered : number_of cell ≡ n + 1) (legal : LegalCell m tables cell) where
  not_operators : (token : List ℕ) → is_reserved token ≡ true → (pass : PassState) → OpensOwn pass → AllStand cells pass.entries → (place : ℕ) (noted : Noted) → slice_get (history_of cell) place ≡ Some noted → IsCommit token noted
      → is_own (number_of cell) pass.entries noted.event ≡ true → ⊥
  not_operators token reserved pass opens_own stand place noted stands commit own =
      let opened : opened_in (number_of cell) commit.session pass.entries ≡ true = subst (λ (event : DeviceEvent). is_own (number_of cell) pass.entries event ≡ true) commit.event_is own in
      let some = some_of (is_opening_of (number_of cell) commit.session) pass.entries opened in
      let parts = and_parts (some.it.device == number_of cell) (opens commit.session some.it.noted.reply) some.passes in
      let its : some.it.device ≡ number_of cell = eqb-true some.it.device (number_of cell) parts.0 in
      let at = is_at cells n cell here numbered some.it its (stand some.place some.it some.stands).there in
      let managers = managers_commit m tables token reserved legal.running (history_of cell) legal.legal place commit.session commit.request noted stands commit.event_is commit.gives commit.done in
      let there : slice_get (history_of cell) managers.place ≡ Some managers.entry = in_front (history_of cell) place managers.place managers.entry managers.stands in
      let same : at.place ≡ managers.place =
      opened_once m tables legal.running (history_of cell) legal.legal at.place managers.place commit.session some.it.noted managers.entry at.there there (opens_is commit.session some.it.noted.reply parts.1) managers.reply_is in
      let one : some.it.noted ≡ managers.entry = same_Some some.it.noted managers.entry (sym at.there ∙ (ap (slice_get (history_of cell)) same ∙ there)) in
      let enters : enters_as_manager some.it.noted.event ≡ true = ap (λ (x : Noted). enters_as_manager x.event) one ∙ (ap enters_as_manager managers.event_is ∙ refl) in
      let other = opens_own.own some.place commit.session some.it some.stands parts.1 in
      both_ways (enters_as_manager some.it.noted.event) enters other
    where
      both_ways : (b : Bool) → b ≡ true → b ≡ false → ⊥
      both_ways b is isnt = cc

      in_front : (xs : List Noted) (k p : ℕ) (x : Noted) → slice_get (take k xs) p ≡ Some x → slice_get xs p ≡ Some x
      in_front xs zero p x e = absurd (none-some x e)
      in_front [] (suc k) p x e = absurd (none-some x e)
      in_front (y ∷ xs) (suc k) zero x e = e
      in_front (y ∷ xs) (suc k) (suc p) x e = in_front xs k p x e

-- ---- and one coordinator at most

module _ {Config TheEdit Node : Type 0} (m : Meaning Config TheEdit Node) (tables : TablesState TheEdit) (a : Audited Config Node) (agree : Agree a) (own : Each CommitsOnce a.slots) (others : Each OpensOwn a.operators) (n : ℕ)
    (cell : CellView Config Node) (here : slice_get a.cells n ≡ Some cell) (legal : LegalCell m tables cell) (change : ℕ) (reserved : is_reserved (token_of change) ≡ true) where
  -- the slot whose pass holds it
  record HeldBy (place : ℕ) (noted : Noted) : Type 0 where
    number : ℕ
    slot : SlotRecord
    at : slice_get a.slots number ≡ Some slot
    its : slot.change ≡ change
    held : Holds a.cells n cell here (agree.cells_placed n cell here) slot.pass.entries place noted

  held_by : (place : ℕ) (noted : Noted) → slice_get (history_of cell) place ≡ Some noted → is_commit_done (token_of change) noted ≡ true → HeldBy place noted
  held_by place noted stands done =
      let placed = agree.cells_placed n cell here in
      let commit = is_commit (token_of change) noted done in
      let asked : is_advance noted.event ≡ false = ap is_advance commit.event_is in
      elim (or_cases (list_any (slot_keeps_at (number_of cell) (place + 1)) a.slots) (list_any (keeps_at (number_of cell) (place + 1)) a.operators) (agree.held n place cell noted here stands asked)) [
        | inl by_slot ↦ (
            let some = some_of (slot_keeps_at (number_of cell) (place + 1)) a.slots by_slot in
            let it = holds a.cells n cell here placed some.it.pass place noted (agree.stand.of_slots some.place some.it some.stands) stands some.passes in
            elim (cases_eq change some.it.change) [
              | inl same ↦ record { number = some.place; slot = some.it; at = some.stands; its = sym same; held = it }
              | inr other ↦ absurd (both_ways (is_commit_done (token_of change) noted) done
                  (sym (ap (is_commit_done (token_of change)) it.noted_is) ∙ (own some.place some.it some.stands).own change it.index it.entry other it.at))
            ])
        | inr by_operator ↦ (
            let some = some_of (keeps_at (number_of cell) (place + 1)) a.operators by_operator in
            let stand = agree.stand.of_operators some.place some.it some.stands in
            let it = holds a.cells n cell here placed some.it place noted stand stands some.passes in
            absurd (not_operators m tables a.cells n cell here placed legal (token_of change) reserved some.it (others some.place some.it some.stands) stand place noted stands commit it.own))
      ]
    where
      both_ways : (b : Bool) → b ≡ true → b ≡ false → ⊥
      both_ways b is isnt = cc

  same_place : (p q : ℕ) (one other : Noted) → slice_get (history_of cell) p ≡ Some one → slice_get (history_of cell) q ≡ Some other → is_commit_done (token_of change) one ≡ true → is_commit_done (token_of change) other ≡ true → p ≡ q
  same_place p q one other at there done its =
      let first = held_by p one at done in
      let second = held_by q other there its in
      let first_number = agree.slots_placed first.number first.slot first.at in
      let second_number = agree.slots_placed second.number second.slot second.at in
      let first_its = first.its in
      let second_its = second.its in
      let number : second.number ≡ first.number = omega (arith, first_number, second_number, first_its, second_its) in
      let slot : second.slot ≡ first.slot = same_Some second.slot first.slot (sym second.at ∙ (ap (slice_get a.slots) number ∙ first.at)) in
      let in_first : slice_get first.slot.pass.entries second.held.index ≡ Some second.held.entry = subst (λ (s : SlotRecord). slice_get s.pass.entries second.held.index ≡ Some second.held.entry) slot second.held.at in
      let does : is_commit_done (token_of first.slot.change) first.held.entry.noted ≡ true = subst (λ k. is_commit_done (token_of k) first.held.entry.noted ≡ true) (sym first.its) (ap (is_commit_done (token_of change)) first.held.noted_is ∙ done) in
      let does_too : is_commit_done (token_of first.slot.change) second.held.entry.noted ≡ true = subst (λ k. is_commit_done (token_of k) second.held.entry.noted ≡ true) (sym first.its) (ap (is_commit_done (token_of change)) second.held.noted_is ∙ its) in
      let index = (own first.number first.slot first.at).once first.held.index second.held.index first.held.entry second.held.entry first.held.at in_first does does_too (first.held.device_is ∙ sym second.held.device_is) in
      let entry : first.held.entry ≡ second.held.entry = same_Some first.held.entry second.held.entry (sym first.held.at ∙ (ap (slice_get first.slot.pass.entries) index ∙ in_first)) in
      let position : first.held.entry.position ≡ second.held.entry.position = ap (λ (e : PassEntry). e.position) entry in
      let first_position = first.held.position_is in
      let second_position = second.held.position_is in
      omega (arith, position, first_position, second_position)

  pub commits_once : commits_done (token_of change) (history_of cell) ≤ 1
  commits_once = one_passes (is_commit_done (token_of change)) (history_of cell) same_place
