-- What the whole of a scenario says and what is wrong with it fit one another: its head, its modules and the rest exclude one another.
use Rattle.std.proofs.Common.{◌≡◌, ◌<◌, ℕ, List, [], ◌∷◌, length, cond, codes, Result, Ok, Err, inl, inr, refl, ap, sym, subst, ◌∙◌, arith, lt-ltb}
use Rattle.nm_proto.specs.declared.kind.ScenarioKind.TheVariants.{TooLong}
use Rattle.serde_json.specs.Data.{Data}
use Rattle.nm_schema_tree.specs.Nodes.{SchemaTree}
use Rattle.nm_schema_faults.specs.declared.fault.Fault.{Fault as SchemaFault}
use Rattle.nm_schema.specs.Built.{built_of}
use Rattle.nm_scenario_form.specs.declared.fault.Step.{Step}
use Rattle.nm_scenario_form.specs.declared.fault.Step.TheVariants.{Name, Item}
use Rattle.nm_scenario_form.specs.declared.fault.Cause.{Cause}
use Rattle.nm_scenario_form.specs.declared.fault.Fault.{Fault}
use Rattle.nm_scenario_form.specs.declared.fault.ReadError.{ReadError}
use Rattle.nm_scenario_form.specs.Reading.{◌>>=◌, Gives, plain}
use Rattle.nm_scenario_form.specs.Order.{Faults, NotAfter, IsFirst}
use Rattle.nm_scenario_form.specs.Says.{Says}
use Rattle.nm_scenario_form.specs.Wrong.{Wrong}
use Rattle.nm_scenario_form.specs.Read.{read, told}
use Rattle.nm_scenario_form.specs.Exact.{AreExact, IsExact}
use Rattle.nm_scenario_form.proofs.Answers.{Answers, None_wrong}
use Rattle.nm_scenario_form.proofs.Said.{said}
use Rattle.nm_scenario_form.proofs.Tells.{tells}
use Rattle.nm_scenario_form.proofs.Exact.{exact, exactly, reads_as}
use Rattle.nm_scenario.specs.declared.scenario.Body.{Body}
use Rattle.nm_scenario.specs.declared.scenario.Body.TheVariants as body
use Rattle.nm_scenario.specs.declared.scenario.Scenario.{Scenario}
use Rattle.nm_scenario.specs.declared.members.Members.{Members}
use Rattle.nm_scenario.specs.declared.head.Head.{Head}
use Rattle.nm_scenario.specs.declared.head.Head.TheVariants as head
use Rattle.nm_scenario.specs.Flat.{cells_said, changes_said}
use Rattle.nm_scenario.specs.Yang.{data_said, nodes_said}
use Rattle.nm_scenario.specs.Head.{head_form, texts_of, statements_of}
use Rattle.nm_scenario.specs.Members.{members_form}
use Rattle.nm_scenario.specs.Scenario.{scenario_with, SaysMembers, SaysBuilt, SaysAfter, SaysScenario, WrongModule, WrongBuilt, WrongAfter, WrongRest, WrongScenario, WrongWhole, byte_limit, json_of, parsed, whole_of, SaysValue, WrongValue, SaysBytes, WrongBytes, ReadsBytes, Reads, module_cause, module_of}
use Rattle.nm_scenario.specs.Reading.{scenario_read, data_read, built_read, after_read, value_read, bytes_read}

-- ---- the members

module _ {C E : Type 0} (config : Data → Result C Cause) (edit : Data → Result E Cause) (body : List C → List E → Body) (whole : Data) where
  members_answer : (r : Result (Members C E) Fault) → Answers (Says (members_form config edit) whole) (Wrong (members_form config edit) whole) r
      → Answers (SaysMembers config edit body whole) (Wrong (members_form config edit) whole) (r >>= λ members. Ok (scenario_with body members))
  members_answer (Ok members) a = (record { members = members; says = a.0; is = refl }, a.1)
  members_answer (Err fault) a = a

  pub scenario_answers : Answers (SaysMembers config edit body whole) (Wrong (members_form config edit) whole) (scenario_read config edit body whole)
  scenario_answers = members_answer (read (members_form config edit) whole) (tells (members_form config edit) whole)

  pub scenario_said : (scenario : Scenario) → SaysMembers config edit body whole scenario → scenario_read config edit body whole ≡ Ok scenario
  scenario_said scenario says =
      ap (λ r. r >>= λ members. Ok (scenario_with body members)) (said (members_form config edit) whole says.members says.says) ∙ ap Ok says.is

-- ---- the modules

-- one fault alone is wrong
one_wrong : (wrong : Faults) (fault : Fault) (spot : List ℕ) → wrong fault.cause fault.place spot
    → ((cause : Cause) (place : List Step) (other : List ℕ) → wrong cause place other
    → (cause ≡ fault.cause) × (place ≡ fault.place) × (other ≡ spot)) → NotAfter spot fault.cause.kind spot fault.cause.kind → IsFirst wrong fault
one_wrong wrong fault spot there alone itself = record {
  spot = spot;
  there = there;
  first = λ cause place other is. let same = alone cause place other is in rw (same.0, same.2) itself;
  alone = λ cause place is kind. let same = alone cause place spot is in (same.0, same.1);
}

module_first : (fault : SchemaFault)
    → IsFirst (WrongModule fault) (record { cause = module_cause fault; place = Name (codes "modules") ∷ Item (module_of fault) ∷ [] })
unfolding NotAfter
module_first fault =
    one_wrong (WrongModule fault) _ (2 ∷ module_of fault ∷ []) (record { cause_is = refl; place_is = refl; spot_is = refl })
    (λ cause place other is. (is.cause_is, is.place_is, is.spot_is)) (inr (refl, inr (refl, omega arith)))

built_answers : (texts : List (List ℕ)) (given : Result SchemaTree SchemaFault) (whole : Data)
    → Answers (SaysBuilt texts given whole) (WrongBuilt given whole) (built_read texts given whole)
unfolding WrongBuilt data_read
built_answers texts (Ok tree) whole = scenario_answers (data_said tree) (nodes_said tree) (body.Yang texts tree) whole
built_answers texts (Err fault) whole = module_first fault

built_said : (texts : List (List ℕ)) (given : Result SchemaTree SchemaFault) (whole : Data) (scenario : Scenario) → SaysBuilt texts given whole scenario
    → built_read texts given whole ≡ Ok scenario
unfolding data_read
built_said texts (Ok tree) whole scenario says = scenario_said (data_said tree) (nodes_said tree) (body.Yang texts tree) whole scenario says
built_said texts (Err fault) whole scenario says = absurd says

-- ---- after the head

after_answers : (h : Head) (whole : Data) → Answers (SaysAfter h whole) (WrongAfter h whole) (after_read h whole)
unfolding WrongAfter
after_answers head.Flat whole = scenario_answers cells_said changes_said body.Flat whole
after_answers (head.Yang modules) whole = built_answers (texts_of modules) (built_of (statements_of modules)) whole

after_said : (h : Head) (whole : Data) (scenario : Scenario) → SaysAfter h whole scenario → after_read h whole ≡ Ok scenario
after_said head.Flat whole scenario says = scenario_said cells_said changes_said body.Flat whole scenario says
after_said (head.Yang modules) whole scenario says = built_said (texts_of modules) (built_of (statements_of modules)) whole scenario says

-- ---- the whole

module _ (whole : Data) where
  heads_one : (h other : Head) → Says head_form whole h → Says head_form whole other → other ≡ h
  heads_one h other s t = let e : IsExact head_form whole = exact head_form whole in e.one other h t s

  -- what is wrong after the head is so after the one that the head says
  rest_so : (h : Head) → Says head_form whole h → (cause : Cause) (place : List Step) (spot : List ℕ) → WrongRest whole cause place spot
      → WrongAfter h whole cause place spot
  rest_so h s cause place spot w = subst (λ o. WrongAfter o whole cause place spot) (heads_one h w.head s w.says) w.wrong

  rest_answers : (h : Head) → Says head_form whole h → None_wrong (Wrong head_form whole) → (r : Result Scenario Fault)
      → Answers (SaysAfter h whole) (WrongAfter h whole) r → Answers (SaysScenario whole) (WrongScenario whole) r
  rest_answers h s none (Ok scenario) a = (record { head = h; says = s; after = a.0 }, sound)
    where
      sound : None_wrong (WrongScenario whole)
      sound cause place spot (inl is) = none cause place spot is
      sound cause place spot (inr is) = a.1 cause place spot (rest_so h s cause place spot is)
  rest_answers h s none (Err fault) a = record {
    spot = a.spot;
    there = inr (record { head = h; says = s; wrong = a.there });
    first = first;
    alone = alone;
  }
    where
      first : (cause : Cause) (place : List Step) (other : List ℕ) → WrongScenario whole cause place other
          → NotAfter a.spot fault.cause.kind other cause.kind
      first cause place other (inl is) = absurd (none cause place other is)
      first cause place other (inr is) = a.first cause place other (rest_so h s cause place other is)

      alone : (cause : Cause) (place : List Step) → WrongScenario whole cause place a.spot → cause.kind ≡ fault.cause.kind
          → (cause ≡ fault.cause) × (place ≡ fault.place)
      alone cause place (inl is) same = absurd (none cause place a.spot is)
      alone cause place (inr is) same = a.alone cause place (rest_so h s cause place a.spot is) same

  -- where the head is wrong nothing is looked at after it
  head_alone : (fault : Fault) → IsFirst (Wrong head_form whole) fault → IsFirst (WrongScenario whole) fault
  head_alone fault a = record { spot = a.spot; there = inl a.there; first = first; alone = alone }
    where
      none_after : (cause : Cause) (place : List Step) (spot : List ℕ) → WrongRest whole cause place spot → ⊥
      none_after cause place spot w = let e : IsExact head_form whole = exact head_form whole in
          e.right w.head w.says fault.cause fault.place (a.spot, a.there)

      first : (cause : Cause) (place : List Step) (other : List ℕ) → WrongScenario whole cause place other
          → NotAfter a.spot fault.cause.kind other cause.kind
      first cause place other (inl is) = a.first cause place other is
      first cause place other (inr is) = absurd (none_after cause place other is)

      alone : (cause : Cause) (place : List Step) → WrongScenario whole cause place a.spot → cause.kind ≡ fault.cause.kind
          → (cause ≡ fault.cause) × (place ≡ fault.place)
      alone cause place (inl is) same = a.alone cause place is same
      alone cause place (inr is) same = absurd (none_after cause place a.spot is)

  head_answers : (r : Result Head Fault) → Answers (Says head_form whole) (Wrong head_form whole) r
      → Answers (SaysScenario whole) (WrongScenario whole) (r >>= λ h. after_read h whole)
  head_answers (Ok h) a = rest_answers h a.0 a.1 (after_read h whole) (after_answers h whole)
  head_answers (Err fault) a = head_alone fault a

  value_answers : Answers (SaysScenario whole) (WrongScenario whole) (value_read whole)
  unfolding value_read
  value_answers = head_answers (read head_form whole) (tells head_form whole)

  value_said : (scenario : Scenario) → SaysScenario whole scenario → value_read whole ≡ Ok scenario
  unfolding value_read
  value_said scenario says = ap (λ r. r >>= λ h. after_read h whole) (said head_form whole says.head says.says) ∙ after_said says.head whole scenario says.after

-- a value says one scenario exactly where nothing is wrong with it, and else it has one first fault
pub scenarios_exact : (whole : Data) → AreExact (SaysScenario whole) (WrongScenario whole)
scenarios_exact whole = exactly (SaysScenario whole) (WrongScenario whole) (value_read whole) (value_answers whole) (value_said whole)

-- ---- bytes

whole_first : (why : Cause) → IsFirst (WrongWhole why) (record { cause = why; place = [] })
unfolding NotAfter
whole_first why =
    one_wrong (WrongWhole why) _ [] (record { cause_is = refl; place_is = refl; spot_is = refl })
    (λ cause place other is. (is.cause_is, is.place_is, is.spot_is)) (omega arith)

found_answers : (found : Result Data Cause) → Answers (SaysValue found) (WrongValue found) (told found >>= value_read)
unfolding WrongValue
found_answers (Ok whole) = value_answers whole
found_answers (Err cause) = whole_first cause

found_said : (found : Result Data Cause) (scenario : Scenario) → SaysValue found scenario → (told found >>= value_read) ≡ Ok scenario
found_said (Ok whole) scenario says = value_said whole scenario says
found_said (Err cause) scenario says = absurd says

bytes_answer : (bytes : List ℕ) → Answers (SaysBytes bytes) (WrongBytes bytes) (bytes_read bytes)
unfolding bytes_read
bytes_answer bytes = found_answers (whole_of bytes)

bytes_said : (bytes : List ℕ) (scenario : Scenario) → SaysBytes bytes scenario → bytes_read bytes ≡ Ok scenario
unfolding bytes_read
bytes_said bytes scenario says = found_said (whole_of bytes) scenario says

-- bytes say one scenario exactly where nothing is wrong with them, and else they have one first fault
pub bytes_exact : (bytes : List ℕ) → AreExact (SaysBytes bytes) (WrongBytes bytes)
bytes_exact bytes = exactly (SaysBytes bytes) (WrongBytes bytes) (bytes_read bytes) (bytes_answer bytes) (bytes_said bytes)

pub reads_bytes : (bytes : List ℕ) (result : Result Scenario ReadError) → Gives result (bytes_read bytes) → Reads bytes result
reads_bytes bytes result gives = reads_as (SaysBytes bytes) (WrongBytes bytes) (bytes_read bytes) result (bytes_answer bytes) gives

-- bytes that are too many have that fault
pub long_reads : (bytes : List ℕ) → byte_limit < length bytes → ReadsBytes bytes (Err (record { cause = plain TooLong; place = [] }))
unfolding WrongValue whole_of
long_reads bytes long =
    let is : whole_of bytes ≡ Err (plain TooLong) = ap (λ b. cond b (Err (plain TooLong)) (parsed (json_of bytes))) (lt-ltb byte_limit (length bytes) long) in
    subst (λ found. IsFirst (WrongValue found) (record { cause = plain TooLong; place = [] })) (sym is) (whole_first (plain TooLong))

-- what bytes read as is one
pub one_of_bytes : (bytes : List ℕ) (one other : Result Scenario Fault) → ReadsBytes bytes one → ReadsBytes bytes other → one ≡ other
one_of_bytes bytes (Ok s) (Ok t) a b = let e : AreExact (SaysBytes bytes) (WrongBytes bytes) = bytes_exact bytes in ap Ok (e.one s t a b)
one_of_bytes bytes (Ok s) (Err fault) a b = let e : AreExact (SaysBytes bytes) (WrongBytes bytes) = bytes_exact bytes in
    absurd (e.right s a fault.cause fault.place (b.spot, b.there))
one_of_bytes bytes (Err fault) (Ok s) a b = let e : AreExact (SaysBytes bytes) (WrongBytes bytes) = bytes_exact bytes in
    absurd (e.right s b fault.cause fault.place (a.spot, a.there))
one_of_bytes bytes (Err fault) (Err other) a b = let e : AreExact (SaysBytes bytes) (WrongBytes bytes) = bytes_exact bytes in
    ap Err (e.one_fault fault other a b)
