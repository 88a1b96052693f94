-- The datastores of a device (RFC 8342 section 5): running and candidate. The code moves configurations; these are
-- functions of both.
use Rattle.std.specs.Prelude.{◌≡◌, Option, Some, None, IfSome, is_some, unwrap_or, Bool, Result, Ok, Err}
use Rattle.nm_proto.specs.declared.content.ApplyFault.{ApplyFault}
use Rattle.nm_proto.specs.declared.content.ApplyFault.TheVariants as apply
use Rattle.nm_proto.specs.Content.{Meaning, Refusal}

-- running, and a configuration of candidate's own. A candidate that is None is unmodified: it equals running
-- (RFC 6241 section 8.3)
pub record StoresState (Config : Type 0) : Type 0 where
  pub running : Config
  pub candidate : Option Config

module _ {Config : Type 0} where
  -- a running configuration and an unmodified candidate
  abbrev pub fresh_stores : Config → StoresState Config
  fresh_stores running = record { running = running; candidate = None }

  -- the candidate configuration, also where it is unmodified
  abbrev pub candidate_of : StoresState Config → Config
  candidate_of stores = unwrap_or stores.candidate stores.running

  -- whether candidate was changed since it equalled running (RFC 6241 section 8.3.1)
  abbrev pub is_modified : StoresState Config → Bool
  is_modified stores = is_some stores.candidate

  -- candidate becomes this configuration, and running stays (RFC 6241 section 8.3.1)
  abbrev pub with_candidate : StoresState Config → Config → StoresState Config
  with_candidate stores candidate = record stores { candidate = Some candidate }

  -- candidate equals running again (RFC 6241 section 8.3.4.2)
  abbrev pub discarded : StoresState Config → StoresState Config
  discarded stores = record stores { candidate = None }

  -- candidate becomes running, and is unmodified then (RFC 6241 section 8.3.4.1)
  abbrev pub committed : StoresState Config → StoresState Config
  committed stores = fresh_stores (candidate_of stores)

  -- the running configuration that a commit replaces, None where candidate is unmodified (this project's own)
  abbrev pub replaced_by : Config → Option Config → Option Config
  replaced_by running None = None
  replaced_by running (Some candidate) = Some running

  -- the running that a commit replaces, where candidate is modified
  abbrev pub replaced : StoresState Config → Option Config
  replaced stores = replaced_by stores.running stores.candidate

  -- running becomes what it was before, where there is such a configuration: a modified candidate stays, and an
  -- unmodified one follows (RFC 6241 section 8.4.1; of the candidate this project's own)
  abbrev pub restored : StoresState Config → Option Config → StoresState Config
  restored stores before = record stores { running = unwrap_or before stores.running }

  -- a call that edits candidate, where this is what the edit makes or its refusal (RFC 6241 section 7.2). Ok makes it
  -- candidate. An error leaves all as it was
  abbrev pub Edits : {A : Type 0} → Result A ApplyFault → StoresState Config → StoresState Config → Result Config Refusal → Type 0
  Edits (Ok _) old new given = (given ≡ Ok (candidate_of new)) × (new ≡ with_candidate old (candidate_of new))
  Edits (Err (apply.Refused tag path)) old new given = (given ≡ Err (record { tag = tag; path = path })) × (new ≡ old)
  Edits (Err apply.NoMemory) old new given = new ≡ old

-- both configurations belong to the content
pub record Belong {Config TheEdit Node : Type 0} (m : Meaning Config TheEdit Node) (stores : StoresState Config) : Type 0 where
  pub running : m.belongs stores.running
  pub candidate : IfSome stores.candidate m.belongs
