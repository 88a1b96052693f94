use Rattle.std.proofs.Common.{sym, subst, ap}
use Rattle.serde_json.specs.View.{view}
use Rattle.nm_json.specs.Whole.{Gives, from_json}
use Rattle.nm_json.proofs.Json.{json_some, json_none}
use Rattle.nm_json.proofs.config.read_config.Goals as goal

pub returns-in-Ok-clause-given : goal.returns-in-Ok-clause-given
returns-in-Ok-clause-given c =
    subst (λ o. Gives c.config_of-read.result (from_json c.args.schema.now o)) (sym (json_some c.args.text.now (view c.in-Ok.value) c.in-Ok.ensures.ok.0 c.in-Ok.ensures.ok.1)) c.config_of-read.ensures.given

pub returns-in-Err-2-clause-given : goal.returns-in-Err-2-clause-given
returns-in-Err-2-clause-given c =
    ap (from_json c.args.schema.now) (json_none c.args.text.now (c.in-Err.ensures.err (λ m. cc (c.is_memory.ensures.1 m, c.if-is_memory.false))))
