use Rattle.std.proofs.Common.{◌∙◌, Some, sym, ap}
use Rattle.std.proofs.lemmas.Map.Text.{hash_map_updates_str}
use Rattle.nm_schema_names.specs.Modules.{module_found}
use Rattle.nm_schema_names.proofs.Givens.{new_module}
use Rattle.nm_schema_names.proofs.modules.put.Goals as goal

pub returns : goal.returns
returns c = record {
  put = λ name. new_module c.args.row.now c.args.at name c.as_str-name.result.now (module_found c.args.modules.now) (module_found c.insert.new.self name)
      (sym c.if-not-same.ensures.value) (sym c.if-is_some.ensures) (c.in-Some.is ∙ ap Some (sym c.as_str-name.ensures)) (sym c.if-contains_key.ensures)
      (hash_map_updates_str c.as_str-name.result.now c.args.modules.now c.insert.new.self _ c.in_ok-insert.ensures.updates name);
}
